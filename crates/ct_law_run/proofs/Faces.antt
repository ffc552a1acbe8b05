-- The statements by which the parts of the proof meet: each is the work of one crate.
use Rattle.std.specs.Prelude.{◌≡◌, ◌≢◌, ℕ, ◌≤◌, nat_lt, true, false, List, [], length, Option, None, Some}
use Rattle.std.specs.List.{AllByRecursion}
use Rattle.ct_values.specs.declared.config.Config.{Config}
use Rattle.ct_frame.specs.declared.frame.TableRow.{TableRow}
use Rattle.ct_call.specs.Rules.{Rules}
use Rattle.ct_merge.specs.Gathered.{Gathered, finished}
use Rattle.ct_merge.specs.Rule.{row_at}
use Rattle.ct_rules_node.specs.Node.{is_among, master_of, state_at}
use Rattle.ct_rules_node.specs.Rounds.{body_of}
use Rattle.ct_rules_node.specs.Turn.{Turn}
use Rattle.ct_rules_cluster.specs.Cluster.{Cluster, opening, node_at}
use Rattle.ct_rules_cluster.specs.Steps.{frames_of, put}
use Rattle.ct_law_generation.specs.Waiting.{Outcome, outcome}
use Rattle.ct_rules_cluster.specs.declared.step.PendingCall.{PendingCall}
use Rattle.ct_rules_cluster.specs.declared.step.Step.{Step}
use Rattle.ct_register.specs.Births.{birth_list}
use Rattle.ct_register.specs.Register.{reading}
use Rattle.ct_register.specs.Lines
use Rattle.ct_register.specs.Lines.{Lines}
use Rattle.ct_register.specs.Legal.{AcceptsLabels}
use Rattle.ct_register.specs.Stands.{RecordsStand}
use Rattle.ct_promise.specs.Promises.{IsConfig}
use Rattle.ct_promise.specs.Generation.{record_labels}
use Rattle.ct_promise.specs.Marked.{AllMarks, no_marks, MarksHold, MarksGoOn}
use Rattle.ct_law_record.proofs.MarkedRun.{marks_of}
use Rattle.ct_law_generation.specs.Shown.{labels_of}
use Rattle.ct_law_generation.proofs.Pending.{Callers}
use Rattle.ct_law_run.proofs.Ages.{Ages, LinesLive}
use Rattle.ct_law_run.proofs.Lives.{Lives, NodeLives, MailSays, ReplySays, IsTicket, IsGatheredOf}
use Rattle.ct_law_run.proofs.Later.{Later, Away, Rest}
use Rattle.ct_law_run.proofs.Apart.{AllFresh}

-- the marks of all lines are those of the ghosts
abbrev pub marks_in_all : Ages → AllMarks
marks_in_all a g db key = marks_of (a.ghosts g db key)

-- what there is after a step
pub record After (c : Config) (rules : Rules) (r : Lines) (a : Ages) (run : Outcome) : Type 0 where
  pub lines : Lines
  pub accepts : AcceptsLabels c rules r (record_labels c run.trace) lines
  pub lives : Lives c rules run.cluster lines
  pub marks : MarksGoOn r run.trace (marks_in_all a) (marks_in_all lives.ages)
  pub rest : (k : ℕ) → Rest r a lines lives.ages k (node_at k run.cluster).phase

-- ---- the parts of a turn

-- What a turn of node n, from where it begins, makes of registers and worlds: they accept what it tells, the lines live with
-- what it sent, the node lives with the new ones, and nothing changes for messages and for other nodes.
pub record Turned (c : Config) (rules : Rules) (who : Callers) (w : Cluster) (r : Lines) (a : Ages) (n : ℕ) (pend : List PendingCall) (u : Turn) : Type 0 where
  pub lines : Lines
  pub ages : Ages
  pub accepts : AcceptsLabels c rules r (record_labels c (labels_of n pend u.outs)) lines
  pub later : Later r a lines ages
  pub away : (k : ℕ) → k ≢ n → Away r a lines ages k
  pub rest : Rest r a lines ages n u.node.phase
  pub last : lines.last ≡ r.last
  pub holder : lines.holder ≡ r.holder
  pub lives : LinesLive c rules (put n u [] w).cluster lines ages
  pub mine : NodeLives c rules who (put n u [] w).cluster lines ages n u.node
  pub says : AllByRecursion (λ s. MailSays c lines ages s.frame) (frames_of u.outs)
  -- of replies only its own were sent
  pub replies : (k : ℕ) → k ≢ n → AllByRecursion (λ s. ReplySays lines ages k (node_at k w) s.frame s.frame.msg) (frames_of u.outs)
  pub marks : MarksGoOn r (labels_of n pend u.outs) (marks_in_all a) (marks_in_all ages)
  -- a line that it bears is nothing new to any other node
  pub fresh : (k : ℕ) → k ≢ n → nat_lt k c.nodes ≡ true → AllFresh c rules r lines ages k (node_at k w)

-- ---- the birth of a line

-- what a line may take over of a record, and what of a row stands for it
pub record Heir (r : Lines) (p : ℕ) (members : List ℕ) (db : ℕ) (key : List ℕ) (row : Option TableRow) : Type 0 where
  pub count : ℕ
  pub within : p ≢ 0 → count ≤ length (r.records p db key).versions
  pub seen : (m : ℕ) → p ≢ 0 → is_among m members ≡ true → r.line m ≡ p → (r.records p db key).seen m ≤ count
  pub none : row ≡ None → birth_list r p (λ d k. count) db key ≡ []
  pub value : (x : TableRow) → row ≡ Some x → x.value ≡ reading (birth_list r p (λ d k. count) db key)
  pub mastered : (x : TableRow) → row ≡ Some x → (m : ℕ) × (x.master ≡ Some m) × (is_among m members ≡ true)

-- once all have replied, what is made of their replies is an heir of the greatest base
abbrev pub AllHeirs : Type 0
AllHeirs = (c : Config) (rules : Rules) (w : Cluster) (r : Lines) (h : Lives c rules w r) (n g : ℕ) (members : List ℕ) (x : Gathered) (db : ℕ) (key : List ℕ) →
    IsTicket c r g n members → r.born g ≡ false → IsGatheredOf w n g members [] x →
    Heir r (body_of n members (finished x)).vparent members db key (row_at db key (body_of n members (finished x)).table)

-- ---- what follows of it all

-- a node has entries of records alone whose location master it is (AllAtHome of ct_law_generation, kept at every step)
abbrev pub EntriesAtHome : Cluster → Type 0
EntriesAtHome w = (n db : ℕ) (key : List ℕ) → n ≢ master_of (node_at n w).members key → (state_at db key (node_at n w)).entry ≡ None

abbrev pub LivesStand : Type 0
LivesStand = (c : Config) (rules : Rules) (w : Cluster) (r : Lines) (h : Lives c rules w r) → EntriesAtHome w → RecordsStand w r × MarksHold w r (marks_in_all h.ages)

abbrev pub StepLives : Type 0
StepLives = (c : Config) (rules : Rules) (w : Cluster) (r : Lines) (h : Lives c rules w r) (s : Step) → IsConfig c → After c rules r h.ages (outcome c rules w s)

-- a cluster lives at the opening, with nothing marked
abbrev pub OpenedLives : Type 0
OpenedLives = (c : Config) (rules : Rules) → IsConfig c → (h : Lives c rules (opening c) (Lines.opening c)) × (marks_in_all h.ages ≡ (λ g. no_marks))
