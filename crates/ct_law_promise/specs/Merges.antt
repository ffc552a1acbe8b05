-- The last reply of a round, in every run: what the leader then pushes is a choice that the definition of a birth allows.
use Rattle.std.specs.Prelude.{◌≡◌, ◌≢◌, ℕ, ◌≤◌, true, List, [], ◌∷◌, length, map, Option, None, Some, Contains}
use Rattle.ct_values.specs.Words.{others}
use Rattle.ct_values.specs.declared.address.Address.{Address}
use Rattle.ct_values.specs.declared.config.Config.{Config}
use Rattle.ct_frame.specs.declared.event.Event.TheVariants as event
use Rattle.ct_frame.specs.declared.frame.Frame.{Frame}
use Rattle.ct_frame.specs.declared.frame.Msg.TheVariants as msg
use Rattle.ct_frame.specs.declared.frame.PTable.{PTable}
use Rattle.ct_frame.specs.declared.frame.TableRow.{TableRow}
use Rattle.ct_frame.specs.declared.round.PushBody.{PushBody}
use Rattle.ct_call.specs.Rules.{Rules}
use Rattle.ct_merge.specs.Gathered.{Gathered, gathered, finished}
use Rattle.ct_merge.specs.Rule.{row_at}
use Rattle.ct_rules_node.specs.Admission.{is_sound}
use Rattle.ct_rules_node.specs.Node.{Pulls, is_among}
use Rattle.ct_rules_node.specs.Rounds.{body_of, pushes}
use Rattle.ct_rules_node.specs.Steps.{happens}
use Rattle.ct_rules_node.specs.Turn.{begins}
use Rattle.ct_rules_cluster.specs.Cluster.{Cluster, node_at, opening}
use Rattle.ct_rules_cluster.specs.Traces.{OpenCall, ran_one}
use Rattle.ct_rules_cluster.specs.declared.step.Step.{Step}
use Rattle.ct_register.specs.Births.{Birth, birth_list}
use Rattle.ct_register.specs.Legal.{AcceptsLabels}
use Rattle.ct_register.specs.Lines
use Rattle.ct_register.specs.Lines.{Lines}
use Rattle.ct_register.specs.Marks.{IsCopyAt, value_at}
use Rattle.ct_register.specs.Register.{reading}
use Rattle.ct_register.specs.Stands.{RecordsStand}
use Rattle.ct_promise.specs.Generation.{record_labels}
use Rattle.ct_promise.specs.Marked.{AllMarks, no_marks, MarksHold, MarksGoOn}
use Rattle.ct_promise.specs.Promises.{IsConfig}
use Rattle.ct_law_run.specs.Records.{GenerationsStand}

-- ---- the last reply

-- the frame was sent to node n, which leads a round of these members and waits for this reply alone
pub record IsLastReply (config : Config) (w : Cluster) (n : ℕ) (members : List ℕ) (f : Frame) : Type 0 where
  pub sent : Contains (map (λ s. s.frame) w.sent) f
  pub receiver : f.receiver ≡ n
  pub sound : is_sound config f ≡ true
  -- the reply
  pub vbase : ℕ
  pub pbase : ℕ
  pub table : List TableRow
  pub ptables : List PTable
  pub addresses : List Address
  pub reply : f.msg ≡ msg.PullReply vbase pbase table ptables addresses
  -- what the node leads, with what it has gathered before
  pub missing : List ℕ
  pub before : Gathered
  pub leads : (node_at n w).lead ≡ Pulls f.generation members missing before
  pub waits : is_among f.sender missing ≡ true
  pub alone : others f.sender missing ≡ []

-- what is made of all replies
abbrev pub body_at : (config : Config) (w : Cluster) (n : ℕ) (members : List ℕ) (f : Frame) → IsLastReply config w n members f → PushBody
body_at config w n members f k = body_of n members (finished (gathered (record { node = f.sender; vbase = k.vbase; pbase = k.pbase; table = k.table; ptables = k.ptables; addresses = k.addresses }) k.before))

-- ---- what is pushed

-- a row stands for what is taken over of a record: its value is the reading of that, and without a row nothing is taken over
pub record StandsForBirth (births : List (List ℕ)) (row : Option TableRow) : Type 0 where
  pub none : row ≡ None → births ≡ []
  pub value : (x : TableRow) → row ≡ Some x → x.value ≡ reading births

-- The reply is followed by the Push of this body, and the registers allow the birth of its line with it: of each record some
-- first versions of the parent are taken over, and the table's row stands for these. Each row has the RSN of a mark in the parent.
pub record MergesSo (config : Config) (rules : Rules) (w : Cluster) (r : Lines) (marks : AllMarks) (n : ℕ) (members : List ℕ) (f : Frame) (body : PushBody) : Type 0 where
  pub pushed : happens config rules n (begins (node_at n w)) (event.Arrive f) ≡ pushes n f.generation members body (begins (node_at n w))
  pub counts : ℕ → List ℕ → ℕ
  pub birth : Birth r f.generation n members body.vparent counts
  pub rows : (db : ℕ) (key : List ℕ) → StandsForBirth (birth_list r body.vparent counts db key) (row_at db key body.table)
  pub marked : (db : ℕ) (key : List ℕ) (x : TableRow) → row_at db key body.table ≡ Some x →
      IsCopyAt (marks body.vparent db key).marks (r.records body.vparent db key).versions x.rsn x.value

-- ---- after every run

-- Step by step there are registers that accept what the step tells of records, and marks that go on; where the steps lead they
-- hold, and have this property.
unfoldable pub LeadsWith : Config → Rules → (Cluster → Lines → AllMarks → Type 0) → Cluster → List OpenCall → Lines → AllMarks → List Step → Type 0
LeadsWith config rules P w log r marks [] = RecordsStand w r × GenerationsStand w r × MarksHold w r marks × P w r marks
LeadsWith config rules P w log r marks (s ∷ steps) = let run = ran_one config rules w log s in
    (t : Lines) × (after : AllMarks) × AcceptsLabels config rules r (record_labels config run.trace) t × MarksGoOn r run.trace marks after × LeadsWith config rules P run.cluster run.log t after steps

-- so it is of every list of steps from the opening on, where nothing is marked
abbrev pub AfterAll : (Config → Rules → Cluster → Lines → AllMarks → Type 0) → Type 0
AfterAll P = (config : Config) (rules : Rules) (steps : List Step) → IsConfig config → LeadsWith config rules (P config rules) (opening config) [] (Lines.opening config) (λ g. no_marks) steps

-- the last reply of each round is merged so
abbrev pub EachMerges : Config → Rules → Cluster → Lines → AllMarks → Type 0
EachMerges config rules w r marks = (n : ℕ) (members : List ℕ) (f : Frame) (k : IsLastReply config w n members f) → MergesSo config rules w r marks n members f (body_at config w n members f k)

-- after every run it is
abbrev pub MergesAsBorn : Type 0
MergesAsBorn = AfterAll EachMerges

-- ---- in the words of the headline

-- the value that a record has where its line begins with this row, or with none
unfoldable pub value_in_row : Option TableRow → List ℕ
value_in_row None = []
value_in_row (Some x) = x.value

-- Nothing that was seen is lost: where a line has a parent, each record begins with the value of so many first versions of the
-- parent, and these are no fewer than any member had seen that was in the parent still. Only what no such member had seen may be lost.
abbrev pub KeepsWhatWasSeen : Lines → List ℕ → PushBody → Type 0
KeepsWhatWasSeen r members body = body.vparent ≢ 0 → (db : ℕ) (key : List ℕ) →
    (count : ℕ) × (count ≤ length (r.records body.vparent db key).versions) × (value_in_row (row_at db key body.table) ≡ value_at count (r.records body.vparent db key).versions) ×
    ((m : ℕ) → is_among m members ≡ true → r.line m ≡ body.vparent → (r.records body.vparent db key).seen m ≤ count)

abbrev pub EachKeeps : Config → Rules → Cluster → Lines → AllMarks → Type 0
EachKeeps config rules w r marks = (n : ℕ) (members : List ℕ) (f : Frame) (k : IsLastReply config w n members f) → KeepsWhatWasSeen r members (body_at config w n members f k)

abbrev pub NothingSeenIsLost : Type 0
NothingSeenIsLost = AfterAll EachKeeps

-- Nothing that was vacuumed returns: each row that is pushed has the RSN of a mark of the parent's record, and a vacuum leaves
-- no mark (MarksStep), and new marks are above all that there ever were: it is that of a copy made after the last vacuum.
abbrev pub HasMarkedRows : Lines → AllMarks → PushBody → Type 0
HasMarkedRows r marks body = (db : ℕ) (key : List ℕ) (x : TableRow) → row_at db key body.table ≡ Some x → IsCopyAt (marks body.vparent db key).marks (r.records body.vparent db key).versions x.rsn x.value

abbrev pub EachMarks : Config → Rules → Cluster → Lines → AllMarks → Type 0
EachMarks config rules w r marks = (n : ℕ) (members : List ℕ) (f : Frame) (k : IsLastReply config w n members f) → HasMarkedRows r marks (body_at config w n members f k)

abbrev pub NothingVacuumedReturns : Type 0
NothingVacuumedReturns = AfterAll EachMarks
