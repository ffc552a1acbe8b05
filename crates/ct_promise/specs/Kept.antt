-- What is promised of the records of one generation, step by step.
use Rattle.std.specs.Prelude.{◌≡◌, ℕ, ◌≤◌, Bool, true, List, [], ◌∷◌, length, Option, None, Some}
use Rattle.std.specs.List.{list_all}
use Rattle.ct_values.specs.declared.config.Config.{Config}
use Rattle.ct_frame.specs.declared.header.RecCopy.{RecCopy}
use Rattle.ct_call.specs.Rules.{Rules}
use Rattle.ct_rules_node.specs.Node.{state_at}
use Rattle.ct_rules_cluster.specs.Cluster.{Cluster, node_at, opening, pending}
use Rattle.ct_rules_cluster.specs.Traces.{OpenCall, ran_one}
use Rattle.ct_rules_cluster.specs.declared.step.Step.{Step}
use Rattle.ct_register.specs.Register.{Register}
use Rattle.ct_register.specs.Lines
use Rattle.ct_register.specs.Lines.{Lines}
use Rattle.ct_register.specs.Legal.{AcceptsLabels}
use Rattle.ct_register.specs.Marks.{value_at}
use Rattle.ct_register.specs.Stands.{HasCopy, RecordsStand}
use Rattle.ct_promise.specs.Promises.{IsConfig, CallsStand}
use Rattle.ct_promise.specs.Generation.{is_of_one_generation, record_labels}
use Rattle.ct_promise.specs.Born.{Rows, IsBornWith, log_of, BornRegisters}
use Rattle.ct_promise.specs.Marked.{LineMarks, no_marks, MarksHoldIn, MarksGoOnIn}

-- ---- nothing that was seen is lost

-- An absent copy stands for the first `deleted` versions, and its node has seen no more than these. A present one stands for
-- those at the place of its RSN: it has their reading, its node has seen no more than these, and the deleted ones are among
-- them.
unfoldable pub StandsForSeen : Register → ℕ → (ℕ → ℕ) → ℕ → Option RecCopy → Type 0
StandsForSeen r deleted place n None = r.seen n ≤ deleted
StandsForSeen r deleted place n (Some c) = (c.value ≡ value_at (place c.header.rsn) r.versions) × (r.seen n ≤ place c.header.rsn) × (deleted ≤ place c.header.rsn)

-- Of a record of line g, the reading of the deleted versions is empty, the place of an RSN never falls as the RSN rises, and
-- so each copy at a node of the line stands for all that its node has seen.
pub record KeepsSeen (g db : ℕ) (key : List ℕ) (w : Cluster) (r : Lines) : Type 0 where
  pub deleted : ℕ
  pub place : ℕ → ℕ
  pub emptied : value_at deleted (r.records g db key).versions ≡ []
  pub rises : (a b : ℕ) → a ≤ b → place a ≤ place b
  pub within : (a : ℕ) → place a ≤ length (r.records g db key).versions
  pub stands : (n : ℕ) → r.line n ≡ g → StandsForSeen (r.records g db key) deleted place n (state_at db key (node_at n w)).copy

-- ---- what a next generation can take over

-- every one of these nodes has seen no more than the first p versions, and there are so many
pub record SeenUpTo (g db : ℕ) (key : List ℕ) (among : ℕ → Bool) (r : Lines) (p : ℕ) : Type 0 where
  pub within : p ≤ length (r.records g db key).versions
  pub seen : (n : ℕ) → among n ≡ true → (r.records g db key).seen n ≤ p

-- none of these nodes has a copy of a greater RSN
abbrev pub IsGreatest : ℕ → List ℕ → (ℕ → Bool) → Cluster → RecCopy → Type 0
IsGreatest db key among w c = (n : ℕ) (d : RecCopy) → among n ≡ true → HasCopy w n db key d → d.header.rsn ≤ c.header.rsn

-- Of any nodes of line g, a copy of the greatest RSN has the reading of some first versions, and none of the nodes has seen
-- more than these. Where none of them has a copy, there are such first versions with an empty reading.
pub record HasParent (g db : ℕ) (key : List ℕ) (w : Cluster) (r : Lines) : Type 0 where
  pub some : (among : ℕ → Bool) → ((n : ℕ) → among n ≡ true → r.line n ≡ g) → (n : ℕ) (c : RecCopy) → among n ≡ true → HasCopy w n db key c → IsGreatest db key among w c →
      (p : ℕ) × (c.value ≡ value_at p (r.records g db key).versions) × SeenUpTo g db key among r p
  pub none : (among : ℕ → Bool) → ((n : ℕ) → among n ≡ true → r.line n ≡ g) → ((n : ℕ) → among n ≡ true → (state_at db key (node_at n w)).copy ≡ None) →
      (p : ℕ) × (value_at p (r.records g db key).versions ≡ []) × SeenUpTo g db key among r p

-- ---- step by step

-- the cluster stands for the registers of records, the marks of line g hold, and nothing is lost of what was seen in it
pub record RecordsHold (g : ℕ) (w : Cluster) (r : Lines) (marks : LineMarks) : Type 0 where
  pub stand : RecordsStand w r
  pub marked : MarksHoldIn g w r marks
  pub kept : (db : ℕ) (key : List ℕ) → KeepsSeen g db key w r
  pub parents : (db : ℕ) (key : List ℕ) → HasParent g db key w r

-- Step by step there are registers that accept what the step tells of records, and marks that go on, so that both hold of the
-- step's cluster; and the calls that wait are exactly the open ones.
unfoldable pub RecordsRun : Config → Rules → ℕ → Cluster → List OpenCall → Lines → LineMarks → List Step → Type 0
RecordsRun config rules g w log r marks [] = Unit {0}
RecordsRun config rules g w log r marks (s ∷ steps) = let run = ran_one config rules w log s in
    (t : Lines) × (after : LineMarks) × AcceptsLabels config rules r (record_labels config run.trace) t × RecordsHold g run.cluster t after ×
    CallsStand run.cluster run.log × MarksGoOnIn g r run.trace marks after × RecordsRun config rules g run.cluster run.log t after steps

-- marks hold at the beginning, where these calls are open, and go on through these steps
abbrev pub RunsFrom : Config → Rules → ℕ → Cluster → List OpenCall → Lines → LineMarks → List Step → Type 0
RunsFrom config rules g w log r marks steps = RecordsHold g w r marks × CallsStand w log × RecordsRun config rules g w log r marks steps

-- so it is of every list of steps of one generation from the opening on, where nothing is marked
abbrev pub LawOfOneGeneration : Type 0
LawOfOneGeneration = (config : Config) (rules : Rules) (steps : List Step) → IsConfig config → list_all is_of_one_generation steps ≡ true →
    RunsFrom config rules 1 (opening config) [] (Lines.opening config) no_marks steps

-- and of every one from a cluster on that has installed a generation with rows, where the calls that wait are open, with the
-- same marks at the beginning for all
abbrev pub LawFromRows : Type 0
LawFromRows = (config : Config) (rules : Rules) (g : ℕ) (members : List ℕ) (row : Rows) (w : Cluster) (r : Lines) →
    IsConfig config → IsBornWith config g members row w → BornRegisters config w g members row r →
    (marks : LineMarks) × ((steps : List Step) → list_all is_of_one_generation steps ≡ true → RunsFrom config rules g w (log_of (pending w)) r marks steps)
