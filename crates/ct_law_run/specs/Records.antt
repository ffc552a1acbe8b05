-- What is promised of records through every list of steps, with its rounds, stops and starts. (To stand in ct_promise.)
use Rattle.std.specs.Prelude.{◌≡◌, ◌≢◌, ℕ, true, List, [], ◌∷◌}
use Rattle.ct_values.specs.declared.config.Config.{Config}
use Rattle.ct_call.specs.Rules.{Rules}
use Rattle.ct_rules_node.specs.Node.{is_among, is_serving}
use Rattle.ct_rules_cluster.specs.Cluster.{Cluster, opening, is_up, node_at}
use Rattle.ct_rules_cluster.specs.Traces.{OpenCall, Ran, ran, ran_one}
use Rattle.ct_rules_cluster.specs.declared.step.Step.{Step}
use Rattle.ct_register.specs.Lines
use Rattle.ct_register.specs.Lines.{Lines}
use Rattle.ct_register.specs.Legal.{AcceptsLabels}
use Rattle.ct_register.specs.Stands.{RecordsStand}
use Rattle.ct_promise.specs.Promises.{IsConfig, CallsStand}
use Rattle.ct_promise.specs.Generation.{record_labels}
use Rattle.ct_promise.specs.Marked.{AllMarks, no_marks, MarksHold, MarksGoOn}

-- the cluster stands for the registers of generations
pub record GenerationsStand (w : Cluster) (r : Lines) : Type 0 where
  -- a running node is in the generation that is its line (as StandsFor has it)
  pub generations : (n : ℕ) → is_up n w ≡ true → (node_at n w).generation ≡ r.line n
  -- and it serves there only in line 1, or once every member has installed the line
  pub thawed : (n m : ℕ) → is_up n w ≡ true → is_serving (node_at n w).phase ≡ true → r.line n ≢ 1 → is_among m (r.members (r.line n)) ≡ true → r.installed (r.line n) m ≡ true

-- Step by step there are registers that accept what the step tells of records and of generations, and that its cluster stands
-- for in its records and in the generations of its nodes, and marks that hold of them and go on; and the calls that wait are
-- exactly the open ones.
unfoldable pub RecordsMarked : Config → Rules → Cluster → List OpenCall → Lines → AllMarks → List Step → Type 0
RecordsMarked config rules w log r marks [] = Unit {0}
RecordsMarked config rules w log r marks (s ∷ steps) = let run = ran_one config rules w log s in
    (t : Lines) × (after : AllMarks) × AcceptsLabels config rules r (record_labels config run.trace) t × RecordsStand run.cluster t × GenerationsStand run.cluster t × CallsStand run.cluster run.log ×
    MarksHold run.cluster t after × MarksGoOn r run.trace marks after × RecordsMarked config rules run.cluster run.log t after steps

-- so it is of every list of steps from the opening on, where nothing is marked
abbrev pub LawOfRecords : Type 0
LawOfRecords = (config : Config) (rules : Rules) (steps : List Step) → IsConfig config → RecordsMarked config rules (opening config) [] (Lines.opening config) (λ g. no_marks) steps

-- From these registers on they accept all that a run tells of records and of generations, and its last cluster stands for those
-- of records, for the generations of its nodes, and for the calls that are open.
abbrev pub KeepsLines : Config → Rules → Lines → Ran → Type 0
KeepsLines config rules r run = (s : Lines) × AcceptsLabels config rules r (record_labels config run.trace) s × RecordsStand run.cluster s × GenerationsStand run.cluster s × CallsStand run.cluster run.log

-- so it is of every list of steps from the opening on
abbrev pub PromiseOfRecords : Type 0
PromiseOfRecords = (config : Config) (rules : Rules) (steps : List Step) → IsConfig config → KeepsLines config rules (Lines.opening config) (ran config rules (opening config) [] steps)
