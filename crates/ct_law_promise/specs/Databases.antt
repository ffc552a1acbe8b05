-- What is promised of records and of persistent databases through every list of steps: all that is promised but what is told of addresses.
use Rattle.std.specs.Prelude.{◌≡◌, ◌≢◌, ◌↔◌, ℕ, nat_lt, true, List, [], ◌∷◌, Some, is_some}
use Rattle.ct_values.specs.declared.config.Config.{Config}
use Rattle.ct_values.specs.declared.config.DbKind.TheVariants.{Persistent}
use Rattle.ct_call.specs.Rules.{Rules}
use Rattle.ct_rules_node.specs.Node.{kind_at, db_at}
use Rattle.ct_rules_cluster.specs.Cluster.{Cluster, opening, node_at}
use Rattle.ct_rules_cluster.specs.Traces.{OpenCall, Ran, ran, ran_one}
use Rattle.ct_rules_cluster.specs.declared.step.Step.{Step}
use Rattle.ct_register.specs.Lines
use Rattle.ct_register.specs.Lines.{Lines}
use Rattle.ct_register.specs.Legal.{CommitWaits, AcceptsLabels}
use Rattle.ct_register.specs.Stands.{IsAfter, RecordsStand}
use Rattle.ct_promise.specs.Promises.{IsConfig, CallsStand}
use Rattle.ct_promise.specs.Marked.{AllMarks, no_marks, MarksHold, MarksGoOn}
use Rattle.ct_law_run.specs.Records.{GenerationsStand}
use Rattle.ct_law_databases.specs.Placeless.{placeless}

-- the cluster stands for the registers in all but addresses: all that StandsFor says but of those
pub record DatabasesStand (config : Config) (w : Cluster) (r : Lines) : Type 0 where
  -- for those of records, and for those of generations
  pub records : RecordsStand w r
  pub generations : GenerationsStand w r
  -- each node, running or not, has the persistent databases of the line that the registers say
  pub bases : (n : ℕ) → nat_lt n config.nodes ≡ true → (node_at n w).pbase ≡ r.pline n
  -- each node, running or not, has each persistent database as it was after some of its line's commits
  pub databases : (n db : ℕ) → nat_lt n config.nodes ≡ true → kind_at config db ≡ Some Persistent →
      (j : ℕ) × IsAfter j n (r.databases (r.pline n) db) (db_at db (node_at n w)).store
  -- a commit of a database waits at a node exactly where one began there, in its line, that is not answered
  pub commits : (n db : ℕ) → (is_some (db_at db (node_at n w)).commit ≡ true) ↔ CommitWaits config n db r

-- Step by step there are registers that accept what the step tells but of addresses, and that its cluster stands for in all but
-- addresses, and marks that hold of them and go on; and the calls that wait are exactly the open ones.
unfoldable pub DatabasesMarked : Config → Rules → Cluster → List OpenCall → Lines → AllMarks → List Step → Type 0
DatabasesMarked config rules w log r marks [] = Unit {0}
DatabasesMarked config rules w log r marks (s ∷ steps) = let run = ran_one config rules w log s in
    (t : Lines) × (after : AllMarks) × AcceptsLabels config rules r (placeless run.trace) t × DatabasesStand config run.cluster t × CallsStand run.cluster run.log ×
    MarksHold run.cluster t after × MarksGoOn r run.trace marks after × DatabasesMarked config rules run.cluster run.log t after steps

-- so it is of every list of steps from the opening on, where nothing is marked
abbrev pub LawOfDatabases : Type 0
LawOfDatabases = (config : Config) (rules : Rules) (steps : List Step) → IsConfig config → DatabasesMarked config rules (opening config) [] (Lines.opening config) (λ g. no_marks) steps

-- From these registers on they accept all that a run tells but of addresses, and its last cluster stands for them in all but
-- addresses, and for the calls that are open.
abbrev pub KeepsDatabases : Config → Rules → Lines → Ran → Type 0
KeepsDatabases config rules r run = (s : Lines) × AcceptsLabels config rules r (placeless run.trace) s × DatabasesStand config run.cluster s × CallsStand run.cluster run.log

-- so it is of every list of steps from the opening on
abbrev pub PromiseOfDatabases : Type 0
PromiseOfDatabases = (config : Config) (rules : Rules) (steps : List Step) → IsConfig config → KeepsDatabases config rules (Lines.opening config) (ran config rules (opening config) [] steps)
