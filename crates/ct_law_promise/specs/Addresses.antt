-- What is promised through every list of steps of records, of generations and of addresses: of all but persistent databases.
use Rattle.std.specs.Prelude.{◌≡◌, ◌≢◌, ◌↔◌, ℕ, Bool, true, false, not, List, [], ◌∷◌, Some}
use Rattle.std.specs.List.{filter}
use Rattle.ct_values.specs.declared.address.Address.{Address}
use Rattle.ct_values.specs.Client.{db_of}
use Rattle.ct_values.specs.declared.config.Config.{Config}
use Rattle.ct_frame.specs.declared.frame.Assigned.{Assigned}
use Rattle.ct_call.specs.Rules.{Rules}
use Rattle.ct_rules_node.specs.Node.{is_persistent, kind_at, holder_in}
use Rattle.ct_rules_cluster.specs.Cluster.{Cluster, opening, is_up}
use Rattle.ct_rules_cluster.specs.Labels.{Label, Answered, Begun}
use Rattle.ct_rules_cluster.specs.Traces.{OpenCall, Ran, ran, ran_one}
use Rattle.ct_rules_cluster.specs.declared.step.Step.{Step}
use Rattle.ct_register.specs.Lines
use Rattle.ct_register.specs.Lines.{Lines}
use Rattle.ct_register.specs.Legal.{AcceptsLabels}
use Rattle.ct_register.specs.Placing.{given_placement}
use Rattle.ct_register.specs.Stands.{HoldsAddress, RecordsStand}
use Rattle.ct_promise.specs.Promises.{IsConfig, CallsStand}
use Rattle.ct_promise.specs.Marked.{AllMarks, no_marks, MarksHold, MarksGoOn}
use Rattle.ct_law_run.specs.Records.{GenerationsStand}

-- does the label speak of a persistent database: of a commit that begins, or of an answer to a call on one?
unfoldable pub speaks_of_databases : Config → Label → Bool
speaks_of_databases config (Answered n asked given) = is_persistent (kind_at config (db_of asked))
speaks_of_databases config (Begun n db writes) = true
speaks_of_databases config label = false

-- all other labels, in their order
abbrev pub other_labels : Config → List Label → List Label
other_labels config labels = filter (λ label. not (speaks_of_databases config label)) labels

-- the cluster stands for the registers of addresses (as StandsFor has it)
pub record AddressesStand (w : Cluster) (r : Lines) : Type 0 where
  -- a running node holds exactly the addresses that it took, without those that it released since
  pub holds : (n : ℕ) (a : Address) → is_up n w ≡ true → HoldsAddress w n a ↔ (r.held n a ≡ true)
  -- it holds an address only where the last take of its line assigns it, or the push before any take
  pub assigned : (n : ℕ) (a : Address) → is_up n w ≡ true → HoldsAddress w n a →
      (xs : List Assigned) × (given_placement (r.placing (r.line n)).pushed (r.placing (r.line n)).last ≡ Some xs) × (holder_in a xs ≡ Some n)
  -- no two running nodes of one line hold the same address
  pub addresses : (n m : ℕ) (a : Address) → is_up n w ≡ true → is_up m w ≡ true → r.line n ≢ 0 → r.line m ≡ r.line n → HoldsAddress w n a → HoldsAddress w m a → m ≡ n

-- Step by step there are registers that accept all that the step tells but of persistent databases, and that its cluster stands
-- for in its records, in the generations of its nodes and in their addresses, and marks that hold of them and go on; and the
-- calls that wait are exactly the open ones.
unfoldable pub AddressesRun : Config → Rules → Cluster → List OpenCall → Lines → AllMarks → List Step → Type 0
AddressesRun config rules w log r marks [] = Unit {0}
AddressesRun config rules w log r marks (s ∷ steps) = let run = ran_one config rules w log s in
    (t : Lines) × (after : AllMarks) × AcceptsLabels config rules r (other_labels config run.trace) t × RecordsStand run.cluster t × GenerationsStand run.cluster t × AddressesStand run.cluster t × CallsStand run.cluster run.log ×
    MarksHold run.cluster t after × MarksGoOn r run.trace marks after × AddressesRun config rules run.cluster run.log t after steps

-- so it is of every list of steps from the opening on, where nothing is marked
abbrev pub LawOfAddresses : Type 0
LawOfAddresses = (config : Config) (rules : Rules) (steps : List Step) → IsConfig config → AddressesRun config rules (opening config) [] (Lines.opening config) (λ g. no_marks) steps

-- From these registers on they accept all that a run tells but of persistent databases, and its last cluster stands for those of
-- records, of generations and of addresses, and for the calls that are open.
abbrev pub KeepsAddresses : Config → Rules → Lines → Ran → Type 0
KeepsAddresses config rules r run = (s : Lines) × AcceptsLabels config rules r (other_labels config run.trace) s × RecordsStand run.cluster s × GenerationsStand run.cluster s × AddressesStand run.cluster s × CallsStand run.cluster run.log

-- so it is of every list of steps from the opening on
abbrev pub PromiseOfAddresses : Type 0
PromiseOfAddresses = (config : Config) (rules : Rules) (steps : List Step) → IsConfig config → KeepsAddresses config rules (Lines.opening config) (ran config rules (opening config) [] steps)
