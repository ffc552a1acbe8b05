-- What is promised of addresses, said of the cluster and of what its run told alone.
use Rattle.std.specs.Prelude.{◌≡◌, ◌≢◌, ℕ, true, List, [], Some, Contains}
use Rattle.ct_values.specs.declared.address.Address.{Address}
use Rattle.ct_values.specs.declared.config.Config.{Config}
use Rattle.ct_frame.specs.declared.frame.Assigned.{Assigned}
use Rattle.ct_call.specs.Rules.{Rules}
use Rattle.ct_rules_node.specs.Node.{holder_in}
use Rattle.ct_rules_cluster.specs.Cluster.{Cluster, opening, is_up, node_at}
use Rattle.ct_rules_cluster.specs.Labels.{Label, Pushed, Taken}
use Rattle.ct_rules_cluster.specs.Traces.{ran}
use Rattle.ct_rules_cluster.specs.declared.step.Step.{Step}
use Rattle.ct_register.specs.Stands.{HoldsAddress}
use Rattle.ct_promise.specs.Promises.{IsConfig}

-- no two running nodes of one generation hold the same address
abbrev pub HoldsOnce : Cluster → Type 0
HoldsOnce w = (n m : ℕ) (a : Address) → is_up n w ≡ true → is_up m w ≡ true → (node_at n w).generation ≢ 0 → (node_at m w).generation ≡ (node_at n w).generation → HoldsAddress w n a → HoldsAddress w m a → m ≡ n

-- so it is after every list of steps
abbrev pub OneHolder : Type 0
OneHolder = (config : Config) (rules : Rules) (steps : List Step) → IsConfig config → HoldsOnce (ran config rules (opening config) [] steps).cluster

-- a push or a take of this generation, which assigns so
unfoldable pub AssignsSo : ℕ → List Assigned → Label → Type 0
AssignsSo g xs (Pushed h ys) = (h ≡ g) × (ys ≡ xs)
AssignsSo g xs (Taken n h number ys) = (h ≡ g) × (ys ≡ xs)
AssignsSo g xs label = ⊥

-- the labels have a push or a take of this generation that assigns so
pub record WasAssigned (labels : List Label) (g : ℕ) (xs : List Assigned) : Type 0 where
  pub label : Label
  pub told : Contains labels label
  pub assigns : AssignsSo g xs label

-- a running node holds an address only where a push or a take of its generation, which was told, assigns it to the node
abbrev pub HoldsAssigned : Cluster → List Label → Type 0
HoldsAssigned w labels = (n : ℕ) (a : Address) → is_up n w ≡ true → HoldsAddress w n a → (xs : List Assigned) × WasAssigned labels (node_at n w).generation xs × (holder_in a xs ≡ Some n)

-- so it is after every list of steps
abbrev pub HeldWhereAssigned : Type 0
HeldWhereAssigned = (config : Config) (rules : Rules) (steps : List Step) → IsConfig config → (let run = ran config rules (opening config) [] steps in HoldsAssigned run.cluster run.trace)
