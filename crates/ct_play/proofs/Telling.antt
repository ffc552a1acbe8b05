-- A node at which no step is refused runs.
use Rattle.std.proofs.Common.{◌≡◌, ℕ, Bool, true, false, not, [], ◌∷◌, None, refl}
use Rattle.std.specs.Prelude.{nat_lt}
use Rattle.ct_rules_cluster.specs.Cluster.{is_up, World}
use Rattle.ct_rules_cluster.specs.Faults.{fault_of, no_such_node, node_down}
use Rattle.ct_rules_cluster.specs.declared.step.Step.TheVariants as step
use Rattle.ct_rules_cluster.specs.declared.step.StepFault.{StepFault}
use Rattle.ct_rules_cluster.specs.declared.step.StepFault.TheVariants as fault
use Rattle.ct_rules_node.specs.Refusals.{first_of, refused_if}

up_by : (a b : Bool) (f g : StepFault) → first_of (refused_if (not a) f ∷ refused_if (not b) g ∷ []) ≡ None → b ≡ true
unfolding first_of refused_if
up_by true true f g e = refl
up_by true false f g e = absurd (cc)
up_by false b f g e = absurd (cc)

-- where nothing refuses a step at a node, the node runs
pub up_there : (w : World) (n : ℕ) → fault_of w.config w.cluster (step.Retry n) ≡ None → is_up n w.cluster ≡ true
unfolding fault_of no_such_node node_down
up_there w n e = up_by (nat_lt n w.config.nodes) (is_up n w.cluster) (fault.NoSuchNode n) (fault.NodeDown n) e
