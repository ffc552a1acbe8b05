-- The recovery lock is given back: nothing else of the cluster changes, and the registers accept what is told of it.
use Rattle.std.proofs.Common.{◌≡◌, ℕ, true, [], ◌∷◌, Option, None, Some, refl, ap, ◌∙◌}
use Rattle.std.proofs.lemmas.Bool.{eqb-true}
use Rattle.std.specs.Prelude.{nat_lt}
use Rattle.ct_values.specs.Words.{is_this_node}
use Rattle.ct_values.specs.declared.config.Config.{Config}
use Rattle.ct_call.specs.Rules.{Rules}
use Rattle.ct_rules_cluster.specs.Cluster.{Cluster, is_up}
use Rattle.ct_rules_cluster.specs.Faults.{no_such_node, node_down, not_holder, fault_of, is_allowed}
use Rattle.ct_rules_cluster.specs.Labels.{Yielded}
use Rattle.ct_rules_cluster.specs.Steps.{done, steps, steps_or, applied}
use Rattle.ct_rules_cluster.specs.Traces.{own_labels}
use Rattle.ct_law_generation.specs.Waiting.{told_line, told_lines, told_step, came_of, outcome}
use Rattle.ct_rules_cluster.specs.declared.step.Line.TheVariants as line
use Rattle.ct_rules_cluster.specs.declared.step.Step.TheVariants as step
use Rattle.ct_rules_cluster.specs.declared.step.StepFault.{StepFault}
use Rattle.ct_register.specs.Legal.{AcceptsLabels}
use Rattle.ct_register.specs.Lines.{Lines}
use Rattle.ct_law_rules_node.proofs.Refusals.{first_none, required}

-- the cluster with a free recovery lock
abbrev pub yielded : Cluster → Cluster
yielded w = record w { holder = None }

-- ---- why it is not refused

holds_it : (n : ℕ) (h : Option ℕ) → is_this_node n h ≡ true → h ≡ Some n
unfolding is_this_node
holds_it n None e = absurd (cc)
holds_it n (Some h) e = ap (λ (k : ℕ). Some k) (eqb-true h n e)

-- the node is there, runs, and holds the lock
pub record Yields (c : Config) (w : Cluster) (n : ℕ) : Type 0 where
  pub there : nat_lt n c.nodes ≡ true
  pub up : is_up n w ≡ true
  pub held : w.holder ≡ Some n

pub yields : (c : Config) (w : Cluster) (n : ℕ) → fault_of c w (step.Yield n) ≡ None → Yields c w n
unfolding fault_of no_such_node node_down not_holder
yields c w n e = (let there = first_none _ _ e in let up = first_none _ _ there.1 in let held = first_none _ _ up.1 in record {
  there = required (nat_lt n c.nodes) _ there.0;
  up = required (is_up n w) _ up.0;
  held = holds_it n w.holder (required (is_this_node n w.holder) _ held.0);
})

-- ---- what it becomes

-- so it runs
pub yield_runs : (c : Config) (rules : Rules) (w : Cluster) (n : ℕ) → fault_of c w (step.Yield n) ≡ None → outcome c rules w (step.Yield n) ≡ record { cluster = yielded w; trace = Yielded n ∷ [] }
unfolding outcome is_allowed applied steps_or steps done came_of told_step own_labels told_lines told_line
yield_runs c rules w n e = ap (λ (f : Option StepFault). came_of w (step.Yield n) (steps_or c rules w (step.Yield n) f)) e

-- ---- what is told of it

-- registers that have the recovery lock where the cluster has it accept that, and have it there again
pub yield_accepted : (c : Config) (rules : Rules) (w : Cluster) (n : ℕ) (r : Lines) → Yields c w n → r.holder ≡ w.holder → AcceptsLabels c rules r (Yielded n ∷ []) (record r { holder = None })
yield_accepted c rules w n r h e = (record r { holder = None }, (e ∙ h.held, refl), refl)
