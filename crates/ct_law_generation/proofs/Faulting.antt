-- What holds where a step of the cluster is not refused.
use Rattle.std.proofs.Common.{◌≡◌, ℕ, true, List, ◌∷◌, Option, None}
use Rattle.std.specs.Prelude.{is_none}
use Rattle.ct_values.specs.declared.config.Config.{Config}
use Rattle.ct_rules_node.specs.Node.{has_records, is_persistent, kind_at}
use Rattle.ct_rules_cluster.specs.Cluster.{Cluster, is_up}
use Rattle.ct_rules_node.specs.Refusals.{first_of}
use Rattle.ct_rules_cluster.specs.Faults.{fault_of, no_such_db, wrong_kind, node_down}
use Rattle.ct_rules_cluster.specs.declared.step.Step.TheVariants as step
use Rattle.ct_rules_cluster.specs.declared.step.StepFault.{StepFault}
use Rattle.ct_law_rules_node.proofs.Refusals.{first_none, not_refused, required}
use Rattle.ct_law_generation.proofs.Configured.{has_kind}

-- a vacuum is of a database that has records
pub vacuum_kind : (c : Config) (w : Cluster) (n db : ℕ) → fault_of c w (step.Vacuum n db) ≡ None → has_records (kind_at c db) ≡ true
unfolding fault_of no_such_db wrong_kind
vacuum_kind c w n db e =
    let a = first_none _ _ (first_none _ _ e).1 in
    let b = first_none _ _ a.1 in
    has_kind (kind_at c db) (not_refused (is_none (kind_at c db)) _ b.0) (not_refused (is_persistent (kind_at c db)) _ (first_none _ _ b.1).0)

-- a step that is not refused is taken by a node that runs
pub runs : (w : Cluster) (n : ℕ) (a : Option StepFault) (rest : List (Option StepFault)) → first_of (a ∷ node_down w n ∷ rest) ≡ None → is_up n w ≡ true
unfolding node_down
runs w n a rest e = required (is_up n w) _ (first_none _ _ (first_none _ _ e).1).0
