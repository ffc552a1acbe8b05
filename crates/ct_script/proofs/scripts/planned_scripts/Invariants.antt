use Rattle.std.proofs.Common.{◌≡◌, ◌≤◌}
use Rattle.std.specs.Prelude.{map}
use Rattle.ct_rules_cluster.specs.Cluster.{numbers}
use Rattle.ct_script.specs.Scripts.{planned_script}
use Rattle.ct_script.proofs.scripts.planned_scripts.Given as goal

-- the scripts of the nodes below this one are there
abbrev pub invariant-loop-node : goal.invariant-loop-node
invariant-loop-node l = (l.node ≤ l.config.nodes) × (l.scripts ≡ map (planned_script l.config l.calls l.seed) (numbers 0 l.node))
