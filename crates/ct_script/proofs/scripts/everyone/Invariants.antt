use Rattle.std.proofs.Common.{◌≡◌, ◌≤◌}
use Rattle.ct_rules_cluster.specs.Cluster.{numbers}
use Rattle.ct_script.proofs.scripts.everyone.Given as goal

-- the nodes below this one are there
abbrev pub invariant-loop-node : goal.invariant-loop-node
invariant-loop-node l = (l.node ≤ l.config.nodes) × (l.nodes ≡ numbers 0 l.node)
