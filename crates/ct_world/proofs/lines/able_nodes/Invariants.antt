use Rattle.std.proofs.Common.{◌≡◌, ◌≤◌, ◌++◌, drop}
use Rattle.ct_rules_cluster.specs.Cluster.{able_from}
use Rattle.ct_world.proofs.lines.able_nodes.Given as goal

-- the nodes so far and those of the marks that are left are all
abbrev pub invariant-loop-node : goal.invariant-loop-node
invariant-loop-node l = (l.node ≤ l.nodes) × (l.able ++ able_from l.node (drop l.node l.marks) ≡ able_from 0 l.marks)
