use Rattle.std.proofs.Common.{◌≡◌, ◌≤◌, map}
use Rattle.ct_rules_cluster.specs.Cluster.{numbers}
use Rattle.ct_world.specs.World.{opened}
use Rattle.ct_world.proofs.world.opened.Given as goal

-- the nodes below this one are there
abbrev pub invariant-loop-node : goal.invariant-loop-node
invariant-loop-node l = (l.node ≤ l.config.nodes) × (l.cores ≡ map (opened l.config) (numbers 0 l.node))
