use Rattle.std.proofs.Common.{◌≡◌, drop}
use Rattle.ct_rules_cluster.specs.Faults.{no_such_nodes}
use Rattle.ct_world.proofs.world.World.no_such_nodes.Given as goal

-- what is left tells what the whole does
abbrev pub invariant-loop-node : goal.invariant-loop-node
invariant-loop-node l = no_such_nodes l.self.config (drop l.node-index l.nodes) ≡ no_such_nodes l.self.config l.nodes
