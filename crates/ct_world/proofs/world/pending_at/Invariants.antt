use Rattle.std.proofs.Common.{◌≡◌, ◌++◌, drop}
use Rattle.ct_rules_cluster.specs.Cluster.{pending_from}
use Rattle.ct_world.specs.World.{states_of}
use Rattle.ct_world.proofs.world.pending_at.Given as goal

-- the calls of the nodes so far, and those of the nodes that are left, are all
abbrev pub invariant-loop-core : goal.invariant-loop-core
invariant-loop-core l = l.calls.items ++ pending_from l.core-index (states_of (drop l.core-index l.cores)) ≡ pending_from 0 (states_of l.cores)
