use Rattle.std.proofs.Common.{◌≡◌}
use Rattle.std.specs.Prelude.{filter}
use Rattle.ct_rules_cluster.specs.Cluster.{is_up, numbers}
use Rattle.ct_named.proofs.named.running_nodes.Given as goal

-- those below this one that run
abbrev pub invariant-loop-node : goal.invariant-loop-node
invariant-loop-node l = l.nodes ≡ filter (λ n. is_up n l.world.cluster) (numbers 0 l.node)
