use Rattle.std.proofs.Common.{◌≡◌, ◌≤◌, ◌++◌}
use Rattle.std.specs.List.{flat_map}
use Rattle.ct_text_commands.specs.Status.{state_line}
use Rattle.ct_rules_cluster.specs.Cluster.{numbers}
use Rattle.ct_text_commands.proofs.nodes.push_states.Given as goal

-- the lines of the nodes before this one
abbrev pub invariant-loop-node : goal.invariant-loop-node
invariant-loop-node l = (l.node ≤ l.config.nodes) × (l.text.items ≡ l.fn.text.items ++ flat_map (state_line l.own l.running l.able) (numbers 0 l.node))
