use Rattle.std.proofs.Common.{◌≡◌, ◌++◌, drop}
use Rattle.std.specs.List.{filter}
use Rattle.ct_rules_node.specs.Node.{is_among}
use Rattle.ct_node_plan_runs.proofs.begin.members_of.Given as goal

-- the members before and those that are left
abbrev pub invariant-loop-node : goal.invariant-loop-node
invariant-loop-node l = l.list.items ++ filter (λ n. is_among n l.members) (drop l.node-index l.able) ≡ filter (λ n. is_among n l.members) l.able
