use Rattle.std.proofs.Common.{◌≡◌, ◌++◌, drop}
use Rattle.ct_rules_node.specs.Takeovers.{assigned_in}
use Rattle.ct_node_plan.proofs.posts.assigned_in.Given as goal

-- those before and those that are left
abbrev pub invariant-loop-x : goal.invariant-loop-x
invariant-loop-x l = l.all.items ++ assigned_in (drop l.x-index l.placement) ≡ assigned_in l.placement
