use Rattle.std.proofs.Common.{◌≡◌, ◌++◌, drop}
use Rattle.ct_traverse_parts.specs.Walk.{without_member}
use Rattle.ct_traverse_parts.proofs.traverse.without_member.Given as goal

-- those before and those that are left
abbrev pub invariant-loop-member : goal.invariant-loop-member
invariant-loop-member l = l.left ++ without_member l.node (drop l.member-index l.members) ≡ without_member l.node l.members
