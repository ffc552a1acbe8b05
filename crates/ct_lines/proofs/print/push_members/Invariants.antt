use Rattle.std.proofs.Common.{◌≡◌, ◌++◌, ◌∷◌, [], drop, map}
use Rattle.std.specs.Fmt.{decimal}
use Rattle.std.specs.List.{join_with_byte}
use Rattle.ct_lines.specs.Spelled.{members_text}
use Rattle.ct_lines.proofs.print.push_members.Given as goal

abbrev pub invariant-member : goal.invariant-member
invariant-member l = l.text.items ++ join_with_byte 44 ([] ∷ map decimal (drop l.member-index l.rest)) ≡ l.fn.text.items ++ 32 ∷ members_text l.members
