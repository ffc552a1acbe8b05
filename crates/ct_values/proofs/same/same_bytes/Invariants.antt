use Rattle.std.proofs.Common.{◌≡◌, drop, nat_eq}
use Rattle.std.specs.Cmp.Lexicographic.{pointwise}
use Rattle.ct_values.proofs.same.same_bytes.Given as goal

-- what is left tells what the whole does
abbrev pub invariant-loop-i : goal.invariant-loop-i
invariant-loop-i l = pointwise nat_eq (drop l.i l.a) (drop l.i l.b) ≡ pointwise nat_eq l.a l.b
