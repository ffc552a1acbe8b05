-- Numbers in order, as the test of a list's order has it.
use Rattle.std.proofs.Common.{◌≡◌, ℕ, ◌<◌, zero, suc, true, List, [], ◌∷◌, arith}
use native.Mathlib.Numerals.{unary_clauses}
use Rattle.std.proofs.lemmas.Bool.{and_parts}
use Rattle.std.proofs.lemmas.Bool.Decides.{nat_tests}
use Rattle.std.specs.Prelude.{nat_lt}
use Rattle.std.specs.List.Sorted.{IsStrictlyIncreasing}
use Rattle.ct_frame.specs.Fields.{ascends, ascends_after}

above : (x y : ℕ) → nat_lt x y ≡ true → x < y
above x y e = grind (arith, nat_tests)

ascending_after : (x : ℕ) (xs : List ℕ) → ascends_after nat_lt x xs ≡ true → IsStrictlyIncreasing (x ∷ xs)
ascending_after x [] e k l = absurd (omega (arith, l))
ascending_after x (y ∷ ys) e zero l = above x y (and_parts _ _ e).0
ascending_after x (y ∷ ys) e (suc k) l = (let h = ascending_after y ys (and_parts _ _ e).1 k (omega (arith, l)) in simp unary_clauses (simp unary_clauses at h))

pub ascending : (members : List ℕ) → ascends nat_lt members ≡ true → IsStrictlyIncreasing members
ascending [] e k l = absurd (omega (arith, l))
ascending (x ∷ xs) e k l = ascending_after x xs e k l
