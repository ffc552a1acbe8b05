-- The state of a node that is there, and of one that is not.
use Rattle.std.proofs.Common.{◌≡◌, ℕ, zero, suc, ◌<◌, ◌≤◌, true, false, List, [], ◌∷◌, length, None, Some, refl, sym, ap, arith}
use Rattle.std.specs.Prelude.{nat_lt, slice_get, slice_index_or}
use Rattle.std.proofs.lemmas.Bool.{ltb-false, ltb-true}
use Rattle.ct_core.specs.Core.{Core}
use Rattle.ct_world.specs.World.{states_of}

there_in : (xs : List Core) (n : ℕ) (x : Core) → n < length xs → x ≡ slice_index_or xs n x → slice_get (states_of xs) n ≡ Some x.node
there_in [] n x l e = absurd (omega (arith, l))
there_in (y ∷ ys) zero x l e = ap (λ (z : Core). Some z.node) (sym e)
there_in (y ∷ ys) (suc n) x l e = there_in ys n x (omega (arith, l)) e

gone_in : (xs : List Core) (n : ℕ) → length xs ≤ n → slice_get (states_of xs) n ≡ None
gone_in [] n l = refl
gone_in (y ∷ ys) zero l = absurd (omega (arith, l))
gone_in (y ∷ ys) (suc n) l = gone_in ys n (omega (arith, l))

pub core_there : (xs : List Core) (n : ℕ) (x : Core) → true ≡ nat_lt n (length xs) → x ≡ slice_index_or xs n x → slice_get (states_of xs) n ≡ Some x.node
core_there xs n x l e = there_in xs n x (ltb-true n (length xs) (sym l)) e

pub core_gone : (xs : List Core) (n : ℕ) → false ≡ nat_lt n (length xs) → slice_get (states_of xs) n ≡ None
core_gone xs n l = gone_in xs n (ltb-false n (length xs) (sym l))
