-- Of two that are put in order: what the tests say.
use Rattle.std.proofs.Common.{◌≡◌, ◌==◌, ℕ, true, false, ap, refl, arith}
use Rattle.std.proofs.lemmas.Bool.Decides.{nat_tests}
use Rattle.std.specs.Ordering.{is_lt, nat_cmp}
use Rattle.std.specs.declared.cmp.Ordering.{Ordering}
use Rattle.std.specs.declared.cmp.Ordering.TheVariants.{Less, Equal, Greater}

pub is_less : (o : Ordering) → is_lt o ≡ true → o ≡ Less
is_less Less h = refl
is_less Equal h = absurd (cc)
is_less Greater h = absurd (cc)

pub less_is : (o : Ordering) → o ≡ Less → is_lt o ≡ true
less_is o e = ap is_lt e

-- of two numbers that differ one is above where the other is not
pub number_rises : (m n : ℕ) → is_lt (nat_cmp n m) ≡ false → (m == n) ≡ false → nat_cmp m n ≡ Less
number_rises m n l e = grind (arith, nat_tests)
