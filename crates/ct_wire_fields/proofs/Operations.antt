-- A number that is not 0 is counted from 1.
use Rattle.std.proofs.Common.{◌≡◌, ℕ, zero, suc, cond, ltb, Option, None, refl, arith}

pub counted : {X : Type 0} (n : ℕ) (found : Option X) → (n ≡ 0 → ⊥) → cond (ltb 0 n) found None ≡ found
counted zero found some = absurd (some refl)
counted (suc n) found some = grind arith
