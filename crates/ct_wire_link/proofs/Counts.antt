-- Counts that rise.
use Rattle.std.proofs.Common.{ℕ, ◌≤◌, Bool, false, arith}
use Rattle.ct_outside.specs.Causes.{Rose}
use Rattle.ct_outside.specs.Told.{RisesWhere}

-- a count that had not fallen, and then rises where something happens
pub rises_later : (happened : Bool) (before mid now : ℕ) → before ≤ mid → RisesWhere happened mid now → RisesWhere happened before now
rises_later happened before mid now le r = record {
  later = omega (arith, r.later);
  rose = λ is. (let rose : Rose mid now = r.rose is in omega (arith, rose));
}

-- nothing happened
pub stays : (before now : ℕ) → before ≤ now → RisesWhere false before now
stays before now le = record { later = le; rose = λ is. absurd (cc) }
