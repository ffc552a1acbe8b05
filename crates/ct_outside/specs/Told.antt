-- What is told of the outside, and counts that rise.
use Rattle.std.specs.Prelude.{ℕ, ◌≡◌, ◌≤◌, Bool, true, List, ◌++◌, Option, None, Some}
use Rattle.ct_outside.specs.Causes.{Rose}

-- what was told before is told afterwards, and the two agree; where nothing was told, nothing is claimed
abbrev pub Told : {A : Type 0} → Option A → Option A → (A → A → Type 0) → Type 0
Told None new P = Unit {0}
Told (Some a) None P = ⊥
Told (Some a) (Some b) P = P a b

-- a count never falls, and where something happened it rose
pub record RisesWhere (happened : Bool) (before now : ℕ) : Type 0 where
  pub later : before ≤ now
  pub rose : happened ≡ true → Rose before now

-- these were listed more. What is listed afterwards was listed before, with these behind; where nothing is listed any more,
-- nothing is claimed
abbrev pub Lists : {A : Type 0} → List A → Option (List A) → Option (List A) → Type 0
Lists more old None = Unit {0}
Lists more None (Some now) = ⊥
Lists more (Some before) (Some now) = now ≡ before ++ more
