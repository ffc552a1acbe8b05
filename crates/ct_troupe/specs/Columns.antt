-- What a play of columns leaves behind.
use Rattle.std.specs.Prelude.{◌≡◌, ℕ, ◌≤◌, List, [], length, Some, Result, Ok, Err, slice_get}
use Rattle.ct_call.specs.Rules.{Rules}
use Rattle.ct_script.specs.declared.plan.Plan.{Plan}
use Rattle.ct_journal.specs.declared.journal.Journal.{Journal}
use Rattle.ct_troupe.specs.Played.{ArePlayed}
use Rattle.ct_troupe.specs.declared.troupe.PlayFault.{PlayFault}

-- Columns: each plan was played, in the column of its place, and the columns beyond have no journals
pub record ArePlayedIn (rules : Rules) (ps : List Plan) (told : ℕ → List Journal) : Type 0 where
  pub played : (i : ℕ) (p : Plan) → slice_get ps i ≡ Some p → ArePlayed rules p (told i)
  pub beyond : (i : ℕ) → length ps ≤ i → told i ≡ []

-- Columns: the plans were played, or there are no journals in any column
abbrev pub HavePlayed : Rules → List Plan → Result (Unit {0}) PlayFault → (ℕ → List Journal) → Type 0
HavePlayed rules ps (Ok u) told = ArePlayedIn rules ps told
HavePlayed rules ps (Err f) told = (i : ℕ) → told i ≡ []
