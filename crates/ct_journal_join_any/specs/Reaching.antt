-- How far steps are made.
use Rattle.std.specs.Prelude.{◌≡◌, ℕ, ◌+◌, ◌-◌, ◌<◌, Bool, true, false, List, [], ◌∷◌, length, Some}
use Rattle.ct_call.specs.Rules.{Rules}
use Rattle.ct_journal.specs.declared.journal.Journal.{Journal}
use Rattle.ct_journal.specs.declared.journal.JournalEntry.{JournalEntry}
use Rattle.ct_law_journal_schedule.specs.Laws.{AreRuns}
use Rattle.ct_law_journal_reach.specs.Counts.{AreNotTooMany, entry_after}
use Rattle.ct_law_journal_reach.specs.Making.{HasMade, MayGo}
use Rattle.ct_journal_join_any.specs.declared.reach.Reach.{Reach}

-- Schedules: journals are runs and not too many, and these steps have made so many entries of each
pub record HasReached (rules : Rules) (js : List Journal) (r : Reach) : Type 0 where
  pub runs : AreRuns r.world.config rules js
  pub few : AreNotTooMany js
  pub made : HasMade r.world.config rules js r.steps.items r.world.cluster r.taken.items

-- the next entry of node n may not be made
abbrev pub IsHeldAt : List Journal → Reach → ℕ → Type 0
IsHeldAt js r n = (k : ℕ) (x : JournalEntry) → entry_after js r.taken.items n ≡ Some x → MayGo r.world.config js r.world.cluster r.taken.items n x.event k → ⊥

-- how many entries are left once so many of each journal are made
unfoldable pub unmade : List Journal → List ℕ → ℕ
unmade [] ts = 0
unmade (j ∷ js) [] = length j.entries + unmade js []
unmade (j ∷ js) (t ∷ ts) = (length j.entries - t) + unmade js ts

-- Schedules: more entries are made than before
pub record ReachesOn (rules : Rules) (js : List Journal) (old new : Reach) : Type 0 where
  pub reached : HasReached rules js new
  pub same : new.world.config ≡ old.world.config
  pub less : unmade js new.taken.items < unmade js old.taken.items

-- Schedules: more entries are made, or else nothing is changed and this holds
abbrev pub Reaches : Rules → List Journal → Type 0 → Bool → Reach → Reach → Type 0
Reaches rules js H true old new = ReachesOn rules js old new
Reaches rules js H false old new = (new ≡ old) × H
