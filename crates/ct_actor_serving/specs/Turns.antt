-- Turns of a node that serves: when one begins, which looks may wait, and which passes are made.
use Rattle.std.specs.Prelude.{◌≡◌, ℕ, ◌+◌, ◌⊎◌, nat_lt, Bool, true, false, not, ◌&&◌, List, [], ◌∷◌, ◌++◌, length, Option, Result, Ok, Err}
use Rattle.std.specs.Option.{is_none}
use Rattle.ct_script.specs.declared.plan.PlanItem.{PlanItem}
use Rattle.ct_journal.specs.declared.journal.JournalEntry.{JournalEntry}
use Rattle.ct_script.specs.Cues.{cue_over, first_cue, next_item}
use Rattle.ct_script.specs.declared.cue.Cue.{Cue}
use Rattle.ct_actor.specs.Journalled.{Journalled}
use Rattle.ct_outside.specs.Told.{Lists}
use Rattle.ct_actor_serving.specs.Serving.{is_full, most_turns}
use Rattle.ct_actor_serving.specs.declared.fault.Served.{Served}
use Rattle.ct_actor_serving.specs.declared.fault.Served.TheVariants as served
use Rattle.ct_actor_serving.specs.declared.fault.ServeFault.{ServeFault}
use Rattle.ct_actor_serving.specs.declared.fault.Until.{Until}

-- the entries that these turns made, one turn after the other
unfoldable pub made_in : List (List JournalEntry) → List JournalEntry
made_in [] = []
made_in (xs ∷ turns) = xs ++ made_in turns

-- Serving: may a turn begin, after so many of them, where the journal has so many entries?
abbrev pub may_turn : Until → ℕ → ℕ → Bool
may_turn u number count = nat_lt number (most_turns u) && not (is_full u count)

-- may each of these turns begin, the first one after so many, where the journal has so many entries?
unfoldable pub may_all_turn : Until → ℕ → ℕ → List (List JournalEntry) → Bool
may_all_turn u number count [] = true
may_all_turn u number count (xs ∷ turns) = may_turn u number count && may_all_turn u (number + 1) (count + length xs) turns

-- Serving: may a look wait? It may where no item of the script can be taken.
abbrev pub may_wait_at : List PlanItem → Cue → Bool
may_wait_at script c = is_none (next_item script c)

-- Serving: whether the look of each of these turns may wait, where the first begins with this cue
unfoldable pub permissions_over : List PlanItem → Cue → List (List JournalEntry) → List Bool
permissions_over script c [] = []
permissions_over script c (xs ∷ turns) = may_wait_at script c ∷ permissions_over script (cue_over xs c) turns

-- Serving: the passes before these turns, one before each: of this node, under the number of the turn
unfoldable pub passes_over : ℕ → ℕ → List (List JournalEntry) → List (ℕ × ℕ)
passes_over node number [] = []
passes_over node number (xs ∷ turns) = (node, number) ∷ passes_over node (number + 1) turns

-- what was made without a turn, by whether one more might have begun: nothing, unless none might. `Budget` is answered only there.
abbrev pub IsRest : Bool → List JournalEntry → Result Served ServeFault → Type 0
IsRest may rest (Ok served.Closed) = rest ≡ []
IsRest may rest (Ok served.Budget) = may ≡ false
IsRest may rest (Err f) = (rest ≡ []) ⊎ (may ≡ false)

-- Serving: a node served from x to y in turns, and then took what was left. Each turn began where one might. Before it the gate was
-- passed once, by this node, and in it the link was looked at once, with permission to wait exactly where no item could be taken.
pub record ServesTurns (u : Until) (script : List PlanItem) (result : Result Served ServeFault) (x y : Journalled) (old new : Option (List Bool)) (p q : Option (List (ℕ × ℕ))) : Type 0 where
  pub turns : List (List JournalEntry)
  pub rest : List JournalEntry
  pub all : y.entries ≡ x.entries ++ (made_in turns ++ rest)
  pub began : may_all_turn u 0 (length x.entries) turns ≡ true
  pub looks : Lists (permissions_over script (first_cue x.entries) turns) old new
  pub passes : Lists (passes_over x.core.pnn 0 turns) p q
  pub left : IsRest (may_turn u (length turns) (length x.entries + length (made_in turns))) rest result
