-- Entries by which a node follows its script.
use Rattle.std.specs.Prelude.{◌≡◌, ℕ, ◌+◌, nat_eq, Bool, true, ◌&&◌, List, [], ◌∷◌, take, Some}
use Rattle.std.specs.List.{list_all}
use Rattle.ct_frame.specs.declared.event.Event.{Event}
use Rattle.ct_frame.specs.declared.event.Event.TheVariants as event
use Rattle.ct_script.specs.declared.plan.PlanItem.{PlanItem}
use Rattle.ct_script.specs.declared.plan.PlanItem.TheVariants.{Call, Round}
use Rattle.ct_script.specs.Cues.{cue_over, first_cue, is_played, items_in, next_item}
use Rattle.ct_script.specs.declared.cue.Cue.{Cue}
use Rattle.ct_journal.specs.Order.{numbers_of_calls}
use Rattle.ct_journal.specs.declared.journal.JournalEntry.{JournalEntry}

-- each of these numbers is the one after that before it, and the first is the one after this
unfoldable pub counts_up : ℕ → List ℕ → Bool
counts_up last [] = true
counts_up last (n ∷ ns) = nat_eq n (last + 1) && counts_up n ns

-- Scripts: a node that had some entries before follows its script with these entries since, and this is its cue: they have the
-- first items of the script and else arrivals alone, and the calls have the next numbers, one by one
pub record Follows (script : List PlanItem) (before since : List JournalEntry) (cue : Cue) : Type 0 where
  pub cue_is : cue ≡ cue_over since (first_cue before)
  pub items : items_in since ≡ take cue.taken script
  pub played : list_all (λ x. is_played x.event) since ≡ true
  pub numbers : counts_up (first_cue before).calls (numbers_of_calls since) ≡ true

-- Scripts: a node with this cue may take this event next: the call that is its next item, under the next number, the round that
-- is its next item, or a message that arrives
unfoldable pub TakesNext : List PlanItem → Cue → Event → Type 0
TakesNext script cue (event.Client call o) = (call ≡ cue.calls + 1) × (next_item script cue ≡ Some (Call o))
TakesNext script cue (event.BeginRound ticket members) = next_item script cue ≡ Some (Round members)
TakesNext script cue (event.Arrive f) = Unit {0}
TakesNext script cue event.Retry = ⊥
TakesNext script cue (event.Vacuum db) = ⊥
TakesNext script cue (event.BeginTakeover able) = ⊥
