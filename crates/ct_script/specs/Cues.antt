-- How far a node is in its script: which items it has taken, and whether the last call of them is still to be answered.
use Rattle.std.specs.Prelude.{◌≡◌, ℕ, ◌+◌, ◌≤◌, ◌⊎◌, max, nat_eq, Bool, true, false, if◌then◌else◌, List, [], ◌∷◌, ◌++◌, length, Option, None, Some, slice_get}
use Rattle.std.specs.List.{list_all, list_any}
use Rattle.ct_frame.specs.declared.event.Event.{Event}
use Rattle.ct_frame.specs.declared.event.Event.TheVariants as event
use Rattle.ct_frame.specs.declared.event.Out.{Out}
use Rattle.ct_frame.specs.declared.event.Out.TheVariants as out
use Rattle.ct_script.specs.declared.plan.PlanItem.{PlanItem}
use Rattle.ct_script.specs.declared.plan.PlanItem.TheVariants.{Call, Round}
use Rattle.ct_journal.specs.declared.journal.JournalEntry.{JournalEntry}
use Rattle.ct_script.specs.declared.cue.Cue.{Cue}

-- ---- items in journals

-- the item of a script that an event is: a call of its client, or a round that it leads
unfoldable pub item_of : Event → Option PlanItem
item_of (event.Client call o) = Some (Call o)
item_of (event.BeginRound ticket members) = Some (Round members)
item_of _ = None

-- this item first, where there is one
unfoldable pub with_item : Option PlanItem → List PlanItem → List PlanItem
with_item None is = is
with_item (Some i) is = i ∷ is

-- Scripts: the items that stand in entries, in order
unfoldable pub items_in : List JournalEntry → List PlanItem
items_in [] = []
items_in (x ∷ xs) = with_item (item_of x.event) (items_in xs)

-- Scripts: does the event come to a node that follows a script? A call, a round, and the arrival of a message.
unfoldable pub is_played : Event → Bool
is_played (event.Client call o) = true
is_played (event.BeginRound ticket members) = true
is_played (event.Arrive f) = true
is_played _ = false

-- ---- cues

-- the number of the call, and 0 where the event is none
unfoldable pub number_of_call : Event → ℕ
number_of_call (event.Client call o) = call
number_of_call _ = 0

-- the greatest number of a call in these entries, and 0 where there is none
unfoldable pub greatest_call : List JournalEntry → ℕ
greatest_call [] = 0
greatest_call (x ∷ xs) = max (number_of_call x.event) (greatest_call xs)

-- Scripts: the cue of a node with these entries before it takes the first item of its script
unfoldable pub first_cue : List JournalEntry → Cue
first_cue xs = record { taken = 0; calls = greatest_call xs; waits = None }

-- the cue once an event has come, before anything is done: a call takes an item and waits, a round takes an item
unfoldable pub begun : Event → Cue → Cue
begun (event.Client call o) c = record { taken = c.taken + 1; calls = call; waits = Some call }
begun (event.BeginRound ticket members) c = record c { taken = c.taken + 1 }
begun _ c = c

-- is it the answer to this call?
unfoldable pub is_answer_to : ℕ → Out → Bool
is_answer_to call (out.Answer n a) = nat_eq n call
is_answer_to call _ = false

-- the call that still waits once a node has done all this
unfoldable pub unanswered : List Out → Option ℕ → Option ℕ
unanswered outs None = None
unanswered outs (Some call) = if list_any (is_answer_to call) outs then None else Some call

-- Scripts: the cue with an entry more
unfoldable pub cue_after : JournalEntry → Cue → Cue
cue_after x c = record (begun x.event c) { waits = unanswered x.outs (begun x.event c).waits }

-- Scripts: the cue with these entries more, the first one first
unfoldable pub cue_over : List JournalEntry → Cue → Cue
cue_over [] c = c
cue_over (x ∷ xs) c = cue_over xs (cue_after x c)

-- the item at this place, unless a call waits
unfoldable pub item_unless : Option ℕ → ℕ → List PlanItem → Option PlanItem
item_unless None k script = slice_get script k
item_unless (Some call) k script = None

-- Scripts: the item that a node may take next
unfoldable pub next_item : List PlanItem → Cue → Option PlanItem
next_item script c = item_unless c.waits c.taken script

-- ---- scripts that were followed

-- Scripts: a node whose journal has so many entries takes no more
abbrev pub most_entries : ℕ
most_entries = 1000000

-- a call waits
unfoldable pub IsWaiting : Cue → Type 0
IsWaiting c = (call : ℕ) × (c.waits ≡ Some call)

-- Scripts: a journal has the first items of the script, in order, and else nothing but arrivals. Items are missing only where
-- the call before them has no answer in it, or where it has 1,000,000 entries or more.
pub record IsScripted (script : List PlanItem) (entries : List JournalEntry) : Type 0 where
  pub rest : List PlanItem  -- what is missing
  pub taken : items_in entries ++ rest ≡ script
  pub played : list_all (λ x. is_played x.event) entries ≡ true
  pub held_up : (rest ≡ []) ⊎ IsWaiting (cue_over entries (first_cue [])) ⊎ (most_entries ≤ length entries)
