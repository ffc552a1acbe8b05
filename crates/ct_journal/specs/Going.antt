-- Putting whatever may stand next ends with all entries, where any list has them all.
use Rattle.std.specs.Prelude.{◌≡◌, ℕ, ◌≤◌, List, length, Some}
use Rattle.ct_frame.specs.declared.event.Event.{Event}
use Rattle.ct_journal.specs.Order.{Front, MayStand, Stand, entries_of, first_front, next_entry, taken_of}
use Rattle.ct_journal.specs.declared.journal.Journal.{Journal}
use Rattle.ct_journal.specs.declared.journal.JournalEntry.{JournalEntry}

-- one front has of each journal no more entries than another
abbrev pub IsWithin : Front → Front → Type 0
IsWithin f g = (n : ℕ) → taken_of f n ≤ taken_of g n

-- no entry may stand next
abbrev pub IsStuck : List Journal → Front → Type 0
IsStuck js f = (n : ℕ) (x : JournalEntry) → next_entry js f n ≡ Some x → MayStand js f n x.event → ⊥

-- In order: what may stand next may still stand once entries of other nodes are put, as long as no round is among them
abbrev pub MayStandLater : Type 0
MayStandLater = (js : List Journal) (f g : Front) (n : ℕ) (e : Event) → IsWithin f g → taken_of f n ≡ taken_of g n → f.ticket ≡ g.ticket → MayStand js f n e → MayStand js g n e

-- a front has all entries
abbrev pub IsWhole : List Journal → Front → Type 0
IsWhole js f = (n : ℕ) → taken_of f n ≡ length (entries_of js n)

-- In order: where some list has all entries, so has every list after which no entry may stand
abbrev pub AnyWayEnds : Type 0
AnyWayEnds = (js : List Journal) (order other : List ℕ) (end stop : Front) →
    Stand js (first_front js) order end → IsWhole js end → Stand js (first_front js) other stop → IsStuck js stop → IsWhole js stop
