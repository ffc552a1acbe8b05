-- Journals that grow entry by entry are in order.
use Rattle.std.specs.Prelude.{◌≡◌, ℕ, ◌+◌, ◌<◌, ◌^◌, nat_lt, true, List, [], length}
use Rattle.std.specs.List.{list_all}
use Rattle.ct_frame.specs.Fields.{ascends}
use Rattle.ct_frame.specs.declared.frame.Frame.{Frame}
use Rattle.ct_journal.specs.Order.{AreInOrder, all_entries, count_arrived, count_sent, entries_of, frames_in, numbers_of_calls, ticket_after}
use Rattle.ct_journal.specs.declared.journal.Journal.{Journal}
use Rattle.ct_journal.specs.declared.journal.JournalEntry.{JournalEntry}
use Rattle.ct_law_journal_growing.specs.Growing.{IsUnderWay, MayFollow, grown, is_own, posted, queue_at, taken_off}

-- Growing: it begins with journals that have no entries and queues that have no messages, with the ticket of the opening
abbrev pub BeginsToGrow : Type 0
BeginsToGrow = (js : List Journal) (qs : List (List Frame)) → ((n : ℕ) → entries_of js n ≡ []) → ((n : ℕ) → queue_at qs n ≡ []) → length qs ≡ length js → IsUnderWay js qs 1

-- Growing: it goes on where an event comes to a node that may come next, what it then does is noted as an entry of its journal,
-- and the messages that it sends are put into the queues
abbrev pub GoesOn : Type 0
GoesOn = (js : List Journal) (qs : List (List Frame)) (last n : ℕ) (x : JournalEntry) → IsUnderWay js qs last → n < length js → MayFollow n last qs x.event →
    list_all (is_own n (length js)) (frames_in x.outs) ≡ true → IsUnderWay (grown n x js) (posted (frames_in x.outs) (taken_off n x.event qs)) (ticket_after x.event last)

-- Growing: journals that have grown so are in order, where the numbers of calls rise in each and there are not too many entries
-- and messages
abbrev pub GrowsInOrder : Type 0
GrowsInOrder = (js : List Journal) (qs : List (List Frame)) (last : ℕ) → IsUnderWay js qs last → ((n : ℕ) → ascends nat_lt (numbers_of_calls (entries_of js n)) ≡ true) →
    length (all_entries js) + count_sent (all_entries js) < 2 ^ 61 → AreInOrder js

-- Growing: where no queue has a message, each message that was sent has arrived
abbrev pub AllArrives : Type 0
AllArrives = (js : List Journal) (qs : List (List Frame)) (last : ℕ) → IsUnderWay js qs last → ((n : ℕ) → queue_at qs n ≡ []) → count_sent (all_entries js) ≡ count_arrived (all_entries js)

-- Growing: an entry more is counted with its messages
abbrev pub CountsGrown : Type 0
CountsGrown = (js : List Journal) (n : ℕ) (x : JournalEntry) → n < length js →
    length (all_entries (grown n x js)) + count_sent (all_entries (grown n x js)) ≡ length (all_entries js) + count_sent (all_entries js) + (1 + length (frames_in x.outs))
