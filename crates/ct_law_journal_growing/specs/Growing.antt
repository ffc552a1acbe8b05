-- Journals that grow, entry by entry, while the messages on their way stand in queues.
use Rattle.std.specs.Prelude.{◌≡◌, ℕ, suc, zero, ◌+◌, nat_eq, nat_lt, Bool, true, ◌&&◌, if◌then◌else◌, List, [], ◌∷◌, ◌++◌, length, drop, Option, None, Some, slice_get, slice_set}
use Rattle.ct_frame.specs.declared.event.Event.{Event}
use Rattle.ct_frame.specs.declared.event.Event.TheVariants as event
use Rattle.ct_frame.specs.declared.frame.Frame.{Frame}
use Rattle.ct_rules_node.specs.Node.{is_among}
use Rattle.ct_journal.specs.Going.{IsWhole}
use Rattle.ct_journal.specs.Order.{Front, Stand, all_entries, arrived_from, count_arrived, count_sent, entries_of, first_front, sent_to}
use Rattle.ct_journal.specs.declared.journal.Journal.{Journal}
use Rattle.ct_journal.specs.declared.journal.JournalEntry.{JournalEntry}

-- Growing: these journals, with one entry more at the end of that at place n
unfoldable pub grown : ℕ → JournalEntry → List Journal → List Journal
grown n x [] = []
grown zero x (j ∷ js) = record j { entries = j.entries ++ x ∷ [] } ∷ js
grown (suc n) x (j ∷ js) = j ∷ grown n x js

-- ---- queues

-- the messages of a queue, and none where there is no queue
unfoldable pub or_no_frames : Option (List Frame) → List Frame
or_no_frames None = []
or_no_frames (Some fs) = fs

-- the queue of node n: the messages to it that have not arrived
unfoldable pub queue_at : List (List Frame) → ℕ → List Frame
queue_at qs n = or_no_frames (slice_get qs n)

-- Growing: each of these messages is put at the end of its receiver's queue
unfoldable pub posted : List Frame → List (List Frame) → List (List Frame)
posted [] qs = qs
posted (f ∷ fs) qs = posted fs (slice_set qs f.receiver (queue_at qs f.receiver ++ f ∷ []))

-- Growing: the queues once an event has come to node n: a message that arrives is taken off
unfoldable pub taken_off : ℕ → Event → List (List Frame) → List (List Frame)
taken_off n (event.Arrive m) qs = slice_set qs n (drop 1 (queue_at qs n))
taken_off n _ qs = qs

-- those of these messages that node s sent
unfoldable pub from_node : ℕ → List Frame → List Frame
from_node s [] = []
from_node s (f ∷ fs) = if nat_eq f.sender s then f ∷ from_node s fs else from_node s fs

-- how many messages stand in all queues
unfoldable pub count_queued : List (List Frame) → ℕ
count_queued [] = 0
count_queued (q ∷ qs) = length q + count_queued qs

-- is it a message of node n to one of so many nodes?
unfoldable pub is_own : ℕ → ℕ → Frame → Bool
is_own n nodes f = nat_eq f.sender n && nat_lt f.receiver nodes

-- ---- a play under way

-- Growing: this event may come to node n next, where these messages wait and this ticket was given last: a call, the first
-- message of its queue, or a round with the next ticket, of which it is a member
unfoldable pub MayFollow : ℕ → ℕ → List (List Frame) → Event → Type 0
MayFollow n last qs (event.Client call o) = Unit {0}
MayFollow n last qs (event.Arrive m) = (rest : List Frame) × (queue_at qs n ≡ m ∷ rest)
MayFollow n last qs (event.BeginRound ticket members) = (ticket ≡ last + 1) × (is_among n members ≡ true)
MayFollow n last qs event.Retry = ⊥
MayFollow n last qs (event.Vacuum db) = ⊥
MayFollow n last qs (event.BeginTakeover able) = ⊥

-- Of what was sent so much has arrived, from the front on, and the rest waits
pub record Carries (sent : List Frame) (arrived : ℕ) (waiting : List Frame) : Type 0 where
  pub front : List Frame
  pub count : length front ≡ arrived
  pub all : sent ≡ front ++ waiting

-- Growing: all entries of the journals stand in one list, the last ticket is this one, and the messages that have not arrived
-- wait in the queues, those of each sender in the order in which they were sent.
pub record IsUnderWay (js : List Journal) (qs : List (List Frame)) (last : ℕ) : Type 0 where
  pub order : List ℕ
  pub end : Front
  pub stand : Stand js (first_front js) order end
  pub whole : IsWhole js end
  pub ticket : end.ticket ≡ last
  pub places : length end.taken ≡ length js
  pub queues : length qs ≡ length js
  pub carried : (n s : ℕ) → Carries (sent_to n (entries_of js s)) (arrived_from s (entries_of js n)) (from_node s (queue_at qs n))
  pub counted : count_sent (all_entries js) ≡ count_arrived (all_entries js) + count_queued qs
