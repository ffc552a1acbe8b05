-- Journals in order: one after the other, their entries make a run of all nodes, in which the messages of each node to another
-- arrive as they were sent.
use Rattle.std.specs.Prelude.{◌≡◌, ℕ, ◌+◌, ◌^◌, ◌<◌, nat_eq, nat_lt, Bool, true, false, if◌then◌else◌, List, [], ◌∷◌, ◌++◌, length, replicate, take, Option, None, Some, slice_get, slice_set}
use Rattle.ct_frame.specs.Fields.{ascends}
use Rattle.ct_frame.specs.declared.event.Event.{Event}
use Rattle.ct_frame.specs.declared.event.Event.TheVariants as event
use Rattle.ct_frame.specs.declared.event.Out.{Out}
use Rattle.ct_frame.specs.declared.event.Out.TheVariants as out
use Rattle.ct_frame.specs.declared.frame.Frame.{Frame}
use Rattle.ct_rules_node.specs.Node.{is_among, or_zero}
use Rattle.ct_journal.specs.declared.journal.Journal.{Journal}
use Rattle.ct_journal.specs.declared.journal.JournalEntry.{JournalEntry}

-- ---- what entries send and take

-- the messages among what a node does
unfoldable pub frames_in : List Out → List Frame
frames_in [] = []
frames_in (out.Send f ∷ xs) = f ∷ frames_in xs
frames_in (out.Answer call a ∷ xs) = frames_in xs
frames_in (out.Note x ∷ xs) = frames_in xs

-- those of these messages that go to node n
unfoldable pub frames_to : ℕ → List Frame → List Frame
frames_to n [] = []
frames_to n (f ∷ fs) = if nat_eq f.receiver n then f ∷ frames_to n fs else frames_to n fs

-- the messages that these entries send to node n, in order
unfoldable pub sent_to : ℕ → List JournalEntry → List Frame
sent_to n [] = []
sent_to n (x ∷ xs) = frames_to n (frames_in x.outs) ++ sent_to n xs

-- is it the arrival of a message of node s?
unfoldable pub is_from : ℕ → Event → Bool
is_from s (event.Arrive f) = nat_eq f.sender s
is_from s _ = false

-- how many messages of node s arrive in these entries
unfoldable pub arrived_from : ℕ → List JournalEntry → ℕ
arrived_from s [] = 0
arrived_from s (x ∷ xs) = if is_from s x.event then 1 + arrived_from s xs else arrived_from s xs

-- the numbers of the client calls in these entries, in order
unfoldable pub numbers_of_calls : List JournalEntry → List ℕ
numbers_of_calls [] = []
numbers_of_calls (x ∷ xs) = with_number x.event (numbers_of_calls xs)
  where
    with_number : Event → List ℕ → List ℕ
    with_number (event.Client call o) ns = call ∷ ns
    with_number _ ns = ns

-- ---- fronts

-- a front: how many entries of each journal stand in the list so far, and the ticket that was given last
pub record Front : Type 0 where
  pub taken : List ℕ
  pub ticket : ℕ

-- nothing stands in the list, and ticket 1 is that of the opening
unfoldable pub first_front : List Journal → Front
first_front js = record { taken = replicate (length js) 0; ticket = 1 }

-- the entries of a journal, and none where there is no journal
unfoldable pub or_no_entries : Option Journal → List JournalEntry
or_no_entries None = []
or_no_entries (Some j) = j.entries

-- the entries of node n
unfoldable pub entries_of : List Journal → ℕ → List JournalEntry
entries_of js n = or_no_entries (slice_get js n)

-- how many entries of node n stand in the list so far
unfoldable pub taken_of : Front → ℕ → ℕ
taken_of f n = or_zero (slice_get f.taken n)

-- the entries of node n that stand in the list so far
unfoldable pub past_of : List Journal → Front → ℕ → List JournalEntry
past_of js f n = take (taken_of f n) (entries_of js n)

-- the entry of node n that comes next
unfoldable pub next_entry : List Journal → Front → ℕ → Option JournalEntry
next_entry js f n = slice_get (entries_of js n) (taken_of f n)

-- In order: an entry of node n with this event may stand next in the list. A call may. A message is the first that its sender
-- has sent to n and that had not arrived. The ticket of a round is the one after the last, and the node is a member. Nothing
-- else is an event of such journals.
unfoldable pub MayStand : List Journal → Front → ℕ → Event → Type 0
MayStand js f n (event.Client call o) = Unit {0}
MayStand js f n (event.Arrive m) = slice_get (sent_to n (past_of js f m.sender)) (arrived_from m.sender (past_of js f n)) ≡ Some m
MayStand js f n (event.BeginRound ticket members) = (ticket ≡ f.ticket + 1) × (is_among n members ≡ true)
MayStand js f n event.Retry = ⊥
MayStand js f n (event.Vacuum db) = ⊥
MayStand js f n (event.BeginTakeover able) = ⊥

-- the last ticket once an event has come
unfoldable pub ticket_after : Event → ℕ → ℕ
ticket_after (event.BeginRound ticket members) last = ticket
ticket_after _ last = last

-- the front once an entry of node n with this event stands in the list
unfoldable pub front_after : ℕ → Event → Front → Front
front_after n e f = record { taken = slice_set f.taken n (taken_of f n + 1); ticket = ticket_after e f.ticket }

-- In order: from one front to another, entries of these nodes stand next in the list, one after the other
unfoldable pub Stand : List Journal → Front → List ℕ → Front → Type 0
Stand js f [] g = f ≡ g
Stand js f (n ∷ ns) g = (x : JournalEntry) × (next_entry js f n ≡ Some x) × (MayStand js f n x.event) × (Stand js (front_after n x.event f) ns g)

-- ---- the whole

-- how many messages these entries send
unfoldable pub count_sent : List JournalEntry → ℕ
count_sent [] = 0
count_sent (x ∷ xs) = length (frames_in x.outs) + count_sent xs

-- is it the arrival of a message?
unfoldable pub is_arrival : Event → Bool
is_arrival (event.Arrive f) = true
is_arrival _ = false

-- how many messages arrive in these entries
unfoldable pub count_arrived : List JournalEntry → ℕ
count_arrived [] = 0
count_arrived (x ∷ xs) = if is_arrival x.event then 1 + count_arrived xs else count_arrived xs

-- all entries, journal by journal
unfoldable pub all_entries : List Journal → List JournalEntry
all_entries [] = []
all_entries (j ∷ js) = j.entries ++ all_entries js

-- In order: all entries of the journals stand in one list, each journal's in its own order, and each may stand there; the
-- numbers of the calls of each journal rise strictly; the entries and the messages that they send are together fewer than 2^61.
-- The journal at place n is that of node n.
pub record AreInOrder (js : List Journal) : Type 0 where
  pub order : List ℕ  -- of which journal each entry of the list is
  pub end : Front
  pub stand : Stand js (first_front js) order end
  pub whole : (n : ℕ) → taken_of end n ≡ length (entries_of js n)
  pub calls : (n : ℕ) → ascends nat_lt (numbers_of_calls (entries_of js n)) ≡ true
  pub few : length (all_entries js) + count_sent (all_entries js) < 2 ^ 61
