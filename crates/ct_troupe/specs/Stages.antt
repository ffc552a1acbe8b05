-- All nodes of a plan, in turn.
use Rattle.std.specs.Prelude.{◌≡◌, ℕ, ◌+◌, ◌<◌, ◌≤◌, ◌^◌, ◌⊎◌, Bool, true, false, List, [], length, map, None, Some, slice_get, slice_set}
use Rattle.std.specs.List.{list_all}
use Rattle.ct_call.specs.Rules.{Rules}
use Rattle.ct_script.specs.Cues.{most_entries, next_item}
use Rattle.ct_frame.specs.declared.event.Event.{Event}
use Rattle.ct_frame.specs.declared.frame.Frame.{Frame}
use Rattle.ct_script.specs.declared.plan.Plan.{Plan}
use Rattle.ct_journal.specs.Order.{all_entries, count_sent, entries_of, frames_in, ticket_after}
use Rattle.ct_journal.specs.declared.journal.Journal.{Journal}
use Rattle.ct_journal.specs.declared.journal.JournalEntry.{JournalEntry}
use Rattle.ct_law_journal_growing.specs.Growing.{IsUnderWay, MayFollow, posted, queue_at, taken_off}
use Rattle.ct_journal_order.specs.Order.{left_over}
use Rattle.ct_script.specs.Sound.{script_of}
use Rattle.ct_actor.specs.Queues.{is_for}
use Rattle.ct_actor.specs.Seats.{IsSeatOf, TakesEvent}
use Rattle.ct_actor.specs.declared.seat.Seat.{Seat}
use Rattle.ct_troupe.specs.declared.stage.Stage.{Stage}

-- the nodes of a plan, the messages that wait for each, the last ticket, and how many entries and messages there are
pub record Staged : Type 0 where
  pub seats : List Seat
  pub queues : List (List Frame)
  pub ticket : ℕ
  pub count : ℕ

abbrev pub seen : Stage → Staged
seen s = record { seats = s.seats.items; queues = s.queues.items; ticket = s.ticket; count = s.count }

abbrev pub journal_of : Seat → Journal
journal_of s = record { node = s.node.core.pnn; entries = s.node.entries }

-- the journals of these nodes
abbrev pub journals_of : List Seat → List Journal
journals_of seats = map journal_of seats

-- Turns: a plan is played by these rules: each node follows its script, their journals are in order so far, and the messages
-- that wait may arrive
pub record IsPlaying (rules : Rules) (p : Plan) (s : Staged) : Type 0 where
  pub seats : length s.seats ≡ p.config.nodes
  pub each : (n : ℕ) (x : Seat) → slice_get s.seats n ≡ Some x → IsSeatOf rules p n x
  pub way : IsUnderWay (journals_of s.seats) s.queues s.ticket
  pub waiting : (n : ℕ) → list_all (is_for n) (queue_at s.queues n) ≡ true
  pub count : length (all_entries (journals_of s.seats)) + count_sent (all_entries (journals_of s.seats)) ≡ s.count
  pub few : s.count < 2 ^ 61
  pub tickets : s.ticket ≤ s.count + 1

-- what a node did is noted: the last ticket is that of a round, its messages wait for their receivers, and all are counted
pub record IsNoted (x : JournalEntry) (old new : Staged) : Type 0 where
  pub seats : new.seats ≡ old.seats
  pub queues : new.queues ≡ posted (frames_in x.outs) old.queues
  pub ticket : new.ticket ≡ ticket_after x.event old.ticket
  pub count : new.count ≡ old.count + (1 + length (frames_in x.outs))
  pub few : new.count < 2 ^ 61

-- Turns: a node takes nothing more: its journal has 1,000,000 entries, or no message waits for it and it may take no item
abbrev pub Rests : Plan → ℕ → Staged → Type 0
Rests p n s = (x : Seat) → slice_get s.seats n ≡ Some x → (most_entries ≤ length x.node.entries) ⊎ ((queue_at s.queues n ≡ []) × (next_item (script_of p n) x.cue ≡ None))

-- Turns: node n takes an event that may come to it next
pub record TakesOne (rules : Rules) (p : Plan) (n : ℕ) (old new : Staged) : Type 0 where
  pub event : Event
  pub before : Seat
  pub after : Seat
  pub at : slice_get old.seats n ≡ Some before
  pub takes : TakesEvent rules p n event before after
  pub follows : MayFollow n old.ticket old.queues event
  pub seats : new.seats ≡ slice_set old.seats n after
  pub queues : new.queues ≡ taken_off n event old.queues
  pub ticket : new.ticket ≡ old.ticket
  pub count : new.count ≡ old.count

-- Turns: node n takes an event, or it rests, and then nothing is changed
abbrev pub TakesSome : Rules → Plan → ℕ → Bool → Staged → Staged → Type 0
TakesSome rules p n true old new = TakesOne rules p n old new
TakesSome rules p n false old new = (new ≡ old) × Rests p n old

-- Turns: a node has had its turn: it took something, or it rests, and then nothing is changed
abbrev pub Turns : Rules → Plan → ℕ → Bool → Staged → Staged → Type 0
Turns rules p n true old new = IsPlaying rules p new × (old.count < new.count)
Turns rules p n false old new = (new ≡ old) × Rests p n old

-- Turns: each node has had its turn: some took something, or all rest, and then nothing is changed
abbrev pub Passes : Rules → Plan → Bool → Staged → Staged → Type 0
Passes rules p true old new = IsPlaying rules p new × (old.count < new.count)
Passes rules p false old new = (new ≡ old) × ((n : ℕ) → n < p.config.nodes → Rests p n old)

-- Turns: a plan was played to its end: all nodes rest
pub record IsAtRest (rules : Rules) (p : Plan) (s : Staged) : Type 0 where
  pub playing : IsPlaying rules p s
  pub rests : (n : ℕ) → n < p.config.nodes → Rests p n s

-- Turns: where no journal has 1,000,000 entries, each message that was sent has arrived
abbrev pub AllHaveArrived : List Journal → Type 0
AllHaveArrived js = ((n : ℕ) → length (entries_of js n) < most_entries) → left_over js ≡ 0
