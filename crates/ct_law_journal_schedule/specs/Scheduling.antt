-- The steps of the cluster that make the entries of journals in order.
use Rattle.std.specs.Prelude.{ℕ, ◌+◌, nat_eq, Bool, ◌&&◌, if◌then◌else◌, List, [], ◌∷◌, ◌++◌, length, Option, None, Some}
use Rattle.ct_frame.specs.declared.event.Event.{Event}
use Rattle.ct_frame.specs.declared.event.Event.TheVariants as event
use Rattle.ct_frame.specs.declared.frame.Frame.{Frame}
use Rattle.ct_rules_cluster.specs.declared.step.Step.{Step}
use Rattle.ct_rules_cluster.specs.declared.step.Step.TheVariants as step
use Rattle.ct_journal.specs.Order.{Front, first_front, frames_in, front_after, next_entry}
use Rattle.ct_journal.specs.declared.journal.Journal.{Journal}
use Rattle.ct_journal.specs.declared.journal.JournalEntry.{JournalEntry}

-- ---- messages that were sent and have not arrived

-- a message that was sent and has not arrived, by its number; messages are numbered from 1, as they are sent
pub record Carried : Type 0 where
  pub number : ℕ
  pub sender : ℕ
  pub receiver : ℕ

-- is it a message from node s to node n?
unfoldable pub is_between : ℕ → ℕ → Carried → Bool
is_between s n m = nat_eq m.sender s && nat_eq m.receiver n

-- the number of the first of these messages from node s to node n, and 0 where there is none
unfoldable pub first_between : ℕ → ℕ → List Carried → ℕ
first_between s n [] = 0
first_between s n (m ∷ ms) = if is_between s n m then m.number else first_between s n ms

-- these messages without the first from node s to node n
unfoldable pub without_first : ℕ → ℕ → List Carried → List Carried
without_first s n [] = []
without_first s n (m ∷ ms) = if is_between s n m then ms else m ∷ without_first s n ms

-- messages that node s sends, the first of which gets number k
unfoldable pub carried_of : ℕ → ℕ → List Frame → List Carried
carried_of s k [] = []
carried_of s k (f ∷ fs) = record { number = k; sender = s; receiver = f.receiver } ∷ carried_of s (k + 1) fs

-- ---- how far steps are made

-- How far steps are made: the front of the entries that they make, how many messages these entries sent, those of them that
-- have not arrived, as they were sent, and who holds the recovery lock
pub record Scheduling : Type 0 where
  pub front : Front
  pub sent : ℕ
  pub carried : List Carried
  pub holder : Option ℕ

-- no steps are made
unfoldable pub first_scheduling : List Journal → Scheduling
first_scheduling js = record { front = first_front js; sent = 0; carried = []; holder = None }

-- where another node than n holds the recovery lock, it gives the lock back
unfoldable pub yields : ℕ → Option ℕ → List Step
yields n None = []
yields n (Some h) = if nat_eq h n then [] else step.Yield h ∷ []

-- Schedules: the steps for an entry of node n with this event. A call is asked. A message that arrives is delivered: it is the
-- first from its sender to n that has not arrived. Before a round, another node that holds the recovery lock gives it back.
unfoldable pub steps_for : ℕ → Event → Scheduling → List Step
steps_for n (event.Client call o) k = step.Client n o ∷ []
steps_for n (event.Arrive m) k = step.Deliver (first_between m.sender n k.carried) ∷ []
steps_for n event.Retry k = step.Retry n ∷ []
steps_for n (event.Vacuum db) k = step.Vacuum n db ∷ []
steps_for n (event.BeginRound ticket members) k = yields n k.holder ++ step.Recover n members ∷ []
steps_for n (event.BeginTakeover able) k = step.Takeover n ∷ []

-- the messages that have not arrived once an event has come to node n
unfoldable pub carried_after : ℕ → Event → List Carried → List Carried
carried_after n (event.Arrive m) ms = without_first m.sender n ms
carried_after n _ ms = ms

-- who holds the recovery lock once an event has come to node n
unfoldable pub holder_after : ℕ → Event → Option ℕ → Option ℕ
holder_after n (event.BeginRound ticket members) h = Some n
holder_after n _ h = h

-- how far steps are made with those for an entry of node n
unfoldable pub scheduling_after : ℕ → JournalEntry → Scheduling → Scheduling
scheduling_after n x k = record {
  front = front_after n x.event k.front;
  sent = k.sent + length (frames_in x.outs);
  carried = carried_after n x.event k.carried ++ carried_of n (k.sent + 1) (frames_in x.outs);
  holder = holder_after n x.event k.holder;
}

-- the steps for an entry of node n, and none where it has no more
unfoldable pub steps_next : ℕ → Option JournalEntry → Scheduling → List Step
steps_next n None k = []
steps_next n (Some x) k = steps_for n x.event k

-- how far steps are made with these
unfoldable pub scheduling_next : ℕ → Option JournalEntry → Scheduling → Scheduling
scheduling_next n None k = k
scheduling_next n (Some x) k = scheduling_after n x k

-- the steps for the next entries of these nodes, one after the other
unfoldable pub schedule_from : List Journal → Scheduling → List ℕ → List Step
schedule_from js k [] = []
schedule_from js k (n ∷ ns) = steps_next n (next_entry js k.front n) k ++ schedule_from js (scheduling_next n (next_entry js k.front n) k) ns

-- Schedules: the steps for all entries of journals, whose nodes have their entries in this order
unfoldable pub schedule_of : List Journal → List ℕ → List Step
schedule_of js order = schedule_from js (first_scheduling js) order
