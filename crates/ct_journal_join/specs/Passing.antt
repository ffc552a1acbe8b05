-- How far steps are made, with queues of the messages that have not arrived, and when steps may be made for the next entry of a
-- node.
use Rattle.std.specs.Prelude.{◌≡◌, ℕ, ◌+◌, ◌^◌, ◌<◌, List, length, Option, None, Some}
use Rattle.ct_journal.specs.Order.{Front, frames_in, taken_of}
use Rattle.ct_journal.specs.declared.journal.JournalEntry.{JournalEntry}
use Rattle.ct_journal_join.specs.Queues.{Carry}
use Rattle.ct_law_journal_schedule.specs.Scheduling.{Scheduling}

-- how far steps are made, where the messages of each node that have not arrived stand in its queues
pub record Queueing : Type 0 where
  pub front : Front
  pub sent : ℕ
  pub outgoing : List (List (List ℕ))
  pub holder : Option ℕ

-- the queues carry what has not arrived, and all else is the same
pub record AgreesWith (k : Scheduling) (q : Queueing) : Type 0 where
  pub front : q.front ≡ k.front
  pub sent : q.sent ≡ k.sent
  pub carried : Carry (length q.front.taken) q.outgoing k.carried
  pub holder : q.holder ≡ k.holder

-- this entry of node n may be passed: the node has its place and its queues, and the counts stay below 2^62
abbrev pub MayPass : ℕ → Option JournalEntry → Queueing → Type 0
MayPass n None q = Unit {0}
MayPass n (Some x) q = (n < length q.front.taken) × (n < length q.outgoing) × (taken_of q.front n < 2 ^ 62) × (q.sent + length (frames_in x.outs) < 2 ^ 62)
