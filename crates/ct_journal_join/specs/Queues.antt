-- Messages that were sent and have not arrived, in queues of their numbers.
use Rattle.std.specs.Prelude.{◌≡◌, ℕ, ◌+◌, ◌<◌, List, [], ◌∷◌, ◌++◌, length, slice_index_or, slice_set}
use Rattle.ct_frame.specs.declared.frame.Frame.{Frame}
use Rattle.ct_law_journal_schedule.proofs.Carrying.{between}
use Rattle.ct_law_journal_schedule.specs.Scheduling.{Carried}

-- the queue to node n, and none where there is no such queue
unfoldable pub queue_to : ℕ → List (List ℕ) → List ℕ
queue_to n qs = slice_index_or qs n []

-- the queues of node s, and none where there is no such node
unfoldable pub queues_of : ℕ → List (List (List ℕ)) → List (List ℕ)
queues_of s senders = slice_index_or senders s []

-- each of these messages is put at the end of the queue to its receiver; the first of them gets number k
unfoldable pub queued : ℕ → List Frame → List (List ℕ) → List (List ℕ)
queued k [] qs = qs
queued k (f ∷ fs) qs = queued (k + 1) fs (slice_set qs f.receiver (queue_to f.receiver qs ++ k ∷ []))

-- The queues of these senders carry these messages: each of so many nodes has a queue to each, and in it stand the numbers of
-- the messages between the two, in order. A message to what is no node stands in no queue.
pub record Carry (nodes : ℕ) (senders : List (List (List ℕ))) (ms : List Carried) : Type 0 where
  pub size : length senders ≡ nodes
  pub sizes : (s : ℕ) → s < nodes → length (queues_of s senders) ≡ nodes
  pub each : (s n : ℕ) → n < nodes → queue_to n (queues_of s senders) ≡ between s n ms
