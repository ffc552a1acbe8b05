-- What the seats of a bus show while it is made.
use Rattle.std.specs.Prelude.{◌≡◌, ℕ, List, [], ◌∷◌, ◌++◌, length, map, Some, slice_get}
use Rattle.atomic_table.specs.Seated.{TableId}
use Rattle.ct_bus.specs.Ends.{out_queue, taken_from}
use Rattle.ct_bus.specs.Seats.{Queues, Shown}
use Rattle.ct_bus.specs.declared.message.Message.{Message}
use Rattle.ct_bus.specs.declared.ends.TakeEnd.{TakeEnd}

-- nothing for each of them
abbrev pub nothing : List TableId → List (List Message)
nothing qs = map (λ q. []) qs

-- a node with these queues, through which nothing went
abbrev pub new_shown : ℕ → List TableId → Shown
new_shown node queues = record { node = node; queues = queues; messages = nothing queues }

-- an end more
abbrev pub with_end : TakeEnd → Shown → Shown
with_end e s = record { node = s.node; queues = s.queues ++ out_queue e ∷ []; messages = s.messages ++ taken_from e ∷ [] }

-- each has one end more, as long as there are ends
abbrev pub joined : List Shown → List TakeEnd → List Shown
joined [] es = []
joined (s ∷ ss) [] = []
joined (s ∷ ss) (e ∷ es) = with_end e s ∷ joined ss es

-- of each row of queues there is the node that posts to it
pub record AreRows (nodes : ℕ) (rows : Queues) (ss : List Shown) : Type 0 where
  pub count : length ss ≡ length rows
  pub each : (node : ℕ) (s : Shown) → slice_get ss node ≡ Some s → (s ≡ new_shown node s.queues) × (slice_get rows node ≡ Some s.queues) × (length s.queues ≡ nodes)

-- of the columns of queues so far there are so many nodes which take of them
pub record AreColumns (nodes : ℕ) (rows : Queues) (ss : List Shown) : Type 0 where
  pub count : length ss ≡ nodes
  pub each : (node : ℕ) (s : Shown) → slice_get ss node ≡ Some s → (s ≡ new_shown node s.queues) × (map (λ q. Some q) s.queues ≡ map (λ row. slice_get row node) rows)
