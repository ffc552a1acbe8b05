-- What the seats at a bus show: which queues they are ends of, and what went through.
use Rattle.std.specs.Prelude.{◌≡◌, ℕ, ◌<◌, List, [], length, map, Some, slice_get, slice_index_or}
use Rattle.atomic_table.specs.Seated.{TableId}
use Rattle.ct_bus.specs.Ends.{posted_to, taken_from, into_queue, out_queue}
use Rattle.ct_bus.specs.Relay.{IsFront}
use Rattle.ct_bus.specs.declared.message.Message.{Message}
use Rattle.ct_bus.specs.declared.seat.SendSeat.{SendSeat}
use Rattle.ct_bus.specs.declared.seat.ReceiveSeat.{ReceiveSeat}

-- Bus: the queues of a bus, by the node that posts, and then by the one that takes
abbrev pub Queues : Type 0
Queues = List (List TableId)

-- a node's number; and for each node which queue joins them, and what went through it so far
pub record Shown : Type 0 where
  pub node : ℕ
  pub queues : List TableId
  pub messages : List (List Message)

-- what a seat shows that posts: the queue to each node, and what was posted to it
abbrev pub sending : SendSeat → Shown
sending s = record { node = s.me; queues = map into_queue s.ends.items; messages = map posted_to s.ends.items }

-- what a seat shows that takes: the queue from each node, and what was taken of it
abbrev pub receiving : ReceiveSeat → Shown
receiving s = record { node = s.me; queues = map out_queue s.ends.items; messages = map taken_from s.ends.items }

-- what was posted to each node
abbrev pub posted_by : SendSeat → List (List Message)
posted_by s = (sending s).messages

-- what was taken from each node
abbrev pub taken_by : ReceiveSeat → List (List Message)
taken_by s = (receiving s).messages

-- the messages of this node
abbrev pub messages_of : ℕ → List (List Message) → List Message
messages_of node all = slice_index_or all node []

-- what was posted to this node
abbrev pub posted_at : ℕ → SendSeat → List Message
posted_at node s = messages_of node (posted_by s)

-- what was taken from this node
abbrev pub taken_at : ℕ → ReceiveSeat → List Message
taken_at node s = messages_of node (taken_by s)

-- Bus: the seat posts to the queues of its node
pub record IsSending (bus : Queues) (s : Shown) : Type 0 where
  pub whole : length s.queues ≡ length bus
  pub row : slice_get bus s.node ≡ Some s.queues

-- Bus: the seat takes of the queues to its node
pub record IsReceiving (bus : Queues) (s : Shown) : Type 0 where
  pub node : s.node < length bus
  pub column : map (λ q. Some q) s.queues ≡ map (λ row. slice_get row s.node) bus

-- these seats post, one for each node in the order of their numbers
pub record AreSending (bus : Queues) (ss : List Shown) : Type 0 where
  pub count : length ss ≡ length bus
  pub each : (node : ℕ) (s : Shown) → slice_get ss node ≡ Some s → (s.node ≡ node) × IsSending bus s

-- these seats take, one for each node in the order of their numbers
pub record AreReceiving (bus : Queues) (ss : List Shown) : Type 0 where
  pub count : length ss ≡ length bus
  pub each : (node : ℕ) (s : Shown) → slice_get ss node ≡ Some s → (s.node ≡ node) × IsReceiving bus s

-- Bus: these are all seats of the bus
pub record AreSeats (bus : Queues) (senders : List SendSeat) (receivers : List ReceiveSeat) : Type 0 where
  pub sending : AreSending bus (map sending senders)
  pub receiving : AreReceiving bus (map receiving receivers)

-- nothing went through so far
abbrev pub AreNew : List Shown → Type 0
AreNew ss = (node other : ℕ) (s : Shown) → slice_get ss node ≡ Some s → messages_of other s.messages ≡ []

-- of what was posted to one node, what it took of each node is a front
abbrev pub AreFrontsTo : ℕ → List Shown → List (List Message) → Type 0
AreFrontsTo receiver posting taken = (sender : ℕ) (s : Shown) → slice_get posting sender ≡ Some s → IsFront (messages_of sender taken) (messages_of receiver s.messages)

-- Bus: of each pair of nodes, what was taken is a front of what was posted
abbrev pub AreFronts : List Shown → List Shown → Type 0
AreFronts posting taking = (receiver : ℕ) (r : Shown) → slice_get taking receiver ≡ Some r → AreFrontsTo receiver posting r.messages
