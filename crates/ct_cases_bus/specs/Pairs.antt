-- Two nodes at a bus, of which the first posts to the second.
use Rattle.std.specs.Prelude.{◌≡◌, ℕ, length}
use Rattle.ct_bus.specs.Seats.{IsReceiving, IsSending, Queues, Shown, messages_of}

-- the bus has two nodes: the seat of the first, from which so many messages went to the second, and the seat of that one
pub record ArePair (bus : Queues) (send : Shown) (posted : ℕ) (receive : Shown) : Type 0 where
  pub two : length bus ≡ 2
  pub sends : IsSending bus send
  pub first : send.node ≡ 0
  pub many : length (messages_of 1 send.messages) ≡ posted
  pub receives : IsReceiving bus receive
  pub second : receive.node ≡ 1
