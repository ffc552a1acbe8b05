use Rattle.std.proofs.Common.{◌≡◌, List, ◌++◌, map}
use Rattle.ct_bus.specs.Seats.{AreFronts, receiving, sending}
use Rattle.ct_bus.specs.declared.seat.ReceiveSeat.{ReceiveSeat}
use Rattle.ct_bus.proofs.bus.Bus.settle_up.Given as goal

-- the nodes that were settled, and fronts of all that they took
abbrev pub invariant-loop-receiver : goal.invariant-loop-receiver
invariant-loop-receiver g l = (done : List ReceiveSeat) × (l.initial.receiver-iterator.rest.items ≡ done ++ l.receiver-iterator.rest.items) × (map sending l.senders.items ≡ map sending l.initial.senders.items)
    × AreFronts (map sending l.initial.senders.items) (map receiving done)
