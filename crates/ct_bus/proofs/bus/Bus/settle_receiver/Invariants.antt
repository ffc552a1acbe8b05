use Rattle.std.proofs.Common.{◌≡◌, List, ◌++◌, length, map}
use Rattle.ct_bus.specs.Ends.{taken_from}
use Rattle.ct_bus.specs.Seats.{AreFrontsTo, sending}
use Rattle.ct_bus.specs.declared.ends.TakeEnd.{TakeEnd}
use Rattle.ct_bus.proofs.bus.Bus.settle_receiver.Given as goal

-- the ends that were settled, and fronts of all that they took
abbrev pub invariant-loop-take : goal.invariant-loop-take
invariant-loop-take g l = (done : List TakeEnd) × (l.initial.take-iterator.rest.items ≡ done ++ l.take-iterator.rest.items) × (length done ≡ l.sender) × (map sending l.senders.items ≡ map sending l.initial.senders.items)
    × AreFrontsTo l.me (map sending l.initial.senders.items) (map taken_from done)
