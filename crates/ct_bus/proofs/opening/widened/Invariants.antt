use Rattle.std.proofs.Common.{◌≡◌, ◌++◌, map}
use Rattle.std.specs.Vec.Iter.{into_iter_items}
use Rattle.ct_bus.specs.Opening.{joined}
use Rattle.ct_bus.specs.Seats.{receiving}
use Rattle.ct_bus.proofs.opening.widened.Given as goal

-- the seats so far have an end more, and the others are to get one
abbrev pub invariant-loop-seat : goal.invariant-loop-seat
invariant-loop-seat l = map receiving l.all.items ++ joined (map receiving l.seat-iterator.rest.items) (into_iter_items l.rest) ≡ joined (map receiving l.initial.seat-iterator.rest.items) (into_iter_items l.initial.rest)
