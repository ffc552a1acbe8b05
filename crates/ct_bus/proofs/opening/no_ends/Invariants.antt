use Rattle.std.proofs.Common.{◌≤◌, [], map}
use Rattle.ct_bus.specs.Opening.{AreColumns}
use Rattle.ct_bus.specs.Seats.{receiving}
use Rattle.ct_bus.proofs.opening.no_ends.Given as goal

-- the seats of the nodes below this one are there
abbrev pub invariant-loop-me : goal.invariant-loop-me
invariant-loop-me l = (l.me ≤ l.nodes) × AreColumns l.me [] (map receiving l.seats.items)
