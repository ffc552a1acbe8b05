use Rattle.std.proofs.Common.{◌≡◌, ◌≤◌}
use Rattle.ct_bus_threads.specs.Works.{IsSound, fixed}
use Rattle.ct_bus_threads.proofs.rounds.round.Given as goal

abbrev pub invariant-loop-other : goal.invariant-loop-other
invariant-loop-other g l = (l.other ≤ l.nodes) × (fixed l.work ≡ fixed l.initial.work) × IsSound l.bus l.work
