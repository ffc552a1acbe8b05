use Rattle.std.proofs.Common.{◌≡◌}
use Rattle.ct_bus_threads.specs.Works.{IsSound, fixed}
use Rattle.ct_bus_threads.proofs.rounds.serve.Given as goal

abbrev pub invariant-loop : goal.invariant-loop
invariant-loop g l = (fixed l.work ≡ fixed l.initial.work) × IsSound l.bus l.work
