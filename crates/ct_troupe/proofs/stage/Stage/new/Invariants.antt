use Rattle.ct_troupe.proofs.Staging.{Opens}
use Rattle.ct_troupe.proofs.stage.Stage.new.Given as goal

abbrev pub invariant-loop-node : goal.invariant-loop-node
invariant-loop-node l = Opens l.plan l.seats.items l.queues.items l.node
