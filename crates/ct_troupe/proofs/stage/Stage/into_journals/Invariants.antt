use Rattle.std.proofs.Common.{◌≡◌, ◌++◌}
use Rattle.ct_troupe.proofs.stage.Stage.into_journals.Given as goal
use Rattle.ct_troupe.specs.Stages.{journals_of}

abbrev pub invariant-loop-seat : goal.invariant-loop-seat
invariant-loop-seat l = l.journals.items ++ journals_of l.seat-iterator.rest.items ≡ journals_of l.initial.seat-iterator.rest.items
