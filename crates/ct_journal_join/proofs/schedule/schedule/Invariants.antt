use Rattle.std.proofs.Common.{drop}
use Rattle.ct_journal_join.proofs.Passing.{GoesOn}
use Rattle.ct_journal_join.proofs.schedule.schedule.Given as goal
use Rattle.ct_law_journal_schedule.specs.Scheduling.{schedule_of}

abbrev pub invariant-loop-node : goal.invariant-loop-node
invariant-loop-node l = GoesOn l.journals l.scheduler (drop l.node-index l.order) l.steps.items (schedule_of l.journals l.order)
