use Rattle.ct_call.specs.Shown.{rules_of}
use Rattle.ct_journal_join_any.proofs.Stepping.{Taking}
use Rattle.ct_journal_join_any.proofs.making.take_all.Given as goal

abbrev pub invariant-loop-step : goal.invariant-loop-step
invariant-loop-step g l = Taking l.initial.world.config (rules_of l.table) l.steps l.initial.world.cluster l.step-index l.world.config l.world.cluster
