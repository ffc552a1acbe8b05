use Rattle.ct_law_journal_schedule.specs.Scheduling.{carried_after}
use Rattle.ct_journal_join.proofs.scheduler.drop_arrived.Goals as goal

pub returns-in-Arrive-clause-carried : goal.returns-in-Arrive-clause-carried
unfolding carried_after
returns-in-Arrive-clause-carried c nodes ms h = rw c.in-Arrive.is (c.drop_first.ensures.carried nodes ms h)
