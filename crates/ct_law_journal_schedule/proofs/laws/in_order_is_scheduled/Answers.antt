use Rattle.ct_law_journal_schedule.proofs.Scheduled.{in_order_is_scheduled}
use Rattle.ct_law_journal_schedule.proofs.laws.in_order_is_scheduled.Goals as goal

pub returns : goal.returns
returns c = in_order_is_scheduled
