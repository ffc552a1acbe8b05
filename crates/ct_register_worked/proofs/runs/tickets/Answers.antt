-- Each run, as it was shown.
use Rattle.ct_register_worked.proofs.Reached.{tickets_count}
use Rattle.ct_register_worked.proofs.runs.tickets.Goals as goal

pub returns : goal.returns
returns c = tickets_count
