use Rattle.ct_rules_worked.proofs.Computed.{every_run}
use Rattle.ct_rules_worked.proofs.runs.lock_ends_vacuum.Goals as goal

pub returns : goal.returns
returns c = every_run.12
