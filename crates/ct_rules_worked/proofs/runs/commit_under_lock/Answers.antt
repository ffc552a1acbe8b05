use Rattle.ct_rules_worked.proofs.Computed.{every_run}
use Rattle.ct_rules_worked.proofs.runs.commit_under_lock.Goals as goal

pub returns : goal.returns
returns c = every_run.19
