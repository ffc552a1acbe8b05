use Rattle.ct_rules_worked.proofs.Computed.{every_run}
use Rattle.ct_rules_worked.proofs.runs.surviving_master.Goals as goal

pub returns : goal.returns
returns c = every_run.17
