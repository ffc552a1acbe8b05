use Rattle.ct_rules_worked.proofs.Computed.{every_run}
use Rattle.ct_rules_worked.proofs.runs.vacuum_then_recreate.Goals as goal

pub returns : goal.returns
returns c = every_run.9
