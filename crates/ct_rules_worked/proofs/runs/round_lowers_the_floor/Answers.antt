use Rattle.ct_rules_worked.proofs.Computed.{every_run}
use Rattle.ct_rules_worked.proofs.runs.round_lowers_the_floor.Goals as goal

pub returns : goal.returns
returns c = every_run.27
