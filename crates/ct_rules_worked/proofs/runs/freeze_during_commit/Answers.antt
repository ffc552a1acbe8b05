use Rattle.ct_rules_worked.proofs.Computed.{every_run}
use Rattle.ct_rules_worked.proofs.runs.freeze_during_commit.Goals as goal

pub returns : goal.returns
returns c = every_run.21
