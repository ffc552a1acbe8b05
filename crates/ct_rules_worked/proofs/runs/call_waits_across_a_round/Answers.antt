use Rattle.ct_rules_worked.proofs.Computed.{every_run}
use Rattle.ct_rules_worked.proofs.runs.call_waits_across_a_round.Goals as goal

pub returns : goal.returns
returns c = every_run.25
