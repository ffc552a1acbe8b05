use Rattle.ct_call.proofs.Distinct.{rule_kept}
use Rattle.ct_call.proofs.laws.keeps_rules.Goals as goal

pub returns : goal.returns
returns c = rule_kept
