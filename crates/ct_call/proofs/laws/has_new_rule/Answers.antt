use Rattle.ct_call.proofs.Distinct.{new_rule}
use Rattle.ct_call.proofs.laws.has_new_rule.Goals as goal

pub returns : goal.returns
returns c = new_rule
