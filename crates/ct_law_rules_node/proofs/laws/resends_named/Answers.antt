use Rattle.ct_law_rules_node.proofs.Events.{resends_named}
use Rattle.ct_law_rules_node.proofs.laws.resends_named.Goals as goal

pub returns : goal.returns
returns c = resends_named
