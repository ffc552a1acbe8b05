use Rattle.ct_law_rules_node.proofs.Events.{names_kept}
use Rattle.ct_law_rules_node.proofs.laws.names_kept.Goals as goal

pub returns : goal.returns
returns c = names_kept
