use Rattle.ct_law_rules_node.proofs.Waiting.{calls_each}
use Rattle.ct_law_rules_node.proofs.node_laws.calls_each.Goals as goal

pub returns : goal.returns
returns c = calls_each
