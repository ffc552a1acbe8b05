use Rattle.ct_law_rules_node.proofs.Tables.{tells_at}
use Rattle.ct_law_rules_node.proofs.node_laws.tells_each.Goals as goal

pub returns : goal.returns
returns c = tells_at
