use Rattle.ct_law_rules_node.proofs.AtRecord.{moves_at, blank_is_nothing, formed_is_kept}
use Rattle.ct_law_rules_node.proofs.node_laws.moves_one.Goals as goal

pub returns : goal.returns
returns c = record { one = moves_at; blank = blank_is_nothing; formed = formed_is_kept }
