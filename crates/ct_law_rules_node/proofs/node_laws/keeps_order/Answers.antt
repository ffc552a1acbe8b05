use Rattle.ct_law_rules_node.proofs.Starting.{starts_in_order, restarts_in_order}
use Rattle.ct_law_rules_node.proofs.Growing.{happens_in_order}
use Rattle.ct_law_rules_node.proofs.node_laws.keeps_order.Goals as goal

pub returns : goal.returns
returns c = record { opening = starts_in_order; stop = restarts_in_order; kept = happens_in_order }
