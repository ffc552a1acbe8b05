use Rattle.ct_law_rules_node.proofs.Growing.{happens_grows}
use Rattle.ct_law_rules_node.proofs.node_laws.grows_alone.Goals as goal

pub returns : goal.returns
returns c = happens_grows
