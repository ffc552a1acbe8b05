use Rattle.ct_law_rules_node.proofs.Rounds.{pushed_alone}
use Rattle.ct_law_rules_node.proofs.node_laws.installs_frozen_alone.Goals as goal

pub returns : goal.returns
returns c = pushed_alone
