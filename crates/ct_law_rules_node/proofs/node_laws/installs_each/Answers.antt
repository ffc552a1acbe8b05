use Rattle.ct_law_rules_node.proofs.Installed.{installs_at}
use Rattle.ct_law_rules_node.proofs.node_laws.installs_each.Goals as goal

pub returns : goal.returns
returns c = installs_at
