use Rattle.ct_law_rules_node.proofs.Quiet.{happens_quiet}
use Rattle.ct_law_rules_node.proofs.node_laws.quiet_unless_present.Goals as goal

pub returns : goal.returns
returns c = happens_quiet
