use Rattle.ct_law_rules_node.proofs.Keys.{changes, keeps_at}
use Rattle.ct_law_rules_node.proofs.node_laws.changes_are_seen.Goals as goal

pub returns : goal.returns
returns c = record { each = changes; one = keeps_at }
