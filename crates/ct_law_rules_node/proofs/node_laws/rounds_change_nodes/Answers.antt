use Rattle.ct_law_rules_node.proofs.Rounds.{freezes_each, restarts_each, installs_dbs, installs_frozen}
use Rattle.ct_law_rules_node.proofs.node_laws.rounds_change_nodes.Goals as goal

pub returns : goal.returns
returns c = record { freezes = freezes_each; restarts = restarts_each; installs = installs_dbs; pushed = installs_frozen }
