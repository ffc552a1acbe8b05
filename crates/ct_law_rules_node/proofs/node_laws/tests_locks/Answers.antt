use Rattle.ct_law_rules_node.proofs.Rounds.{sees_locks}
use Rattle.ct_law_rules_node.proofs.node_laws.tests_locks.Goals as goal

pub returns : goal.returns
returns c = sees_locks
