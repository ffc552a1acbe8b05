use Rattle.ct_node_commit.proofs.Lengths.{left_dbs}
use Rattle.ct_node_commit.proofs.commit.leave.Goals as goal

pub returns-clause-dbs : goal.returns-clause-dbs
returns-clause-dbs c = left_dbs _ _ _ _ _ c.put_deleted.ensures
