use Rattle.ct_node_database.proofs.Noting.{after_deleted}
use Rattle.ct_node_database.proofs.database.Database.write_deleted.Goals as goal

pub invariant_of-self-2 : goal.invariant_of-self-2
invariant_of-self-2 c = after_deleted _ _ _ _ _ _ c.put.result c.in_ok-note.ensures.ok c.put.ensures.ok c.put.ensures.err c.requires c.self.invariant
