use Rattle.ct_node_database.proofs.Noting.{after_erase}
use Rattle.ct_node_database.proofs.database.Database.erase.Goals as goal

pub invariant_of-self : goal.invariant_of-self
invariant_of-self c = after_erase _ _ _ _ _ c.forget.ensures c.take_out.ensures.after c.take_out.ensures.ascends c.self.invariant
