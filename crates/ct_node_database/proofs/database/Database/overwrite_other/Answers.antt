use Rattle.ct_node_database.proofs.Noting.{after_forgotten}
use Rattle.ct_node_database.proofs.database.Database.overwrite_other.Goals as goal

pub invariant_of-self : goal.invariant_of-self
invariant_of-self c = after_forgotten _ _ _ _ _ _ c.forget.ensures c.overwrite.ensures c.requires.worth c.requires.other c.self.invariant
