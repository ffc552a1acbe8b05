use Rattle.std.proofs.Common.{ap, ◌∙◌}
use Rattle.ct_node_database.proofs.Noting.{after_still}
use Rattle.ct_node_database.specs.Noted.{is_deleted}
use Rattle.ct_node_database.proofs.database.Database.overwrite_deleted.Goals as goal
use Rattle.ct_rules_node.specs.Node.{Database, or_nothing}
use Rattle.ct_store.specs.Map.{look}

pub invariant_of-self : goal.invariant_of-self
invariant_of-self c =
    let before = ap (λ (d : Database). is_deleted (or_nothing (look c.args.key d.records)).copy) c.self.view_is ∙ c.requires.deleted in
    after_still _ _ _ _ _ c.overwrite.ensures c.requires.worth before c.self.invariant
