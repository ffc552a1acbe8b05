use Rattle.std.proofs.Common.{List, ℕ, ◌∙◌, ap}
use Rattle.ct_tracking.specs.Candidates.{forgotten}
use Rattle.ct_node_database.proofs.Noting.{after_forgotten, after_kept}
use Rattle.ct_node_database.proofs.database.Database.write_other.Goals as goal

pub invariant_of-self-then-was_deleted : goal.invariant_of-self-then-was_deleted
invariant_of-self-then-was_deleted c =
    after_forgotten _ _ _ _ _ _ (c.forget.ensures ∙ ap (λ (k : List ℕ). forgotten k c.self.inside.noted) c.in_ok-name.ensures) c.in_ok-before.ensures.ok c.requires.worth c.requires.other c.self.invariant

pub invariant_of-self-else-was_deleted : goal.invariant_of-self-else-was_deleted
invariant_of-self-else-was_deleted c = after_kept _ _ _ _ _ c.in_ok-before.ensures.ok c.requires.worth c.requires.other c.self.invariant
