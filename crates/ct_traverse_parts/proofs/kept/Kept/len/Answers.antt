use Rattle.std.proofs.Common.{length, ap, sym, subst, ◌∙◌}
use Rattle.ct_store.specs.Map.{Ascends}
use Rattle.ct_store.proofs.Hashing.{ordered_ascends, ordered_length}
use Rattle.ct_traverse_parts.proofs.kept.Kept.len.Goals as goal

pub returns-clause-len : goal.returns-clause-len
returns-clause-len g c = c.len.ensures.len ∙ sym (ordered_length c.self.inside.items.entries c.len.ensures.unique) ∙ ap length c.self.view_is

pub returns-clause-ascends : goal.returns-clause-ascends
returns-clause-ascends g c = subst Ascends c.self.view_is (ordered_ascends c.self.inside.items.entries)
