use Rattle.std.proofs.Common.{ap, sym, ◌∙◌}
use Rattle.ct_store.specs.Map.{look, erase}
use Rattle.ct_store.proofs.Hashing.{look-ordered, one_taken}
use Rattle.ct_traverse_parts.proofs.kept.Kept.remove.Goals as goal

pub returns-clause-before : goal.returns-clause-before
returns-clause-before g c = c.remove.ensures.value ∙ sym (look-ordered c.args.key.now c.self.inside.items.entries) ∙ ap (look c.args.key.now) c.self.view_is

pub returns-clause-after : goal.returns-clause-after
returns-clause-after g c = one_taken c.self.inside.items.entries c.remove.new.self.entries c.args.key.now c.remove.ensures.updates.0 ∙ ap (erase c.args.key.now) c.self.view_is
