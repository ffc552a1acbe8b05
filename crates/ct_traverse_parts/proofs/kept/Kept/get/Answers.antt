use Rattle.std.proofs.Common.{ap, sym, ◌∙◌}
use Rattle.ct_store.specs.Map.{look}
use Rattle.ct_store.proofs.Hashing.{look-ordered}
use Rattle.ct_traverse_parts.proofs.kept.Kept.get.Goals as goal

pub returns : goal.returns
returns g c = c.get.ensures.value ∙ sym (look-ordered c.args.key.now c.self.inside.items.entries) ∙ ap (look c.args.key.now) c.self.view_is
