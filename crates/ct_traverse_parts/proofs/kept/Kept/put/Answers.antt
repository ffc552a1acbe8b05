use Rattle.std.proofs.Common.{ap, sym, ◌∙◌}
use Rattle.ct_store.specs.Map.{look, write}
use Rattle.ct_store.proofs.Hashing.{look-ordered, one_put, on_err}
use Rattle.ct_traverse_parts.proofs.kept.Kept.put.Goals as goal

pub returns-clause-before : goal.returns-clause-before
returns-clause-before g c = c.in_ok-insert.ensures.old ∙ sym (look-ordered c.args.key c.self.inside.items.entries) ∙ ap (look c.args.key) c.self.view_is

pub returns-clause-ok : goal.returns-clause-ok
returns-clause-ok g c = one_put c.self.inside.items.entries c.insert.new.self.entries c.args.key c.args.item c.in_ok-insert.ensures.updates.0 ∙ ap (write c.args.key c.args.item) c.self.view_is

pub returns-in_err-insert-clause-absent : goal.returns-in_err-insert-clause-absent
returns-in_err-insert-clause-absent g c =
    on_err c.from_residual.result _ (ap (look c.args.key) (sym c.self.view_is) ∙ look-ordered c.args.key c.self.inside.items.entries ∙ c.in_err-insert.ensures.absent)
