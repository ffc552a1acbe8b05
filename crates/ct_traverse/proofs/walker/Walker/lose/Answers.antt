use Rattle.std.proofs.Common.{List, Ok, ◌∙◌, sym, ap}
use Rattle.ct_traverse_parts.specs.declared.line.TLine.{TLine}
use Rattle.ct_traverse.proofs.Walking.{lost_view}
use Rattle.ct_traverse.proofs.walker.Walker.lose.Goals as goal

pub returns : goal.returns
returns c = lost_view c.args.number c.args.self.now c.self.inside.begun c.self.inside.running.items c.self.inside.posts c.end.new.self _ c.self.view_is c.is_waiting.ensures c.if-not-is_waiting.false c.end.ensures
    ∙ ap (λ (l : List TLine). Ok (record { walk = record { begun = c.self.inside.begun; running = c.self.inside.running.items; posts = c.end.new.self }; lines = l })) (sym c.new.ensures.items)
