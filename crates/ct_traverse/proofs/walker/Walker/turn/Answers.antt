use Rattle.std.proofs.Common.{◌∙◌, ap}
use Rattle.ct_traverse_parts.specs.Walk.{Walk}
use Rattle.std.specs.Prelude.{slice_get}
use Rattle.ct_traverse.proofs.Carrying.{on_ok, turned_so}
use Rattle.ct_traverse.proofs.walker.Walker.turn.Goals as goal

pub returns : goal.returns
returns c = λ t at. (let there = ap (λ (w : Walk). slice_get w.running c.args.place) c.self.view_is ∙ at in
    turned_so c.args.self.now c.args.place c.args.post.now c.args.rows.now t c.self.inside.begun c.self.inside.running.items c.turn_at.new.running.items c.self.inside.posts c.send.new.self c.in_ok-questions.questions.items c.in_ok-missing.missing c.in_ok-lines.lines.items c.count_members.result c.has_numbers.result
    c.self.view_is (c.count_members.ensures t at) c.has_numbers.ensures c.if-not-has_numbers.false
    (on_ok _ c.turn_at.result c.is_err.result c.is_err.ensures.value c.if-is_err.false (c.turn_at.ensures.ok t there))
    (c.in_ok-missing.ensures t at) c.in_ok-send.ensures.ok (c.in_ok-questions.ensures.asks t at) (c.in_ok-lines.ensures t at))
