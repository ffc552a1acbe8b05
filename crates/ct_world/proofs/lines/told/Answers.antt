use Rattle.std.proofs.Common.{◌≡◌, ◌∙◌, [], ◌∷◌, rules, sym, refl}
use Rattle.std.proofs.lemmas.List.{nil_from_length}
use Rattle.ct_world.proofs.Telling.{tells_fails, tells_first, tells_last, tells_next}
use Rattle.ct_world.proofs.lines.told.Goals as goal

pub loop-out-init : goal.loop-out-init
loop-out-init c = tells_first c.args.node c.args.first c.args.own.items c.into_iter-out-iterator.result.rest.items c.empty-frames.result c.empty-frames.ensures c.requires

pub returns-in_err-number : goal.returns-in_err-number
returns-in_err-number c =
    let step : c.loop-out.out-iterator.rest.items ≡ c.in-Some.out ∷ c.next.new.self.rest.items = search rules in
    tells_fails c.args.node c.args.first c.args.own.items c.into_iter-out-iterator.result.rest.items c.loop-out.number c.loop-out.lines.items c.tell.new.lines.items c.loop-out.frames c.tell.new.frames c.loop-out.out-iterator.rest.items c.loop-out.invariant
    c.from_residual.result c.in_err-number.field-0.0 c.in-Some.out c.next.new.self.rest.items c.args.outs c.from_residual.ensures.1 step (c.into_iter-out-iterator.ensures.into_iter_gives.0 ∙ c.into_vec-out-items.ensures) c.in_err-number.ensures

pub loop-out-preserved : goal.loop-out-preserved
loop-out-preserved c =
    let step : c.loop-out.out-iterator.rest.items ≡ c.in-Some.out ∷ c.next.new.self.rest.items = search rules in
    tells_next c.args.node c.args.first c.args.own.items c.into_iter-out-iterator.result.rest.items c.loop-out.number c.loop-out.lines.items c.tell.new.lines.items c.loop-out.frames c.tell.new.frames c.loop-out.out-iterator.rest.items c.loop-out.invariant
    c.in_ok-number.number c.in-Some.out c.next.new.self.rest.items step c.in_ok-number.ensures

pub returns : goal.returns
returns c =
    let none : c.loop-out.out-iterator.rest.items ≡ [] = nil_from_length _ (sym c.loop-out.out-iterator.rest.ok.0 ∙ c.in-None.ensures.steps.0) in
    tells_last c.args.node c.args.first c.args.own.items c.into_iter-out-iterator.result.rest.items c.loop-out.number c.loop-out.lines.items c.loop-out.lines.items c.loop-out.frames c.loop-out.frames c.loop-out.out-iterator.rest.items c.loop-out.invariant
    (record { lines = c.loop-out.lines; frames = c.loop-out.frames }) c.args.outs none (c.into_iter-out-iterator.ensures.into_iter_gives.0 ∙ c.into_vec-out-items.ensures) refl refl
