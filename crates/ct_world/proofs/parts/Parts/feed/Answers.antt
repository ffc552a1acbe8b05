use Rattle.std.proofs.Common.{◌≡◌, List, Some, subst, sym}
use Rattle.std.specs.Prelude.{Vec, slice_get}
use Rattle.ct_call.specs.Shown.{rules_of}
use Rattle.ct_core.specs.Core.{Core}
use Rattle.ct_world.proofs.Asked.{few_sent}
use Rattle.std.specs.declared.alloc.Global.{Global}
use Rattle.ct_rules_cluster.specs.declared.step.Line.{Line}
use Rattle.ct_world.proofs.Fed.{comes_there, has_item, is_there, plan_refused}
use Rattle.ct_world.proofs.Given.{handed_on}
use Rattle.ct_world.proofs.parts.Parts.feed.Goals as goal

pub plan_at-requires-clause-coming : goal.plan_at-requires-clause-coming
plan_at-requires-clause-coming g c = λ x at.
    comes_there c.args.self.now c.args.node c.args.event.now c.requires.form.seats c.requires.coming x
    (subst (λ (xs : List Core). slice_get xs c.args.node ≡ Some x) c.as_slice.ensures at)

pub returns-in_err-planned-clause-step : goal.returns-in_err-planned-clause-step
returns-in_err-planned-clause-step g c =
    let i = has_item c.args.self.now.cores c.args.node (is_there c.args.self.now c.args.node c.requires.form c.requires.there) in
    let p = c.in_err-planned.ensures i.0 (subst (λ (xs : List Core). slice_get xs c.args.node ≡ Some i.0) (sym c.as_slice.ensures) i.1) in
    handed_on (λ (v : Vec Line Global). v.items) c.from_residual.result c.in_err-planned.field-0.0 _ _ _ c.from_residual.ensures.1 (plan_refused c.args.self.now (rules_of c.args.table.now) c.args.node c.args.event.now c.args.own.items c.args.books i.0 i.1 c.requires.form.seats (λ (v : Vec Line Global). v.items) c.in_err-planned.field-0.0 p)

pub carry_out-requires-clause-sent : goal.carry_out-requires-clause-sent
carry_out-requires-clause-sent g c = few_sent c.args.self.now c.requires.form
