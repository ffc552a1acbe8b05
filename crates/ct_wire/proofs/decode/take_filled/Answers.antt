use Rattle.std.proofs.Common.{◌∙◌, [], ap, subst, sym}
use Rattle.std.specs.Prelude.{IfOk}
use Rattle.ct_wire.specs.declared.cursor.Outcome.{Outcome}
use Rattle.ct_wire.specs.declared.cursor.Taken.TheVariants as taken
use Rattle.ct_wire.specs.Cursor.{field_read}
use Rattle.ct_wire.specs.Decoding.{after_field, eaten, Reaches}
use Rattle.ct_wire.proofs.Eaten.{led_to}
use Rattle.ct_wire.proofs.decode.take_filled.Goals as goal

pub returns-in-More-clause-exact : goal.returns-in-More-clause-exact
returns-in-More-clause-exact c =
    let field_is = c.as_slice.ensures.value ∙ c.in_ok-extend_from_slice.ensures.items in
    let is = ap (field_read c.args.cursor.now) (sym field_is) ∙ led_to c.in_ok-step.field-0 taken.More c.step.new.self _ c.in-More.is c.in_ok-step.ensures.exact in
    subst (λ (o : Outcome). IfOk c.take_fields.result (λ r. Reaches r c.take_fields.new.cursor (after_field o c.args.behind.now (λ next. eaten next [] c.args.behind.now)))) (sym is) c.take_fields.ensures.exact

pub returns-in-Whole-clause-exact : goal.returns-in-Whole-clause-exact
returns-in-Whole-clause-exact c =
    let field_is = c.as_slice.ensures.value ∙ c.in_ok-extend_from_slice.ensures.items in
    let is = ap (field_read c.args.cursor.now) (sym field_is) ∙ led_to c.in_ok-step.field-0 (taken.Whole c.in-Whole.frame c.in-Whole.length) c.step.new.self _ c.in-Whole.is c.in_ok-step.ensures.exact in
    ap (λ (o : Outcome). after_field o c.args.behind.now (λ next. eaten next [] c.args.behind.now)) is

pub returns-clause-exact : goal.returns-clause-exact
returns-clause-exact c =
    let field_is = c.as_slice.ensures.value ∙ c.in_ok-extend_from_slice.ensures.items in
    let is = ap (field_read c.args.cursor.now) (sym field_is) ∙ led_to c.in_ok-step.field-0 (taken.Malformed c.in-Malformed.offset) c.step.new.self _ c.in-Malformed.is c.in_ok-step.ensures.exact in
    ap (λ (o : Outcome). after_field o c.args.behind.now (λ next. eaten next [] c.args.behind.now)) is
