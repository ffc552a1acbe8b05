use Rattle.std.proofs.Common.{◌∙◌, [], sym, arith}
use Rattle.ct_wire.specs.declared.cursor.Taken.TheVariants as taken
use Rattle.ct_wire.proofs.Eaten.{eaten_rest, field_taken, leads_to, led_to}
use Rattle.ct_wire.proofs.decode.take_fields.Goals as goal

pub fields-preserved : goal.fields-preserved
fields-preserved c =
    let some = c.width-in-fields.ensures.some c.fields.invariant.1 in
    let field = field_taken c.fields.cursor c.fields.rest.now c.split_at.result.0.now c.split_at.result.1.now c.width-in-fields.result c.split_at.ensures.front c.split_at.ensures.back c.split_at.ensures.front_len c.width-in-fields.ensures.exact some.0 in
    let is = led_to c.in_ok-step.field-0 taken.More c.step.new.self _ c.in-More.is c.in_ok-step.ensures.exact in
    let led = leads_to _ _ _ c.split_at.result.1.now field is in
    (sym c.in_ok-rest-in-More.ensures.same ∙ sym led ∙ c.fields.invariant.0, c.in_ok-rest-in-More.ensures.sound, omega (arith, c.in_ok-rest-in-More.ensures.shorter, c.split_at.ensures.back_len, c.fields.invariant.2))

pub returns-in-Whole-clause-exact : goal.returns-in-Whole-clause-exact
returns-in-Whole-clause-exact c =
    let some = c.width-in-fields.ensures.some c.fields.invariant.1 in
    let field = field_taken c.fields.cursor c.fields.rest.now c.split_at.result.0.now c.split_at.result.1.now c.width-in-fields.result c.split_at.ensures.front c.split_at.ensures.back c.split_at.ensures.front_len c.width-in-fields.ensures.exact some.0 in
    let is = led_to c.in_ok-step.field-0 (taken.Whole c.in-Whole.frame c.in-Whole.length) c.step.new.self _ c.in-Whole.is c.in_ok-step.ensures.exact in
    sym c.fields.invariant.0 ∙ leads_to _ _ _ c.split_at.result.1.now field is

pub returns-in-Malformed-clause-exact : goal.returns-in-Malformed-clause-exact
returns-in-Malformed-clause-exact c =
    let some = c.width-in-fields.ensures.some c.fields.invariant.1 in
    let field = field_taken c.fields.cursor c.fields.rest.now c.split_at.result.0.now c.split_at.result.1.now c.width-in-fields.result c.split_at.ensures.front c.split_at.ensures.back c.split_at.ensures.front_len c.width-in-fields.ensures.exact some.0 in
    let is = led_to c.in_ok-step.field-0 (taken.Malformed c.in-Malformed.offset) c.step.new.self _ c.in-Malformed.is c.in_ok-step.ensures.exact in
    sym c.fields.invariant.0 ∙ leads_to _ _ _ c.split_at.result.1.now field is

pub returns-clause-exact : goal.returns-clause-exact
returns-clause-exact c =
    let short = eaten_rest c.fields.cursor [] c.fields.rest.now (omega (arith, c.width.ensures.exact, c.fields-test.false)) in
    (sym c.fields.invariant.0 ∙ short, (c.fields.invariant.1, omega (arith, c.width.ensures.exact, c.fields-test.false)))
