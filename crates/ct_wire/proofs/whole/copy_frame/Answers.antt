use Rattle.std.proofs.Common.{◌≡◌, ◌∙◌, ℕ, List, ap, sym, arith}
use Rattle.ct_wire_fields.specs.Reading.{after_value}
use Rattle.ct_wire.specs.Whole.{headed}
use Rattle.ct_wire.proofs.AtOnce.{copy_taken, frame_ends, held}
use Rattle.ct_wire.proofs.whole.copy_frame.Goals as goal

pub returns-clause-exact : goal.returns-clause-exact
returns-clause-exact c =
    let x = c.in-Some.fields in
    let key_same : x.key.now ≡ c.in-Some-2.key = sym (held _ _ _ _ c.in-Some-2.is c.in_ok-key.ensures ∙ c.in_ok-from_slice.ensures.items) in
    let value_same : x.value.now ≡ c.in-Some-3.value = sym (held _ _ _ _ c.in-Some-3.is c.in_ok-value.ensures ∙ c.in_ok-from_slice-2.ensures.items) in
    let read = record (headed c.args.head) { db = x.db; rsn = x.rsn } in
    let gives = ap (λ (key : List ℕ). after_value read key x.value.now c.args.head.operation) key_same ∙ ap (λ (value : List ℕ). after_value read c.in-Some-2.key value c.args.head.operation) value_same ∙ c.copy_message.ensures in
    copy_taken c.args.head c.args.bytes.now x c.in-Some.ensures.stands c.requires (omega arith)
    ∙ frame_ends c.args.head c.copy_message.result _ x.rest.now gives
