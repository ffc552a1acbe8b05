use Rattle.std.proofs.Common.{◌≡◌, ◌∙◌, ℕ, List, ap, sym, arith}
use Rattle.ct_frame.specs.declared.frame.Msg.TheVariants as msg
use Rattle.ct_wire_fields.specs.Reading.{after_kind}
use Rattle.ct_wire.specs.Whole.{headed}
use Rattle.ct_wire.proofs.AtOnce.{call_taken, frame_ends, held}
use Rattle.ct_wire.proofs.whole.call_frame.Goals as goal

pub returns-clause-exact : goal.returns-clause-exact
returns-clause-exact c =
    let h = c.args.head in
    let x = c.in-Some.fields in
    let key = c.in-Some-2.key in
    let kind = c.in-Some-kind_of.kind in
    let field = c.split_at.result.0.now in
    let rest = c.split_at.result.1.now in
    let key_same : x.key.now ≡ key = sym (held _ _ _ _ c.in-Some-2.is c.in_ok-key.ensures ∙ c.in_ok-from_slice.ensures.items) in
    let in_db = record (headed h) { db = x.db } in
    let told = ap (λ (k : List ℕ). after_kind in_db k kind h.operation) key_same ∙ ap (after_kind in_db key kind) c.requires in
    call_taken h c.args.bytes.now x field rest kind c.in-Some.ensures.stands c.requires c.split_at.ensures.by_index.0 c.split_at.ensures.front_len (sym c.number_of.ensures ∙ c.in-Some-kind_of.ensures) (omega arith)
    ∙ frame_ends h (msg.Call x.db key h.request kind) _ rest told
