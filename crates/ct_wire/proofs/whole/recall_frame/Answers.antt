use Rattle.std.proofs.Common.{◌≡◌, ◌∙◌, ◌++◌, ℕ, List, ap, sym, arith}
use Rattle.ct_frame.specs.declared.frame.Msg.TheVariants as msg
use Rattle.ct_wire_fields.specs.Reading.{after_kind}
use Rattle.ct_wire.specs.Whole.{headed}
use Rattle.ct_wire.proofs.AtOnce.{frame_ends, held, recall_taken}
use Rattle.ct_wire.proofs.whole.recall_frame.Goals as goal

pub returns-clause-exact : goal.returns-clause-exact
returns-clause-exact c =
    let h = c.args.head in
    let x = c.in-Some.fields in
    let key = c.in-Some-2.key in
    let kind = c.in-Some-kind_of.kind in
    let least = c.number_of-least.result in
    let node = c.number_of-node.result in
    let l = c.split_at.result.0.now in
    let n = c.split_at-2.result.0.now in
    let field = c.split_at-3.result.0.now in
    let rest = c.split_at-3.result.1.now in
    let key_same : x.key.now ≡ key = sym (held _ _ _ _ c.in-Some-2.is c.in_ok-key.ensures ∙ c.in_ok-from_slice.ensures.items) in
    let all = record (headed h) { db = x.db; rsn = least; node = node } in
    let told = ap (λ (k : List ℕ). after_kind all k kind h.operation) key_same ∙ ap (after_kind all key kind) c.requires in
    let is : x.rest.now ≡ l ++ (n ++ (field ++ rest)) = cc (c.split_at.ensures.by_index.0, c.split_at-2.ensures.by_index.0, c.split_at-3.ensures.by_index.0) in
    recall_taken h c.args.bytes.now x l n field rest least node kind c.in-Some.ensures.stands c.requires is c.split_at.ensures.front_len c.split_at-2.ensures.front_len c.split_at-3.ensures.front_len
    (sym c.number_of-least.ensures) (sym c.number_of-node.ensures) (sym c.number_of.ensures ∙ c.in-Some-kind_of.ensures) (sym c.if-not-is_below_limit.ensures) (sym c.if-not-is_node.ensures) (omega arith)
    ∙ frame_ends h (msg.Recall x.db key least node h.request kind) _ rest told
