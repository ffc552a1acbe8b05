use Rattle.std.proofs.Common.{◌≡◌, ◌∙◌, [], ◌++◌, ap, sym, arith}
use Rattle.ct_wire_fields.specs.declared.draft.Head.{Head}
use Rattle.ct_wire_fields.specs.declared.place.NumberPlace.TheVariants as number
use Rattle.ct_wire_fields.specs.Reading.{operation_of}
use Rattle.ct_wire.specs.Decoding.{eaten}
use Rattle.ct_wire.specs.Whole.{at_number, front_head, headed}
use Rattle.ct_wire.proofs.AtOnce.{names_taken}
use Rattle.ct_wire.proofs.whole.head_of.Goals as goal

pub returns-clause-same : goal.returns-clause-same
returns-clause-same c =
    let front = c.in_ok-front.front in
    let o = c.split_at.result.0.now in
    let r = c.split_at-2.result.0.now in
    let s = c.split_at-3.result.0.now in
    let q = c.split_at-4.result.0.now in
    let rest = c.split_at-4.result.1.now in
    let h : Head = record { length = front.length; version = front.version; generation = front.generation; operation = c.in_ok-operation.operation; receiver = c.number_of-receiver.result; sender = c.number_of-sender.result; request = c.number_of-request.result } in
    let is : front.rest.now ≡ o ++ (r ++ (s ++ (q ++ rest))) = cc (c.split_at.ensures.by_index.0, c.split_at-2.ensures.by_index.0, c.split_at-3.ensures.by_index.0, c.split_at-4.ensures.by_index.0) in
    c.in_ok-front.ensures.same
    ∙ ap (eaten (at_number (headed (front_head h.length h.version h.generation)) 20 number.Operation) []) is
    ∙ names_taken o r s q rest h c.split_at.ensures.front_len c.split_at-2.ensures.front_len c.split_at-3.ensures.front_len c.split_at-4.ensures.front_len c.number_of-receiver.ensures c.number_of-sender.ensures c.number_of-request.ensures
    (omega (arith, c.first_width.ensures.exact)) (ap operation_of (sym c.number_of.ensures) ∙ c.in_ok-operation.ensures.known) c.in_ok-operation.ensures.common (sym c.if-not-is_node.ensures) (sym c.if-not-is_node-2.ensures) (sym c.if-not-keeps_request.ensures)
