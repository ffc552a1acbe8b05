use Rattle.std.proofs.Common.{length, refl, set, arith}
use Rattle.std.proofs.lemmas.Option.{slice_get_read}
use Rattle.ct_call.specs.Shown.{rules_of}
use Rattle.ct_troupe.proofs.Staging.{one_message, some_item}
use Rattle.ct_troupe.specs.Stages.{Staged, seen}
use Rattle.ct_troupe.proofs.stage.Stage.take.Goals as goal

pub take_message-requires-clause-seat : goal.take_message-requires-clause-seat
take_message-requires-clause-seat g c =
    let seats = c.args.self.now.seats.items in
    c.requires.playing.each c.args.node c.index_mut.result.now (slice_get_read seats (length seats) c.args.node c.index_mut.result.now refl (omega arith) c.index_mut.ensures.value)

pub take_item-requires-clause-seat : goal.take_item-requires-clause-seat
take_item-requires-clause-seat g c =
    let seats = c.args.self.now.seats.items in
    c.requires.playing.each c.args.node c.index_mut-in-None.result.now (slice_get_read seats (length seats) c.args.node c.index_mut-in-None.result.now refl (omega arith) c.index_mut-in-None.ensures.value)

pub returns-in_ok-take_message-in-Some : goal.returns-in_ok-take_message-in-Some
returns-in_ok-take_message-in-Some g c =
    let seats = c.args.self.now.seats.items in
    one_message (rules_of c.args.table.now) c.args.plan.now c.args.node c.in-Some.frame (seen c.args.self.now) _ c.index_mut.result.now c.take_message.new.self
    (slice_get_read seats (length seats) c.args.node c.index_mut.result.now refl (omega arith) c.index_mut.ensures.value) c.in_ok-take_message-in-Some.ensures c.in-Some.ensures refl refl refl

pub returns-in_ok-some-in-None : goal.returns-in_ok-some-in-None
returns-in_ok-some-in-None g c =
    let seats = c.args.self.now.seats.items in
    let after : Staged = record { seats = set seats c.args.node c.take_item.new.self; queues = c.next_of.new.queues.items; ticket = c.args.self.now.ticket; count = c.args.self.now.count } in
    some_item (rules_of c.args.table.now) c.args.plan.now c.args.node c.in_ok-some-in-None.some (seen c.args.self.now) after c.index_mut-in-None.result.now c.take_item.new.self
    (slice_get_read seats (length seats) c.args.node c.index_mut-in-None.result.now refl (omega arith) c.index_mut-in-None.ensures.value) c.in_ok-some-in-None.ensures c.in-None.ensures refl refl refl
