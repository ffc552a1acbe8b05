use Rattle.std.proofs.Common.{arith, ◌∙◌, ◌<◌, ◌^◌, List, length, refl, sym, subst}
use Rattle.std.specs.Vec.{with_item}
use Rattle.ct_bus.specs.Seats.{posted_by}
use Rattle.ct_bus.specs.declared.message.Message.{Message}
use Rattle.ct_bus_exchange.specs.Exchange.{AreCounted}
use Rattle.ct_bus_threads.specs.declared.work.Work.{Work}
use Rattle.ct_bus_threads.proofs.Planning.{planned_at}
use Rattle.ct_bus_threads.proofs.Sounding.{posted_many, posted_sound}
use Rattle.ct_bus_threads.proofs.turns.post_turn.Goals as goal

pub post_next-requires-clause-counted : goal.post_next-requires-clause-counted
post_next-requires-clause-counted g c = let s = c.requires.sound in let m = s.many in let w = c.args.work.now in
    subst (λ (ms : List Message). AreCounted ms) (planned_at (posted_by w.send) w.all.items c.args.other c.index_mut.result.now (let o = c.requires.other.0 in omega arith) (posted_many c.args.bus.now w.send s.sends ∙ sym m) c.index_mut.ensures.value) (s.counted c.args.other)

pub post_next-requires-clause-few : goal.post_next-requires-clause-few
post_next-requires-clause-few g c = let s = c.requires.sound in let m = s.many in let w = c.args.work.now in
    subst (λ (ms : List Message). length ms < 2 ^ 61) (planned_at (posted_by w.send) w.all.items c.args.other c.index_mut.result.now (let o = c.requires.other.0 in omega arith) (posted_many c.args.bus.now w.send s.sends ∙ sym m) c.index_mut.ensures.value) (s.few c.args.other)

pub returns-clause-fixed : goal.returns-clause-fixed
returns-clause-fixed g c =
    let w : Work = c.args.work.now in
    let v : Work = record { node = w.node; send = c.post_next.new.send; receive = w.receive; all = with_item w.all c.args.other c.post_next.new.todo; lost = w.lost; done = w.done } in
    let e = c.post_next.ensures in
    (posted_sound c.args.bus.now w v c.args.other c.index_mut.result.now c.post_next.new.todo e.plan.0 c.requires.sound c.requires.other.0 c.index_mut.ensures.value refl refl refl refl e.seat.0 e.seat.1 e.plan.1 e.plan.2 e.aside.0 e.aside.1 e.aside.2).0

pub returns-clause-sound : goal.returns-clause-sound
returns-clause-sound g c =
    let w : Work = c.args.work.now in
    let v : Work = record { node = w.node; send = c.post_next.new.send; receive = w.receive; all = with_item w.all c.args.other c.post_next.new.todo; lost = w.lost; done = w.done } in
    let e = c.post_next.ensures in
    (posted_sound c.args.bus.now w v c.args.other c.index_mut.result.now c.post_next.new.todo e.plan.0 c.requires.sound c.requires.other.0 c.index_mut.ensures.value refl refl refl refl e.seat.0 e.seat.1 e.plan.1 e.plan.2 e.aside.0 e.aside.1 e.aside.2).1
