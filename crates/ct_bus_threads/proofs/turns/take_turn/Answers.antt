use Rattle.std.proofs.Common.{arith, ◌≡◌, refl}
use Rattle.std.specs.Vec.{with_item}
use Rattle.ct_bus.specs.Seats.{taken_by}
use Rattle.ct_bus_threads.specs.Works.{left_of}
use Rattle.ct_bus_threads.specs.declared.work.Work.{Work}
use Rattle.ct_bus_threads.proofs.Planning.{came_there, same_left}
use Rattle.ct_bus_threads.proofs.Sounding.{taken_sound}
use Rattle.ct_bus_threads.proofs.turns.take_turn.Goals as goal

pub take_next-requires-clause-came : goal.take_next-requires-clause-came
take_next-requires-clause-came g c = let s = c.requires.sound in let m = s.many in let w = c.args.work.now in
    came_there (taken_by w.receive) w.all.items c.args.other c.index_mut.result.now s.came (let o = c.requires.other.0 in omega arith) c.index_mut.ensures.value

pub returns-clause-fixed : goal.returns-clause-fixed
returns-clause-fixed g c =
    let w : Work = c.args.work.now in
    let v : Work = record { node = w.node; send = w.send; receive = c.take_next.new.receive; all = with_item w.all c.args.other c.take_next.new.todo; lost = c.take_next.new.lost; done = w.done } in
    let e = c.take_next.ensures in
    (taken_sound c.args.bus.now w v c.args.other c.index_mut.result.now c.take_next.new.todo e.taken.0 c.requires.sound c.requires.other.0 c.index_mut.ensures.value refl refl refl e.seat.0 e.seat.1 e.taken.1 e.taken.2 e.taken.3 e.aside.0 (same_left c.take_next.new.todo c.index_mut.result.now e.aside.1 e.aside.2)).0

pub returns-clause-sound : goal.returns-clause-sound
returns-clause-sound g c =
    let w : Work = c.args.work.now in
    let v : Work = record { node = w.node; send = w.send; receive = c.take_next.new.receive; all = with_item w.all c.args.other c.take_next.new.todo; lost = c.take_next.new.lost; done = w.done } in
    let e = c.take_next.ensures in
    (taken_sound c.args.bus.now w v c.args.other c.index_mut.result.now c.take_next.new.todo e.taken.0 c.requires.sound c.requires.other.0 c.index_mut.ensures.value refl refl refl e.seat.0 e.seat.1 e.taken.1 e.taken.2 e.taken.3 e.aside.0 (same_left c.take_next.new.todo c.index_mut.result.now e.aside.1 e.aside.2)).1
