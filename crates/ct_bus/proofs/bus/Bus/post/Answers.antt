use Rattle.std.proofs.Common.{arith}
use Rattle.std.proofs.lemmas.List.{length-map}
use Rattle.ct_bus.specs.Ends.{into_queue}
use Rattle.ct_bus.proofs.Seats.{posts}
use Rattle.ct_bus.proofs.bus.Bus.post.Goals as goal

pub returns-clause-posted : goal.returns-clause-posted
returns-clause-posted g c = posts c.args.seat.now.ends.items c.args.receiver c.index_mut.result.now c.post.new.end c.post.result c.args.srvid c.args.body
    (let w = c.requires.seat.whole in let m = length-map c.args.seat.now.ends.items into_queue in let r = c.requires.receiver.0 in omega arith) c.index_mut.ensures.value c.post.ensures.posted
