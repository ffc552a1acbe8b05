use Rattle.ct_bus.proofs.Seats.{seat_stays}
use Rattle.ct_bus.proofs.bus.Bus.settle_pair.Goals as goal

pub returns-clause-same : goal.returns-clause-same
returns-clause-same g c = seat_stays c.args.seat.now.me c.args.seat.now.ends.items c.args.receiver c.index_mut.result.now c.settle.new.post c.index_mut.ensures.value c.settle.ensures.line c.settle.ensures.posted
