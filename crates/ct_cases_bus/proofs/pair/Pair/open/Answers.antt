use Rattle.std.proofs.Common.{rules}
use Rattle.ct_cases_bus.proofs.Seating.{pair_opens}
use Rattle.ct_cases_bus.proofs.pair.Pair.open.Goals as goal

pub invariant_of-result : goal.invariant_of-result
invariant_of-result g c = let o = c.in_ok-bus.field-0 in
    record { seats = pair_opens o.bus o.senders.items o.receivers.items c.remove-send.result c.remove-receive.result c.in_ok-bus.ensures.count c.in_ok-bus.ensures.seats c.in_ok-bus.ensures.new.0 (search rules) (search rules) }
