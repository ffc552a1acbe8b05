use Rattle.std.proofs.Common.{arith, rules}
use Rattle.ct_bus_exchange.specs.Exchange.{exchanged_for}
use Rattle.ct_bus_exchange.specs.Shown.{handled_by}
use Rattle.ct_bus_exchange.proofs.Ranges.{map_next}
use Rattle.ct_bus_exchange.proofs.turns.handled_by_all.Goals as goal

pub loop-receiver-preserved : goal.loop-receiver-preserved
loop-receiver-preserved g c = (omega (arith, c.loop-receiver-test.true), map_next (λ r. exchanged_for (handled_by c.args.handlers.now) r c.args.scripts.now) c.loop-receiver.receiver c.loop-receiver.all.items c.push.new.self.items _ c.loop-receiver.invariant.1 c.in_ok-handled_for.ensures c.in_ok-push.ensures.items)
