use Rattle.std.proofs.Common.{arith, rules}
use Rattle.ct_bus.proofs.Columns.{pushed_seat}
use Rattle.ct_bus.proofs.opening.no_ends.Goals as goal

pub loop-me-preserved : goal.loop-me-preserved
loop-me-preserved c = (omega (arith, c.loop-me-test.true), pushed_seat c.loop-me.me c.loop-me.seats.items c.push.new.self.items _ c.in_ok-push.ensures.items (search rules) c.loop-me.invariant.1)
