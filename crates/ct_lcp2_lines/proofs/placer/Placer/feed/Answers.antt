use Rattle.std.proofs.Common.{arith}
use Rattle.ct_lcp2_lines.proofs.Feeding.{byte_stops, unfed}
use Rattle.ct_lcp2_lines.proofs.placer.Placer.feed.Goals as goal

pub loop-x-init : goal.loop-x-init
loop-x-init c = record { fed = unfed c.args.self.now; fits = c.requires; fewer = omega arith }

pub returns-in-Err-clause-feeds : goal.returns-in-Err-clause-feeds
returns-in-Err-clause-feeds c =
    byte_stops c.in-Err.fault c.args.self.now c.args.bytes.now c.loop-x.x-index c.loop-x.self c.byte.new.self (omega arith) c.loop-x.invariant.fed c.in-Err.ensures.feeds
