use Rattle.std.proofs.Common.{ap, refl}
use Rattle.ct_lcp2.specs.Tallies.{nodes}
use Rattle.ct_lcp2.proofs.Loops.{node_more}
use Rattle.ct_lcp2.proofs.Tallies.{item_tally}
use Rattle.ct_lcp2.proofs.failback.next_failback.Goals as goal

pub loop-one-preserved : goal.loop-one-preserved
loop-one-preserved c =
    node_more c.args.sources.now (nodes c.args.targets.now) c.loop-one.one-index c.one-item.result c.args.at.now c.loop-one.best c.in_ok-best.best _ c.one-item.result.imbalance _ c.loop-one-test.true c.one-item.is
    (ap (λ t. t.imbalance) (item_tally c.args.at.now c.args.sources.now c.loop-one.one-index c.one-item.result c.requires.sources c.loop-one-test.true c.one-item.is)) refl c.in_ok-best.ensures c.loop-one.invariant
