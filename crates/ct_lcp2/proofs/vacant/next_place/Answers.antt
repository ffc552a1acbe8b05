use Rattle.ct_lcp2.proofs.Loops.{places_more}
use Rattle.ct_lcp2.proofs.vacant.next_place.Goals as goal

pub loop-one-preserved : goal.loop-one-preserved
loop-one-preserved c = places_more c.args.all.now c.loop-one.one-index c.one-item.result c.args.at.now c.loop-one.best c.best_place_at-best.result _ c.loop-one-test.true c.one-item.is c.best_place_at-best.ensures c.loop-one.invariant
