use Rattle.ct_lcp2.proofs.Distances.{part_fits}
use Rattle.ct_lcp2.proofs.distance.imbalance.Goals as goal

pub overflow_add-sum : goal.overflow_add-sum
overflow_add-sum c = part_fits c.args.addresses.now c.loop-first.rest.now c.in-Some.others.now c.in-Some.first.now c.loop-first.sum c.sum_to-sum.result c.requires c.loop-first.invariant.0 c.in-Some.ensures.cases.0 c.sum_to-sum.ensures
