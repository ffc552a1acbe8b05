use Rattle.std.proofs.Common.{sym}
use Rattle.ct_lcp2.proofs.Tallies.{held_part_fits}
use Rattle.ct_lcp2.proofs.tally.sum_to_held.Goals as goal

pub overflow_add-sum : goal.overflow_add-sum
overflow_add-sum c = held_part_fits c.args.node c.args.at.now c.loop-x.x-index _ c.args.address c.loop-x.sum c.squared-sum.result c.requires c.loop-x-test.true (sym c.if-is_this_node.ensures) c.squared-sum.ensures c.loop-x.invariant
