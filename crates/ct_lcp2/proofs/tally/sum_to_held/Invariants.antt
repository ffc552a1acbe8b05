use Rattle.std.proofs.Common.{◌≡◌, ◌+◌, drop}
use Rattle.ct_lcp2.specs.Distance.{sum_to}
use Rattle.ct_lcp2.specs.Placing.{held}
use Rattle.ct_lcp2.proofs.tally.sum_to_held.Given as goal

abbrev pub invariant-loop-x : goal.invariant-loop-x
invariant-loop-x l = l.sum + sum_to l.address (held l.node (drop l.x-index l.at)) ≡ sum_to l.address (held l.node l.at)
