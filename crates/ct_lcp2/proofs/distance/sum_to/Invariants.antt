use Rattle.std.proofs.Common.{◌≡◌, ◌+◌, drop}
use Rattle.ct_lcp2.specs.Distance.{sum_to}
use Rattle.ct_lcp2.proofs.distance.sum_to.Given as goal

abbrev pub invariant-loop-other : goal.invariant-loop-other
invariant-loop-other l = l.sum + sum_to l.address (drop l.other-index l.others) ≡ sum_to l.address l.others
