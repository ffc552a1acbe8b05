use Rattle.std.proofs.Common.{◌≡◌, ◌++◌, drop}
use Rattle.ct_lcp2.specs.Tallies.{sums_to}
use Rattle.ct_lcp2.proofs.tally.sums_to.Given as goal

abbrev pub invariant-loop-x : goal.invariant-loop-x
invariant-loop-x l = l.sums.items ++ sums_to l.there (drop l.x-index l.at) ≡ sums_to l.there l.at
