use Rattle.std.proofs.Common.{◌≡◌, ◌∷◌, ◌++◌, take, drop}
use Rattle.ct_lcp2.specs.Placing.{held}
use Rattle.ct_lcp2.specs.Tallies.{sums_to}
use Rattle.ct_lcp2.proofs.tally.add_squares.Given as goal

abbrev pub invariant-loop-i : goal.invariant-loop-i
invariant-loop-i l = l.sums.items ≡ sums_to (l.address ∷ held l.node l.at) (take l.i l.at) ++ sums_to (held l.node l.at) (drop l.i l.at)
