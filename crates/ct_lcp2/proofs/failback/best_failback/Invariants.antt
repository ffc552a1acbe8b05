use Rattle.std.proofs.Common.{◌≡◌, drop}
use Rattle.ct_lcp2.specs.Best.{best, best_from}
use Rattle.ct_lcp2.specs.Placing.{choice_before, failbacks}
use Rattle.ct_lcp2.specs.Tallies.{nodes}
use Rattle.ct_lcp2.proofs.failback.best_failback.Given as goal

abbrev pub invariant-loop-target : goal.invariant-loop-target
invariant-loop-target l = best_from choice_before l.best (failbacks l.source.node (nodes (drop l.target-index l.targets)) l.at) ≡ best choice_before (failbacks l.source.node (nodes l.targets) l.at)
