use Rattle.std.proofs.Common.{◌≡◌, drop}
use Rattle.ct_lcp2.specs.Best.{best_from}
use Rattle.ct_lcp2.specs.Placing.{source_before, sources, next_failback}
use Rattle.ct_lcp2.specs.Tallies.{nodes}
use Rattle.ct_lcp2.proofs.failback.next_failback.Given as goal

abbrev pub invariant-loop-one : goal.invariant-loop-one
invariant-loop-one l = best_from source_before l.best (sources (nodes (drop l.one-index l.sources)) (nodes l.targets) l.at) ≡ next_failback (nodes l.sources) (nodes l.targets) l.at
