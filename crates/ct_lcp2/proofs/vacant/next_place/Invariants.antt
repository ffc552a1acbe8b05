use Rattle.std.proofs.Common.{◌≡◌, drop}
use Rattle.ct_lcp2.specs.Best.{best_from}
use Rattle.ct_lcp2.specs.Placing.{choice_before, places, next_place}
use Rattle.ct_lcp2.specs.Tallies.{nodes}
use Rattle.ct_lcp2.proofs.vacant.next_place.Given as goal

abbrev pub invariant-loop-one : goal.invariant-loop-one
invariant-loop-one l = best_from choice_before l.best (places (nodes (drop l.one-index l.all)) l.at) ≡ next_place (nodes l.all) l.at
