use Rattle.std.proofs.Common.{◌≡◌, drop}
use Rattle.ct_lcp2.specs.Best.{best_from}
use Rattle.ct_lcp2.specs.Placing.{choice_before, held, places_at}
use Rattle.ct_lcp2.proofs.vacant.best_place_at.Given as goal

abbrev pub invariant-loop-i : goal.invariant-loop-i
invariant-loop-i l = best_from choice_before l.best (places_at l.one.node (held l.one.node l.at) (drop l.i l.at)) ≡ best_from choice_before l.initial.best (places_at l.one.node (held l.one.node l.at) l.at)
