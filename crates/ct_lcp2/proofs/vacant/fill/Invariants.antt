use Rattle.std.proofs.Common.{◌≡◌}
use Rattle.std.specs.Prelude.{map}
use Rattle.ct_lcp2.specs.Placing.{addresses, filled, homeless}
use Rattle.ct_lcp2.specs.Tallies.{tally}
use Rattle.ct_lcp2.proofs.vacant.fill.Given as goal

abbrev pub invariant-loop-choice : goal.invariant-loop-choice
invariant-loop-choice l =
    (filled l.able l.placement ≡ filled l.able l.initial.placement)
    × (addresses l.placement.at ≡ addresses l.initial.placement.at)
    × (l.all.items ≡ map (tally l.placement.at) l.able)

abbrev pub decreases-loop-choice : goal.decreases-loop-choice
decreases-loop-choice l = homeless l.placement.at
