use Rattle.std.proofs.Common.{◌≡◌}
use Rattle.std.specs.Prelude.{map}
use Rattle.ct_lcp2.specs.Placing.{addresses, failed_back, total}
use Rattle.ct_lcp2.specs.Tallies.{tally}
use Rattle.ct_lcp2.proofs.failback.fail_back.Given as goal

abbrev pub invariant-loop-to : goal.invariant-loop-to
invariant-loop-to l =
    (failed_back l.able l.targets l.placement ≡ failed_back l.able l.targets l.initial.placement)
    × (addresses l.placement.at ≡ addresses l.initial.placement.at)
    × (l.from.items ≡ map (tally l.placement.at) l.able)
    × (l.to.items ≡ map (tally l.placement.at) l.targets)

abbrev pub decreases-loop-to : goal.decreases-loop-to
decreases-loop-to l = total l.placement.at
