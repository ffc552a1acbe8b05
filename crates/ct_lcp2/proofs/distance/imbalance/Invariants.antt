use Rattle.std.proofs.Common.{◌≡◌, ◌≤◌, ◌+◌, length}
use Rattle.ct_lcp2.specs.Distance.{imbalance}
use Rattle.ct_lcp2.proofs.distance.imbalance.Given as goal

abbrev pub invariant-loop-first : goal.invariant-loop-first
invariant-loop-first l = (l.sum + imbalance l.rest ≡ imbalance l.addresses) × (length l.rest ≤ 256)

abbrev pub decreases-loop-first : goal.decreases-loop-first
decreases-loop-first l = length l.rest
