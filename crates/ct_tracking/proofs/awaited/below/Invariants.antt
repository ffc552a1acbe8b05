use Rattle.std.proofs.Common.{◌≡◌, ◌+◌, drop}
use Rattle.ct_tracking.specs.Awaited.{below}
use Rattle.ct_tracking.proofs.awaited.below.Given as goal

abbrev pub invariant-loop-i : goal.invariant-loop-i
invariant-loop-i l = below l.node l.nodes ≡ l.i + below l.node (drop l.i l.nodes)
