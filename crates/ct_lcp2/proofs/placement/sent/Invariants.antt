use Rattle.std.proofs.Common.{◌≡◌, ◌++◌, drop}
use Rattle.ct_lcp2.specs.Placing.{sent}
use Rattle.ct_lcp2.proofs.placement.sent.Given as goal

abbrev pub invariant-loop-x : goal.invariant-loop-x
invariant-loop-x l = l.after.items ++ sent l.address l.node (drop l.x-index l.at) ≡ sent l.address l.node l.at
