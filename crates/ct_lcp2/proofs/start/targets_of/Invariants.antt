use Rattle.std.proofs.Common.{◌≡◌, ◌++◌, drop}
use Rattle.ct_lcp2.specs.Placing.{targets_of}
use Rattle.ct_lcp2.proofs.start.targets_of.Given as goal

abbrev pub invariant-loop-node : goal.invariant-loop-node
invariant-loop-node l = l.targets.items ++ targets_of (drop l.node-index l.able) l.given ≡ targets_of l.able l.given
