use Rattle.std.proofs.Common.{◌≡◌, ◌++◌, drop}
use Rattle.ct_lcp2.specs.Placing.{held}
use Rattle.ct_lcp2_lines.proofs.text.held.Given as goal

abbrev pub invariant-loop-x : goal.invariant-loop-x
invariant-loop-x l = l.addresses.items ++ held l.node (drop l.x-index l.at) ≡ held l.node l.at
