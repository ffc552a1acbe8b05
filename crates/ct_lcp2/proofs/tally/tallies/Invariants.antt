use Rattle.std.proofs.Common.{◌≡◌, ◌++◌, drop}
use Rattle.std.specs.Prelude.{map}
use Rattle.ct_lcp2.specs.Tallies.{tally}
use Rattle.ct_lcp2.proofs.tally.tallies.Given as goal

abbrev pub invariant-loop-node : goal.invariant-loop-node
invariant-loop-node l = l.all.items ++ map (tally l.at) (drop l.node-index l.nodes) ≡ map (tally l.at) l.nodes
