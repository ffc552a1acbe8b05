use Rattle.std.proofs.Common.{◌≡◌, ◌++◌}
use Rattle.ct_lcp2.specs.Placing.{sent}
use Rattle.ct_lcp2.specs.Tallies.{tallied}
use Rattle.ct_lcp2.proofs.tally.all_after.Given as goal

-- those before are what they will be, and the others still what they were
abbrev pub invariant-loop-one : goal.invariant-loop-one
invariant-loop-one l =
    (l.after.items ++ tallied (sent l.address l.target l.at) l.one-iterator.rest.items ≡ tallied (sent l.address l.target l.at) l.initial.one-iterator.rest.items)
    × (l.one-iterator.rest.items ≡ tallied l.at l.one-iterator.rest.items)
