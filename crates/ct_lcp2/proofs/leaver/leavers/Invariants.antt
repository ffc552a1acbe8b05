use Rattle.std.proofs.Common.{◌≡◌, ◌++◌, drop}
use Rattle.std.specs.Prelude.{map}
use Rattle.std.specs.List.{All}
use Rattle.ct_lcp2.specs.Leavers.{IsLeaver, address_at}
use Rattle.ct_lcp2.specs.Placing.{held}
use Rattle.ct_lcp2.proofs.leaver.leavers.Given as goal

abbrev pub invariant-loop-i : goal.invariant-loop-i
invariant-loop-i l =
    (map (λ x. address_at l.at x.place) l.leavers.items ++ held l.source.node (drop l.i l.at) ≡ held l.source.node l.at)
    × All (IsLeaver (held l.source.node l.at) l.at) l.leavers.items
