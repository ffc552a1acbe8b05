use Rattle.std.proofs.Common.{◌≡◌, ◌++◌, drop}
use Rattle.std.specs.Prelude.{map}
use Rattle.ct_lcp2.specs.Placing.{freed, moves_away}
use Rattle.ct_lcp2.proofs.start.vacate.Given as goal

abbrev pub invariant-loop-x : goal.invariant-loop-x
invariant-loop-x l =
    (l.at.items ++ map (freed l.able) (drop l.x-index l.given) ≡ map (freed l.able) l.given)
    × (l.moves.items ++ moves_away l.able (drop l.x-index l.given) ≡ moves_away l.able l.given)
