use Rattle.std.proofs.Common.{◌≡◌, ◌++◌, ◌∷◌, [], drop, map}
use Rattle.ct_scenario.specs.Scenarios.{so_far}
use Rattle.ct_scenario.proofs.parse.add_lines.Given as goal

-- what was read, and then the pieces that are left, are what all pieces are
abbrev pub invariant-loop-piece : goal.invariant-loop-piece
invariant-loop-piece l = so_far l.lines.items l.places (map (λ p. p.now) (drop l.piece-index l.pieces) ++ l.rest ∷ []) ≡ so_far l.fn.lines.items l.fn.places (map (λ p. p.now) l.pieces ++ l.rest ∷ [])
