-- The item of a list that comes first in an order of one's own.
use Rattle.std.specs.Prelude.{Bool, List, [], ◌∷◌, Option, None, Some, if◌then◌else◌}

module _ {X : Type 0} where
  -- the new one only where it comes before the one that there is
  abbrev pub better : (X → X → Bool) → Option X → X → Option X
  better before None x = Some x
  better before (Some b) x = if before x b then Some x else Some b

  -- of the best so far and all of these, the one that comes first
  unfoldable pub best_from : (X → X → Bool) → Option X → List X → Option X
  best_from before best [] = best
  best_from before best (x ∷ xs) = best_from before (better before best x) xs

  -- of all of these, the one that comes first
  abbrev pub best : (X → X → Bool) → List X → Option X
  best before xs = best_from before None xs
