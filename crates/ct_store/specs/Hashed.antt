-- The map of pairs that stand in no order.
use Rattle.std.specs.Prelude.{ℕ, List, [], ◌∷◌}
use Rattle.ct_store.specs.Map.{Pairs, write}

-- the map that has these pairs
abbrev pub ordered : {X : Type 0} → List (List ℕ × X) → Pairs X
ordered [] = []
ordered (e ∷ es) = write e.0 e.1 (ordered es)
