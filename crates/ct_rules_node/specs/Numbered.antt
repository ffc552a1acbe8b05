-- Items in the order of their numbers.
use Rattle.std.specs.Prelude.{ℕ, nat_lt, if◌then◌else◌, List, [], ◌∷◌}

-- an item in its place among these, by its number
unfoldable pub ranked : {X : Type 0} → (X → ℕ) → X → List X → List X
ranked number x [] = x ∷ []
ranked number x (y ∷ ys) = if nat_lt (number y) (number x) then y ∷ ranked number x ys else x ∷ y ∷ ys

-- items in the order of their numbers
unfoldable pub by_number : {X : Type 0} → (X → ℕ) → List X → List X
by_number number [] = []
by_number number (x ∷ xs) = ranked number x (by_number number xs)
