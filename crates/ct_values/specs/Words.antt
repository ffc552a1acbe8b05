-- Small words of lists and numbers that the crates share.
use Rattle.std.specs.Prelude.{ℕ, nat_eq, Bool, true, false, not, List, [], ◌∷◌, filter, Option, None, Some}

-- is the list empty?
abbrev pub is_nil : {X : Type 0} → List X → Bool
is_nil [] = true
is_nil (x ∷ xs) = false

-- the nodes of a list but this one
abbrev pub others : ℕ → List ℕ → List ℕ
others node nodes = filter (λ n. not (nat_eq n node)) nodes

-- is it this node?
unfoldable pub is_this_node : ℕ → Option ℕ → Bool
is_this_node node None = false
is_this_node node (Some n) = nat_eq n node

-- the value, and the empty one where there is none
unfoldable pub or_empty : Option (List ℕ) → List ℕ
or_empty None = []
or_empty (Some value) = value
