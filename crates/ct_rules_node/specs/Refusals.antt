-- Refusals: each where its condition holds, and of several the first that holds.
use Rattle.std.specs.Prelude.{Bool, true, false, List, [], ◌∷◌, Option, None, Some}

-- a refusal, where its condition holds
unfoldable pub refused_if : {X : Type 0} → Bool → X → Option X
refused_if true x = Some x
refused_if false x = None

-- the first of these that is there
unfoldable pub first_of : {X : Type 0} → List (Option X) → Option X
first_of [] = None
first_of (None ∷ xs) = first_of xs
first_of (Some x ∷ xs) = Some x
