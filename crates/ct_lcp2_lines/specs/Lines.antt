-- The lines of an input.
use Rattle.std.specs.Prelude.{ℕ, ◌==◌, if◌then◌else◌, List, [], ◌∷◌, ◌++◌}

-- the whole lines of some bytes, each without its line feed, where this line was begun
abbrev pub lines_after : List ℕ → List ℕ → List (List ℕ)
lines_after line [] = []
lines_after line (x ∷ xs) = if x == 10 then line ∷ lines_after [] xs else lines_after (line ++ x ∷ []) xs

-- what follows the last line feed
abbrev pub rest_after : List ℕ → List ℕ → List ℕ
rest_after line [] = line
rest_after line (x ∷ xs) = if x == 10 then rest_after [] xs else rest_after (line ++ x ∷ []) xs
