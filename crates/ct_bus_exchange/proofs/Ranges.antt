-- One number more.
use Rattle.std.proofs.Common.{arith, ◌≡◌, ◌∙◌, ℕ, ◌+◌, List, [], ◌∷◌, ◌++◌, map, sym, ap}
use Rattle.std.proofs.lemmas.List.FromFn.{map-range_with_len_more}
use Rattle.std.specs.List.{range_with_len}

pub map_next : {X : Type 0} (f : ℕ → X) (k : ℕ) (xs new : List X) (x : X) → xs ≡ map f (range_with_len 0 k) → x ≡ f k → new ≡ xs ++ x ∷ [] → new ≡ map f (range_with_len 0 (k + 1))
map_next {X} f k xs new x so_far now more = more ∙ ap (λ (l : List X). l ++ x ∷ []) so_far ∙ ap (λ (y : X). map f (range_with_len 0 k) ++ y ∷ []) now ∙ sym (map-range_with_len_more f 0 k k (omega arith))
