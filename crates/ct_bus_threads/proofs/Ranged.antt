-- Todos of the nodes of a range, with one more.
use Rattle.std.proofs.Common.{◌≡◌, ◌∙◌, ℕ, ◌+◌, List, [], ◌∷◌, ◌++◌, map, sym, ap}
use Rattle.std.specs.List.{range_with_len}
use Rattle.std.proofs.lemmas.List.{map-append}
use Rattle.ct_bus_exchange.proofs.Ranges.{map_next}
use Rattle.ct_bus_threads.specs.declared.work.Todo.{Todo}

pub mapped_next : {X : Type 0} (h : Todo → X) (f : ℕ → X) (k : ℕ) (old new : List Todo) (t : Todo) → map h old ≡ map f (range_with_len 0 k) → h t ≡ f k → new ≡ old ++ t ∷ [] → map h new ≡ map f (range_with_len 0 (k + 1))
mapped_next {X} h f k old new t so_far now more = map_next f k (map h old) (map h new) (h t) so_far now (ap (λ (l : List Todo). map h l) more ∙ map-append h old (t ∷ []))

pub mapped_same : {X : Type 0} (h g : Todo → X) (old new : List Todo) (t : Todo) → map h old ≡ map g old → h t ≡ g t → new ≡ old ++ t ∷ [] → map h new ≡ map g new
mapped_same {X} h g old new t so_far now more =
    ap (λ (l : List Todo). map h l) more ∙ map-append h old (t ∷ []) ∙ ap (λ (l : List X). l ++ h t ∷ []) so_far ∙ ap (λ (x : X). map g old ++ x ∷ []) now ∙ sym (map-append g old (t ∷ [])) ∙ sym (ap (λ (l : List Todo). map g l) more)
