-- The frames before the first that names another node.
use Rattle.std.proofs.Common.{◌≡◌, ℕ, ◌+◌, ◌<◌, ◌≤◌, true, false, List, [], ◌∷◌, ◌++◌, length, take, drop, get_or, None, Some, refl, sym, ap, ◌∙◌, append_assoc}
use Rattle.std.proofs.lemmas.List.{append-nil, drop_all, drop_more, take_all, take_more}
use Rattle.ct_frame.specs.declared.frame.Frame.{Frame}
use Rattle.ct_wire_link.specs.Reading.{before_strange, first_strange, is_ours, strange_at}

-- the frames so far are kept, and what is kept of the rest stands behind them
pub record Kept (me sender i : ℕ) (xs : List Frame) : Type 0 where
  pub kept : take i xs ++ before_strange me sender (drop i xs) ≡ before_strange me sender xs
  pub strange : first_strange me sender (drop i xs) ≡ first_strange me sender xs

pub kept_first : (me sender : ℕ) (xs : List Frame) → Kept me sender 0 xs
kept_first me sender xs = record { kept = refl; strange = refl }

ours_first : (me sender : ℕ) (f : Frame) (fs : List Frame) → is_ours me sender f ≡ true → (before_strange me sender (f ∷ fs) ≡ f ∷ before_strange me sender fs) × (first_strange me sender (f ∷ fs) ≡ first_strange me sender fs)
ours_first me sender f fs t = (rw t refl, rw t refl)

strange_first : (me sender : ℕ) (f : Frame) (fs : List Frame) → is_ours me sender f ≡ false → (before_strange me sender (f ∷ fs) ≡ []) × (first_strange me sender (f ∷ fs) ≡ Some (strange_at me f))
strange_first me sender f fs t = (rw t refl, rw t refl)

-- one more is ours
pub kept_more : (me sender i : ℕ) (xs : List Frame) (f : Frame) → i < length xs → f ≡ get_or xs i f → is_ours me sender f ≡ true → Kept me sender i xs → Kept me sender (i + 1) xs
kept_more me sender i xs f lt is t k =
    let next : drop i xs ≡ f ∷ drop (i + 1) xs = drop_more xs i f lt ∙ ap (λ (x : Frame). x ∷ drop (i + 1) xs) (sym is) in
    let front : take (i + 1) xs ≡ take i xs ++ f ∷ [] = take_more xs i f lt ∙ ap (λ (x : Frame). take i xs ++ x ∷ []) (sym is) in
    let one = ours_first me sender f (drop (i + 1) xs) t in
    record {
      kept =
          ap (λ (l : List Frame). l ++ before_strange me sender (drop (i + 1) xs)) front
          ∙ append_assoc (take i xs) (f ∷ []) (before_strange me sender (drop (i + 1) xs))
          ∙ ap (λ (l : List Frame). take i xs ++ l) (sym one.0)
          ∙ ap (λ (l : List Frame). take i xs ++ before_strange me sender l) (sym next)
          ∙ k.kept;
      strange = sym one.1 ∙ ap (λ (l : List Frame). first_strange me sender l) (sym next) ∙ k.strange;
    }

-- the next one is not
pub kept_here : (me sender i : ℕ) (xs : List Frame) (f : Frame) → i < length xs → f ≡ get_or xs i f → is_ours me sender f ≡ false → Kept me sender i xs
    → (take i xs ≡ before_strange me sender xs) × (Some (strange_at me f) ≡ first_strange me sender xs)
kept_here me sender i xs f lt is t k =
    let next : drop i xs ≡ f ∷ drop (i + 1) xs = drop_more xs i f lt ∙ ap (λ (x : Frame). x ∷ drop (i + 1) xs) (sym is) in
    let one = strange_first me sender f (drop (i + 1) xs) t in (
      sym (append-nil (take i xs)) ∙ ap (λ (l : List Frame). take i xs ++ l) (sym one.0) ∙ ap (λ (l : List Frame). take i xs ++ before_strange me sender l) (sym next) ∙ k.kept,
      sym one.1 ∙ ap (λ (l : List Frame). first_strange me sender l) (sym next) ∙ k.strange,
    )

-- all are ours
pub kept_all : (me sender i : ℕ) (xs : List Frame) → length xs ≤ i → Kept me sender i xs → (xs ≡ before_strange me sender xs) × (None ≡ first_strange me sender xs)
kept_all me sender i xs le k =
    let none : drop i xs ≡ [] = drop_all i xs le in (
      sym (append-nil xs) ∙ ap (λ (l : List Frame). l ++ []) (sym (take_all i xs le)) ∙ ap (λ (l : List Frame). take i xs ++ before_strange me sender l) (sym none) ∙ k.kept,
      ap (λ (l : List Frame). first_strange me sender l) (sym none) ∙ k.strange,
    )
