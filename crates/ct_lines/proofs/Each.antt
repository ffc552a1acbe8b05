-- Words that are read one after the other.
use Rattle.std.proofs.Common.{◌≡◌, ℕ, suc, ◌<◌, List, [], ◌∷◌, ◌++◌, length, map, Option, Some, None, refl, ap, ◌∙◌, subst, append_assoc}
use Rattle.std.proofs.lemmas.List.Elements.{All-head, All-tail, All-nil, All-cons}
use Rattle.std.specs.List.{All}
use Rattle.ct_lines.specs.Words.{with_item, each_of}

-- items that come after those of a front
abbrev pub behind : {X : Type 0} → List X → Option (List X) → Option (List X)
behind front None = None
behind front (Some xs) = Some (front ++ xs)

pub behind_more : {X : Type 0} (front : List X) (x : X) (o : Option (List X)) → behind (front ++ x ∷ []) o ≡ behind front (with_item (Some x) o)
behind_more front x None = refl
behind_more front x (Some xs) = ap Some (append_assoc front (x ∷ []) xs)

-- these words are the texts of these items, each of which is in its range
abbrev pub AreSaid : {X : Type 0} → (X → Type 0) → (X → List ℕ) → List (List ℕ) → List X → Type 0
AreSaid P text ws xs = All P xs × (ws ≡ map text xs) × (length ws ≡ length xs)

one_more : {X : Type 0} (P : X → Type 0) (text : X → List ℕ) (w : List ℕ) (ws : List (List ℕ)) (o : Option X) (r : Option (List X)) (xs : List X)
    → ((x : X) → o ≡ Some x → P x × (w ≡ text x))
    → ((ys : List X) → r ≡ Some ys → AreSaid P text ws ys)
    → with_item o r ≡ Some xs
    → AreSaid P text (w ∷ ws) xs
one_more P text w ws None r xs one more h = cc
one_more P text w ws (Some x) None xs one more h = cc
one_more P text w ws (Some x) (Some ys) xs one more h =
    let e : x ∷ ys ≡ xs = cc in
    let p = one x refl in
    let q = more ys refl in
    subst (AreSaid P text (w ∷ ws)) e (
      All-cons P x ys p.0 q.0,
      ap (λ (a : List ℕ). a ∷ ws) p.1 ∙ ap (λ (a : List (List ℕ)). text x ∷ a) q.1,
      ap suc q.2,
    )

pub each_only : {X : Type 0} (says : List ℕ → Option X) (P : X → Type 0) (text : X → List ℕ) → ((w : List ℕ) (x : X) → says w ≡ Some x → P x × (w ≡ text x))
    → (ws : List (List ℕ)) (xs : List X) → each_of says ws ≡ Some xs → AreSaid P text ws xs
each_only says P text one [] xs h = let e : [] ≡ xs = cc in subst (AreSaid P text []) e (All-nil P, refl, refl)
each_only says P text one (w ∷ ws) xs h = one_more P text w ws (says w) (each_of says ws) xs (one w) (each_only says P text one ws) h

pub each_back : {X : Type 0} (says : List ℕ → Option X) (P : X → Type 0) (text : X → List ℕ) → ((x : X) → P x → says (text x) ≡ Some x)
    → (xs : List X) → All P xs → each_of says (map text xs) ≡ Some xs
each_back says P text one [] h = refl
each_back says P text one (x ∷ xs) h =
    ap (λ o. with_item o (each_of says (map text xs))) (one x (All-head P x xs h)) ∙ ap (with_item (Some x)) (each_back says P text one xs (All-tail P x xs h))

pub as_many : {X : Type 0} (text : X → List ℕ) (xs : List X) → length (map text xs) ≡ length xs
as_many text [] = refl
as_many text (x ∷ xs) = ap suc (as_many text xs)
