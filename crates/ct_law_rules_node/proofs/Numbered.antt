-- Items in the order of their numbers are the same items.
use Rattle.std.proofs.Common.{◌≡◌, ℕ, Bool, true, false, cond, ◌||◌, List, [], ◌∷◌, refl, sym, ◌∙◌, ap, subst}
use Rattle.std.specs.Prelude.{nat_lt, ⊤}
use Rattle.std.specs.List.{AllByRecursion, filter, list_any}
use Rattle.std.proofs.lemmas.Bool.{cond_both}
use Rattle.ct_rules_node.specs.Numbered.{ranked, by_number}

-- none of these, or one
unfoldable pub Few : {X : Type 0} → List X → Type 0
Few [] = ⊤
Few (x ∷ []) = ⊤
Few (x ∷ y ∷ ys) = ⊥

none_more : {X : Type 0} (x : X) (ys : List X) → Few (x ∷ ys) → ys ≡ []
unfolding Few
none_more x [] f = refl
none_more x (y ∷ ys) f = absurd f

unmet : {X : Type 0} (test : X → Bool) (y : X) (ys : List X) (t : Bool) → test y ≡ t → cond t (y ∷ filter test ys) (filter test ys) ≡ [] → (test y ≡ false) × (filter test ys ≡ [])
unmet test y ys true e n = absurd (cc)
unmet test y ys false e n = (e, n)

swapped : (a b d : Bool) → (a || (b || d)) ≡ (b || (a || d))
swapped true true d = refl
swapped true false d = refl
swapped false b d = refl

module _ {X : Type 0} (number : X → ℕ) where
  -- ---- what holds of each

  ranked_all : (P : X → Type 0) (x : X) (ys : List X) → P x → AllByRecursion P ys → AllByRecursion P (ranked number x ys)
  unfolding ranked
  ranked_all P x [] p h = (p, h)
  ranked_all P x (y ∷ ys) p h = cond_both (nat_lt (number y) (number x)) _ _ (λ l. AllByRecursion P l) (λ _. (h.0, ranked_all P x ys p h.1)) (λ _. (p, h))

  pub numbered_all : (P : X → Type 0) (xs : List X) → AllByRecursion P xs → AllByRecursion P (by_number number xs)
  unfolding by_number
  numbered_all P [] h = h
  numbered_all P (x ∷ xs) h = ranked_all P x (by_number number xs) h.0 (numbered_all P xs h.1)

  unranked : (P : X → Type 0) (x : X) (ys : List X) → AllByRecursion P (ranked number x ys) → P x × AllByRecursion P ys
  unfolding ranked
  unranked P x [] h = (h.0, tt)
  unranked P x (y ∷ ys) h = split (nat_lt (number y) (number x)) (λ k. unranked P x ys k) h
    where
      split : (b : Bool) → (AllByRecursion P (ranked number x ys) → P x × AllByRecursion P ys) → AllByRecursion P (cond b (y ∷ ranked number x ys) (x ∷ y ∷ ys)) → P x × (P y × AllByRecursion P ys)
      split true rest k = (let p = rest k.1 in (p.0, (k.0, p.1)))
      split false rest k = k

  pub unnumbered : (P : X → Type 0) (xs : List X) → AllByRecursion P (by_number number xs) → AllByRecursion P xs
  unfolding by_number
  unnumbered P [] h = h
  unnumbered P (x ∷ xs) h = (let p = unranked P x (by_number number xs) h in (p.0, unnumbered P xs p.1))

  -- ---- what holds of any

  ranked_any : (f : X → Bool) (x : X) (ys : List X) → list_any f (ranked number x ys) ≡ (f x || list_any f ys)
  unfolding ranked
  ranked_any f x [] = refl
  ranked_any f x (y ∷ ys) = cond_both (nat_lt (number y) (number x)) _ _ (λ l. list_any f l ≡ (f x || (f y || list_any f ys)))
      (λ _. ap (λ (b : Bool). f y || b) (ranked_any f x ys) ∙ swapped (f y) (f x) (list_any f ys)) (λ _. refl)

  pub numbered_any : (f : X → Bool) (xs : List X) → list_any f (by_number number xs) ≡ list_any f xs
  unfolding by_number
  numbered_any f [] = refl
  numbered_any f (x ∷ xs) = ranked_any f x (by_number number xs) ∙ ap (λ (b : Bool). f x || b) (numbered_any f xs)

  -- ---- those that meet a test, where it is met once at most

  passed_over : (test : X → Bool) (x : X) (ys : List X) → test x ≡ false → filter test (ranked number x ys) ≡ filter test ys
  unfolding ranked
  passed_over test x [] e = ap (λ (b : Bool). cond b (x ∷ []) []) e
  passed_over test x (y ∷ ys) e =
      elim (nat_lt (number y) (number x)) as (λ b. filter test (cond b (y ∷ ranked number x ys) (x ∷ y ∷ ys)) ≡ filter test (y ∷ ys)) [
        | true ↦ ap (λ (l : List X). cond (test y) (y ∷ l) l) (passed_over test x ys e)
        | false ↦ ap (λ (b : Bool). cond b (x ∷ filter test (y ∷ ys)) (filter test (y ∷ ys))) e
      ]

  found_alone : (test : X → Bool) (x : X) (ys : List X) → test x ≡ true → filter test ys ≡ [] → filter test (ranked number x ys) ≡ x ∷ []
  unfolding ranked
  found_alone test x [] e n = ap (λ (b : Bool). cond b (x ∷ []) []) e
  found_alone test x (y ∷ ys) e n =
      let u = unmet test y ys (test y) refl n in
      elim (nat_lt (number y) (number x)) as (λ b. filter test (cond b (y ∷ ranked number x ys) (x ∷ y ∷ ys)) ≡ x ∷ []) [
        | true ↦ (λ i. cond (u.0 i) (y ∷ filter test (ranked number x ys)) (filter test (ranked number x ys))) ∙ found_alone test x ys e u.1
        | false ↦ (λ i. cond (e i) (x ∷ filter test (y ∷ ys)) (filter test (y ∷ ys))) ∙ ap (λ (l : List X). x ∷ l) n
      ]

  numbered_case : (test : X → Bool) (x : X) (xs : List X) (t : Bool) → test x ≡ t → (Few (filter test xs) → filter test (by_number number xs) ≡ filter test xs) → Few (cond t (x ∷ filter test xs) (filter test xs))
      → filter test (ranked number x (by_number number xs)) ≡ cond t (x ∷ filter test xs) (filter test xs)
  unfolding Few
  numbered_case test x xs true e ih f =
      let n = none_more x (filter test xs) f in
      found_alone test x (by_number number xs) e (ih (subst Few (sym n) tt) ∙ n) ∙ ap (λ (l : List X). x ∷ l) (sym n)
  numbered_case test x xs false e ih f = passed_over test x (by_number number xs) e ∙ ih f

  pub numbered_few : (test : X → Bool) (xs : List X) → Few (filter test xs) → filter test (by_number number xs) ≡ filter test xs
  unfolding by_number
  numbered_few test [] f = refl
  numbered_few test (x ∷ xs) f = numbered_case test x xs (test x) refl (numbered_few test xs) f
