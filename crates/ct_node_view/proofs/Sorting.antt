-- A stable sort puts items in the order of their numbers.
use Rattle.std.proofs.Common.{◌≡◌, ℕ, zero, suc, ◌<◌, ◌≤◌, Bool, true, false, cond, List, [], ◌∷◌, length, get_or, filter, nat_cmp, is_lt, refl, sym, ap, ◌∙◌, arith, inl, inr, suc-le-suc, zero-le}
use Rattle.std.specs.Prelude.{nat_lt}
use Rattle.std.proofs.lemmas.Bool.{cond-true, cond-false, cases_Bool}
use Rattle.std.proofs.lemmas.Bool.Decides.{nat_tests}
use Rattle.std.specs.List.Sorted.{ties, IsNonDecreasingBy, IsStableByKey}
use Rattle.ct_rules_node.specs.Numbered.{ranked, by_number}

ties_at : (m n : ℕ) → (ties (λ x y. is_lt (nat_cmp x y)) m n ≡ true → m ≡ n) × (m ≡ n → ties (λ x y. is_lt (nat_cmp x y)) m n ≡ true)
ties_at m n = (λ h. grind (arith, nat_tests), λ h. grind (arith, nat_tests))

below : (m n : ℕ) → nat_lt m n ≡ true → m < n
below m n h = grind (arith, nat_tests)

not_below : (m n : ℕ) → nat_lt m n ≡ false → n ≤ m
not_below m n h = grind (arith, nat_tests)

module _ {X : Type 0} (number : X → ℕ) where
  -- do two items have the same number?
  abbrev same : X → X → Bool
  same = ties (λ x y. is_lt (nat_cmp (number x) (number y)))

  same_true : (x y : X) → same x y ≡ true → number x ≡ number y
  same_true x y = (ties_at (number x) (number y)).0

  same_from : (x y : X) → number x ≡ number y → same x y ≡ true
  same_from x y = (ties_at (number x) (number y)).1

  filter_kept : (p : X → Bool) (y : X) (ys : List X) → p y ≡ true → filter p (y ∷ ys) ≡ y ∷ filter p ys
  filter_kept p y ys h = cond-true _ _ _ h

  filter_dropped : (p : X → Bool) (y : X) (ys : List X) → p y ≡ false → filter p (y ∷ ys) ≡ filter p ys
  filter_dropped p y ys h = cond-false _ _ _ h

  -- ---- one item in its place

  goes_on : (z y : X) (ys : List X) → nat_lt (number y) (number z) ≡ true → ranked number z (y ∷ ys) ≡ y ∷ ranked number z ys
  unfolding ranked
  goes_on z y ys h = cond-true _ _ _ h

  stays : (z y : X) (ys : List X) → nat_lt (number y) (number z) ≡ false → ranked number z (y ∷ ys) ≡ z ∷ y ∷ ys
  unfolding ranked
  stays z y ys h = cond-false _ _ _ h

  last : (z : X) → ranked number z [] ≡ z ∷ []
  unfolding ranked
  last z = refl

  -- it changes no order of items of one number
  filter_ranked : (x z : X) (ys : List X) → filter (same x) (ranked number z ys) ≡ filter (same x) (z ∷ ys)
  filter_ranked x z [] = ap (filter (same x)) (last z)
  filter_ranked x z (y ∷ ys) =
      let p = same x in
      elim (cases_Bool (nat_lt (number y) (number z))) [
        | inr stay ↦ ap (filter p) (stays z y ys stay)
        | inl on ↦
            ap (filter p) (goes_on z y ys on)
            ∙ elim (cases_Bool (p y)) [
              | inr without ↦
                  filter_dropped p y (ranked number z ys) without ∙ filter_ranked x z ys
                  ∙ ap (λ (l : List X). cond (p z) (z ∷ l) l) (sym (filter_dropped p y ys without))
              | inl with ↦
                  elim (cases_Bool (p z)) [
                    | inl both ↦ absurd (omega (arith, below _ _ on, same_true x z both, same_true x y with))
                    | inr only ↦
                        filter_kept p y (ranked number z ys) with ∙ ap (λ (l : List X). y ∷ l) (filter_ranked x z ys ∙ filter_dropped p z ys only)
                        ∙ sym (filter_dropped p z (y ∷ ys) only ∙ filter_kept p y ys with)
                  ]
            ]
      ]

  filter_numbered : (x : X) (xs : List X) → filter (same x) (by_number number xs) ≡ filter (same x) xs
  unfolding by_number
  filter_numbered x [] = refl
  filter_numbered x (z ∷ xs) = filter_ranked x z (by_number number xs) ∙ ap (λ (l : List X). cond (same x z) (z ∷ l) l) (filter_numbered x xs)

  -- ---- numbers that do not fall

  abbrev AreAtLeast : ℕ → List X → Type 0
  AreAtLeast n [] = Unit {0}
  AreAtLeast n (y ∷ ys) = (n ≤ number y) × AreAtLeast n ys

  abbrev Rises : List X → Type 0
  Rises [] = Unit {0}
  Rises (y ∷ ys) = AreAtLeast (number y) ys × Rises ys

  at_least_less : (n m : ℕ) (ys : List X) → n ≤ m → AreAtLeast m ys → AreAtLeast n ys
  at_least_less n m [] le h = tt
  at_least_less n m (y ∷ ys) le h = let first = h.0 in (omega arith, at_least_less n m ys le h.1)

  at_least_at : (n : ℕ) (ys : List X) → ((j : ℕ) (d : X) → j < length ys → n ≤ number (get_or ys j d)) → AreAtLeast n ys
  at_least_at n [] h = tt
  at_least_at n (y ∷ ys) h = (h zero y (suc-le-suc zero-le), at_least_at n ys (λ j d lt. h (suc j) d (suc-le-suc lt)))

  rises_sorted : (ys : List X) → IsNonDecreasingBy number ys → Rises ys
  rises_sorted [] h = tt
  rises_sorted (y ∷ ys) h = (
    at_least_at (number y) ys (λ j d lt. h zero (suc j) d zero-le (suc-le-suc lt)),
    rises_sorted ys (λ i j d le lt. h (suc i) (suc j) d (suc-le-suc le) (suc-le-suc lt)),
  )

  at_least_ranked : (n : ℕ) (z : X) (ys : List X) → n ≤ number z → AreAtLeast n ys → AreAtLeast n (ranked number z ys)
  unfolding ranked
  at_least_ranked n z [] le h = (le, tt)
  at_least_ranked n z (y ∷ ys) le h = elim (nat_lt (number y) (number z)) as (λ b. AreAtLeast n (cond b (y ∷ ranked number z ys) (z ∷ y ∷ ys))) [
    | true ↦ (h.0, at_least_ranked n z ys le h.1)
    | false ↦ (le, h)
  ]

  rises_ranked : (z : X) (ys : List X) → Rises ys → Rises (ranked number z ys)
  unfolding ranked
  rises_ranked z [] h = (tt, tt)
  rises_ranked z (y ∷ ys) h = split (nat_lt (number y) (number z)) refl (rises_ranked z ys h.1)
    where
      split : (b : Bool) → nat_lt (number y) (number z) ≡ b → Rises (ranked number z ys) → Rises (cond b (y ∷ ranked number z ys) (z ∷ y ∷ ys))
      split true e rest = (let l = below _ _ e in (at_least_ranked (number y) z ys (omega arith) h.0, rest))
      split false e rest = (let l = not_below _ _ e in (l, at_least_less (number z) (number y) ys l h.0), h)

  rises_numbered : (xs : List X) → Rises (by_number number xs)
  unfolding by_number
  rises_numbered [] = tt
  rises_numbered (x ∷ xs) = rises_ranked x (by_number number xs) (rises_numbered xs)

  -- ---- one order

  -- the number of x occurs among them
  at_least_found : (n : ℕ) (x : X) (ys : List X) (w : X) (ws : List X) → AreAtLeast n ys → filter (same x) ys ≡ w ∷ ws → n ≤ number x
  at_least_found n x [] w ws h e = cc
  at_least_found n x (y ∷ ys) w ws h e =
      elim (cases_Bool (same x y)) [
        | inl with ↦ omega (arith, h.0, same_true x y with)
        | inr without ↦ at_least_found n x ys w ws h.1 (sym (filter_dropped (same x) y ys without) ∙ e)
      ]

  same_order : (ys zs : List X) → Rises ys → Rises zs → ((x : X) → filter (same x) ys ≡ filter (same x) zs) → ys ≡ zs
  same_order [] [] left right agree = refl
  same_order [] (z ∷ zs) left right agree = let clash = agree z ∙ filter_kept (same z) z zs (same_from z z refl) in cc
  same_order (y ∷ ys) [] left right agree = let clash = sym (agree y) ∙ filter_kept (same y) y ys (same_from y y refl) in cc
  same_order (y ∷ ys) (z ∷ zs) left right agree =
      let at_y = filter_kept (same y) y ys (same_from y y refl) in
      let at_z = filter_kept (same z) z zs (same_from z z refl) in
      let up = at_least_found (number z) y (z ∷ zs) y _ (omega arith, right.0) (sym (agree y) ∙ at_y) in
      let down = at_least_found (number y) z (y ∷ ys) z _ (omega arith, left.0) (agree z ∙ at_z) in
      let heads = sym at_y ∙ agree y ∙ filter_kept (same y) z zs (same_from y z (omega arith)) in
      let head : y ≡ z = cc in
      let tails : (x : X) → filter (same x) ys ≡ filter (same x) zs =
      λ x. elim (cases_Bool (same x y)) [
        | inl with ↦
            let both = sym (filter_kept (same x) y ys with) ∙ agree x ∙ filter_kept (same x) z zs (ap (same x) (sym head) ∙ with) in cc
        | inr without ↦
            sym (filter_dropped (same x) y ys without) ∙ agree x ∙ filter_dropped (same x) z zs (ap (same x) (sym head) ∙ without)
      ] in
      ap (λ w. w ∷ ys) head ∙ ap (λ l. z ∷ l) (same_order ys zs left.1 right.1 tails)

  pub numbered_from_sort : (xs ys : List X) → IsNonDecreasingBy number ys → IsStableByKey number nat_cmp xs ys → ys ≡ by_number number xs
  numbered_from_sort xs ys sorted stable =
      same_order ys (by_number number xs) (rises_sorted ys sorted) (rises_numbered xs) (λ x. stable x ∙ sym (filter_numbered x xs))
