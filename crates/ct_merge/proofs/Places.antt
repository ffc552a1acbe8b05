-- Lists with one item at each place: what stands there after one more item, and that they stay in order.
use Rattle.std.proofs.Common.{◌≡◌, Bool, true, false, cond, List, [], ◌∷◌, ◌++◌, Option, Some, None, refl, sym, ◌∙◌, ap, subst}
use Rattle.std.specs.Prelude.{if◌then◌else◌, drop, slice_index_or, IfSome, option_to_list}
use Rattle.std.specs.declared.cmp.Ordering.{Ordering}
use Rattle.std.specs.declared.cmp.Ordering.TheVariants.{Less, Equal, Greater}
use Rattle.std.specs.Ordering.{is_lt, match_ordering, ordering_reverse}
use Rattle.std.specs.Cmp.{IsTotalOrder, tied_back}
use Rattle.std.specs.List.{AllByRecursion, filter, find}
use Rattle.std.specs.List.Sorted.{IsStrictlySortedBy}
use Rattle.ct_merge.specs.Placing.{better, better_of, best_from, best, inserted, all_inserted, turn}

-- one of two
pub better_is : {X : Type 0} (rank : X → X → Ordering) (P : X → Type 0) (x y : X) → P x → P y → P (better rank x y)
better_is rank P x y p q = elim (is_lt (rank x y)) as (λ b. P (if b then x else y)) [ true ↦ p | false ↦ q ]

pub less_not : {A : Type 0} (o : Ordering) → o ≡ Less → o ≡ Equal → A
less_not Less p q = absurd (cc)
less_not Equal p q = absurd (cc)
less_not Greater p q = absurd (cc)

module _ {X : Type 0} (order rank : X → X → Ordering) (o : IsTotalOrder order) where
  Below : X → List X → Type 0
  Below x ys = AllByRecursion (λ y. order x y ≡ Less) ys

  turned : (x y : X) → order y x ≡ Less → order x y ≡ Greater
  turned x y h = o.antisymm x y ∙ ap ordering_reverse h

  turned_back : (x y : X) → order x y ≡ Greater → order y x ≡ Less
  turned_back x y h = o.antisymm y x ∙ ap ordering_reverse h

  -- an item below all new ones stays first
  pub first_stays : (y : X) (xs ys : List X) → AllByRecursion (λ x. order y x ≡ Less) xs → all_inserted order rank xs (y ∷ ys) ≡ y ∷ all_inserted order rank xs ys
  first_stays y [] ys h = refl
  first_stays y (x ∷ xs) ys h =
      ap (λ r. all_inserted order rank xs (match_ordering r (x ∷ y ∷ ys) (better rank x y ∷ ys) (y ∷ inserted order rank x ys))) (turned x y h.0)
      ∙ first_stays y xs (inserted order rank x ys) h.1

  below_all : (x y : X) (zs : List X) → order x y ≡ Less → AllByRecursion (λ z. order y z ≡ Less) zs → AllByRecursion (λ z. order x z ≡ Less) zs
  below_all x y [] p h = tt
  below_all x y (z ∷ zs) p h = (o.trans x y z p h.0, below_all x y zs p h.1)

  below_tied : (x y : X) (zs : List X) → order x y ≡ Equal → AllByRecursion (λ z. order y z ≡ Less) zs → AllByRecursion (λ z. order x z ≡ Less) zs
  below_tied x y [] p h = tt
  below_tied x y (z ∷ zs) p h = (o.congr x y z p ∙ h.0, below_tied x y zs p h.1)

  -- the first of two lists is the lower of their first items, and at one place the better of them
  pub new_first : (x y : X) (xs ys : List X) → AllByRecursion (λ z. order x z ≡ Less) xs → order x y ≡ Less → all_inserted order rank (x ∷ xs) (y ∷ ys) ≡ x ∷ all_inserted order rank xs (y ∷ ys)
  new_first x y xs ys h p = ap (λ r. all_inserted order rank xs (match_ordering r (x ∷ y ∷ ys) (better rank x y ∷ ys) (y ∷ inserted order rank x ys))) p ∙ first_stays x xs (y ∷ ys) h

  pub both_first : (x y : X) (xs ys : List X) → AllByRecursion (λ z. order x z ≡ Less) xs → order x y ≡ Equal → all_inserted order rank (x ∷ xs) (y ∷ ys) ≡ better rank x y ∷ all_inserted order rank xs ys
  both_first x y xs ys h p =
      ap (λ r. all_inserted order rank xs (match_ordering r (x ∷ y ∷ ys) (better rank x y ∷ ys) (y ∷ inserted order rank x ys))) p
      ∙ first_stays (better rank x y) xs ys (better_is rank (λ z. AllByRecursion (λ w. order z w ≡ Less) xs) x y h (below_tied y x xs (tied_back o x y p) h))

  pub old_first : (x y : X) (xs ys : List X) → AllByRecursion (λ z. order x z ≡ Less) xs → order x y ≡ Greater → all_inserted order rank (x ∷ xs) (y ∷ ys) ≡ y ∷ all_inserted order rank (x ∷ xs) ys
  old_first x y xs ys h p = first_stays y (x ∷ xs) ys (turned_back x y p, below_all y x xs (turned_back x y p) h)

  -- new items alone are the list
  pub alone : (xs : List X) → IsStrictlySortedBy order xs → all_inserted order rank xs [] ≡ xs
  unfolding IsStrictlySortedBy
  alone [] h = refl
  alone (x ∷ xs) h = first_stays x xs [] h.0 ∙ ap (λ l. x ∷ l) (alone xs h.1)

  below_inserted : (z x : X) (ys : List X) → order z x ≡ Less → AllByRecursion (λ y. order z y ≡ Less) ys → AllByRecursion (λ y. order z y ≡ Less) (inserted order rank x ys)
  below_inserted z x [] p h = (p, tt)
  below_inserted z x (y ∷ ys) p h =
      elim (order x y) as (λ r. AllByRecursion (λ w. order z w ≡ Less) (match_ordering r (x ∷ y ∷ ys) (better rank x y ∷ ys) (y ∷ inserted order rank x ys))) [
        | Less ↦ (p, h)
        | Equal ↦ (better_is rank (λ w. order z w ≡ Less) x y p h.0, h.1)
        | Greater ↦ (h.0, below_inserted z x ys p h.1)
      ]

  -- with one more item a list stays in order
  pub inserted_ascends : (x : X) (ys : List X) → IsStrictlySortedBy order ys → IsStrictlySortedBy order (inserted order rank x ys)
  unfolding IsStrictlySortedBy
  inserted_ascends x [] h = (tt, tt)
  inserted_ascends x (y ∷ ys) h =
      elim (order x y) as (λ r. order x y ≡ r → IsStrictlySortedBy order (match_ordering r (x ∷ y ∷ ys) (better rank x y ∷ ys) (y ∷ inserted order rank x ys))) [
        | Less ↦ λ p. ((p, below_all x y ys p h.0), h)
        | Equal ↦ λ p. (better_is rank (λ w. AllByRecursion (λ z. order w z ≡ Less) ys) x y (below_tied x y ys p h.0) h.0, h.1)
        | Greater ↦ λ p. (below_inserted y x ys (turned_back x y p) h.0, inserted_ascends x ys h.1)
      ] refl

  pub all_inserted_ascends : (xs ys : List X) → IsStrictlySortedBy order ys → IsStrictlySortedBy order (all_inserted order rank xs ys)
  all_inserted_ascends [] ys h = h
  all_inserted_ascends (x ∷ xs) ys h = all_inserted_ascends xs (inserted order rank x ys) (inserted_ascends x ys h)

  -- a test that passes at one place alone
  module _ (at : X → Bool) (alike : (x y : X) → order x y ≡ Equal → at x ≡ at y) (one : (x y : X) → at x ≡ true → at y ≡ true → order x y ≡ Equal) where
    none_above : (x : X) (ys : List X) → at x ≡ true → AllByRecursion (λ y. order x y ≡ Less) ys → find at ys ≡ None
    none_above x [] p h = refl
    none_above x (y ∷ ys) p h =
        elim (at y) as (λ b. at y ≡ b → cond b (Some y) (find at ys) ≡ None) [
          | true ↦ λ q. less_not (order x y) h.0 (one x y p q)
          | false ↦ λ q. none_above x ys p h.1
        ] refl

    -- at its place stands the better of the new item and the one that stood there, and elsewhere what stood there
    pub find_inserted : (x : X) (ys : List X) → IsStrictlySortedBy order ys → find at (inserted order rank x ys) ≡ cond (at x) (Some (better_of rank x (find at ys))) (find at ys)
    unfolding IsStrictlySortedBy
    find_inserted x [] h = refl
    find_inserted x (y ∷ ys) h =
        elim (order x y) as (λ r. order x y ≡ r → find at (match_ordering r (x ∷ y ∷ ys) (better rank x y ∷ ys) (y ∷ inserted order rank x ys)) ≡ cond (at x) (Some (better_of rank x (find at (y ∷ ys)))) (find at (y ∷ ys))) [
          | Less ↦ λ p. elim (at x) as (λ b. at x ≡ b → cond b (Some x) (find at (y ∷ ys)) ≡ cond b (Some (better_of rank x (find at (y ∷ ys)))) (find at (y ∷ ys))) [
            | true ↦ λ q. ap (λ f. Some (better_of rank x f)) (sym (none_above x (y ∷ ys) q (p, below_all x y ys p h.0)))
            | false ↦ λ q. refl
          ] refl
          | Equal ↦ λ p. let same = alike x y p in
              elim (at x) as (λ b. at x ≡ b → cond (at (better rank x y)) (Some (better rank x y)) (find at ys) ≡ cond b (Some (better_of rank x (find at (y ∷ ys)))) (find at (y ∷ ys))) [
                | true ↦ λ q. ap (λ b. cond b (Some (better rank x y)) (find at ys)) (better_is rank (λ w. at w ≡ true) x y q (sym same ∙ q))
                    ∙ ap (λ b. Some (better_of rank x (cond b (Some y) (find at ys)))) (sym q ∙ same)
                | false ↦ λ q. ap (λ b. cond b (Some (better rank x y)) (find at ys)) (better_is rank (λ w. at w ≡ false) x y q (sym same ∙ q))
                    ∙ ap (λ b. cond b (Some y) (find at ys)) (sym q ∙ same)
              ] refl
          | Greater ↦ λ p. ap (cond (at y) (Some y)) (find_inserted x ys h.1)
              ∙ elim (at x) as (λ b. at x ≡ b → cond (at y) (Some y) (cond b (Some (better_of rank x (find at ys))) (find at ys)) ≡ cond b (Some (better_of rank x (find at (y ∷ ys)))) (find at (y ∷ ys))) [
                | true ↦ λ q. elim (at y) as (λ c. at y ≡ c → cond c (Some y) (Some (better_of rank x (find at ys))) ≡ Some (better_of rank x (cond c (Some y) (find at ys)))) [
                  | true ↦ λ s. less_not (order y x) (turned_back x y p) (one y x s q)
                  | false ↦ λ s. refl
                ] refl
                | false ↦ λ q. refl
              ] refl
        ] refl

    -- after more items the best of the one that stood there and of those for that place
    pub find_all_inserted : (xs ys : List X) → IsStrictlySortedBy order ys → find at (all_inserted order rank xs ys) ≡ best_from rank (find at ys) (filter at xs)
    find_all_inserted [] ys h = refl
    find_all_inserted (x ∷ xs) ys h =
        find_all_inserted xs (inserted order rank x ys) (inserted_ascends x ys h)
        ∙ ap (λ f. best_from rank f (filter at xs)) (find_inserted x ys h)
        ∙ elim (at x) as (λ b. best_from rank (cond b (Some (better_of rank x (find at ys))) (find at ys)) (filter at xs) ≡ best_from rank (find at ys) (cond b (x ∷ filter at xs) (filter at xs))) [ true ↦ refl | false ↦ refl ]

    pub find_alone : (xs : List X) → IsStrictlySortedBy order xs → find at xs ≡ best rank (filter at xs)
    unfolding IsStrictlySortedBy
    find_alone xs h = ap (find at) (sym (alone xs h)) ∙ find_all_inserted xs [] tt

  -- what is left of a list in order
  pub rest_ascends : (more rest : List X) → rest ≡ drop 1 more → IsStrictlySortedBy order more → IsStrictlySortedBy order rest
  unfolding IsStrictlySortedBy
  rest_ascends [] rest e h = subst (IsStrictlySortedBy order) (sym e) tt
  rest_ascends (x ∷ xs) rest e h = subst (IsStrictlySortedBy order) (sym e) h.1

  -- the next item of two lists, by whose turn it is
  pub next_new : (more kept rest : List X) (r : Option X) → IfSome r (λ z. z ≡ slice_index_or more 0 z) → rest ≡ drop 1 more → turn order more kept ≡ Less → IsStrictlySortedBy order more → IfSome r (λ z. all_inserted order rank more kept ≡ z ∷ all_inserted order rank rest kept)
  unfolding IsStrictlySortedBy
  next_new more kept rest None l e t h = tt
  next_new [] kept rest (Some z) l e t h = absurd (cc)
  next_new (x ∷ xs) [] rest (Some z) l e t h =
      first_stays x xs [] h.0 ∙ ap (λ w. w ∷ all_inserted order rank xs []) (sym l) ∙ ap (λ w. z ∷ all_inserted order rank w []) (sym e)
  next_new (x ∷ xs) (y ∷ ys) rest (Some z) l e t h =
      new_first x y xs ys h.0 t ∙ ap (λ w. w ∷ all_inserted order rank xs (y ∷ ys)) (sym l) ∙ ap (λ w. z ∷ all_inserted order rank w (y ∷ ys)) (sym e)

  pub next_old : (more kept rest : List X) (r : Option X) → kept ≡ option_to_list r ++ rest → IfSome r (λ z. z ≡ slice_index_or kept 0 z) → rest ≡ drop 1 kept → turn order more kept ≡ Greater → IsStrictlySortedBy order more → IfSome r (λ z. all_inserted order rank more kept ≡ z ∷ all_inserted order rank more rest)
  unfolding IsStrictlySortedBy
  next_old more kept rest None i l e t h = tt
  next_old [] [] rest (Some z) i l e t h = absurd (cc)
  next_old [] (y ∷ ys) rest (Some z) i l e t h = ap (λ w. w ∷ ys) (sym l) ∙ ap (λ w. z ∷ w) (sym e)
  next_old (x ∷ xs) [] rest (Some z) i l e t h = absurd (cc)
  next_old (x ∷ xs) (y ∷ ys) rest (Some z) i l e t h =
      old_first x y xs ys h.0 t ∙ ap (λ w. w ∷ all_inserted order rank (x ∷ xs) ys) (sym l) ∙ ap (λ w. z ∷ all_inserted order rank (x ∷ xs) w) (sym e)

  pub next_both : (more kept more_rest kept_rest : List X) (x y : X) → x ≡ slice_index_or more 0 x → y ≡ slice_index_or kept 0 y → more_rest ≡ drop 1 more → kept_rest ≡ drop 1 kept → turn order more kept ≡ Equal → IsStrictlySortedBy order more → all_inserted order rank more kept ≡ better rank x y ∷ all_inserted order rank more_rest kept_rest
  unfolding IsStrictlySortedBy
  next_both [] kept more_rest kept_rest x y l m e f t h = absurd (cc)
  next_both (a ∷ tail) [] more_rest kept_rest x y l m e f t h = absurd (cc)
  next_both (a ∷ tail) (b ∷ bs) more_rest kept_rest x y l m e f t h =
      both_first a b tail bs h.0 t ∙ (λ i. better rank (sym l i) (sym m i) ∷ all_inserted order rank (sym e i) (sym f i))
