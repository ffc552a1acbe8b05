-- Addresses in ascending order: they are those that are given, and no other list in that order has the same items.
use Rattle.std.proofs.Common.{◌≡◌, Bool, true, false, cond, ◌⊎◌, inl, inr, ⊎_elim, List, [], ◌∷◌, refl, sym, ap, ◌∙◌, subst}
use Rattle.std.specs.List.{AllByRecursion, IsDistinct}
use Rattle.std.specs.List.Sorted.{IsPermutation, IsStrictlySortedBy}
use Rattle.std.specs.Ordering.{ordering_reverse}
use Rattle.std.specs.declared.cmp.Ordering.TheVariants.{Less, Greater}
use Rattle.std.proofs.lemmas.List.Elements.{All-from_recursion, recursion_from_All}
use Rattle.std.proofs.lemmas.List.Sorted.{All-permutation, IsPermutation-cons, IsPermutation-middle, IsPermutation-refl, IsPermutation-sym, IsPermutation-trans}
use Rattle.ct_values.specs.Address.{address_before, address_cmp, same_address}
use Rattle.ct_values.specs.declared.address.Address.{Address}
use Rattle.ct_values.specs.declared.address.Address.TheVariants.{V4, V6}
use Rattle.ct_values.proofs.AddressOrder.{address_total}
use Rattle.ct_values.proofs.Orders.{is_less, number_rises}
use Rattle.ct_play.specs.Opening.{ascending, in_place}

abbrev Before : Address → Address → Type 0
Before a b = address_cmp a b ≡ Less

-- what each item has follows for each from another fact of it
mapped : (P Q : Address → Type 0) (xs : List Address) → ((y : Address) → P y → Q y) → AllByRecursion P xs → AllByRecursion Q xs
mapped P Q [] f h = tt
mapped P Q (x ∷ xs) f h = (f x h.0, mapped P Q xs f h.1)

-- the items of one list are those of another in another order
carried : (P : Address → Type 0) (xs ys : List Address) → IsPermutation xs ys → AllByRecursion P xs → AllByRecursion P ys
carried P xs ys p h = recursion_from_All P ys (All-permutation P xs ys p (All-from_recursion P xs h))

-- ---- the same items

placed_permutes : (a : Address) (xs : List Address) → IsPermutation (a ∷ xs) (in_place a xs)
placed_permutes a [] = IsPermutation-refl (a ∷ [])
placed_permutes a (x ∷ xs) =
    elim (address_before x a) as (λ b. IsPermutation (a ∷ x ∷ xs) (cond b (x ∷ in_place a xs) (a ∷ x ∷ xs))) [
      | true ↦
          IsPermutation-trans (a ∷ x ∷ xs) (x ∷ a ∷ xs) (x ∷ in_place a xs)
          (IsPermutation-sym (x ∷ a ∷ xs) (a ∷ x ∷ xs) (IsPermutation-middle (x ∷ []) a xs))
          (IsPermutation-cons x (a ∷ xs) (in_place a xs) (placed_permutes a xs))
      | false ↦ IsPermutation-refl (a ∷ x ∷ xs)
    ]

pub ascending_permutes : (xs : List Address) → IsPermutation xs (ascending xs)
ascending_permutes [] = IsPermutation-refl []
ascending_permutes (a ∷ xs) =
    IsPermutation-trans (a ∷ xs) (a ∷ ascending xs) (in_place a (ascending xs)) (IsPermutation-cons a xs (ascending xs) (ascending_permutes xs)) (placed_permutes a (ascending xs))

-- ---- in order

-- of two that differ one comes before the other
rises : (a b : Address) → address_before b a ≡ false → same_address a b ≡ false → Before a b
rises (V4 m) (V4 n) l e = number_rises m n l e
rises (V4 m) (V6 n) l e = refl
rises (V6 m) (V4 n) l e = absurd (let h : true ≡ false = l in cc)
rises (V6 m) (V6 n) l e = number_rises m n l e

placed_sorted : (a : Address) (xs : List Address) → AllByRecursion (λ y. same_address a y ≡ false) xs → IsStrictlySortedBy address_cmp xs → IsStrictlySortedBy address_cmp (in_place a xs)
unfolding IsStrictlySortedBy
placed_sorted a [] d s = (tt, tt)
placed_sorted a (x ∷ xs) d s = by_test (address_before x a) refl (placed_sorted a xs d.1 s.1)
  where
    by_test : (b : Bool) → address_before x a ≡ b → IsStrictlySortedBy address_cmp (in_place a xs) → IsStrictlySortedBy address_cmp (cond b (x ∷ in_place a xs) (a ∷ x ∷ xs))
    by_test true e more = (carried (λ y. Before x y) (a ∷ xs) (in_place a xs) (placed_permutes a xs) (is_less (address_cmp x a) e, s.0), more)
    by_test false e more =
        let h : Before a x = rises a x e d.0 in
        ((h, mapped (λ y. Before x y) (λ y. Before a y) xs (λ y k. address_total.trans a x y h k) s.0), s)

pub ascending_sorted : (xs : List Address) → IsDistinct same_address xs → IsStrictlySortedBy address_cmp (ascending xs)
unfolding IsDistinct IsStrictlySortedBy
ascending_sorted [] d = tt
ascending_sorted (a ∷ xs) d =
    placed_sorted a (ascending xs) (carried (λ y. same_address a y ≡ false) xs (ascending xs) (ascending_permutes xs) d.0) (ascending_sorted xs d.1)

-- ---- no other list

abbrev In : Address → List Address → Type 0
In z [] = ⊥
In z (x ∷ xs) = (z ≡ x) ⊎ In z xs

each_in : (xs : List Address) → AllByRecursion (λ y. In y xs) xs
each_in [] = tt
each_in (x ∷ xs) = (inl refl, mapped (λ y. In y xs) (λ y. In y (x ∷ xs)) xs (λ y k. inr k) (each_in xs))

no_cycle : (a b : Address) → Before a b → Before b a → ⊥
no_cycle a b h k = (let e : Less ≡ Greater = sym h ∙ address_total.antisymm a b ∙ ap ordering_reverse k in cc)

in_after : (y z : Address) (xs : List Address) → In z xs → AllByRecursion (λ v. Before y v) xs → Before y z
in_after y z [] i h = absurd i
in_after y z (x ∷ xs) i h = ⊎_elim (λ (e : z ≡ x). subst (λ v. Before y v) (sym e) h.0) (λ (k : In z xs). in_after y z xs k h.1) i

-- the first items are the same
heads : (x y : Address) (xs ys : List Address) → AllByRecursion (λ v. Before x v) xs → AllByRecursion (λ v. Before y v) ys → In y (x ∷ xs) → In x (y ∷ ys) → x ≡ y
heads x y xs ys s t i j = ⊎_elim (λ (e : y ≡ x). sym e) (λ (k : In y xs). ⊎_elim (λ (e : x ≡ y). e) (λ (l : In x ys). absurd (no_cycle x y (in_after x y xs k s) (in_after y x ys l t))) j) i

-- none of the later items is the first one
rest_in : (x : Address) (xs zs : List Address) → AllByRecursion (λ v. Before x v) zs → AllByRecursion (λ z. In z (x ∷ xs)) zs → AllByRecursion (λ z. In z xs) zs
rest_in x xs [] b i = tt
rest_in x xs (z ∷ zs) b i =
    (⊎_elim (λ (e : z ≡ x). absurd (no_cycle x x (subst (λ v. Before x v) e b.0) (subst (λ v. Before x v) e b.0))) (λ (k : In z xs). k) i.0, rest_in x xs zs b.1 i.1)

only : (xs ys : List Address) → IsStrictlySortedBy address_cmp xs → IsStrictlySortedBy address_cmp ys → AllByRecursion (λ y. In y xs) ys → AllByRecursion (λ x. In x ys) xs → xs ≡ ys
unfolding IsStrictlySortedBy
only [] [] s t a b = refl
only [] (y ∷ ys) s t a b = absurd a.0
only (x ∷ xs) [] s t a b = absurd b.0
only (x ∷ xs) (y ∷ ys) s t a b =
    let e : x ≡ y = heads x y xs ys s.0 t.0 a.0 b.0 in
    let before : AllByRecursion (λ v. Before x v) ys = subst (λ u. AllByRecursion (λ v. Before u v) ys) (sym e) t.0 in
    let after : AllByRecursion (λ v. Before y v) xs = subst (λ u. AllByRecursion (λ v. Before u v) xs) e s.0 in
    let more : xs ≡ ys = only xs ys s.1 t.1 (rest_in x xs ys before a.1) (rest_in y ys xs after b.1) in
    ap (λ v. v ∷ xs) e ∙ ap (λ l. y ∷ l) more

-- a list in ascending order is that of its items
pub sorted_is : (xs ys : List Address) → IsPermutation xs ys → IsStrictlySortedBy address_cmp ys → IsDistinct same_address xs → ys ≡ ascending xs
sorted_is xs ys p s d =
    let q : IsPermutation ys (ascending xs) = IsPermutation-trans ys xs (ascending xs) (IsPermutation-sym xs ys p) (ascending_permutes xs) in
    only ys (ascending xs) s (ascending_sorted xs d) (carried (λ y. In y ys) ys (ascending xs) q (each_in ys)) (carried (λ y. In y (ascending xs)) (ascending xs) ys (IsPermutation-sym ys (ascending xs) q) (each_in (ascending xs)))
