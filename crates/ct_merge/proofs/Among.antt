-- What is among the items of a list, and the best of them.
use Rattle.std.proofs.Common.{◌≡◌, ◌<◌, ℕ, zero, suc, Bool, true, false, cond, true≢false, ◌==◌, List, [], ◌∷◌, ◌++◌, length, Option, Some, None, inl, inr, refl, sym, ◌∙◌, ap, subst, arith}
use Rattle.std.specs.Prelude.{◌⊎◌, if◌then◌else◌, slice_index_or, Contains}
use Rattle.std.specs.declared.cmp.Ordering.{Ordering}
use Rattle.std.specs.declared.cmp.Ordering.TheVariants.{Less, Equal, Greater}
use Rattle.std.specs.Ordering.{is_lt, is_eq, ordering_reverse}
use Rattle.std.specs.Cmp.{IsTotalOrder, tied_back, tied_itself}
use Rattle.std.specs.List.{All, AllByRecursion, filter, find}
use Rattle.std.specs.List.Sorted.{IsStrictlySortedBy}
use Rattle.std.proofs.lemmas.List.Elements.{All-from_recursion}
use Rattle.ct_values.proofs.Orders.{is_less}
use Rattle.ct_frame.specs.declared.round.Pull.{Pull}
use Rattle.ct_merge.specs.Placing.{better, best_from, best}
use Rattle.ct_merge.specs.Rule.{told}
use Rattle.ct_merge.proofs.Places.{less_not}

module _ {X : Type 0} where
  abbrev pub In : X → List X → Type 0
  In x [] = ⊥
  In x (y ∷ ys) = (y ≡ x) ⊎ In x ys

  in_at : (xs : List X) (k : ℕ) (x : X) → k < length xs → slice_index_or xs k x ≡ x → In x xs
  in_at [] k x l e = absurd (omega arith)
  in_at (y ∷ ys) zero x l e = inl e
  in_at (y ∷ ys) (suc k) x l e = inr (in_at ys k x (omega arith) e)

  pub in_of : (xs : List X) (x : X) → Contains xs x → In x xs
  in_of xs x c = in_at xs c.0 x c.1 c.2

  pub contains_of : (xs : List X) (x : X) → In x xs → Contains xs x
  contains_of [] x h = absurd h
  contains_of (y ∷ ys) x (inl e) = (zero, omega arith, e)
  contains_of (y ∷ ys) x (inr h) = let c = contains_of ys x h in let l = c.1 in (suc c.0, omega arith, c.2)

  pub in_left : (xs ys : List X) (x : X) → In x xs → In x (xs ++ ys)
  in_left [] ys x h = absurd h
  in_left (z ∷ xs) ys x (inl e) = inl e
  in_left (z ∷ xs) ys x (inr h) = inr (in_left xs ys x h)

  pub in_right : (xs ys : List X) (x : X) → In x ys → In x (xs ++ ys)
  in_right [] ys x h = h
  in_right (z ∷ xs) ys x h = inr (in_right xs ys x h)

  pub in_either : (xs ys : List X) (x : X) → In x (xs ++ ys) → In x xs ⊎ In x ys
  in_either [] ys x h = inr h
  in_either (z ∷ xs) ys x (inl e) = inl (inl e)
  in_either (z ∷ xs) ys x (inr h) = elim (in_either xs ys x h) as (λ _. In x (z ∷ xs) ⊎ In x ys) [ inl a ↦ inl (inr a) | inr b ↦ inr b ]

  pub in_filter : (at : X → Bool) (xs : List X) (x : X) → In x (filter at xs) → In x xs × (at x ≡ true)
  in_filter at [] x h = absurd h
  in_filter at (y ∷ ys) x h =
      elim (at y) as (λ b. at y ≡ b → In x (cond b (y ∷ filter at ys) (filter at ys)) → In x (y ∷ ys) × (at x ≡ true)) [
        | true ↦ λ e h. elim h as (λ _. In x (y ∷ ys) × (at x ≡ true)) [
          | inl p ↦ (inl p, subst (λ z. at z ≡ true) p e)
          | inr r ↦ (inr (in_filter at ys x r).0, (in_filter at ys x r).1)
        ]
        | false ↦ λ e h. (inr (in_filter at ys x h).0, (in_filter at ys x h).1)
      ] refl h

  pub into_filter : (at : X → Bool) (xs : List X) (x : X) → In x xs → at x ≡ true → In x (filter at xs)
  into_filter at [] x h e = absurd h
  into_filter at (y ∷ ys) x (inl p) e = subst (λ b. In x (cond b (y ∷ filter at ys) (filter at ys))) (sym (subst (λ z. at z ≡ true) (sym p) e)) (inl p)
  into_filter at (y ∷ ys) x (inr h) e = elim (at y) as (λ b. In x (cond b (y ∷ filter at ys) (filter at ys))) [ true ↦ inr (into_filter at ys x h e) | false ↦ into_filter at ys x h e ]

  pub all_in : (P : X → Type 0) (xs : List X) → AllByRecursion P xs → (x : X) → In x xs → P x
  all_in P [] h x i = absurd i
  all_in P (y ∷ ys) h x (inl e) = subst P e h.0
  all_in P (y ∷ ys) h x (inr i) = all_in P ys h.1 x i

-- a pull of the base that holds the item
pub record ToldBy {X : Type 0} (base : Pull → ℕ) (held : Pull → List X) (p : ℕ) (pulls : List Pull) (x : X) : Type 0 where
  pub pull : Pull
  pub among : In pull pulls
  pub of_base : (base pull == p) ≡ true
  pub has : In x (held pull)

module _ {X : Type 0} (base : Pull → ℕ) (held : Pull → List X) (p : ℕ) where
  later : (q : Pull) (qs : List Pull) (x : X) → ToldBy base held p qs x → ToldBy base held p (q ∷ qs) x
  later q qs x t = record { pull = t.pull; among = inr t.among; of_base = t.of_base; has = t.has }

  pub told_by : (pulls : List Pull) (x : X) → In x (told base held p pulls) → ToldBy base held p pulls x
  told_by [] x h = absurd h
  told_by (q ∷ qs) x h =
      elim (base q == p) as (λ b. (base q == p) ≡ b → In x (if b then held q ++ told base held p qs else told base held p qs) → ToldBy base held p (q ∷ qs) x) [
        | true ↦ λ e h. elim (in_either (held q) (told base held p qs) x h) as (λ _. ToldBy base held p (q ∷ qs) x) [
          | inl a ↦ record { pull = q; among = inl refl; of_base = e; has = a }
          | inr r ↦ later q qs x (told_by qs x r)
        ]
        | false ↦ λ e h. later q qs x (told_by qs x h)
      ] refl h

  pub into_told : (pulls : List Pull) (x : X) (pull : Pull) → In pull pulls → (base pull == p) ≡ true → In x (held pull) → In x (told base held p pulls)
  into_told [] x pull h b i = absurd h
  into_told (q ∷ qs) x pull (inl e) b i =
      subst (λ c. In x (if c then held q ++ told base held p qs else told base held p qs)) (sym (subst (λ z. (base z == p) ≡ true) (sym e) b))
      (in_left (held q) (told base held p qs) x (subst (λ z. In x (held z)) (sym e) i))
  into_told (q ∷ qs) x pull (inr h) b i =
      let rest = into_told qs x pull h b i in
      elim (base q == p) as (λ c. In x (if c then held q ++ told base held p qs else told base held p qs)) [ true ↦ in_right (held q) (told base held p qs) x rest | false ↦ rest ]

  pub told_too : (pulls others : List Pull) → ((q : Pull) → In q pulls → In q others) → (x : X) → In x (told base held p pulls) → In x (told base held p others)
  told_too pulls others h x i =
      let t = told_by pulls x i in
      into_told others x t.pull (h t.pull t.among) t.of_base t.has

not_less : (o : Ordering) → (o ≡ Less → ⊥) → is_lt o ≡ false
not_less Less n = absurd (n refl)
not_less Equal n = refl
not_less Greater n = refl

level : (o r : Ordering) → o ≡ ordering_reverse r → is_lt o ≡ false → is_lt r ≡ false → o ≡ Equal
level Less r e p q = absurd (cc)
level Equal r e p q = refl
level Greater Less e p q = absurd (cc)
level Greater Equal e p q = absurd (cc)
level Greater Greater e p q = absurd (cc)

-- an item of the list before which none comes
pub record IsBest {X : Type 0} (rank : X → X → Ordering) (xs : List X) (found : Option X) : Type 0 where
  pub x : X
  pub is : found ≡ Some x
  pub among : In x xs
  pub first : AllByRecursion (λ y. is_lt (rank y x) ≡ false) xs

module _ {X : Type 0} (rank : X → X → Ordering) (o : IsTotalOrder rank) where
  less_less : (x y z : X) → rank x y ≡ Less → is_lt (rank x z) ≡ false → is_lt (rank y z) ≡ false
  less_less x y z p n = not_less (rank y z) (λ q. true≢false (sym (ap is_lt (o.trans x y z p q)) ∙ n))

  behind : (x y z : X) → is_lt (rank x y) ≡ false → is_lt (rank y z) ≡ false → is_lt (rank x z) ≡ false
  behind x y z p n =
      not_less (rank x z) (λ q. elim (rank y x) as (λ r. rank y x ≡ r → ⊥) [
        | Less ↦ λ s. true≢false (sym (ap is_lt (o.trans y x z s q)) ∙ n)
        | Equal ↦ λ s. true≢false (sym (ap is_lt (o.congr y x z s ∙ q)) ∙ n)
        | Greater ↦ λ s. true≢false (sym (ap is_lt (o.antisymm x y ∙ ap ordering_reverse s)) ∙ p)
      ] refl)

  best_among : (y : X) (xs : List X) → IsBest rank (y ∷ xs) (best_from rank (Some y) xs)
  best_among y [] = record { x = y; is = refl; among = inl refl; first = (ap is_lt (tied_itself o y), tt) }
  best_among y (x ∷ xs) =
      elim (is_lt (rank x y)) as (λ b. is_lt (rank x y) ≡ b → IsBest rank ((if b then x else y) ∷ xs) (best_from rank (Some (if b then x else y)) xs) → IsBest rank (y ∷ x ∷ xs) (best_from rank (Some (if b then x else y)) xs)) [
        | true ↦ λ e b. record {
          x = b.x;
          is = b.is;
          among = inr b.among;
          first = (less_less x y b.x (is_less _ e) b.first.0, b.first);
        }
        | false ↦ λ e b. record {
          x = b.x;
          is = b.is;
          among = elim b.among as (λ _. In b.x (y ∷ x ∷ xs)) [ inl p ↦ inl p | inr r ↦ inr (inr r) ];
          first = (b.first.0, (behind x y b.x e b.first.0, b.first.1));
        }
      ] refl (best_among (better rank x y) xs)

  same_some : (x y : X) → Some x ≡ Some y → x ≡ y
  same_some x y e = grind arith

  -- the best of a list is one of its items, and none comes before it
  pub best_is : (xs : List X) (x : X) → best rank xs ≡ Some x → Contains xs x × All (λ y. is_lt (rank y x) ≡ false) xs
  best_is [] x e = absurd (cc)
  best_is (y ∷ ys) x e =
      let b = best_among y ys in
      let same = same_some b.x x (sym b.is ∙ e) in
      (contains_of (y ∷ ys) x (subst (λ z. In z (y ∷ ys)) same b.among), All-from_recursion (λ w. is_lt (rank w x) ≡ false) (y ∷ ys) (subst (λ z. AllByRecursion (λ w. is_lt (rank w z) ≡ false) (y ∷ ys)) same b.first))

  -- lists with the same items have the same best one, where no two rank alike
  pub same_best : (xs ys : List X) → ((x : X) → In x xs → In x ys) → ((x : X) → In x ys → In x xs) → ((x y : X) → In x xs → In y xs → rank x y ≡ Equal → x ≡ y) → best rank xs ≡ best rank ys
  same_best [] [] there back alone = refl
  same_best [] (y ∷ ys) there back alone = absurd (back y (inl refl))
  same_best (x ∷ xs) [] there back alone = absurd (there x (inl refl))
  same_best (x ∷ xs) (y ∷ ys) there back alone =
      let a = best_among x xs in
      let b = best_among y ys in
      let a_first = all_in (λ w. is_lt (rank w a.x) ≡ false) (x ∷ xs) a.first b.x (back b.x b.among) in
      let b_first = all_in (λ w. is_lt (rank w b.x) ≡ false) (y ∷ ys) b.first a.x (there a.x a.among) in
      a.is ∙ ap Some (alone a.x b.x a.among (back b.x b.among) (level _ _ (o.antisymm a.x b.x) b_first a_first)) ∙ sym b.is

module _ {X : Type 0} (order : X → X → Ordering) (o : IsTotalOrder order) where
  -- a list in order has one item at a place
  pub one_there : (xs : List X) (x y : X) → IsStrictlySortedBy order xs → In x xs → In y xs → order x y ≡ Equal → x ≡ y
  unfolding IsStrictlySortedBy
  one_there [] x y h i j e = absurd i
  one_there (z ∷ zs) x y h (inl p) (inl q) e = sym p ∙ q
  one_there (z ∷ zs) x y h (inl p) (inr j) e = less_not (order x y) (subst (λ w. order w y ≡ Less) p (all_in (λ w. order z w ≡ Less) zs h.0 y j)) e
  one_there (z ∷ zs) x y h (inr i) (inl q) e = less_not (order y x) (subst (λ w. order w x ≡ Less) q (all_in (λ w. order z w ≡ Less) zs h.0 x i)) (tied_back o x y e)
  one_there (z ∷ zs) x y h (inr i) (inr j) e = one_there zs x y h.1 i j e

  absent : (z : X) (xs : List X) → AllByRecursion (λ x. order z x ≡ Less) xs → find (λ x. is_eq (order z x)) xs ≡ None
  absent z [] h = refl
  absent z (x ∷ xs) h = ap (λ r. cond (is_eq r) (Some x) (find (λ x. is_eq (order z x)) xs)) h.0 ∙ absent z xs h.1

  above : (z x : X) (ys : List X) → order z x ≡ Less → AllByRecursion (λ y. order x y ≡ Less) ys → AllByRecursion (λ y. order z y ≡ Less) ys
  above z x [] p h = tt
  above z x (y ∷ ys) p h = (o.trans z x y p h.0, above z x ys p h.1)

  beside : (z x : X) (ys : List X) → order z x ≡ Equal → AllByRecursion (λ y. order x y ≡ Less) ys → AllByRecursion (λ y. order z y ≡ Less) ys
  beside z x [] p h = tt
  beside z x (y ∷ ys) p h = (o.congr z x y p ∙ h.0, beside z x ys p h.1)

  not_none : {A : Type 0} (x : X) → Some x ≡ None → A
  not_none x e = absurd (cc)

  some_same : (x y : X) → Some x ≡ Some y → x ≡ y
  some_same x y e = grind arith

  there_itself : (x : X) (xs : List X) → find (λ w. is_eq (order x w)) (x ∷ xs) ≡ Some x
  there_itself x xs = ap (λ r. cond (is_eq r) (Some x) (find (λ w. is_eq (order x w)) xs)) (tied_itself o x)

  equal : (r : Ordering) → is_eq r ≡ true → r ≡ Equal
  equal Less e = absurd (cc)
  equal Equal e = refl
  equal Greater e = absurd (cc)

  tails : (z x : X) (xs ys : List X) → AllByRecursion (λ y. order x y ≡ Less) xs → AllByRecursion (λ y. order x y ≡ Less) ys → find (λ w. is_eq (order z w)) (x ∷ xs) ≡ find (λ w. is_eq (order z w)) (x ∷ ys) → find (λ w. is_eq (order z w)) xs ≡ find (λ w. is_eq (order z w)) ys
  tails z x xs ys h k e =
      elim (is_eq (order z x)) as (λ b. is_eq (order z x) ≡ b → cond b (Some x) (find (λ w. is_eq (order z w)) xs) ≡ cond b (Some x) (find (λ w. is_eq (order z w)) ys) → find (λ w. is_eq (order z w)) xs ≡ find (λ w. is_eq (order z w)) ys) [
        | true ↦ λ p _. absent z xs (beside z x xs (equal _ p) h) ∙ sym (absent z ys (beside z x ys (equal _ p) k))
        | false ↦ λ p s. s
      ] refl e

  -- lists in order that have the same at each place are one
  pub same_list : (xs ys : List X) → IsStrictlySortedBy order xs → IsStrictlySortedBy order ys → ((z : X) → find (λ w. is_eq (order z w)) xs ≡ find (λ w. is_eq (order z w)) ys) → xs ≡ ys
  unfolding IsStrictlySortedBy
  same_list [] [] h k e = refl
  same_list [] (y ∷ ys) h k e = not_none y (sym (there_itself y ys) ∙ sym (e y))
  same_list (x ∷ xs) [] h k e = not_none x (sym (there_itself x xs) ∙ e x)
  same_list (x ∷ xs) (y ∷ ys) h k e =
      elim (order x y) as (λ r. order x y ≡ r → x ∷ xs ≡ y ∷ ys) [
        | Less ↦ λ p. not_none x (sym (there_itself x xs) ∙ e x ∙ absent x (y ∷ ys) (p, above x y ys p k.0))
        | Greater ↦ λ p. let q = o.antisymm y x ∙ ap ordering_reverse p in not_none y (sym (there_itself y ys) ∙ sym (e y) ∙ absent y (x ∷ xs) (q, above y x xs q h.0))
        | Equal ↦ λ p.
            let same = some_same x y (sym (there_itself x xs) ∙ e x ∙ ap (λ r. cond (is_eq r) (Some y) (find (λ w. is_eq (order x w)) ys)) p) in
            let rest = same_list xs ys h.1 k.1 (λ z. tails z x xs ys h.0 (beside x y ys p k.0) (e z ∙ ap (λ w. find (λ v. is_eq (order z v)) (w ∷ ys)) (sym same))) in
            λ i. same i ∷ rest i
      ] refl
