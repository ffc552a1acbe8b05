-- How many rows are held, and which of several rows is kept.
use Rattle.std.proofs.Common.{◌≡◌, ◌≤◌, ◌+◌, ℕ, suc, get_or, Bool, true, false, cond, true≢false, ◌||◌, List, [], ◌∷◌, length, Some, refl, sym, ◌∙◌, ap, arith}
use Rattle.std.specs.Prelude.{if◌then◌else◌, is_some, Contains}
use Rattle.std.specs.declared.cmp.Ordering.{Ordering}
use Rattle.std.specs.declared.cmp.Ordering.TheVariants.{Less, Equal, Greater}
use Rattle.std.specs.Ordering.{is_lt, is_eq, nat_cmp, bool_cmp, ordering_then}
use Rattle.std.specs.Cmp.{IsTotalOrder, alike_right, tied_itself}
use Rattle.std.specs.List.{All, AllByRecursion, filter, find, list_any}
use Rattle.std.specs.List.Sorted.{IsStrictlySortedBy}
use Rattle.ct_frame.specs.declared.round.Pull.{Pull}
use Rattle.ct_merge.specs.declared.held.HeldRow.{HeldRow}
use Rattle.ct_merge.specs.Placing.{better_of, best_from, best}
use Rattle.ct_merge.specs.Held.{is_own, row_order, row_rank, rows_of}
use Rattle.ct_merge.specs.Orders.{row_order_total, row_rank_total}
use Rattle.ct_merge.specs.Gathered.{nothing, gathered_all}
use Rattle.ct_merge.specs.Rule.{are_in_order, told, vparent, different, is_same_place, IsKeptRather}
use Rattle.ct_merge.proofs.Ordered.{rows_ascend, no_items}
use Rattle.ct_law_merge.proofs.Folding.{all_joined, all_joined_ascends}
use Rattle.ct_law_merge.proofs.Rules.{gathered_rows, row_test}
use Rattle.ct_merge.proofs.Among.{best_is}
use Rattle.ct_law_merge.proofs.AnyOrder.{found_at}

equal : (r : Ordering) → is_eq r ≡ true → r ≡ Equal
equal Less e = absurd (cc)
equal Equal e = refl
equal Greater e = absurd (cc)

module _ {X : Type 0} where
  some_found : (test : X → Bool) (xs : List X) → is_some (find test xs) ≡ list_any test xs
  some_found test [] = refl
  some_found test (x ∷ xs) = elim (test x) as (λ b. is_some (cond b (Some x) (find test xs)) ≡ (b || list_any test xs)) [ true ↦ refl | false ↦ some_found test xs ]

  some_best_from : (rank : X → X → Ordering) (x : X) (xs : List X) → is_some (best_from rank (Some x) xs) ≡ true
  some_best_from rank x [] = refl
  some_best_from rank x (y ∷ ys) = some_best_from rank (better_of rank y (Some x)) ys

  some_best : (rank : X → X → Ordering) (test : X → Bool) (xs : List X) → is_some (best rank (filter test xs)) ≡ list_any test xs
  some_best rank test [] = refl
  some_best rank test (x ∷ xs) = elim (test x) as (λ b. is_some (best rank (cond b (x ∷ filter test xs) (filter test xs))) ≡ (b || list_any test xs)) [ true ↦ some_best_from rank x (filter test xs) | false ↦ some_best rank test xs ]

one_more : (n : ℕ) → suc n ≡ n + 1
one_more n = omega arith

module _ {X : Type 0} (order : X → X → Ordering) (o : IsTotalOrder order) where
  abbrev there : X → List X → Bool
  there z ys = list_any (λ y. is_eq (order z y)) ys

  tied : (z x : X) (ys : List X) → order z x ≡ Equal → there z ys ≡ there x ys
  tied z x [] p = refl
  tied z x (y ∷ ys) p = λ i. is_eq (o.congr z x y p i) || tied z x ys p i

  missing : (z x : X) (ys : List X) → order z x ≡ Equal → AllByRecursion (λ y. order x y ≡ Less) ys → there z ys ≡ false
  missing z x [] p h = refl
  missing z x (y ∷ ys) p h = (λ i. is_eq ((o.congr z x y p ∙ h.0) i) || missing z x ys p h.1 i)

  -- the list without the item at a place
  abbrev without : X → List X → List X
  without x [] = []
  without x (y ∷ ys) = if is_eq (order x y) then ys else y ∷ without x ys

  length_without : (x : X) (ys : List X) → there x ys ≡ true → length ys ≡ suc (length (without x ys))
  length_without x [] h = absurd (true≢false (sym h))
  length_without x (y ∷ ys) h =
      elim (is_eq (order x y)) as (λ b. (b || there x ys) ≡ true → suc (length ys) ≡ suc (length (if b then ys else y ∷ without x ys))) [ true ↦ λ _. refl | false ↦ λ h. ap suc (length_without x ys h) ] h

  below_without : (z x : X) (ys : List X) → AllByRecursion (λ y. order z y ≡ Less) ys → AllByRecursion (λ y. order z y ≡ Less) (without x ys)
  below_without z x [] h = tt
  below_without z x (y ∷ ys) h = elim (is_eq (order x y)) as (λ b. AllByRecursion (λ y. order z y ≡ Less) (if b then ys else y ∷ without x ys)) [ true ↦ h.1 | false ↦ (h.0, below_without z x ys h.1) ]

  without_ascends : (x : X) (ys : List X) → IsStrictlySortedBy order ys → IsStrictlySortedBy order (without x ys)
  unfolding IsStrictlySortedBy
  without_ascends x [] h = tt
  without_ascends x (y ∷ ys) h = elim (is_eq (order x y)) as (λ b. IsStrictlySortedBy order (if b then ys else y ∷ without x ys)) [ true ↦ h.1 | false ↦ (below_without y x ys h.0, without_ascends x ys h.1) ]

  there_without : (z x : X) (ys : List X) → IsStrictlySortedBy order ys → there z (without x ys) ≡ (if is_eq (order z x) then false else there z ys)
  unfolding IsStrictlySortedBy
  there_without z x [] h = elim (is_eq (order z x)) as (λ b. false ≡ (if b then false else false)) [ true ↦ refl | false ↦ refl ]
  there_without z x (y ∷ ys) h =
      elim (is_eq (order x y)) as (λ b. is_eq (order x y) ≡ b → there z (if b then ys else y ∷ without x ys) ≡ (if is_eq (order z x) then false else (is_eq (order z y) || there z ys))) [
        | true ↦ λ p. elim (is_eq (order z x)) as (λ b. is_eq (order z x) ≡ b → there z ys ≡ (if b then false else (is_eq (order z y) || there z ys))) [
          | true ↦ λ q. missing z y ys (o.congr z x y (equal _ q) ∙ equal _ p) h.0
          | false ↦ λ q. ap (λ b. b || there z ys) (sym (ap is_eq (sym (alike_right o x y z (equal _ p))) ∙ q))
        ] refl
        | false ↦ λ p. ap (λ b. is_eq (order z y) || b) (there_without z x ys h.1)
            ∙ elim (is_eq (order z x)) as (λ b. is_eq (order z x) ≡ b → (is_eq (order z y) || (if b then false else there z ys)) ≡ (if b then false else (is_eq (order z y) || there z ys))) [
              | true ↦ λ q. ap (λ b. b || false) (ap is_eq (o.congr z x y (equal _ q)) ∙ p)
              | false ↦ λ q. refl
            ] refl
      ] refl

  -- a list in order with the places of another has as many items as the other has places
  pub count : (xs ys : List X) → IsStrictlySortedBy order ys → ((z : X) → there z ys ≡ there z xs) → length ys ≡ different (λ x y. is_eq (order x y)) xs
  count [] [] h e = refl
  count [] (y ∷ ys) h e = absurd (true≢false (ap (λ r. is_eq r || there y ys) (sym (tied_itself o y)) ∙ e y))
  count (x ∷ xs) ys h e =
      elim (there x xs) as (λ b. there x xs ≡ b → length ys ≡ (if b then different (λ x y. is_eq (order x y)) xs else different (λ x y. is_eq (order x y)) xs + 1)) [
        | true ↦ λ p. count xs ys h (λ z. e z ∙ elim (is_eq (order z x)) as (λ b. is_eq (order z x) ≡ b → (b || there z xs) ≡ there z xs) [
          | true ↦ λ q. sym (tied z x xs (equal _ q) ∙ p)
          | false ↦ λ q. refl
        ] refl)
        | false ↦ λ p.
            length_without x ys (e x ∙ ap (λ r. is_eq r || there x xs) (tied_itself o x))
            ∙ ap suc (count xs (without x ys) (without_ascends x ys h) (λ z. there_without z x ys h ∙ elim (is_eq (order z x)) as (λ b. is_eq (order z x) ≡ b → (if b then false else there z ys) ≡ there z xs) [
              | true ↦ λ q. sym (tied z x xs (equal _ q) ∙ p)
              | false ↦ λ q. e z ∙ ap (λ b. b || there z xs) q
            ] refl))
            ∙ one_more _
      ] refl

-- the rows that are held are as many as there are places in what the pulls of the greatest base hold
pub rows_counted : (pulls : List Pull) → are_in_order pulls ≡ true → length (gathered_all pulls nothing).rows ≡ different is_same_place (told (λ p. p.vbase) rows_of (vparent pulls) pulls)
rows_counted pulls k =
    ap length (gathered_rows pulls nothing)
    ∙ count row_order row_order_total (told (λ p. p.vbase) rows_of (vparent pulls) pulls) (all_joined row_order row_rank (λ p. p.vbase) rows_of pulls 0 []) (all_joined_ascends row_order row_rank row_order_total (λ p. p.vbase) rows_of rows_ascend pulls 0 [] k (no_items row_order))
    (λ z. sym (some_found (λ y. is_eq (row_order z y)) _) ∙ ap is_some (found_at row_order row_rank row_order_total (λ p. p.vbase) rows_of rows_ascend z pulls k) ∙ some_best row_rank (λ y. is_eq (row_order z y)) _)
    ∙ (λ i. different (λ x y. sym (row_test x.row.db x.row.key y) i) (told (λ p. p.vbase) rows_of (vparent pulls) pulls))

no_smaller : (p q : ℕ) (a b : Bool) (n m : ℕ) → is_lt (ordering_then (ordering_then (nat_cmp p q) (bool_cmp a b)) (nat_cmp n m)) ≡ false → q ≤ p
no_smaller p q true true n m h = grind arith
no_smaller p q true false n m h = grind arith
no_smaller p q false true n m h = grind arith
no_smaller p q false false n m h = grind arith

own_too : (p q : ℕ) (a b : Bool) (n m : ℕ) → is_lt (ordering_then (ordering_then (nat_cmp p q) (bool_cmp a b)) (nat_cmp n m)) ≡ false → q ≡ p → b ≡ true → a ≡ true
own_too p q true b n m h e f = refl
own_too p q false true n m h e f = grind arith
own_too p q false false n m h e f = f

lower_node : (p q : ℕ) (a b : Bool) (n m : ℕ) → is_lt (ordering_then (ordering_then (nat_cmp p q) (bool_cmp a b)) (nat_cmp n m)) ≡ false → q ≡ p → b ≡ a → m ≤ n
lower_node p q true true n m h e f = grind arith
lower_node p q true false n m h e f = absurd (true≢false (sym f))
lower_node p q false true n m h e f = absurd (true≢false f)
lower_node p q false false n m h e f = grind arith

kept_rather : (x y : HeldRow) → is_lt (row_rank y x) ≡ false → IsKeptRather x y
kept_rather x y h = (
  no_smaller x.row.rsn y.row.rsn (is_own x) (is_own y) y.node x.node h,
  own_too x.row.rsn y.row.rsn (is_own x) (is_own y) y.node x.node h,
  lower_node x.row.rsn y.row.rsn (is_own x) (is_own y) y.node x.node h,
)

-- of several rows this one is kept
pub kept_row : (rows : List HeldRow) (x : HeldRow) → best row_rank rows ≡ Some x → Contains rows x × All (IsKeptRather x) rows
kept_row rows x e =
    let b = best_is row_rank row_rank_total rows x e in
    (b.0, λ k d l. kept_rather x (get_or rows k d) (b.1 k d l))
