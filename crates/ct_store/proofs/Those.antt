-- Pairs that are put in order, and those of a map whose items pass a test.
use Rattle.std.proofs.Common.{◌≡◌, ℕ, suc, ◌<◌, ◌≤◌, Bool, true, false, cond, List, [], ◌∷◌, length, get_or, Option, Some, None, refl, sym, ◌∙◌, ap, subst, arith}
use Rattle.std.specs.Prelude.{map}
use Rattle.std.specs.declared.cmp.Ordering.{Ordering}
use Rattle.std.specs.declared.cmp.Ordering.TheVariants.{Less, Equal, Greater}
use Rattle.std.specs.Ordering.{is_eq, is_lt, ordering_reverse}
use Rattle.std.specs.Borrow.{Bor}
use Rattle.std.specs.Cmp.Lexicographic.{texts_ties, nat_list_eq_equiv}
use Rattle.std.specs.List.{AllByRecursion, IsDistinct}
use Rattle.std.specs.List.Sorted.{IsStrictlySortedBy, IsPermutation, IsSortedBy}
use Rattle.std.specs.Map.{keys_of, lookup}
use Rattle.std.specs.Map.Iter.{deref_pair}
use Rattle.std.specs.BTreeMap.{is_at}
use Rattle.std.proofs.lemmas.Bool.{cond_both}
use Rattle.std.proofs.lemmas.List.Sorted.{IsPermutation-sym, IsPermutation-map, Contains-permutation, ranks_by, sorted_far}
use Rattle.std.proofs.lemmas.Map.Keys.{IsDistinct-IsPermutation}
use Rattle.std.proofs.lemmas.Map.Views.{Contains-from_lookup, lookup-from_Contains}
use Rattle.ct_values.specs.Key.{key_cmp}
use Rattle.ct_store.specs.Map.{Pairs, Ascends, look}
use Rattle.ct_store.specs.Hashed.{ordered}
use Rattle.ct_store.specs.Those.{those}
use Rattle.ct_store.proofs.Maps.{key_total, same_map}
use Rattle.ct_store.proofs.Hashing.{same, is_one, flips, absent, ordered_ascends, look-ordered}

above_so : (o : Ordering) → is_lt o ≡ false → is_eq o ≡ false → ordering_reverse o ≡ Less
above_so Less l e = absurd (cc)
above_so Equal l e = absurd (cc)
above_so Greater l e = refl

-- of keys that differ, one that does not come later is below
rises : (k q : List ℕ) → is_lt (key_cmp q k) ≡ false → same k q ≡ false → key_cmp k q ≡ Less
rises k q l d = key_total.antisymm k q ∙ above_so (key_cmp q k) l (sym (flips k q) ∙ d)

less_differs : (k q : List ℕ) → key_cmp k q ≡ Less → same k q ≡ false
less_differs k q l = texts_ties k q ∙ ap is_eq l

differ_so : (k : List ℕ) (ks : List (List ℕ)) → AllByRecursion (λ q. key_cmp k q ≡ Less) ks → AllByRecursion (λ q. same k q ≡ false) ks
differ_so k [] h = tt
differ_so k (q ∷ ks) h = (less_differs k q h.0, differ_so k ks h.1)

module _ {X : Type 0} where
  look_is : (q : List ℕ) (m : Pairs X) → look q m ≡ lookup (same q) m
  look_is q [] = refl
  look_is q (e ∷ m) = ap (cond (is_at (key_cmp q) e.0) (Some e.1)) (look_is q m) ∙ ap (λ b. cond b (Some e.1) (lookup (same q) m)) (sym (texts_ties q e.0))

  -- ---- sorted pairs

  all_above : (k : List ℕ) (m : List (Bor (List ℕ) × Bor X)) → ((j : ℕ) (d : Bor (List ℕ) × Bor X) → j < length m → is_lt (key_cmp (get_or m j d).0.now k) ≡ false)
      → AllByRecursion (λ q. same k q ≡ false) (keys_of (map deref_pair m)) → AllByRecursion (λ q. key_cmp k q ≡ Less) (keys_of (map deref_pair m))
  all_above k [] h a = tt
  all_above k (e ∷ m) h a = (rises k e.0.now (h 0 e (omega arith)) a.0, all_above k m (λ j d l. h (suc j) d (omega arith)) a.1)

  ascends_so : (m : List (Bor (List ℕ) × Bor X)) → ((i j : ℕ) (d : Bor (List ℕ) × Bor X) → i ≤ j → j < length m → is_lt (key_cmp (get_or m j d).0.now (get_or m i d).0.now) ≡ false)
      → IsDistinct same (keys_of (map deref_pair m)) → Ascends (map deref_pair m)
  unfolding IsDistinct IsStrictlySortedBy
  ascends_so [] h a = tt
  ascends_so (e ∷ m) h a = (all_above e.0.now m (λ j d l. h 0 (suc j) d (omega arith) (omega arith)) a.0, ascends_so m (λ i j d p l. h (suc i) (suc j) d (omega arith) (omega arith)) a.1)

  found_so : (q : List ℕ) (es fs : Pairs X) → IsPermutation es fs → IsDistinct same (keys_of fs) → (x : X) → lookup (same q) es ≡ Some x → lookup (same q) fs ≡ Some x
  found_so q es fs p d x h = lookup-from_Contains nat_list_eq_equiv q x fs d (Contains-permutation es fs (q, x) p (Contains-from_lookup is_one q x es h))

  lost_so : (q : List ℕ) (es fs : Pairs X) → IsPermutation es fs → IsDistinct same (keys_of es) → (o : Option X) → lookup (same q) fs ≡ o → lookup (same q) es ≡ None → o ≡ None
  lost_so q es fs p d None h n = refl
  lost_so q es fs p d (Some x) h n = let found = found_so q fs es (IsPermutation-sym es fs p) d x h in absurd (cc)

  found_as : (q : List ℕ) (es fs : Pairs X) → IsPermutation es fs → IsDistinct same (keys_of es) → IsDistinct same (keys_of fs) → (o : Option X) → lookup (same q) es ≡ o → lookup (same q) fs ≡ o
  found_as q es fs p d e (Some x) h = found_so q es fs p e x h
  found_as q es fs p d e None h = lost_so q es fs p d (lookup (same q) fs) refl h

  -- pairs of references that are sorted by their keys, which differ, are the map that has them
  pub sorted_ordered : (m n : List (Bor (List ℕ) × Bor X)) → IsPermutation m n → IsSortedBy (λ x y. is_lt (key_cmp x.0.now y.0.now)) n → IsDistinct same (keys_of (map deref_pair m)) → map deref_pair n ≡ ordered (map deref_pair m)
  sorted_ordered m n p s d =
      let moved = IsPermutation-map deref_pair m n p in
      let apart = IsDistinct-IsPermutation same nat_list_eq_equiv.symm _ _ (IsPermutation-map (λ (e : List ℕ × X). e.0) _ _ moved) d in
      same_map _ _ (ascends_so n (sorted_far _ (ranks_by key_total (λ (x : Bor (List ℕ) × Bor X). x.0.now)) n s) apart) (ordered_ascends (map deref_pair m)) (λ q.
      look_is q (map deref_pair n) ∙ found_as q (map deref_pair m) (map deref_pair n) moved d apart _ refl ∙ sym (look-ordered q (map deref_pair m)))

  -- ---- those that pass

  distinct_so : (m : Pairs X) → Ascends m → IsDistinct same (keys_of m)
  unfolding IsDistinct IsStrictlySortedBy
  distinct_so [] h = tt
  distinct_so (e ∷ m) h = (differ_so e.0 (keys_of m) h.0, distinct_so m h.1)

  module _ (p : X → Bool) where
    all_those : (P : List ℕ → Type 0) (m : Pairs X) → AllByRecursion P (keys_of m) → AllByRecursion P (keys_of (those p m))
    all_those P [] h = tt
    all_those P (e ∷ m) h = cond_both (p e.1) (e ∷ those p m) (those p m) (λ l. AllByRecursion P (keys_of l)) (λ _. (h.0, all_those P m h.1)) (λ _. all_those P m h.1)

    pub those_distinct : (m : Pairs X) → IsDistinct same (keys_of m) → IsDistinct same (keys_of (those p m))
    unfolding IsDistinct
    those_distinct [] h = tt
    those_distinct (e ∷ m) h = cond_both (p e.1) (e ∷ those p m) (those p m) (λ l. IsDistinct same (keys_of l)) (λ _. (all_those (λ q. same e.0 q ≡ false) m h.0, those_distinct m h.1)) (λ _. those_distinct m h.1)

    those_ascends : (m : Pairs X) → Ascends m → Ascends (those p m)
    unfolding IsStrictlySortedBy
    those_ascends [] h = tt
    those_ascends (e ∷ m) h = cond_both (p e.1) (e ∷ those p m) (those p m) Ascends (λ _. (all_those (λ q. key_cmp e.0 q ≡ Less) m h.0, those_ascends m h.1)) (λ _. those_ascends m h.1)

    -- an item, if it passes
    abbrev passing : Option X → Option X
    passing None = None
    passing (Some x) = cond (p x) (Some x) None

    look-those : (q : List ℕ) (m : Pairs X) → IsDistinct same (keys_of m) → lookup (same q) (those p m) ≡ passing (lookup (same q) m)
    unfolding IsDistinct
    look-those q [] d = refl
    look-those q (e ∷ m) d =
        let rest = look-those q m d.1 in
        elim (same q e.0) as (λ b. same q e.0 ≡ b → lookup (same q) (cond (p e.1) (e ∷ those p m) (those p m)) ≡ passing (cond b (Some e.1) (lookup (same q) m))) [
          | true ↦ λ t.
              let gone : lookup (same q) m ≡ None = subst (λ k. lookup (same k) m ≡ None) (sym (is_one q e.0 t)) (absent e.0 m d.0) in
              elim (p e.1) as (λ c. lookup (same q) (cond c (e ∷ those p m) (those p m)) ≡ cond c (Some e.1) None) [
                | true ↦ ap (λ b. cond b (Some e.1) (lookup (same q) (those p m))) t
                | false ↦ rest ∙ ap passing gone
              ]
          | false ↦ λ t.
              elim (p e.1) as (λ c. lookup (same q) (cond c (e ∷ those p m) (those p m)) ≡ passing (lookup (same q) m)) [
                | true ↦ ap (λ b. cond b (Some e.1) (lookup (same q) (those p m))) t ∙ rest
                | false ↦ rest
              ]
        ] refl

    -- those of a map are the map of those
    pub those_ordered : (es : List (List ℕ × X)) → IsDistinct same (keys_of es) → ordered (those p es) ≡ those p (ordered es)
    those_ordered es d =
        let up = ordered_ascends es in
        same_map _ _ (ordered_ascends (those p es)) (those_ascends (ordered es) up) (λ q.
        look-ordered q (those p es)
        ∙ look-those q es d
        ∙ ap passing (sym (look-ordered q es) ∙ look_is q (ordered es))
        ∙ sym (look-those q (ordered es) (distinct_so (ordered es) up))
        ∙ sym (look_is q (those p (ordered es))))

-- what says nothing of a pair that does not pass says the same of those that pass
pub over_those : {X Z : Type 0} (p : X → Bool) (f : Pairs X → Z) (more : List ℕ × X → Z → Z) → ((e : List ℕ × X) (m : Pairs X) → f (e ∷ m) ≡ more e (f m)) → ((e : List ℕ × X) (z : Z) → p e.1 ≡ false → more e z ≡ z)
    → (m : Pairs X) → f (those p m) ≡ f m
over_those p f more is skips [] = refl
over_those p f more is skips (e ∷ m) =
    let rest = over_those p f more is skips m in
    cond_both (p e.1) (e ∷ those p m) (those p m) (λ l. f l ≡ f (e ∷ m)) (λ _. is e (those p m) ∙ ap (more e) rest ∙ sym (is e m)) (λ n. rest ∙ sym (skips e (f m) n) ∙ sym (is e m))
