-- A `HashMap` from keys as a map by ascending key.
use Rattle.std.proofs.Common.{◌≡◌, ℕ, Result, Ok, Err, OnErr, ◌+◌, suc, Bool, true, false, cond, List, [], ◌∷◌, length, Option, Some, None, refl, sym, ◌∙◌, ap, subst, arith}
use Rattle.std.specs.Prelude.{is_some, map, nat_eq}
use Rattle.std.specs.Ordering.{match_ordering}
use Rattle.std.specs.declared.cmp.Ordering.TheVariants.{Less, Equal, Greater}
use Rattle.std.specs.Option.{option_copied_mut, IsSome, OnSome}
use Rattle.std.specs.Borrow.{Bor, MutBor}
use Rattle.std.specs.Cmp.{eq_by_cmp_equiv}
use Rattle.std.specs.Cmp.Lexicographic.{pointwise, texts_ties}
use Rattle.std.specs.List.{AllByRecursion, IsDistinct}
use Rattle.std.specs.Map.{keys_of, lookup}
use Rattle.std.specs.Map.Iter.{deref_pair}
use Rattle.std.specs.BTreeMap.{is_at, insert_entry}
use Rattle.ct_values.specs.Key.{key_cmp}
use Rattle.ct_store.specs.Map.{Pairs, Ascends, look, write, erase}
use Rattle.ct_store.specs.Hashed.{ordered}
use Rattle.ct_store.proofs.Maps.{key_total, one_key, equal, same_map, look-write, look-erase, write_ascends, write_length, erase_ascends, empty_ascends}

-- the test of keys that a `HashMap` makes
abbrev pub same : List ℕ → List ℕ → Bool
same = pointwise nat_eq

pub is_one : (q k : List ℕ) → same q k ≡ true → q ≡ k
is_one q k h = one_key q k (equal _ (sym (texts_ties q k) ∙ h))

pub flips : (k q : List ℕ) → same k q ≡ is_at (key_cmp q) k
flips k q = texts_ties k q ∙ (eq_by_cmp_equiv key_total).symm k q

abbrev pub or_else : {X : Type 0} → Option X → Option X → Option X
or_else (Some x) o = Some x
or_else None o = o

-- the pairs written into m in turn
abbrev pub filled : {X : Type 0} → Pairs X → List (List ℕ × X) → Pairs X
filled m [] = m
filled m (e ∷ es) = filled (write e.0 e.1 m) es

length_one_more : (n m : ℕ) → n ≡ m → n + 1 ≡ suc m
length_one_more n m e = omega arith

module _ {X : Type 0} where
  pub ordered_ascends : (es : List (List ℕ × X)) → Ascends (ordered es)
  ordered_ascends [] = empty_ascends X
  ordered_ascends (e ∷ es) = write_ascends (ordered es) e.0 e.1 (ordered_ascends es)

  -- what the map has at a key
  pub look-ordered : (q : List ℕ) (es : List (List ℕ × X)) → look q (ordered es) ≡ lookup (same q) es
  look-ordered q [] = refl
  look-ordered q (e ∷ es) =
      look-write q e.0 e.1 (ordered es) ∙ ap (cond (is_at (key_cmp q) e.0) (Some e.1)) (look-ordered q es) ∙ ap (λ b. cond b (Some e.1) (lookup (same q) es)) (sym (texts_ties q e.0))

  -- pairs that differ at one key alone
  pub one_put : (es fs : List (List ℕ × X)) (k : List ℕ) (x : X) → ((q : List ℕ) → lookup (same q) fs ≡ cond (same k q) (Some x) (lookup (same q) es)) → ordered fs ≡ write k x (ordered es)
  one_put es fs k x h = same_map _ _ (ordered_ascends fs) (write_ascends _ k x (ordered_ascends es)) (λ q.
      look-ordered q fs ∙ h q ∙ ap (λ b. cond b (Some x) (lookup (same q) es)) (flips k q) ∙ ap (cond (is_at (key_cmp q) k) (Some x)) (sym (look-ordered q es)) ∙ sym (look-write q k x (ordered es)))

  -- pairs without one key
  pub one_taken : (es fs : List (List ℕ × X)) (k : List ℕ) → ((q : List ℕ) → lookup (same q) fs ≡ cond (same k q) None (lookup (same q) es)) → ordered fs ≡ erase k (ordered es)
  one_taken es fs k h = same_map _ _ (ordered_ascends fs) (erase_ascends _ k (ordered_ascends es)) (λ q.
      look-ordered q fs ∙ h q ∙ ap (λ b. cond b None (lookup (same q) es)) (texts_ties k q) ∙ ap (cond (is_at (key_cmp k) q) None) (sym (look-ordered q es)) ∙ sym (look-erase q k (ordered es) (ordered_ascends es)))

  pub absent : (q : List ℕ) (es : List (List ℕ × X)) → AllByRecursion (λ k. same q k ≡ false) (keys_of es) → lookup (same q) es ≡ None
  absent q [] h = refl
  absent q (e ∷ es) h = ap (λ b. cond b (Some e.1) (lookup (same q) es)) h.0 ∙ absent q es h.1

  pub ordered_length : (es : List (List ℕ × X)) → IsDistinct same (keys_of es) → length (ordered es) ≡ length es
  unfolding IsDistinct
  ordered_length [] d = refl
  ordered_length (e ∷ es) d =
      write_length (ordered es) e.0 e.1 (ordered_ascends es)
      ∙ ap (λ o. cond (is_some o) (length (ordered es)) (length (ordered es) + 1)) (look-ordered e.0 es ∙ absent e.0 es d.0)
      ∙ length_one_more _ _ (ordered_length es d.1)

  filled_ascends : (m : Pairs X) (es : List (List ℕ × X)) → Ascends m → Ascends (filled m es)
  filled_ascends m [] h = h
  filled_ascends m (e ∷ es) h = filled_ascends (write e.0 e.1 m) es (write_ascends m e.0 e.1 h)

  look-filled : (q : List ℕ) (m : Pairs X) (es : List (List ℕ × X)) → IsDistinct same (keys_of es) → look q (filled m es) ≡ or_else (lookup (same q) es) (look q m)
  unfolding IsDistinct
  look-filled q m [] d = refl
  look-filled q m (e ∷ es) d =
      look-filled q (write e.0 e.1 m) es d.1
      ∙ ap (or_else (lookup (same q) es)) (look-write q e.0 e.1 m ∙ ap (λ b. cond b (Some e.1) (look q m)) (sym (texts_ties q e.0)))
      ∙ elim (same q e.0) as (λ b. same q e.0 ≡ b → or_else (lookup (same q) es) (cond b (Some e.1) (look q m)) ≡ or_else (cond b (Some e.1) (lookup (same q) es)) (look q m)) [
        | true ↦ λ t. ap (λ o. or_else o (Some e.1)) (subst (λ k. lookup (same k) es ≡ None) (sym (is_one q e.0 t)) (absent e.0 es d.0))
        | false ↦ λ t. refl
      ] refl

  or_none : (o : Option X) → or_else o None ≡ o
  or_none (Some x) = refl
  or_none None = refl

  -- pairs that differ in their keys, written in turn, make the map that has them
  pub all_filled : (es : List (List ℕ × X)) → IsDistinct same (keys_of es) → filled [] es ≡ ordered es
  all_filled es d = same_map _ _ (filled_ascends [] es (empty_ascends X)) (ordered_ascends es) (λ q. look-filled q [] es d ∙ or_none _ ∙ sym (look-ordered q es))

  -- a pair of references that is put in its place
  pub write_refs : (es : List (Bor (List ℕ) × Bor X)) (k : Bor (List ℕ)) (x : Bor X) → map deref_pair (insert_entry (λ a b. key_cmp a.now b.now) es k x) ≡ write k.now x.now (map deref_pair es)
  write_refs [] k x = refl
  write_refs (e ∷ es) k x =
      elim (key_cmp k.now e.0.now) as (λ o. map deref_pair (match_ordering o ((k, x) ∷ e ∷ es) ((e.0, x) ∷ es) (e ∷ insert_entry (λ a b. key_cmp a.now b.now) es k x)) ≡ match_ordering o ((k.now, x.now) ∷ map deref_pair (e ∷ es)) ((e.0.now, x.now) ∷ map deref_pair es) (deref_pair e ∷ write k.now x.now (map deref_pair es))) [
        | Less ↦ refl
        | Equal ↦ refl
        | Greater ↦ ap (λ l. deref_pair e ∷ l) (write_refs es k x)
      ]

  -- a map after the item that was lent at a key was written
  pub lent_hashed : (r : Option (MutBor X)) (es fs : List (List ℕ × X)) (s : Pairs X) (k : List ℕ) (w : X) → option_copied_mut r ≡ lookup (same k) es
      → (IsSome (lookup (same k) es) → (q : List ℕ) → lookup (same q) fs ≡ cond (same k q) (Some w) (lookup (same q) es)) → ordered es ≡ s → OnSome r (ordered fs ≡ write k w s)
  lent_hashed None es fs s k w e h v = tt
  lent_hashed (Some x) es fs s k w e h v = one_put es fs k w (h (subst IsSome e refl)) ∙ ap (write k w) v

-- what holds of an error holds of any answer that is one
pub on_err : {T E : Type 0} (r : Result T E) (P : Type 0) → P → OnErr r P
on_err (Ok x) P p = tt
on_err (Err e) P p = p
