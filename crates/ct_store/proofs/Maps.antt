-- Laws of maps as lists of pairs by ascending key.
use Rattle.std.proofs.Common.{◌≡◌, ◌≢◌, ℕ, ◌+◌, suc, Bool, true, false, cond, ◌&&◌, T, List, [], ◌∷◌, length, Option, Some, None, refl, sym, ◌∙◌, ap, subst, arith}
use Rattle.std.specs.Prelude.{is_some, if◌then◌else◌}
use Rattle.std.specs.declared.cmp.Ordering.{Ordering}
use Rattle.std.specs.declared.cmp.Ordering.TheVariants.{Less, Equal, Greater}
use Rattle.std.specs.Ordering.{is_eq, is_lt, eq_by_cmp, match_ordering}
use Rattle.std.specs.Option.{option_copied_mut, IsSome, OnSome}
use Rattle.std.specs.Borrow.{MutBor}
use Rattle.std.specs.Cmp.{IsTotalOrder, eq_by_cmp_equiv}
use Rattle.std.specs.Cmp.Lexicographic.{nat_list_cmp_total}
use Rattle.std.specs.List.{AllByRecursion}
use Rattle.std.specs.List.Sorted.{IsStrictlySortedBy}
use Rattle.std.specs.Map.{keys_of, remove_entry}
use Rattle.std.specs.BTreeMap.{is_at}
use Rattle.std.specs.FinMap.{find, put, is_sorted, slice_cmp-IsAntisymmetric, nat_cmp-IsAntisymmetric}
use Rattle.std.specs.FinMap.Entries.{by_order, below_all, same_entries, find-put, is_sorted-put, length-put}
use Rattle.std.proofs.lemmas.Map.{lookup-remove_entry}
use Rattle.std.proofs.lemmas.Map.Keys.{IsDistinct-from_sorted}
use Rattle.ct_values.specs.Key.{key_cmp}
use Rattle.ct_store.specs.Map.{Pairs, Ascends, look, write, erase}

pub key_total : IsTotalOrder key_cmp
key_total = nat_list_cmp_total

-- keys that compare alike are one
pub one_key : (a b : List ℕ) → key_cmp a b ≡ Equal → a ≡ b
one_key a b h = slice_cmp-IsAntisymmetric nat_cmp-IsAntisymmetric a b h

pub itself : (a : List ℕ) → is_eq (key_cmp a a) ≡ true
itself a = (eq_by_cmp_equiv key_total).refl a

apart_by : (o : Ordering) → (o ≡ Equal → ⊥) → is_eq o ≡ false
apart_by Less n = refl
apart_by Equal n = absurd (n refl)
apart_by Greater n = refl

-- keys that differ do not compare alike
pub apart : (a b : List ℕ) → a ≢ b → is_eq (key_cmp a b) ≡ false
apart a b n = apart_by (key_cmp a b) (λ e. n (one_key a b e))

pub equal : (o : Ordering) → is_eq o ≡ true → o ≡ Equal
equal Less e = absurd (cc)
equal Equal e = refl
equal Greater e = absurd (cc)

less : (o : Ordering) → T (is_lt o) → o ≡ Less
less Less h = refl
less Equal h = absurd h
less Greater h = absurd h

both : (a b : Bool) → T a → T b → T (a && b)
both true b p q = q
both false b p q = p

first : (a b : Bool) → T (a && b) → T a
first true b h = tt
first false b h = h

second : (a b : Bool) → T (a && b) → T b
second true b h = h
second false b h = absurd h

pub empty_ascends : (X : Type 0) → Ascends {X = X} []
unfolding IsStrictlySortedBy
empty_ascends X = tt

one_less : (n : ℕ) → n + 1 ≡ suc n
one_less n = omega arith

one_more : (a b n : ℕ) → a + b ≡ n → suc a + b ≡ suc n
one_more a b n e = omega arith

module _ {X : Type 0} where
  as_find : (q : List ℕ) (m : Pairs X) → look q m ≡ find key_cmp q m
  as_find q [] = refl
  as_find q (e ∷ m) = ap (cond (is_eq (key_cmp q e.0)) (Some e.1)) (as_find q m)

  as_put : (k : List ℕ) (x : X) (m : Pairs X) → write k x m ≡ put key_cmp k x m
  as_put k x [] = refl
  as_put k x (e ∷ m) =
      elim (key_cmp k e.0) as (λ o. match_ordering o ((k, x) ∷ e ∷ m) ((e.0, x) ∷ m) (e ∷ write k x m) ≡ by_order o ((k, x) ∷ e ∷ m) ((e.0, x) ∷ m) (e ∷ put key_cmp k x m)) [
        | Less ↦ refl
        | Equal ↦ refl
        | Greater ↦ ap (λ l. e ∷ l) (as_put k x m)
      ]

  below : (k : List ℕ) (m : Pairs X) → AllByRecursion (λ q. key_cmp k q ≡ Less) (keys_of m) → T (below_all key_cmp k m)
  below k [] h = tt
  below k (e ∷ m) h = both _ _ (subst (λ o. T (is_lt o)) (sym h.0) tt) (below k m h.1)

  above : (k : List ℕ) (m : Pairs X) → T (below_all key_cmp k m) → AllByRecursion (λ q. key_cmp k q ≡ Less) (keys_of m)
  above k [] h = tt
  above k (e ∷ m) h = (less _ (first _ _ h), above k m (second _ _ h))

  rises : (m : Pairs X) → Ascends m → T (is_sorted key_cmp m)
  unfolding IsStrictlySortedBy
  rises [] h = tt
  rises (e ∷ m) h = both _ _ (below e.0 m h.0) (rises m h.1)

  risen : (m : Pairs X) → T (is_sorted key_cmp m) → Ascends m
  unfolding IsStrictlySortedBy
  risen [] h = tt
  risen (e ∷ m) h = (above e.0 m (first _ _ h), risen m (second _ _ h))

  -- two maps in order that have the same at each key are one
  pub same_map : (m n : Pairs X) → Ascends m → Ascends n → ((q : List ℕ) → look q m ≡ look q n) → m ≡ n
  same_map m n a b h = same_entries key_cmp key_total one_key m n (rises m a) (rises n b) (λ q. sym (as_find q m) ∙ h q ∙ as_find q n)

  pub look-write : (q k : List ℕ) (x : X) (m : Pairs X) → look q (write k x m) ≡ cond (is_at (key_cmp q) k) (Some x) (look q m)
  look-write q k x m = ap (look q) (as_put k x m) ∙ as_find q (put key_cmp k x m) ∙ find-put key_cmp key_total q k x m ∙ ap (cond (is_at (key_cmp q) k) (Some x)) (sym (as_find q m))

  pub written : (m : Pairs X) (k : List ℕ) (x : X) → look k (write k x m) ≡ Some x
  written m k x = look-write k k x m ∙ ap (λ b. cond b (Some x) (look k m)) (itself k)

  pub not_written : (m : Pairs X) (k q : List ℕ) (x : X) → q ≢ k → look q (write k x m) ≡ look q m
  not_written m k q x n = look-write q k x m ∙ ap (λ b. cond b (Some x) (look q m)) (apart q k n)

  pub write_ascends : (m : Pairs X) (k : List ℕ) (x : X) → Ascends m → Ascends (write k x m)
  write_ascends m k x h = subst Ascends (sym (as_put k x m)) (risen _ (is_sorted-put key_cmp key_total k x m (rises m h)))

  pub write_length : (m : Pairs X) (k : List ℕ) (x : X) → Ascends m → length (write k x m) ≡ (if is_some (look k m) then length m else length m + 1)
  write_length m k x h = ap length (as_put k x m) ∙ length-put key_cmp key_total k x m (rises m h) ∙ ap (λ o. cond (is_some o) (length m) (length m + 1)) (sym (as_find k m))

  kept : (P : List ℕ → Type 0) (test : List ℕ → Bool) (m : Pairs X) → AllByRecursion P (keys_of m) → AllByRecursion P (keys_of (remove_entry test m))
  kept P test [] h = tt
  kept P test (e ∷ m) h =
      elim (test e.0) as (λ b. AllByRecursion P (keys_of (cond b m (e ∷ remove_entry test m)))) [ true ↦ h.1 | false ↦ (h.0, kept P test m h.1) ]

  pub erase_ascends : (m : Pairs X) (k : List ℕ) → Ascends m → Ascends (erase k m)
  unfolding IsStrictlySortedBy
  erase_ascends [] k h = tt
  erase_ascends (e ∷ m) k h =
      elim (is_at (key_cmp k) e.0) as (λ b. Ascends (cond b m (e ∷ erase k m))) [
        | true ↦ h.1
        | false ↦ (kept (λ q. key_cmp e.0 q ≡ Less) (is_at (key_cmp k)) m h.0, erase_ascends m k h.1)
      ]

  pub look-erase : (q k : List ℕ) (m : Pairs X) → Ascends m → look q (erase k m) ≡ cond (is_at (key_cmp k) q) None (look q m)
  look-erase q k m h = lookup-remove_entry (eq_by_cmp_equiv key_total) (is_at (key_cmp k)) one q m (IsDistinct-from_sorted key_cmp (keys_of m) h)
    where
      one : (x y : List ℕ) → is_at (key_cmp k) x ≡ true → is_at (key_cmp k) y ≡ eq_by_cmp key_cmp x y
      one x y e = ap (λ z. is_eq (key_cmp z y)) (one_key k x (equal _ e))

  pub erased : (m : Pairs X) (k : List ℕ) → Ascends m → look k (erase k m) ≡ None
  erased m k h = look-erase k k m h ∙ ap (λ b. cond b None (look k m)) (itself k)

  pub not_erased : (m : Pairs X) (k q : List ℕ) → q ≢ k → look q (erase k m) ≡ look q m
  not_erased [] k q n = refl
  not_erased (e ∷ m) k q n =
      let rest = ap (cond (is_eq (key_cmp q e.0)) (Some e.1)) (not_erased m k q n) in
      elim (key_cmp k e.0) as (λ o. key_cmp k e.0 ≡ o → look q (cond (is_eq o) m (e ∷ erase k m)) ≡ cond (is_eq (key_cmp q e.0)) (Some e.1) (look q m)) [
        | Less ↦ λ h. rest
        | Equal ↦ λ h. sym (ap (λ b. cond b (Some e.1) (look q m)) (apart q e.0 (λ i. n (i ∙ sym (one_key k e.0 h)))))
        | Greater ↦ λ h. rest
      ] refl

  pub erase_length : (m : Pairs X) (k : List ℕ) → length (erase k m) + (if is_some (look k m) then 1 else 0) ≡ length m
  erase_length [] k = refl
  erase_length (e ∷ m) k =
      elim (is_at (key_cmp k) e.0) as (λ b. length (cond b m (e ∷ erase k m)) + (if is_some (cond b (Some e.1) (look k m)) then 1 else 0) ≡ suc (length m)) [
        | true ↦ one_less (length m)
        | false ↦ one_more _ _ _ (erase_length m k)
      ]

  -- a map after the item that was lent at a key was written
  pub lent : (r : Option (MutBor X)) (m n s : Pairs X) (k : List ℕ) (w : X) → Ascends m → Ascends n → option_copied_mut r ≡ look k m
      → (IsSome (look k m) → (q : List ℕ) → look q n ≡ cond (is_at (key_cmp k) q) (Some w) (look q m)) → m ≡ s → OnSome r (n ≡ write k w s)
  lent None m n s k w a b e h v = tt
  lent (Some x) m n s k w a b e h v =
      same_map n (write k w m) b (write_ascends m k w a) (λ q. h (subst IsSome e refl) q ∙ ap (λ t. cond t (Some w) (look q m)) ((eq_by_cmp_equiv key_total).symm k q) ∙ sym (look-write q k w m))
      ∙ ap (write k w) v
