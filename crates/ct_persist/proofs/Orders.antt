-- Pairs in order, as a list and as a map.
use Rattle.std.proofs.Common.{◌≡◌, ◌≢◌, ◌+◌, ℕ, Bool, true, false, ◌&&◌, nat_lt, List, [], ◌∷◌, ◌++◌, length, refl, sym, ◌∙◌, ap, subst, arith}
use Rattle.std.specs.Bool.{IsTrue}
use Rattle.std.specs.declared.cmp.Ordering.TheVariants.{Less}
use Rattle.std.specs.Ordering.{ordering_reverse, match_ordering}
use Rattle.std.specs.List.{AllByRecursion, list_all}
use Rattle.std.specs.List.Sorted.{IsStrictlySortedBy}
use Rattle.std.specs.Map.{keys_of}
use Rattle.std.proofs.lemmas.Bool.{and_parts, and_from}
use Rattle.ct_values.specs.Key.{key_cmp}
use Rattle.ct_values.proofs.Orders.{less_is, is_less}
use Rattle.ct_values.specs.declared.client.Pair.{Pair}
use Rattle.ct_frame.specs.Fields.{ascends, ascends_after, pair_before, is_kept}
use Rattle.ct_store.specs.Map.{Pairs, Ascends, write}
use Rattle.ct_store.proofs.Maps.{key_total}
use Rattle.ct_persist.specs.Persisted.{IsKept, keyed, listed}
use Rattle.ct_persist.proofs.Looks.{V, Full}

listed_after : (k v : List ℕ) (m : Pairs V) → Ascends ((k, v) ∷ m) → ascends_after pair_before (record { key = k; value = v }) (listed m) ≡ true
unfolding IsStrictlySortedBy
listed_after k v [] a = refl
listed_after k v (e ∷ m) a = and_from _ _ (less_is (key_cmp k e.0) a.0.0) (listed_after e.0 e.1 m a.1)

-- what a map has is in order
pub listed_ascends : (m : Pairs V) → IsKept m → IsTrue (ascends pair_before (listed m))
listed_ascends [] k = refl
listed_ascends (e ∷ m) k = listed_after e.0 e.1 m k.0

some_bytes : (v : V) → v ≢ [] → nat_lt 0 (length v) ≡ true
some_bytes [] n = absurd (n refl)
some_bytes (b ∷ bs) n = grind arith

full_listed : (m : Pairs V) → Full m → list_all is_kept (listed m) ≡ true
full_listed [] f = refl
full_listed (e ∷ m) f = and_from _ _ (some_bytes e.1 f.0) (full_listed m f.1)

pub listed_kept : (m : Pairs V) → IsKept m → IsTrue (list_all is_kept (listed m))
listed_kept m k = full_listed m k.1

above : (a b : V) (ks : List V) → key_cmp a b ≡ Less → AllByRecursion (λ q. key_cmp b q ≡ Less) ks → AllByRecursion (λ q. key_cmp a q ≡ Less) ks
above a b [] h all = tt
above a b (k ∷ ks) h all = (key_total.trans a b k h all.0, above a b ks h all.1)

keyed_after : (p : Pair) (ps : List Pair) → ascends_after pair_before p ps ≡ true → AllByRecursion (λ q. key_cmp p.key q ≡ Less) (keys_of (keyed ps)) × Ascends (keyed ps)
unfolding IsStrictlySortedBy
keyed_after p [] h = (tt, tt)
keyed_after p (r ∷ ps) h =
    let l = is_less (key_cmp p.key r.key) (and_parts _ _ h).0 in
    let rest = keyed_after r ps (and_parts _ _ h).1 in
    ((l, above p.key r.key _ l rest.0), rest)

keyed_ascends : (ps : List Pair) → ascends pair_before ps ≡ true → Ascends (keyed ps)
unfolding IsStrictlySortedBy
keyed_ascends [] h = tt
keyed_ascends (p ∷ ps) h = keyed_after p ps h

not_empty : (v : V) → nat_lt 0 (length v) ≡ true → v ≢ []
not_empty [] h = absurd (cc)
not_empty (b ∷ bs) h = λ e. cc

keyed_full : (ps : List Pair) → list_all is_kept ps ≡ true → Full (keyed ps)
keyed_full [] h = tt
keyed_full (p ∷ ps) h = (not_empty p.value (and_parts _ _ h).0, keyed_full ps (and_parts _ _ h).1)

-- pairs in order, none empty, are a map that is kept
pub keyed_kept : (ps : List Pair) → IsTrue (ascends pair_before ps) → IsTrue (list_all is_kept ps) → IsKept (keyed ps)
keyed_kept ps a k = (keyed_ascends ps a, keyed_full ps k)

pub keyed_listed : (m : Pairs V) → keyed (listed m) ≡ m
keyed_listed [] = refl
keyed_listed (e ∷ m) = ap (λ l. e ∷ l) (keyed_listed m)

pub listed_keyed : (ps : List Pair) → listed (keyed ps) ≡ ps
listed_keyed [] = refl
listed_keyed (p ∷ ps) = ap (λ l. p ∷ l) (listed_keyed ps)

behind : (P : V → Type 0) (m r : Pairs V) (k v : V) → AllByRecursion P (keys_of (m ++ (k, v) ∷ r)) → P k
behind P [] r k v all = all.0
behind P (e ∷ m) r k v all = behind P m r k v all.1

-- a key above all that are there goes to the end
pub placed_last : (m r : Pairs V) (k v : V) → Ascends (m ++ (k, v) ∷ r) → write k v m ++ r ≡ m ++ (k, v) ∷ r
unfolding IsStrictlySortedBy
placed_last [] r k v a = refl
placed_last (e ∷ m) r k v a =
    let greater = key_total.antisymm k e.0 ∙ ap ordering_reverse (behind (λ q. key_cmp e.0 q ≡ Less) m r k v a.0) in
    ap (λ o. match_ordering o ((k, v) ∷ e ∷ m) ((e.0, v) ∷ m) (e ∷ write k v m) ++ r) greater ∙ ap (λ l. e ∷ l) (placed_last m r k v a.1)

-- one pair more, p, in a map that is built in order
pub built_more : (m n all : Pairs V) (p : Pair) (left rest : List Pair) → Ascends all → m ++ keyed left ≡ all → left ≡ p ∷ rest → n ≡ write p.key p.value m → n ++ keyed rest ≡ all
built_more m n all p left rest a e l w =
    let whole = ap (λ xs. m ++ keyed xs) (sym l) ∙ e in
    ap (λ x. x ++ keyed rest) w ∙ placed_last m (keyed rest) p.key p.value (subst Ascends (sym whole) a) ∙ whole
