-- A map that ascends, pair by pair.
use Rattle.std.proofs.Common.{◌≡◌, ◌≢◌, ℕ, Bool, true, false, cond, not, List, [], ◌∷◌, Option, Some, None, refl, sym, ◌∙◌, ap}
use Rattle.std.specs.BTreeMap.{is_at}
use Rattle.std.specs.Cmp.Lexicographic.{nat_list_cmp_total}
use Rattle.std.specs.declared.cmp.Ordering.TheVariants.{Less}
use Rattle.std.specs.List.{AllByRecursion}
use Rattle.std.specs.List.Sorted.{IsStrictlySortedBy}
use Rattle.std.specs.Map.{keys_of}
use Rattle.std.specs.Ordering.{is_eq, ordering_reverse}
use Rattle.ct_values.specs.Key.{key_cmp}
use Rattle.ct_node_database.specs.Noted.{is_worth}
use Rattle.ct_rules.specs.State.{is_blank}
use Rattle.ct_rules.specs.declared.state.RecState.{RecState}
use Rattle.ct_store.specs.Map.{Pairs, Ascends, look}
use Rattle.ct_store.proofs.Maps.{itself}

-- a key that another is below is not that one
pub above_is_other : (k q : List ℕ) → key_cmp k q ≡ Less → q ≢ k
above_is_other k q l e = absurd (let h = ap is_eq (ap (key_cmp k) (sym e) ∙ l) in let i = itself k in cc)

not_at : (k q : List ℕ) → key_cmp k q ≡ Less → is_at (key_cmp q) k ≡ false
not_at k q l = ap is_eq (nat_list_cmp_total.antisymm q k ∙ ap ordering_reverse l)

seen_behind : (x : List ℕ × RecState) (ys m : Pairs RecState) → AllByRecursion (λ q. key_cmp x.0 q ≡ Less) (keys_of ys) → AllByRecursion (λ e. look e.0 m ≡ Some e.1) ys → AllByRecursion (λ e. look e.0 (x ∷ m) ≡ Some e.1) ys
seen_behind x [] m a h = tt
seen_behind x (y ∷ ys) m a h = (ap (λ (b : Bool). cond b (Some x.1) (look y.0 m)) (not_at x.0 y.0 a.0) ∙ h.0, seen_behind x ys m a.1 h.1)

-- each pair is seen at its key
pub each_seen : (m : Pairs RecState) → Ascends m → AllByRecursion (λ e. look e.0 m ≡ Some e.1) m
unfolding IsStrictlySortedBy
each_seen [] a = tt
each_seen (x ∷ m) a = (ap (λ (b : Bool). cond b (Some x.1) (look x.0 m)) (itself x.0), seen_behind x m m a.0 (each_seen m a.1))

worth_so : (s : RecState) → is_worth (Some s) ≡ true → is_blank s ≡ false
unfolding is_worth
worth_so s e = by (is_blank s) e
  where
    by : (b : Bool) → not b ≡ true → b ≡ false
    by true e = absurd (cc)
    by false e = refl

-- where no state is blank, none of the pairs has a blank one
pub each_worth : (m xs : Pairs RecState) → ((key : List ℕ) → is_worth (look key m) ≡ true) → AllByRecursion (λ e. look e.0 m ≡ Some e.1) xs → AllByRecursion (λ e. is_blank e.1 ≡ false) xs
each_worth m [] w h = tt
each_worth m (x ∷ xs) w h = (worth_so x.1 (ap is_worth (sym h.0) ∙ w x.0), each_worth m xs w h.1)
