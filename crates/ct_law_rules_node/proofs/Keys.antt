-- Changes of the states of a database, seen at one key.
use Rattle.std.proofs.Common.{◌≡◌, ◌≢◌, ℕ, Bool, true, false, cond, List, [], ◌∷◌, Option, Some, None, refl, sym, ◌∙◌, ap, subst}
use Rattle.std.specs.declared.cmp.Ordering.{Ordering}
use Rattle.std.specs.declared.cmp.Ordering.TheVariants.{Less}
use Rattle.std.specs.Ordering.{is_eq}
use Rattle.std.specs.List.{AllByRecursion}
use Rattle.std.specs.List.Sorted.{IsStrictlySortedBy}
use Rattle.std.specs.Map.{keys_of}
use Rattle.ct_values.specs.Key.{key_cmp}
use Rattle.ct_store.specs.Map.{Pairs, Ascends, look, write, erase}
use Rattle.ct_store.proofs.Maps.{one_key, equal, written, not_written, erased, not_erased, write_ascends, erase_ascends}
use Rattle.ct_rules.specs.State.{is_blank}
use Rattle.ct_rules.specs.declared.state.RecState.{RecState}
use Rattle.ct_rules_node.specs.Records.{kept}
use Rattle.ct_rules_node.specs.Rounds.{changed}
use Rattle.ct_law_rules_node.specs.NodeLaws.{unless_blank, changed_at, IsChanged, IsKeptAt}

-- ---- all states changed

changed_above : (f : RecState → RecState) (k : List ℕ) (m : Pairs RecState) → AllByRecursion (λ q. key_cmp k q ≡ Less) (keys_of m) → AllByRecursion (λ q. key_cmp k q ≡ Less) (keys_of (changed f m))
unfolding changed
changed_above f k [] h = tt
changed_above f k (e ∷ m) h =
    elim (is_blank (f e.1)) as (λ b. AllByRecursion (λ q. key_cmp k q ≡ Less) (keys_of (cond b (changed f m) ((e.0, f e.1) ∷ changed f m)))) [
      | true ↦ changed_above f k m h.1
      | false ↦ (h.0, changed_above f k m h.1)
    ]

pub changed_ascends : (f : RecState → RecState) (m : Pairs RecState) → Ascends m → Ascends (changed f m)
unfolding changed IsStrictlySortedBy
changed_ascends f [] h = tt
changed_ascends f (e ∷ m) h =
    elim (is_blank (f e.1)) as (λ b. Ascends (cond b (changed f m) ((e.0, f e.1) ∷ changed f m))) [
      | true ↦ changed_ascends f m h.1
      | false ↦ (changed_above f e.0 m h.0, changed_ascends f m h.1)
    ]

-- a key below all others is not among them
unseen_by : (o : Ordering) → o ≡ Less → is_eq o ≡ false
unseen_by o e = ap is_eq e

pub below_unseen : {X : Type 0} (k : List ℕ) (m : Pairs X) → AllByRecursion (λ q. key_cmp k q ≡ Less) (keys_of m) → look k m ≡ None
below_unseen k [] h = refl
below_unseen {X} k (e ∷ m) h = ap (λ b. cond b (Some e.1) (look k m)) (unseen_by _ h.0) ∙ below_unseen k m h.1

look_of : (k : List ℕ) (b : Bool) (x y : Pairs RecState) → look k (cond b x y) ≡ cond b (look k x) (look k y)
look_of k true x y = refl
look_of k false x y = refl

head_changed : (f : RecState → RecState) (s : RecState) (before after : Option RecState) (b c : Bool) → is_blank (f s) ≡ b → (c ≡ true → after ≡ None) → after ≡ changed_at f before
    → cond b after (cond c (Some (f s)) after) ≡ changed_at f (cond c (Some s) before)
unfolding changed_at unless_blank
head_changed f s before after true true e n i = n refl ∙ ap (λ (b : Bool). cond b None (Some (f s))) (sym e)
head_changed f s before after true false e n i = i
head_changed f s before after false true e n i = ap (λ (b : Bool). cond b None (Some (f s))) (sym e)
head_changed f s before after false false e n i = i

pub changed_seen : (f : RecState → RecState) (m : Pairs RecState) → Ascends m → (k : List ℕ) → look k (changed f m) ≡ changed_at f (look k m)
unfolding changed changed_at IsStrictlySortedBy
changed_seen f [] h k = refl
changed_seen f (e ∷ m) h k =
    let rest = changed_above f e.0 m h.0 in
    look_of k (is_blank (f e.1)) (changed f m) ((e.0, f e.1) ∷ changed f m)
    ∙ head_changed f e.1 (look k m) (look k (changed f m)) (is_blank (f e.1)) (is_eq (key_cmp k e.0)) refl
    (λ (t : is_eq (key_cmp k e.0) ≡ true). subst (λ (q : List ℕ). look q (changed f m) ≡ None) (sym (one_key k e.0 (equal _ t))) (below_unseen e.0 (changed f m) rest)) (changed_seen f m h.1 k)

-- ---- one state put

pub kept_seen : (k : List ℕ) (s : RecState) (m : Pairs RecState) → Ascends m → look k (kept k s m) ≡ unless_blank s
unfolding kept unless_blank
kept_seen k s m h = elim (is_blank s) as (λ b. look k (cond b (erase k m) (write k s m)) ≡ cond b None (Some s)) [ true ↦ erased m k h | false ↦ written m k s ]

pub kept_others : (k : List ℕ) (s : RecState) (m : Pairs RecState) (q : List ℕ) → q ≢ k → look q (kept k s m) ≡ look q m
unfolding kept
kept_others k s m q n = elim (is_blank s) as (λ b. look q (cond b (erase k m) (write k s m)) ≡ look q m) [ true ↦ not_erased m k q n | false ↦ not_written m k q s n ]

pub kept_ascends : (k : List ℕ) (s : RecState) (m : Pairs RecState) → Ascends m → Ascends (kept k s m)
unfolding kept
kept_ascends k s m h = elim (is_blank s) as (λ b. Ascends (cond b (erase k m) (write k s m))) [ true ↦ erase_ascends m k h | false ↦ write_ascends m k s h ]

pub changes : (f : RecState → RecState) (m : Pairs RecState) → Ascends m → IsChanged f m
changes f m h = record { seen = changed_seen f m h; order = changed_ascends f m h }

pub keeps_at : (k : List ℕ) (s : RecState) (m : Pairs RecState) → Ascends m → IsKeptAt k s m
keeps_at k s m h = record { seen = kept_seen k s m h; others = kept_others k s m; order = kept_ascends k s m h }
