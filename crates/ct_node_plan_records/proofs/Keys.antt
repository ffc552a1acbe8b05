-- A vacuum of a database is that of its deleted records, of which each key is noted.
use Rattle.std.proofs.Common.{◌≡◌, ◌≢◌, ◌∙◌, ℕ, ◌<◌, Bool, true, false, cond, ◌||◌, List, [], ◌∷◌, length, Option, Some, None, refl, ap, sym, subst}
use Rattle.std.proofs.lemmas.List.Kept.{IsStrictlySortedBy-filter}
use Rattle.std.proofs.lemmas.Map.Views.{any-filter_same}
use Rattle.std.specs.Prelude.{◌&&◌, is_some}
use Rattle.std.specs.BTreeMap.{is_at}
use Rattle.std.specs.List.{AllByRecursion}
use Rattle.std.specs.List.Sorted.{IsStrictlySortedBy}
use Rattle.std.specs.Map.{keys_of}
use Rattle.std.specs.declared.cmp.Ordering.TheVariants.{Less}
use Rattle.ct_values.specs.Key.{key_cmp}
use Rattle.ct_node_database.specs.Noted.{IsTidy, is_deleted, is_noted}
use Rattle.ct_frame.specs.Header.{nobody}
use Rattle.ct_values.specs.declared.config.Config.{Config}
use Rattle.ct_node_plan.proofs.Keys.{above_is_other}
use Rattle.ct_rules.specs.declared.state.RecState.{RecState}
use Rattle.ct_law_rules_node.specs.NodeLaws.{NodeAscends}
use Rattle.ct_rules_node.specs.Node.{Node, db_at, or_nothing, state_at}
use Rattle.ct_rules_node.specs.Steps.{vacuum_all}
use Rattle.ct_rules_node.specs.Turn.{Turn}
use Rattle.ct_store.specs.Map.{Pairs, look}
use Rattle.ct_store.specs.Map as store
use Rattle.ct_store.proofs.Maps.{equal, one_key, same_map}
use Rattle.ct_tracking.specs.Candidates.{Ascends}
use Rattle.ct_node_plan_records.specs.Keys.{deleted_of, is_deleted_at, vacuum_key, vacuum_keys}
use Rattle.ct_node_plan_records.proofs.Records.{Worth, same_length, same_others, skipped, still_ascends, still_worth}

-- ---- keys that ascend, with the same among them, are the same

abbrev paired : List (List ℕ) → Pairs (Unit {0})
paired [] = []
paired (k ∷ ks) = (k, tt) ∷ paired ks

abbrev found : Bool → Option (Unit {0})
found true = Some tt
found false = None

keys_paired : (ks : List (List ℕ)) → keys_of (paired ks) ≡ ks
keys_paired [] = refl
keys_paired (k ∷ ks) = ap (λ (l : List (List ℕ)). k ∷ l) (keys_paired ks)

look_paired : (q : List ℕ) (ks : List (List ℕ)) → look q (paired ks) ≡ found (is_noted q ks)
look_paired q [] = refl
look_paired q (k ∷ ks) = by (is_at (key_cmp q) k) (look_paired q ks)
  where
    by : (b : Bool) → look q (paired ks) ≡ found (is_noted q ks) → cond b (Some tt) (look q (paired ks)) ≡ found (b || is_noted q ks)
    by true e = refl
    by false e = e

paired_ascends : (ks : List (List ℕ)) → Ascends ks → store.Ascends (paired ks)
paired_ascends ks a = subst (IsStrictlySortedBy key_cmp) (sym (keys_paired ks)) a

same_keys : (ks js : List (List ℕ)) → Ascends ks → Ascends js → ((q : List ℕ) → is_noted q ks ≡ is_noted q js) → ks ≡ js
same_keys ks js a b h =
    sym (keys_paired ks)
    ∙ ap (λ (m : Pairs (Unit {0})). keys_of m) (same_map (paired ks) (paired js) (paired_ascends ks a) (paired_ascends js b) (λ q. look_paired q ks ∙ ap found (h q) ∙ sym (look_paired q js)))
    ∙ keys_paired js

-- ---- deleted records are noted

noted_deleted : (db : ℕ) (n : Node) (q : List ℕ) (ks : List (List ℕ)) → is_noted q (deleted_of db n ks) ≡ (is_deleted_at db n q && is_noted q ks)
noted_deleted db n q ks = any-filter_same (is_at (key_cmp q)) (is_deleted_at db n) (is_deleted_at db n q) (λ k e. ap (is_deleted_at db n) (sym (one_key q k (equal _ e)))) ks

both_true : (a b : Bool) → (a ≡ true → b ≡ true) → (a && b) ≡ a
both_true true b f = f refl
both_true false b f = refl

seen_among : (q : List ℕ) (m : Pairs RecState) → is_noted q (keys_of m) ≡ is_some (look q m)
seen_among q [] = refl
seen_among q (e ∷ m) = by (is_at (key_cmp q) e.0) (seen_among q m)
  where
    by : (b : Bool) → is_noted q (keys_of m) ≡ is_some (look q m) → (b || is_noted q (keys_of m)) ≡ is_some (cond b (Some e.1) (look q m))
    by true i = refl
    by false i = i

deleted_is_seen : (x : Option RecState) → is_deleted (or_nothing x).copy ≡ true → is_some x ≡ true
unfolding or_nothing is_deleted
deleted_is_seen None e = absurd (cc)
deleted_is_seen (Some s) e = refl

-- the keys of deleted records, among the keys of all and among those that are noted
pub same_deleted : (db : ℕ) (n : Node) (ks : List (List ℕ)) → store.Ascends (db_at db n).records → Ascends ks → IsTidy ks (db_at db n).records →
    deleted_of db n (keys_of (db_at db n).records) ≡ deleted_of db n ks
unfolding state_at
same_deleted db n ks up a h =
    let m = (db_at db n).records in
    same_keys (deleted_of db n (keys_of m)) (deleted_of db n ks) (IsStrictlySortedBy-filter key_cmp (is_deleted_at db n) (keys_of m) up) (IsStrictlySortedBy-filter key_cmp (is_deleted_at db n) ks a)
    (λ q. noted_deleted db n q (keys_of m)
    ∙ both_true (is_deleted_at db n q) (is_noted q (keys_of m)) (λ e. seen_among q m ∙ deleted_is_seen (look q m) e)
    ∙ sym (both_true (is_deleted_at db n q) (is_noted q ks) (λ e. h.noted q e))
    ∙ sym (noted_deleted db n q ks))

-- ---- all others are skipped

-- each of these keys has the state that it had at first
abbrev pub AreSame : ℕ → Node → Node → List (List ℕ) → Type 0
AreSame db n m keys = AllByRecursion (λ key. state_at db key m ≡ state_at db key n) keys

-- those behind a key have it after a vacuum of that too
pub same_behind : (c : Config) (me db : ℕ) (key : List ℕ) (n : Node) (t : Turn) (keys : List (List ℕ)) → NodeAscends t.node → AllByRecursion (λ q. key_cmp key q ≡ Less) keys → AreSame db n t.node keys →
    AreSame db n (vacuum_key c me db key t).node keys
same_behind c me db key n t [] a l h = tt
same_behind c me db key n t (q ∷ keys) a l h = (same_others c me db key t q a (above_is_other key q l.0) ∙ h.0, same_behind c me db key n t keys a l.1 h.1)

pub all_vacuumed : (c : Config) (me db : ℕ) (n : Node) (m : Pairs RecState) (t : Turn) → me ≢ nobody → NodeAscends t.node → db < length t.node.dbs → Worth db t.node → store.Ascends m → AreSame db n t.node (keys_of m) →
    vacuum_all c me db m t ≡ vacuum_keys c me db (deleted_of db n (keys_of m)) t
unfolding vacuum_all vacuum_keys vacuum_key IsStrictlySortedBy
all_vacuumed c me db n [] t x a l w up same = refl
all_vacuumed c me db n (e ∷ m) t x a l w up same =
    let u = vacuum_key c me db e.0 t in
    let more = all_vacuumed c me db n m u x (still_ascends c me db e.0 t a) (subst (λ (k : ℕ). db < k) (sym (same_length c me db e.0 t)) l) (still_worth c me db e.0 t a l w) up.1 (same_behind c me db e.0 n t (keys_of m) a up.0 same.1) in
    let none = λ (d : is_deleted_at db n e.0 ≡ false). skipped c me db e.0 t x a l w (ap (λ (s : RecState). is_deleted s.copy) same.0 ∙ d) in
    by (is_deleted_at db n e.0) refl more none (all_vacuumed c me db n m t x a l w up.1 same.1)
  where
    by : (b : Bool) → is_deleted_at db n e.0 ≡ b → vacuum_all c me db m (vacuum_key c me db e.0 t) ≡ vacuum_keys c me db (deleted_of db n (keys_of m)) (vacuum_key c me db e.0 t) → (is_deleted_at db n e.0 ≡ false → vacuum_key c me db e.0 t ≡ t) →
        vacuum_all c me db m t ≡ vacuum_keys c me db (deleted_of db n (keys_of m)) t → vacuum_all c me db m (vacuum_key c me db e.0 t) ≡ vacuum_keys c me db (cond b (e.0 ∷ deleted_of db n (keys_of m)) (deleted_of db n (keys_of m))) t
    by true d more none rest = more
    by false d more none rest = ap (vacuum_all c me db m) (none d) ∙ rest
