-- The calls that wait at a node, seen at one record.
use Rattle.std.proofs.Common.{◌≡◌, ◌≢◌, ℕ, zero, suc, ◌+◌, ◌<◌, Bool, true, false, cond, ◌&&◌, List, [], ◌∷◌, ◌++◌, append-nil, Option, Some, None, refl, sym, ◌∙◌, ap, subst, arith}
use Rattle.std.specs.Prelude.{slice_get}
use Rattle.std.specs.Ordering.{is_eq, nat_cmp}
use Rattle.std.specs.List.{filter}
use Rattle.std.proofs.lemmas.List.Elements.{filter-append}
use Rattle.std.specs.List.Sorted.{IsStrictlySortedBy}
use Rattle.ct_values.specs.Key.{key_cmp}
use Rattle.ct_store.specs.Map.{Pairs, Ascends, look}
use Rattle.ct_store.proofs.Maps.{one_key, equal}
use Rattle.ct_rules.specs.declared.state.RecState.{RecState}
use Rattle.ct_rules.specs.declared.state.Wish.{Wish}
use Rattle.ct_rules_node.specs.Node.{Node, Database, untouched, or_untouched, or_nothing, db_at, state_at}
use Rattle.ct_rules_node.specs.Rounds.{Called, called_of, calls_of, calls_in, pending_calls}
use Rattle.ct_law_rules_node.specs.NodeLaws.{AllAscend, NodeAscends, is_called_at}
use Rattle.ct_law_rules_node.proofs.Keys.{below_unseen}
use Rattle.ct_law_rules_node.proofs.Installed.{same_number, own_key}
use Rattle.ct_law_rules_node.proofs.Tables.{another_db}
use Rattle.ct_law_rules_node.proofs.Numbered.{Few, numbered_few}

abbrev At : ℕ → List ℕ → List Called → List Called
At db key xs = filter (is_called_at db key) xs

-- ---- one wish

one_called : (db i : ℕ) (key k : List ℕ) (w : Option Wish) → (is_eq (nat_cmp db i) && is_eq (key_cmp key k)) ≡ false → At db key (called_of i k w) ≡ []
unfolding called_of is_called_at
one_called db i key k None e = refl
one_called db i key k (Some w) e = ap (λ (b : Bool). cond b (record { call = w.call; db = i; key = k } ∷ []) []) e

own_called : (db : ℕ) (k : List ℕ) (w : Option Wish) → At db k (called_of db k w) ≡ called_of db k w
unfolding called_of is_called_at
own_called db k None = refl
own_called db k (Some w) = ap (λ (b : Bool). cond b (record { call = w.call; db = db; key = k } ∷ []) []) (λ i. same_number db i && own_key k i)

-- ---- one database

other_calls : (db i : ℕ) (key : List ℕ) (m : Pairs RecState) → db ≢ i → At db key (calls_of i m) ≡ []
unfolding calls_of
other_calls db i key [] n = refl
other_calls db i key (e ∷ m) n =
    filter-append (is_called_at db key) (called_of i e.0 e.1.wish) (calls_of i m)
    ∙ (λ j. one_called db i key e.0 e.1.wish (ap (λ (b : Bool). b && is_eq (key_cmp key e.0)) (another_db db i n)) j ++ other_calls db i key m n j)

calls_case : (db : ℕ) (key k : List ℕ) (s : RecState) (before : Option RecState) (rest : List Called) (t : Bool) → is_eq (key_cmp key k) ≡ t → At db k rest ≡ [] → At db key rest ≡ called_of db key (or_nothing before).wish
    → At db key (called_of db k s.wish) ++ At db key rest ≡ called_of db key (or_nothing (cond t (Some s) before)).wish
unfolding or_nothing
calls_case db key k s before rest true e none ih =
    subst (λ (q : List ℕ). At db q (called_of db k s.wish) ++ At db q rest ≡ called_of db q s.wish) (sym (one_key key k (equal _ e)))
    ((λ j. own_called db k s.wish j ++ none j) ∙ append-nil (called_of db k s.wish))
calls_case db key k s before rest false e none ih =
    (λ j. one_called db db key k s.wish (λ i. same_number db i && e i) j ++ At db key rest) ∙ ih

calls_seen : (db : ℕ) (key : List ℕ) (m : Pairs RecState) → Ascends m → At db key (calls_of db m) ≡ called_of db key (or_nothing (look key m)).wish
unfolding calls_of called_of or_nothing IsStrictlySortedBy
calls_seen db key [] h = refl
calls_seen db key (e ∷ m) h =
    filter-append (is_called_at db key) (called_of db e.0 e.1.wish) (calls_of db m)
    ∙ calls_case db key e.0 e.1 (look key m) (calls_of db m) (is_eq (key_cmp key e.0)) refl
    (calls_seen db e.0 m h.1 ∙ ap (λ (o : Option RecState). called_of db e.0 (or_nothing o).wish) (below_unseen e.0 m h.0)) (calls_seen db key m h.1)

-- ---- all databases

none_before : (j i : ℕ) (key : List ℕ) (dbs : List Database) → j < i → At j key (calls_in i dbs) ≡ []
unfolding calls_in
none_before j i key [] l = refl
none_before j i key (d ∷ ds) l =
    filter-append (is_called_at j key) (calls_of i d.records) (calls_in (i + 1) ds)
    ∙ (λ q. other_calls j i key d.records (λ (e : j ≡ i). omega arith) q ++ none_before j (i + 1) key ds (omega arith) q)

all_seen : (i k j : ℕ) (key : List ℕ) (dbs : List Database) → j ≡ i + k → AllAscend dbs → At j key (calls_in i dbs) ≡ called_of j key (or_nothing (look key (or_untouched (slice_get dbs k)).records)).wish
unfolding calls_in AllAscend or_untouched untouched or_nothing called_of
all_seen i k j key [] e h = refl
all_seen i zero j key (d ∷ ds) e h =
    filter-append (is_called_at j key) (calls_of i d.records) (calls_in (i + 1) ds)
    ∙ ap (λ (l : List Called). At j key (calls_of i d.records) ++ l) (none_before j (i + 1) key ds (omega arith))
    ∙ append-nil (At j key (calls_of i d.records))
    ∙ subst (λ (q : ℕ). At j key (calls_of q d.records) ≡ called_of j key (or_nothing (look key d.records)).wish) (omega arith) (calls_seen j key d.records h.0)
all_seen i (suc k) j key (d ∷ ds) e h =
    filter-append (is_called_at j key) (calls_of i d.records) (calls_in (i + 1) ds)
    ∙ ap (λ (l : List Called). l ++ At j key (calls_in (i + 1) ds)) (other_calls j i key d.records (λ (q : j ≡ i). omega arith))
    ∙ all_seen (i + 1) k j key ds (omega arith) h.1

-- ---- in the order of their numbers

few_called : (db : ℕ) (key : List ℕ) (w : Option Wish) → Few (called_of db key w)
unfolding Few called_of
few_called db key None = tt
few_called db key (Some w) = tt

pub calls_each : (n : Node) → NodeAscends n → (db : ℕ) (key : List ℕ) → filter (is_called_at db key) (pending_calls n) ≡ called_of db key (state_at db key n).wish
unfolding pending_calls state_at db_at
calls_each n h db key =
    let seen = all_seen 0 db db key n.dbs (omega arith) h in
    numbered_few (λ x. x.call) (is_called_at db key) (calls_in 0 n.dbs) (subst Few (sym seen) (few_called db key _)) ∙ seen
