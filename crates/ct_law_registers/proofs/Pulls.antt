-- What a Pull is told of persistent databases: each of them, whole.
use Rattle.std.proofs.Common.{◌≡◌, ℕ, zero, suc, ◌+◌, ◌<◌, Bool, true, false, cond, List, [], ◌∷◌, length, None, Some, refl, sym, ap, ◌∙◌, subst, arith, inl, inr}
use Rattle.std.specs.Prelude.{nat_eq, slice_get}
use Rattle.std.specs.Ordering.{nat_cmp, is_eq}
use Rattle.std.proofs.lemmas.Bool.{cond_both, and_from, eqb-true, eq-eqb, lt-ltb, ne_eqb}
use Rattle.ct_values.specs.declared.config.Config.{Config}
use Rattle.ct_frame.specs.Fields.{ascends, ascends_after, ptable_before}
use Rattle.ct_frame.specs.declared.frame.PTable.{PTable}
use Rattle.ct_merge.specs.Rule.{ptable_at, is_ptable_at}
use Rattle.ct_merge.proofs.Among.{In}
use Rattle.ct_persist.specs.Persisted.{Persisted, listed}
use Rattle.ct_rules_node.specs.Node.{Database, is_persistent, kind_at, or_untouched}
use Rattle.ct_rules_node.specs.Rounds.{ptables_of}

-- the table of a database
abbrev pub table_of : ℕ → Persisted → PTable
table_of db p = record { db = db; seq = p.seq; pairs = listed p.pairs }

pub cmp_flips : (a b : ℕ) → is_eq (nat_cmp a b) ≡ nat_eq b a
cmp_flips a b = grind arith

below_none : (c : Config) (i : ℕ) (ds : List Database) (db : ℕ) → db < i → ptable_at db (ptables_of c i ds) ≡ None
unfolding ptables_of
below_none c i [] db l = refl
below_none c i (d ∷ ds) db l = cond_both (is_persistent (kind_at c i)) (table_of i d.store ∷ ptables_of c (i + 1) ds) (ptables_of c (i + 1) ds) (λ (xs : List PTable). ptable_at db xs ≡ None)
    (λ _. (let f : is_eq (nat_cmp db i) ≡ false = cmp_flips db i ∙ ne_eqb i db (λ e. absurd (omega (arith, e))) in rw f (below_none c (i + 1) ds db (omega arith))))
    (λ _. below_none c (i + 1) ds db (omega arith))

-- at the place of a persistent database stands its table
pub pulled : (c : Config) (i j : ℕ) (ds : List Database) → j < length ds → is_persistent (kind_at c (i + j)) ≡ true → ptable_at (i + j) (ptables_of c i ds) ≡ Some (table_of (i + j) (or_untouched (slice_get ds j)).store)
unfolding ptables_of or_untouched
pulled c i j [] l p = absurd (omega arith)
pulled c i zero (d ∷ ds) l p = (let here : is_eq (nat_cmp (i + 0) i) ≡ true = cmp_flips (i + 0) i ∙ eq-eqb i (i + 0) (omega arith) in
    let q : is_persistent (kind_at c i) ≡ true = subst (λ (n : ℕ). is_persistent (kind_at c n) ≡ true) (let e : i + 0 ≡ i = omega arith in e) p in
    rw q (rw here (ap (λ (n : ℕ). Some (table_of n d.store)) (let e : i ≡ i + 0 = omega arith in e))))
pulled c i (suc j) (d ∷ ds) l p =
    let e : i + 1 + j ≡ i + suc j = omega arith in
    let rest : ptable_at (i + suc j) (ptables_of c (i + 1) ds) ≡ Some (table_of (i + suc j) (or_untouched (slice_get ds j)).store)
    = subst (λ (n : ℕ). ptable_at n (ptables_of c (i + 1) ds) ≡ Some (table_of n (or_untouched (slice_get ds j)).store)) e
    (pulled c (i + 1) j ds (omega arith) (subst (λ (n : ℕ). is_persistent (kind_at c n) ≡ true) (sym e) p)) in
    cond_both (is_persistent (kind_at c i)) (table_of i d.store ∷ ptables_of c (i + 1) ds) (ptables_of c (i + 1) ds) (λ (xs : List PTable). ptable_at (i + suc j) xs ≡ Some (table_of (i + suc j) (or_untouched (slice_get ds j)).store))
    (λ _. (let f : is_eq (nat_cmp (i + suc j) i) ≡ false = cmp_flips (i + suc j) i ∙ ne_eqb i (i + suc j) (λ k. absurd (omega (arith, k))) in rw f rest))
    (λ _. rest)

-- ---- and no other

-- each table is that of a database in its place
each_table : (c : Config) (i : ℕ) (ds : List Database) (y : PTable) → In y (ptables_of c i ds) → (k : ℕ) × (y ≡ table_of (i + k) (or_untouched (slice_get ds k)).store)
unfolding ptables_of or_untouched
each_table c i [] y is = absurd is
each_table c i (d ∷ ds) y is = by (is_persistent (kind_at c i)) is (each_table c (i + 1) ds y)
  where
    next : ((k : ℕ) × (y ≡ table_of ((i + 1) + k) (or_untouched (slice_get ds k)).store)) → (k : ℕ) × (y ≡ table_of (i + k) (or_untouched (slice_get (d ∷ ds) k)).store)
    next r = (suc r.0, r.1 ∙ ap (λ (n : ℕ). table_of n (or_untouched (slice_get ds r.0)).store) (let e : (i + 1) + r.0 ≡ i + suc r.0 = omega arith in e))

    by : (b : Bool) → In y (cond b (table_of i d.store ∷ ptables_of c (i + 1) ds) (ptables_of c (i + 1) ds)) → (In y (ptables_of c (i + 1) ds) → (k : ℕ) × (y ≡ table_of ((i + 1) + k) (or_untouched (slice_get ds k)).store)) →
        (k : ℕ) × (y ≡ table_of (i + k) (or_untouched (slice_get (d ∷ ds) k)).store)
    by true (inl e) rest = (0, sym e ∙ ap (λ (n : ℕ). table_of n d.store) (let f : i ≡ i + 0 = omega arith in f))
    by true (inr j) rest = next (rest j)
    by false j rest = next (rest j)

pub only_table : (c : Config) (i j : ℕ) (ds : List Database) (y : PTable) → In y (ptables_of c i ds) → is_ptable_at (i + j) y ≡ true → y ≡ table_of (i + j) (or_untouched (slice_get ds j)).store
only_table c i j ds y is here =
    let t = each_table c i ds y is in
    let db : y.db ≡ i + j = eqb-true y.db (i + j) (sym (cmp_flips (i + j) y.db) ∙ here) in
    let own : y.db ≡ i + t.0 = ap (λ (x : PTable). x.db) t.1 in
    let same : t.0 ≡ j = omega arith in
    t.1 ∙ ap (λ (k : ℕ). table_of (i + k) (or_untouched (slice_get ds k)).store) same

ascend_after : (c : Config) (i : ℕ) (ds : List Database) (x : PTable) → x.db < i → ascends_after ptable_before x (ptables_of c i ds) ≡ true
unfolding ptables_of
ascend_after c i [] x l = refl
ascend_after c i (d ∷ ds) x l = cond_both (is_persistent (kind_at c i)) (table_of i d.store ∷ ptables_of c (i + 1) ds) (ptables_of c (i + 1) ds) (λ (ts : List PTable). ascends_after ptable_before x ts ≡ true)
    (λ _. and_from (ptable_before x (table_of i d.store)) _ (lt-ltb x.db i l) (ascend_after c (i + 1) ds (table_of i d.store) (omega arith))) (λ _. ascend_after c (i + 1) ds x (omega arith))

-- and they ascend
pub tables_ascend : (c : Config) (i : ℕ) (ds : List Database) → ascends ptable_before (ptables_of c i ds) ≡ true
unfolding ptables_of
tables_ascend c i [] = refl
tables_ascend c i (d ∷ ds) = cond_both (is_persistent (kind_at c i)) (table_of i d.store ∷ ptables_of c (i + 1) ds) (ptables_of c (i + 1) ds) (λ (ts : List PTable). ascends ptable_before ts ≡ true)
    (λ _. ascend_after c (i + 1) ds (table_of i d.store) (omega arith)) (λ _. tables_ascend c (i + 1) ds)
