-- Rows that go into their databases one after the other are installed as by database.
use Rattle.std.proofs.Common.{◌≡◌, ◌∙◌, ℕ, zero, suc, ◌+◌, ◌<◌, ◌≤◌, ◌^◌, Bool, true, false, cond, ◌&&◌, List, [], ◌∷◌, length, Option, None, Some, refl, sym, ap, subst, drop, get_or, drop-cons, add-one, arith}
use Rattle.std.proofs.lemmas.Bool.{and_parts, eq-eqb}
use Rattle.std.proofs.lemmas.Bool.Decides.{nat_tests}
use Rattle.std.proofs.lemmas.List.{drop_all}
use Rattle.std.specs.Prelude.{nat_eq, slice_get, slice_set}
use Rattle.std.specs.List.{AllByRecursion, list_all}
use Rattle.ct_frame.specs.Fields.{ascends, is_below_limit, is_db, is_kept, is_ptable, pair_before}
use Rattle.ct_frame.specs.declared.frame.PTable.{PTable}
use Rattle.ct_frame.specs.declared.frame.TableRow.{TableRow}
use Rattle.ct_persist.specs.Persisted.{Persisted, replaced}
use Rattle.ct_rules_node.specs.Node.{Database, or_untouched}
use Rattle.ct_rules_node.specs.Rounds.{install_row, install_rows, installed_db, installed_dbs, store_from}
use Rattle.ct_node_plan_installs.specs.Filled.{bared_db, bared_dbs, filled, own_table, row_into, with_row}

-- ---- one row

differs : (m n : ℕ) → m < n → nat_eq m n ≡ false
differs m n l = grind (arith, nat_tests)

differs_above : (m n : ℕ) → n < m → nat_eq m n ≡ false
differs_above m n l = grind (arith, nat_tests)

-- the databases behind its own stay
into_past : (me : ℕ) (members : List ℕ) (row : TableRow) (i : ℕ) (ds : List Database) → row.db < i → row_into me members row i ds ≡ ds
unfolding row_into
into_past me members row i [] l = refl
into_past me members row i (d ∷ ds) l =
    ap (λ (b : Bool). cond b (with_row me members row d) d ∷ row_into me members row (i + 1) ds) (differs row.db i l)
    ∙ ap (λ (rest : List Database). d ∷ rest) (into_past me members row (i + 1) ds (omega (arith, l)))

-- where it has no database nothing changes
into_none : (me : ℕ) (members : List ℕ) (row : TableRow) (i : ℕ) (ds : List Database) → i + length ds ≤ row.db → row_into me members row i ds ≡ ds
unfolding row_into
into_none me members row i [] l = refl
into_none me members row i (d ∷ ds) l =
    ap (λ (b : Bool). cond b (with_row me members row d) d ∷ row_into me members row (i + 1) ds) (differs_above row.db i (omega (arith, l)))
    ∙ ap (λ (rest : List Database). d ∷ rest) (into_none me members row (i + 1) ds (omega (arith, l)))

into_at : (me : ℕ) (members : List ℕ) (row : TableRow) (i k : ℕ) (ds : List Database) → row.db ≡ i + k → k < length ds → row_into me members row i ds ≡ slice_set ds k (with_row me members row (or_untouched (slice_get ds k)))
unfolding row_into or_untouched
into_at me members row i k [] e l = absurd (omega (arith, l))
into_at me members row i zero (d ∷ ds) e l =
    ap (λ (b : Bool). cond b (with_row me members row d) d ∷ row_into me members row (i + 1) ds) (eq-eqb row.db i (omega (arith, e)))
    ∙ ap (λ (rest : List Database). with_row me members row d ∷ rest) (into_past me members row (i + 1) ds (omega (arith, e)))
into_at me members row i (suc k) (d ∷ ds) e l =
    ap (λ (b : Bool). cond b (with_row me members row d) d ∷ row_into me members row (i + 1) ds) (differs_above row.db i (omega (arith, e)))
    ∙ ap (λ (rest : List Database). d ∷ rest) (into_at me members row (i + 1) k ds (omega (arith, e)) (omega (arith, l)))

pub into_there : (me : ℕ) (members : List ℕ) (row : TableRow) (ds : List Database) → row.db < length ds → row_into me members row 0 ds ≡ slice_set ds row.db (with_row me members row (or_untouched (slice_get ds row.db)))
into_there me members row ds l = into_at me members row 0 row.db ds (omega arith) l

pub into_nowhere : (me : ℕ) (members : List ℕ) (row : TableRow) (ds : List Database) → length ds ≤ row.db → row_into me members row 0 ds ≡ ds
into_nowhere me members row ds l = into_none me members row 0 ds (omega (arith, l))

-- ---- all rows

pub filled_none : (me : ℕ) (members : List ℕ) (i : ℕ) (ds : List Database) → filled me members [] i ds ≡ ds
unfolding filled install_rows
filled_none me members i [] = refl
filled_none me members i (d ∷ ds) = ap (λ (rest : List Database). d ∷ rest) (filled_none me members (i + 1) ds)

row_first : (me i : ℕ) (members : List ℕ) (row : TableRow) (rows : List TableRow) (d : Database) (b : Bool) →
    record d { records = install_rows me i members rows (cond b (install_row me members row d.records) d.records) } ≡ record (cond b (with_row me members row d) d) { records = install_rows me i members rows (cond b (with_row me members row d) d).records }
unfolding with_row
row_first me i members row rows d true = refl
row_first me i members row rows d false = refl

pub filled_first : (me : ℕ) (members : List ℕ) (row : TableRow) (rows : List TableRow) (i : ℕ) (ds : List Database) → filled me members (row ∷ rows) i ds ≡ filled me members rows i (row_into me members row i ds)
unfolding filled install_rows row_into
filled_first me members row rows i [] = refl
filled_first me members row rows i (d ∷ ds) = (λ j. row_first me i members row rows d (nat_eq row.db i) j ∷ filled_first me members row rows (i + 1) ds j)

pub filled_all : (me : ℕ) (members : List ℕ) (rows : List TableRow) (ptables : List PTable) (i : ℕ) (ds : List Database) → filled me members rows i (bared_dbs i ptables ds) ≡ installed_dbs me i members rows ptables ds
unfolding filled bared_dbs bared_db installed_dbs installed_db
filled_all me members rows ptables i [] = refl
filled_all me members rows ptables i (d ∷ ds) = ap (λ (rest : List Database). installed_db me i members rows ptables d ∷ rest) (filled_all me members rows ptables (i + 1) ds)

-- ---- row by row

next_row : (table : List TableRow) (i : ℕ) (row : TableRow) → i < length table → row ≡ get_or table i row → drop i table ≡ row ∷ drop (i + 1) table
next_row table i row l e = drop-cons table i row l ∙ (λ j. sym e j ∷ drop (sym (add-one i) j) table)

pub filled_step : (me : ℕ) (members : List ℕ) (table : List TableRow) (i : ℕ) (row : TableRow) (ds es : List Database) → i < length table → row ≡ get_or table i row → es ≡ row_into me members row 0 ds →
    filled me members (drop (i + 1) table) 0 es ≡ filled me members (drop i table) 0 ds
filled_step me members table i row ds es l e f =
    ap (filled me members (drop (i + 1) table) 0) f
    ∙ sym (filled_first me members row (drop (i + 1) table) 0 ds)
    ∙ ap (λ (rows : List TableRow). filled me members rows 0 ds) (sym (next_row table i row l e))

pub limits_step : (table : List TableRow) (i : ℕ) (row : TableRow) → i < length table → row ≡ get_or table i row → AllByRecursion (λ (x : TableRow). x.rsn < 2 ^ 62) (drop i table) → AllByRecursion (λ (x : TableRow). x.rsn < 2 ^ 62) (drop (i + 1) table)
limits_step table i row l e all = (subst (λ (rows : List TableRow). AllByRecursion (λ (x : TableRow). x.rsn < 2 ^ 62) rows) (next_row table i row l e) all).1

pub filled_end : (me : ℕ) (members : List ℕ) (table : List TableRow) (i : ℕ) (ds : List Database) → length table ≤ i → filled me members (drop i table) 0 ds ≡ ds
filled_end me members table i ds l = ap (λ (rows : List TableRow). filled me members rows 0 ds) (drop_all i table l) ∙ filled_none me members 0 ds

-- ---- persistent tables

own_is : (db : ℕ) (ptables : List PTable) (x : PTable) → list_all is_ptable ptables ≡ true → Some x ≡ own_table db ptables → is_ptable x ≡ true
unfolding own_table
own_is db [] x all e = absurd (cc)
own_is db (y ∷ ys) x all e = (let p = and_parts (is_ptable y) (list_all is_ptable ys) all in by (nat_eq y.db db) p.0 (own_is db ys x p.1) e)
  where
    by : (b : Bool) → is_ptable y ≡ true → (Some x ≡ own_table db ys → is_ptable x ≡ true) → Some x ≡ cond b (Some y) (own_table db ys) → is_ptable x ≡ true
    by true q more f = (let same : x ≡ y = cc in subst (λ (z : PTable). is_ptable z ≡ true) (sym same) q)
    by false q more f = more f

pub own_ascends : (db : ℕ) (ptables : List PTable) (x : PTable) → list_all is_ptable ptables ≡ true → Some x ≡ own_table db ptables → ascends pair_before x.pairs ≡ true
own_ascends db ptables x all e = (and_parts (is_db x.db && is_below_limit x.seq && list_all is_kept x.pairs) (ascends pair_before x.pairs) (own_is db ptables x all e)).1

pub own_kept : (db : ℕ) (ptables : List PTable) (x : PTable) → list_all is_ptable ptables ≡ true → Some x ≡ own_table db ptables → list_all is_kept x.pairs ≡ true
own_kept db ptables x all e =
    let a = and_parts (is_db x.db && is_below_limit x.seq && list_all is_kept x.pairs) (ascends pair_before x.pairs) (own_is db ptables x all e) in
    (and_parts (is_db x.db && is_below_limit x.seq) (list_all is_kept x.pairs) a.0).1

-- what a database becomes by its table, if there is one
stored_of : Option PTable → Persisted → Persisted
stored_of None p = p
stored_of (Some x) p = replaced x

table_stored : (db : ℕ) (ptables : List PTable) (p : Persisted) (o : Option PTable) → o ≡ own_table db ptables → store_from db ptables p ≡ stored_of o p
unfolding store_from own_table stored_of
table_stored db [] p o e = ap (λ (x : Option PTable). stored_of x p) (sym e)
table_stored db (y ∷ ys) p o e = by (nat_eq y.db db) (table_stored db ys p o) e
  where
    by : (b : Bool) → (o ≡ own_table db ys → store_from db ys p ≡ stored_of o p) → o ≡ cond b (Some y) (own_table db ys) → cond b (replaced y) (store_from db ys p) ≡ stored_of o p
    by true more f = ap (λ (x : Option PTable). stored_of x p) (sym f)
    by false more f = more f

pub stored_so : (db : ℕ) (ptables : List PTable) (x : PTable) (d e : Database) → Some x ≡ own_table db ptables → e ≡ record d { store = replaced x } → e ≡ record d { store = store_from db ptables d.store }
unfolding stored_of
stored_so db ptables x d e o r = r ∙ (λ i. record d { store = sym (table_stored db ptables d.store (Some x) o) i })

pub stored_none : (db : ℕ) (ptables : List PTable) (d : Database) → None ≡ own_table db ptables → d ≡ record d { store = store_from db ptables d.store }
unfolding stored_of
stored_none db ptables d o = (λ i. record d { store = sym (table_stored db ptables d.store None o) i })
