-- The table of a Pull, seen at one key.
use Rattle.std.proofs.Common.{◌≡◌, ◌≢◌, ℕ, zero, suc, ◌+◌, ◌<◌, Bool, true, false, cond, ◌&&◌, ◌==◌, List, [], ◌∷◌, ◌++◌, Option, Some, None, refl, sym, ◌∙◌, ap, subst, arith}
use Rattle.std.proofs.lemmas.Bool.{lt-ltb}
use Rattle.std.specs.Prelude.{map, slice_get}
use Rattle.std.specs.declared.cmp.Ordering.{Ordering}
use Rattle.std.specs.declared.cmp.Ordering.TheVariants.{Less, Equal, Greater}
use Rattle.std.specs.Ordering.{is_eq, nat_cmp, ordering_then}
use Rattle.std.specs.Cmp.{nat_cmp_total, tied_itself}
use Rattle.std.specs.FinMap.{nat_cmp-IsAntisymmetric}
use Rattle.std.specs.List.{AllByRecursion}
use Rattle.std.specs.List.Sorted.{IsStrictlySortedBy}
use Rattle.std.specs.Map.{keys_of}
use Rattle.ct_values.specs.Key.{key_cmp}
use Rattle.ct_frame.specs.declared.frame.TableRow.{TableRow}
use Rattle.ct_frame.specs.declared.header.RecCopy.{RecCopy}
use Rattle.ct_frame.specs.Fields.{ascends, row_before}
use Rattle.ct_merge.specs.Held.{is_row_at}
use Rattle.ct_merge.specs.Rule.{row_at}
use Rattle.ct_merge.proofs.Ordered.{chained}
use Rattle.ct_law_merge.proofs.Rules.{place_cmp}
use Rattle.ct_store.specs.Map.{Pairs, Ascends, look}
use Rattle.ct_store.proofs.Maps.{one_key, equal}
use Rattle.ct_rules.specs.State.{is_mastered}
use Rattle.ct_rules.specs.declared.state.RecState.{RecState}
use Rattle.ct_rules_node.specs.Node.{Database, or_nothing, or_untouched, untouched}
use Rattle.ct_rules_node.specs.Rounds.{row_of, with_row, rows_of, table_of, own_or_none}
use Rattle.ct_law_rules_node.specs.NodeLaws.{AllAscend, IsTable}
use Rattle.ct_law_rules_node.proofs.Keys.{below_unseen}
use Rattle.ct_law_rules_node.proofs.Installed.{place, row_is, same_number, own_key}

-- the row of a copy
abbrev told_row : ℕ → ℕ → List ℕ → RecCopy → TableRow
told_row me db key c = record { db = db; key = key; rsn = c.header.rsn; value = c.value; master = own_or_none me (is_mastered me (Some c)) }

-- ---- rows after rows

or_else : Option TableRow → Option TableRow → Option TableRow
or_else None y = y
or_else (Some x) y = Some x

row_in_both : (db : ℕ) (key : List ℕ) (xs ys : List TableRow) → row_at db key (xs ++ ys) ≡ or_else (row_at db key xs) (row_at db key ys)
unfolding or_else
row_in_both db key [] ys = refl
row_in_both db key (x ∷ xs) ys =
    elim (is_row_at db key x) as (λ b. cond b (Some x) (row_at db key (xs ++ ys)) ≡ or_else (cond b (Some x) (row_at db key xs)) (row_at db key ys)) [
      | true ↦ refl
      | false ↦ row_in_both db key xs ys
    ]

-- ---- the rows of one database

pub another_db : (a b : ℕ) → a ≢ b → is_eq (nat_cmp a b) ≡ false
another_db a b n = elim (is_eq (nat_cmp a b)) as (λ t. is_eq (nat_cmp a b) ≡ t → t ≡ false) [ true ↦ λ e. absurd (n (nat_cmp-IsAntisymmetric a b (equal _ e))) | false ↦ λ e. refl ] refl

skip_row : (db : ℕ) (key : List ℕ) (row : TableRow) (rest : List TableRow) → is_row_at db key row ≡ false → row_at db key (row ∷ rest) ≡ row_at db key rest
skip_row db key row rest e = ap (λ (b : Bool). cond b (Some row) (row_at db key rest)) e

other_db_row : (me db i : ℕ) (key k : List ℕ) (c : Option RecCopy) (rest : List TableRow) → db ≢ i → row_at db key (with_row (row_of me i k c) rest) ≡ row_at db key rest
unfolding row_of with_row
other_db_row me db i key k None rest n = refl
other_db_row me db i key k (Some c) rest n = skip_row db key _ rest (ap (λ (b : Bool). b && is_eq (key_cmp key k)) (another_db db i n))

none_of_other : (me db i : ℕ) (key : List ℕ) (m : Pairs RecState) → db ≢ i → row_at db key (rows_of me i m) ≡ None
unfolding rows_of
none_of_other me db i key [] n = refl
none_of_other me db i key (e ∷ m) n = other_db_row me db i key e.0 e.1.copy (rows_of me i m) n ∙ none_of_other me db i key m n

own_row : (me db : ℕ) (k : List ℕ) (c : Option RecCopy) (rest : List TableRow) → row_at db k rest ≡ None → row_at db k (with_row (row_of me db k c) rest) ≡ row_of me db k c
unfolding row_of with_row
own_row me db k None rest n = n
own_row me db k (Some c) rest n = ap (λ (b : Bool). cond b (Some (told_row me db k c)) (row_at db k rest)) (λ i. same_number db i && own_key k i)

other_key_row : (me db : ℕ) (key k : List ℕ) (c : Option RecCopy) (rest : List TableRow) → is_eq (key_cmp key k) ≡ false → row_at db key (with_row (row_of me db k c) rest) ≡ row_at db key rest
unfolding row_of with_row
other_key_row me db key k None rest e = refl
other_key_row me db key k (Some c) rest e = skip_row db key _ rest (λ i. same_number db i && e i)

row_case : (me db : ℕ) (key k : List ℕ) (s : RecState) (before : Option RecState) (rest : List TableRow) (t : Bool) → is_eq (key_cmp key k) ≡ t
    → row_at db k rest ≡ None → row_at db key rest ≡ row_of me db key (or_nothing before).copy
    → row_at db key (with_row (row_of me db k s.copy) rest) ≡ row_of me db key (or_nothing (cond t (Some s) before)).copy
unfolding or_nothing
row_case me db key k s before rest true e none ih =
    subst (λ (q : List ℕ). row_at db q (with_row (row_of me db k s.copy) rest) ≡ row_of me db q s.copy) (sym (one_key key k (equal _ e))) (own_row me db k s.copy rest none)
row_case me db key k s before rest false e none ih = other_key_row me db key k s.copy rest e ∙ ih

rows_seen : (me db : ℕ) (key : List ℕ) (m : Pairs RecState) → Ascends m → row_at db key (rows_of me db m) ≡ row_of me db key (or_nothing (look key m)).copy
unfolding rows_of row_of with_row or_nothing IsStrictlySortedBy
rows_seen me db key [] h = refl
rows_seen me db key (e ∷ m) h =
    row_case me db key e.0 e.1 (look key m) (rows_of me db m) (is_eq (key_cmp key e.0)) refl
    (rows_seen me db e.0 m h.1 ∙ ap (λ (o : Option RecState). row_of me db e.0 (or_nothing o).copy) (below_unseen e.0 m h.0)) (rows_seen me db key m h.1)

-- ---- all databases

none_before : (me j i : ℕ) (key : List ℕ) (dbs : List Database) → j < i → row_at j key (table_of me i dbs) ≡ None
unfolding table_of or_else
none_before me j i key [] l = refl
none_before me j i key (d ∷ ds) l =
    row_in_both j key (rows_of me i d.records) (table_of me (i + 1) ds)
    ∙ ap (λ (r : Option TableRow). or_else r (row_at j key (table_of me (i + 1) ds))) (none_of_other me j i key d.records (λ (e : j ≡ i). omega arith))
    ∙ none_before me j (i + 1) key ds (omega arith)

or_none : (x : Option TableRow) → or_else x None ≡ x
unfolding or_else
or_none None = refl
or_none (Some x) = refl

table_seen : (me i k j : ℕ) (key : List ℕ) (dbs : List Database) → j ≡ i + k → AllAscend dbs
    → row_at j key (table_of me i dbs) ≡ row_of me j key (or_nothing (look key (or_untouched (slice_get dbs k)).records)).copy
unfolding table_of or_else AllAscend or_untouched untouched or_nothing row_of with_row
table_seen me i k j key [] e h = refl
table_seen me i zero j key (d ∷ ds) e h =
    row_in_both j key (rows_of me i d.records) (table_of me (i + 1) ds)
    ∙ ap (λ (r : Option TableRow). or_else (row_at j key (rows_of me i d.records)) r) (none_before me j (i + 1) key ds (omega arith))
    ∙ or_none (row_at j key (rows_of me i d.records))
    ∙ subst (λ (q : ℕ). row_at j key (rows_of me q d.records) ≡ row_of me j key (or_nothing (look key d.records)).copy) (omega arith) (rows_seen me j key d.records h.0)
table_seen me i (suc k) j key (d ∷ ds) e h =
    row_in_both j key (rows_of me i d.records) (table_of me (i + 1) ds)
    ∙ ap (λ (r : Option TableRow). or_else r (row_at j key (table_of me (i + 1) ds))) (none_of_other me j i key d.records (λ (q : j ≡ i). omega arith))
    ∙ table_seen me (i + 1) k j key ds (omega arith) h.1

-- ---- the order of the table

abbrev table_order : TableRow → TableRow → Ordering
table_order a b = place_cmp (place a) (place b)

abbrev AllAfter : TableRow → List TableRow → Type 0
AllAfter x rows = AllByRecursion (λ y. table_order x y ≡ Less) rows

before_by_key : (x y : TableRow) (db : ℕ) (k q : List ℕ) → x.db ≡ db → x.key ≡ k → y.db ≡ db → y.key ≡ q → key_cmp k q ≡ Less → table_order x y ≡ Less
before_by_key x y db k q a b c d l =
    (λ i. ordering_then (nat_cmp (a i) (c i)) (key_cmp (b i) (d i))) ∙ (λ i. ordering_then (tied_itself nat_cmp_total db i) (l i))

less_number : (a b : ℕ) → a < b → nat_cmp a b ≡ Less
less_number a b l = ap (λ (t : Bool). cond t Less (cond (a == b) Equal Greater)) (lt-ltb a b l)

before_by_db : (x y : TableRow) → x.db < y.db → table_order x y ≡ Less
before_by_db x y l = ap (λ (o : Ordering). ordering_then o (key_cmp x.key y.key)) (less_number x.db y.db l)

pub all_of_both : {X : Type 0} (P : X → Type 0) (xs ys : List X) → AllByRecursion P xs → AllByRecursion P ys → AllByRecursion P (xs ++ ys)
all_of_both P [] ys h k = k
all_of_both P (x ∷ xs) ys h k = (h.0, all_of_both P xs ys h.1 k)

all_with_row : (me db : ℕ) (q : List ℕ) (c : Option RecCopy) (rest : List TableRow) (P : TableRow → Type 0) → ((y : TableRow) → y.db ≡ db → y.key ≡ q → P y) → AllByRecursion P rest → AllByRecursion P (with_row (row_of me db q c) rest)
unfolding row_of with_row
all_with_row me db q None rest P f h = h
all_with_row me db q (Some c) rest P f h = (f _ refl refl, h)

rows_all : (me db : ℕ) (m : Pairs RecState) (P : TableRow → Type 0) → ((y : TableRow) → y.db ≡ db → P y) → AllByRecursion P (rows_of me db m)
unfolding rows_of
rows_all me db [] P f = tt
rows_all me db (e ∷ m) P f = all_with_row me db e.0 e.1.copy (rows_of me db m) P (λ y d k. f y d) (rows_all me db m P f)

rows_after : (me db : ℕ) (k : List ℕ) (x : TableRow) (m : Pairs RecState) → x.db ≡ db → x.key ≡ k → AllByRecursion (λ q. key_cmp k q ≡ Less) (keys_of m) → AllAfter x (rows_of me db m)
unfolding rows_of
rows_after me db k x [] a b h = tt
rows_after me db k x (e ∷ m) a b h =
    all_with_row me db e.0 e.1.copy (rows_of me db m) (λ y. table_order x y ≡ Less) (λ y c d. before_by_key x y db k e.0 a b c d h.0) (rows_after me db k x m a b h.1)

sorted_with_row : (me db : ℕ) (q : List ℕ) (c : Option RecCopy) (rest : List TableRow) → ((y : TableRow) → y.db ≡ db → y.key ≡ q → AllAfter y rest) → IsStrictlySortedBy table_order rest → IsStrictlySortedBy table_order (with_row (row_of me db q c) rest)
unfolding row_of with_row IsStrictlySortedBy
sorted_with_row me db q None rest f h = h
sorted_with_row me db q (Some c) rest f h = (f (told_row me db q c) refl refl, h)

rows_sorted : (me db : ℕ) (m : Pairs RecState) → Ascends m → IsStrictlySortedBy table_order (rows_of me db m)
unfolding rows_of IsStrictlySortedBy
rows_sorted me db [] h = tt
rows_sorted me db (e ∷ m) h = sorted_with_row me db e.0 e.1.copy (rows_of me db m) (λ y c d. rows_after me db e.0 y m c d h.0) (rows_sorted me db m h.1)

table_after : (me i : ℕ) (x : TableRow) (dbs : List Database) → x.db < i → AllAfter x (table_of me i dbs)
unfolding table_of
table_after me i x [] l = tt
table_after me i x (d ∷ ds) l =
    all_of_both (λ y. table_order x y ≡ Less) (rows_of me i d.records) (table_of me (i + 1) ds)
    (rows_all me i d.records (λ y. table_order x y ≡ Less) (λ y (e : y.db ≡ i). before_by_db x y (omega arith))) (table_after me (i + 1) x ds (omega arith))

sorted_of_both : (xs ys : List TableRow) → IsStrictlySortedBy table_order xs → AllByRecursion (λ x. AllAfter x ys) xs → IsStrictlySortedBy table_order ys → IsStrictlySortedBy table_order (xs ++ ys)
unfolding IsStrictlySortedBy
sorted_of_both [] ys h a k = k
sorted_of_both (x ∷ xs) ys h a k = (all_of_both (λ y. table_order x y ≡ Less) xs ys h.0 a.0, sorted_of_both xs ys h.1 a.1 k)

table_sorted : (me i : ℕ) (dbs : List Database) → AllAscend dbs → IsStrictlySortedBy table_order (table_of me i dbs)
unfolding table_of AllAscend IsStrictlySortedBy
table_sorted me i [] h = tt
table_sorted me i (d ∷ ds) h =
    sorted_of_both (rows_of me i d.records) (table_of me (i + 1) ds) (rows_sorted me i d.records h.0)
    (rows_all me i d.records (λ x. AllAfter x (table_of me (i + 1) ds)) (λ x (e : x.db ≡ i). table_after me (i + 1) x ds (omega arith))) (table_sorted me (i + 1) ds h.1)

itself : (rows : List TableRow) → map (λ x. x) rows ≡ rows
itself [] = refl
itself (x ∷ xs) = ap (λ l. x ∷ l) (itself xs)

table_ascends : (me i : ℕ) (dbs : List Database) → AllAscend dbs → ascends row_before (table_of me i dbs) ≡ true
table_ascends me i dbs h =
    subst (λ (rows : List TableRow). ascends row_before rows ≡ true) (itself (table_of me i dbs)) (chained table_order row_before (λ x. x) row_is (table_of me i dbs) (table_sorted me i dbs h))

pub tells_at : (me : ℕ) (dbs : List Database) → AllAscend dbs → IsTable me dbs
tells_at me dbs h = record { seen = λ db key. table_seen me 0 db db key dbs (omega arith) h; order = table_ascends me 0 dbs h }
