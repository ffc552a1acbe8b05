-- What a node tells its leader keeps the rules of its fields.
use Rattle.std.proofs.Common.{◌≡◌, ◌≢◌, ℕ, ◌+◌, ◌<◌, ◌≤◌, ◌^◌, Bool, true, false, cond, List, [], ◌∷◌, length, Option, Some, None, refl, sym, ◌∙◌, subst, arith}
use Rattle.std.proofs.lemmas.Bool.{and_from, cond_both, eq-eqb, lt-ltb}
use Rattle.std.proofs.lemmas.List.Folds.{list_all-append}
use Rattle.std.specs.Prelude.{slice_get}
use Rattle.std.specs.List.{AllByRecursion, list_all}
use Rattle.std.specs.List.Sorted.{IsStrictlySortedBy}
use Rattle.std.specs.Ordering.{is_eq}
use Rattle.ct_values.specs.Key.{key_cmp}
use Rattle.ct_values.specs.declared.config.Config.{Config}
use Rattle.ct_frame.specs.Fields.{ascends, ascends_after, is_below_limit, is_db, is_from_one, is_message, is_own_or_none, is_ptable, is_row, ptable_before}
use Rattle.ct_frame.specs.declared.frame.Msg.TheVariants as msg
use Rattle.ct_frame.specs.declared.frame.PTable.{PTable}
use Rattle.ct_frame.specs.declared.frame.TableRow.{TableRow}
use Rattle.ct_frame.specs.declared.header.RecCopy.{RecCopy}
use Rattle.ct_persist.specs.Persisted.{Persisted, listed}
use Rattle.ct_persist.proofs.Orders.{listed_ascends, listed_kept}
use Rattle.ct_store.specs.Map.{Ascends, Pairs, look}
use Rattle.ct_store.proofs.Maps.{equal, one_key}
use Rattle.ct_rules.specs.State.{is_mastered, rsn_of}
use Rattle.ct_rules.specs.declared.state.RecState.{RecState}
use Rattle.ct_rules_node.specs.Node.{Database, Node, db_at, is_frozen_in, is_persistent, kind_at, or_nothing, or_untouched, state_at}
use Rattle.ct_rules_node.specs.Rounds.{on_pull, own_or_none, ptables_of, row_of, rows_of, table_of, with_row}
use Rattle.ct_rules_node.specs.Turn.{Turn}
use Rattle.ct_law_rules_node.proofs.AtRecord.{at_ascends}
use Rattle.ct_law_rules_node.proofs.Installed.{own_key}
use Rattle.ct_law_rules_node.proofs.Keys.{below_unseen}
use Rattle.ct_law_rules_node.proofs.Tables.{tells_at}
use Rattle.ct_law_form.specs.Whole.{StoreInForm, NodeInForm, TurnInForm, is_node_of}
use Rattle.ct_law_form.proofs.Formed.{by_key}
use Rattle.ct_law_form.proofs.Turns.{posts_in_form}
use Rattle.ct_law_form.proofs.Commits.{all_of}

-- ---- from what holds at each key to what holds of each item

-- another key is not found at this one
not_own : (q k : List ℕ) → q ≢ k → is_eq (key_cmp q k) ≡ false
not_own q k n = cond_both (is_eq (key_cmp q k)) true false (λ (_ : Bool). is_eq (key_cmp q k) ≡ false) (λ t. absurd (n (one_key q k (equal _ t)))) (λ f. f)

-- what holds of what is kept of every key of a map holds of each of its items
pub each_kept : (P : RecState → Type 0) → P (or_nothing None) → (m : Pairs RecState) → Ascends m → ((key : List ℕ) → P (or_nothing (look key m))) → AllByRecursion (λ e. P e.1) m
unfolding or_nothing IsStrictlySortedBy
each_kept P none [] a h = tt
each_kept P none (e ∷ m) a h = (
  subst (λ (b : Bool). P (or_nothing (cond b (Some e.1) (look e.0 m)))) (own_key e.0) (h e.0),
  each_kept P none m a.1 (λ q. by_key (λ (q : List ℕ). P (or_nothing (look q m))) e.0 q
      (subst (λ (x : Option RecState). P (or_nothing x)) (sym (below_unseen e.0 m a.0)) none)
      (λ n. subst (λ (b : Bool). P (or_nothing (cond b (Some e.1) (look q m)))) (not_own q e.0 n) (h q))),
)

-- ---- rows

own_none : (me : ℕ) (b : Bool) → is_own_or_none me (own_or_none me b) ≡ true
unfolding own_or_none
own_none me true = eq-eqb me me refl
own_none me false = refl

below : (n : ℕ) → n < 2 ^ 62 → is_below_limit n ≡ true
below n l = lt-ltb n (2 ^ 62) l

with_row_all : (p : TableRow → Bool) (x : Option TableRow) (rows : List TableRow) → ((row : TableRow) → x ≡ Some row → p row ≡ true) → list_all p rows ≡ true → list_all p (with_row x rows) ≡ true
unfolding with_row
with_row_all p None rows h all = all
with_row_all p (Some row) rows h all = and_from _ _ (h row refl) all

-- is the row, if there is one, the node's own?
all_row : ℕ → Option TableRow → Bool
all_row me None = true
all_row me (Some row) = is_row (is_own_or_none me) row

row_is : (me db : ℕ) (key : List ℕ) (copy : Option RecCopy) (row : TableRow) → is_db db ≡ true → rsn_of copy < 2 ^ 62 → row_of me db key copy ≡ Some row → is_row (is_own_or_none me) row ≡ true
unfolding row_of rsn_of all_row
row_is me db key None row d l e = absurd (cc)
row_is me db key (Some c) row d l e = subst (λ (x : Option TableRow). all_row me x ≡ true) e (and_from _ _ (and_from _ _ d (below c.header.rsn l)) (own_none me (is_mastered me (Some c))))

-- every row of the copies of a database
rows_are : (me db : ℕ) (m : Pairs RecState) → is_db db ≡ true → AllByRecursion (λ e. rsn_of e.1.copy < 2 ^ 62) m → list_all (is_row (is_own_or_none me)) (rows_of me db m) ≡ true
unfolding rows_of
rows_are me db [] d all = refl
rows_are me db (e ∷ m) d all = with_row_all (is_row (is_own_or_none me)) (row_of me db e.0 e.1.copy) (rows_of me db m) (λ row is. row_is me db e.0 e.1.copy row d all.0 is) (rows_are me db m d all.1)

-- the copies of a database have RSNs below 2^62
unfoldable HasLowCopies : Database → Type 0
HasLowCopies d = AllByRecursion (λ e. rsn_of e.1.copy < 2 ^ 62) d.records

db_is : (db : ℕ) → db < 16 → is_db db ≡ true
db_is db l = lt-ltb db 16 l

table_is : (me i : ℕ) (ds : List Database) → i + length ds ≤ 16 → AllByRecursion HasLowCopies ds → list_all (is_row (is_own_or_none me)) (table_of me i ds) ≡ true
unfolding table_of HasLowCopies
table_is me i [] l all = refl
table_is me i (d ∷ ds) l all =
    list_all-append (is_row (is_own_or_none me)) (rows_of me i d.records) (table_of me (i + 1) ds)
    ∙ and_from _ _ (rows_are me i d.records (db_is i (omega arith)) all.0) (table_is me (i + 1) ds (omega arith) all.1)

low_copies : (c : Config) (me : ℕ) (n : Node) → NodeInForm c me n → AllByRecursion HasLowCopies n.dbs
unfolding HasLowCopies state_at db_at or_nothing rsn_of
low_copies c me n h = all_of HasLowCopies n.dbs (λ i. each_kept (λ (s : RecState). rsn_of s.copy < 2 ^ 62) (omega arith) (or_untouched (slice_get n.dbs i)).records (at_ascends n.dbs i h.order) (λ key. (h.formed i key).form.numbers.copy_limit))

-- ---- persistent tables

ptable_is : (db : ℕ) (p : Persisted) → is_db db ≡ true → StoreInForm p → is_ptable (record { db = db; seq = p.seq; pairs = listed p.pairs }) ≡ true
ptable_is db p d h = and_from _ _ (and_from _ _ (and_from _ _ d (below p.seq h.seq_limit)) (listed_kept p.pairs h.pairs_kept)) (listed_ascends p.pairs h.pairs_kept)

-- the table of a database
abbrev told : ℕ → Database → PTable
told i d = record { db = i; seq = d.store.seq; pairs = listed d.store.pairs }

ptables_are : (c : Config) (i : ℕ) (ds : List Database) → i + length ds ≤ 16 → AllByRecursion (λ d. StoreInForm d.store) ds → list_all is_ptable (ptables_of c i ds) ≡ true
unfolding ptables_of
ptables_are c i [] l all = refl
ptables_are c i (d ∷ ds) l all =
    let rest = ptables_are c (i + 1) ds (omega arith) all.1 in
    cond_both (is_persistent (kind_at c i)) (told i d ∷ ptables_of c (i + 1) ds) (ptables_of c (i + 1) ds) (λ (ts : List PTable). list_all is_ptable ts ≡ true)
    (λ _. and_from (is_ptable (told i d)) _ (ptable_is i d.store (db_is i (omega arith)) all.0) rest) (λ _. rest)

ptables_after : (c : Config) (i : ℕ) (ds : List Database) (x : PTable) → x.db < i → ascends_after ptable_before x (ptables_of c i ds) ≡ true
unfolding ptables_of
ptables_after c i [] x l = refl
ptables_after c i (d ∷ ds) x l = cond_both (is_persistent (kind_at c i)) (told i d ∷ ptables_of c (i + 1) ds) (ptables_of c (i + 1) ds) (λ (ts : List PTable). ascends_after ptable_before x ts ≡ true)
    (λ _. and_from (ptable_before x (told i d)) _ (lt-ltb x.db i l) (ptables_after c (i + 1) ds (told i d) (omega arith))) (λ _. ptables_after c (i + 1) ds x (omega arith))

ptables_ascend : (c : Config) (i : ℕ) (ds : List Database) → ascends ptable_before (ptables_of c i ds) ≡ true
unfolding ptables_of
ptables_ascend c i [] = refl
ptables_ascend c i (d ∷ ds) = cond_both (is_persistent (kind_at c i)) (told i d ∷ ptables_of c (i + 1) ds) (ptables_of c (i + 1) ds) (λ (ts : List PTable). ascends ptable_before ts ≡ true)
    (λ _. ptables_after c (i + 1) ds (told i d) (omega arith)) (λ _. ptables_ascend c (i + 1) ds)

stores_of : (c : Config) (me : ℕ) (n : Node) → NodeInForm c me n → AllByRecursion (λ d. StoreInForm d.store) n.dbs
unfolding db_at
stores_of c me n h = all_of (λ (d : Database). StoreInForm d.store) n.dbs h.stores

-- ---- the reply

reply_sound : (c : Config) (me : ℕ) (n : Node) → NodeInForm c me n → is_message me (msg.PullReply n.generation n.pbase (table_of me 0 n.dbs) (ptables_of c 0 n.dbs) n.held) ≡ true
reply_sound c me n h =
    let d = h.dbs in let l = h.limits.dbs in
    and_from _ _ (and_from _ _ (and_from _ _ (and_from _ _ (below n.generation h.generation_limit) (below n.pbase h.pbase_limit))
    (and_from (list_all (is_row (is_own_or_none me)) (table_of me 0 n.dbs)) _ (table_is me 0 n.dbs (omega arith) (low_copies c me n h)) (tells_at me n.dbs h.order).order))
    (and_from (list_all is_ptable (ptables_of c 0 n.dbs)) _ (ptables_are c 0 n.dbs (omega arith) (stores_of c me n h)) (ptables_ascend c 0 n.dbs))) h.held

pub pull_in_form : (c : Config) (me h g : ℕ) (t : Turn) → is_from_one g ≡ true → is_node_of c h ≡ true → TurnInForm c me t → TurnInForm c me (on_pull c me h g t)
unfolding on_pull
pull_in_form c me h g t one from f = cond_both (is_frozen_in g t.node.phase) _ _ (TurnInForm c me) (λ _. posts_in_form c me g h _ t one from (reply_sound c me t.node f.node) f) (λ _. f)
