-- The rows that a member answers with are exactly its copies, or its entries.
use Rattle.std.proofs.Common.{◌≡◌, ◌≢◌, ℕ, Bool, true, false, cond, List, [], ◌∷◌, Option, None, Some, refl, sym, ap, ◌∙◌, subst, ⊎_elim}
use Rattle.std.specs.Prelude.{bytes_eq}
use Rattle.std.specs.List.{AllByRecursion}
use Rattle.std.specs.List.Sorted.{IsStrictlySortedBy}
use Rattle.std.specs.Map.{keys_of}
use Rattle.std.specs.BTreeMap.{is_at}
use Rattle.std.specs.Ordering.{is_eq}
use Rattle.std.specs.Cmp.{eq_by_cmp_equiv}
use Rattle.std.specs.declared.cmp.Ordering.TheVariants.{Less}
use Rattle.std.proofs.lemmas.Bool.{cases_Bool}
use Rattle.std.proofs.lemmas.Slice.Eq.{bytes_eq-Decides}
use Rattle.ct_values.specs.Key.{key_cmp}
use Rattle.ct_frame.specs.declared.frame.TableRow.{TableRow}
use Rattle.ct_frame.specs.declared.header.RecCopy.{RecCopy}
use Rattle.ct_store.specs.Map.{Pairs, Ascends, look}
use Rattle.ct_store.proofs.Maps.{key_total, one_key, equal}
use Rattle.ct_rules.specs.State.{is_mastered}
use Rattle.ct_rules.specs.declared.state.Entry.{Entry}
use Rattle.ct_rules.specs.declared.state.RecState.{RecState}
use Rattle.ct_rules_node.specs.Node.{or_nothing}
use Rattle.ct_rules_node.specs.Rounds.{own_or_none, row_of, with_row, rows_of}
use Rattle.ct_node_view.specs.Had.{entry_row, entries_of}
use Rattle.ct_traverse_parts.specs.Best.{row_from}
use Rattle.ct_traverse_parts.specs.declared.best.Best.{Best}
use Rattle.ct_traverse_parts.specs.declared.line.Pass.{Pass}
use Rattle.ct_traverse_parts.specs.declared.line.Pass.TheVariants.{Copies, Entries}
use Rattle.ct_traverse_parts.specs.Kept.{rows_for}
use Rattle.ct_traverse_parts.specs.Rows.{one_row, RowsAreExact}

-- ---- keys

less_apart : (k q : List ℕ) → key_cmp k q ≡ Less → k ≢ q
less_apart k q l e = absurd (let a : is_eq (key_cmp k k) ≡ false = ap is_eq (subst (λ (x : List ℕ). key_cmp k x ≡ Less) (sym e) l) in let b : is_eq (key_cmp k k) ≡ true = (eq_by_cmp_equiv key_total).refl k in cc)

-- a key that is below all others is none of them
pub all_apart : (k : List ℕ) (qs : List (List ℕ)) → AllByRecursion (λ q. key_cmp k q ≡ Less) qs → AllByRecursion (λ q. k ≢ q) qs
all_apart k [] h = tt
all_apart k (q ∷ qs) h = (less_apart k q h.0, all_apart k qs h.1)

-- ---- one row before others

-- a row of this key
own_row : (key : List ℕ) (pass : Pass) (node : ℕ) (row : TableRow) (rows : List TableRow) → row.key ≡ key → rows_for key pass node (row ∷ rows) ≡ row_from pass node row false ∷ rows_for key pass node rows
unfolding rows_for
own_row key pass node row rows is = rw ((bytes_eq-Decides row.key key).1 is) refl

other_row : (key : List ℕ) (pass : Pass) (node : ℕ) (row : TableRow) (rows : List TableRow) → row.key ≢ key → rows_for key pass node (row ∷ rows) ≡ rows_for key pass node rows
unfolding rows_for
other_row key pass node row rows ne = ⊎_elim
    (λ (t : bytes_eq row.key key ≡ true). absurd (ne ((bytes_eq-Decides row.key key).0 t)))
    (λ (f : bytes_eq row.key key ≡ false). rw f refl)
    (cases_Bool (bytes_eq row.key key))

-- ---- copies, or entries: a row of each key at most

module _ (key : List ℕ) (pass : Pass) (node : ℕ) (of : List ℕ → RecState → Option TableRow) (its_key : (q : List ℕ) (s : RecState) (row : TableRow) → of q s ≡ Some row → row.key ≡ q) where
  all_of : Pairs RecState → List TableRow
  all_of [] = []
  all_of (e ∷ m) = with_row (of e.0 e.1) (all_of m)

  other_first : (q : List ℕ) (s : RecState) (rows : List TableRow) (o : Option TableRow) → of q s ≡ o → q ≢ key → rows_for key pass node (with_row o rows) ≡ rows_for key pass node rows
  unfolding with_row
  other_first q s rows None e ne = refl
  other_first q s rows (Some row) e ne = other_row key pass node row rows (λ is. ne (sym (its_key q s row e) ∙ is))

  own_first : (s : RecState) (rows : List TableRow) (o : Option TableRow) → of key s ≡ o → rows_for key pass node rows ≡ [] → rows_for key pass node (with_row o rows) ≡ one_row pass node o
  unfolding with_row one_row
  own_first s rows None e none = none
  own_first s rows (Some row) e none = own_row key pass node row rows (its_key key s row e) ∙ ap (λ (l : List Best). row_from pass node row false ∷ l) none

  none_for : (m : Pairs RecState) → AllByRecursion (λ q. key ≢ q) (keys_of m) → rows_for key pass node (all_of m) ≡ []
  unfolding all_of rows_for
  none_for [] h = refl
  none_for (e ∷ m) h = other_first e.0 e.1 (all_of m) (of e.0 e.1) refl (λ is. h.0 (sym is)) ∙ none_for m h.1

  exactly : (m : Pairs RecState) → Ascends m → (of key (or_nothing None) ≡ None) → rows_for key pass node (all_of m) ≡ one_row pass node (of key (or_nothing (look key m)))
  unfolding all_of rows_for one_row IsStrictlySortedBy or_nothing
  exactly [] h none = rw none refl
  exactly (e ∷ m) h none = ⊎_elim
      (λ (t : is_at (key_cmp key) e.0 ≡ true).
      let is : key ≡ e.0 = one_key key e.0 (equal (key_cmp key e.0) t) in
      let apart_rest : AllByRecursion (λ q. key ≢ q) (keys_of m) = subst (λ (k : List ℕ). AllByRecursion (λ q. k ≢ q) (keys_of m)) (sym is) (all_apart e.0 (keys_of m) h.0) in
      ap (λ (k : List ℕ). rows_for key pass node (with_row (of k e.1) (all_of m))) (sym is) ∙ own_first e.1 (all_of m) (of key e.1) refl (none_for m apart_rest)
      ∙ sym (ap (λ (b : Bool). one_row pass node (of key (or_nothing (cond b (Some e.1) (look key m))))) t))
      (λ (f : is_at (key_cmp key) e.0 ≡ false).
      other_first e.0 e.1 (all_of m) (of e.0 e.1) refl (λ is. absurd (let b : is_eq (key_cmp key key) ≡ true = (eq_by_cmp_equiv key_total).refl key in let c : is_at (key_cmp key) key ≡ false = subst (λ (k : List ℕ). is_at (key_cmp key) k ≡ false) is f in cc))
      ∙ exactly m h.1 none ∙ sym (ap (λ (b : Bool). one_row pass node (of key (or_nothing (cond b (Some e.1) (look key m))))) f))
      (cases_Bool (is_at (key_cmp key) e.0))

-- ---- both kinds

copy_key : (node db : ℕ) (q : List ℕ) (c : Option RecCopy) (row : TableRow) → row_of node db q c ≡ Some row → row.key ≡ q
unfolding row_of
copy_key node db q None row e = absurd (cc)
copy_key node db q (Some c) row e = (let s : record { db = db; key = q; rsn = c.header.rsn; value = c.value; master = own_or_none node (is_mastered node (Some c)) } ≡ row = cc in ap (λ (r : TableRow). r.key) (sym s))

entry_key : (db : ℕ) (q : List ℕ) (x : Option Entry) (row : TableRow) → entry_row db q x ≡ Some row → row.key ≡ q
entry_key db q None row e = absurd (cc)
entry_key db q (Some x) row e = (let s : record { db = db; key = q; rsn = x.least; value = x.value; master = None } ≡ row = cc in ap (λ (r : TableRow). r.key) (sym s))

copies_are : (key : List ℕ) (node db : ℕ) (m : Pairs RecState) → rows_of node db m ≡ all_of key Copies node (λ q s. row_of node db q s.copy) (λ q s row e. copy_key node db q s.copy row e) m
unfolding rows_of all_of
copies_are key node db [] = refl
copies_are key node db (e ∷ m) = ap (λ (rows : List TableRow). with_row (row_of node db e.0 e.1.copy) rows) (copies_are key node db m)

entries_are : (key : List ℕ) (node db : ℕ) (m : Pairs RecState) → entries_of db m ≡ all_of key Entries node (λ q s. entry_row db q s.entry) (λ q s row e. entry_key db q s.entry row e) m
unfolding all_of
entries_are key node db [] = refl
entries_are key node db (e ∷ m) = ap (λ (rows : List TableRow). with_row (entry_row db e.0 e.1.entry) rows) (entries_are key node db m)

pub rows_are_exact : RowsAreExact
unfolding row_of or_nothing
rows_are_exact node db key m h = (
  ap (λ (rows : List TableRow). rows_for key Copies node rows) (copies_are key node db m) ∙ exactly key Copies node (λ q s. row_of node db q s.copy) (λ q s row e. copy_key node db q s.copy row e) m h refl,
  ap (λ (rows : List TableRow). rows_for key Entries node rows) (entries_are key node db m) ∙ exactly key Entries node (λ q s. entry_row db q s.entry) (λ q s row e. entry_key db q s.entry row e) m h refl,
)
