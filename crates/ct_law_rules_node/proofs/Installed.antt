-- An installation, seen at one key.
use Rattle.std.proofs.Common.{◌≡◌, ◌≢◌, ℕ, Bool, true, false, cond, ◌==◌, nat_lt, List, [], ◌∷◌, Option, Some, None, refl, sym, ◌∙◌, ap, subst, eqb-true}
use Rattle.std.proofs.lemmas.Bool.{cond_both, eqb-false, and_from, and_parts}
use Rattle.std.specs.Prelude.{map, nat_eq}
use Rattle.std.specs.declared.cmp.Ordering.TheVariants.{Less}
use Rattle.std.specs.Ordering.{is_eq, is_lt, nat_cmp}
use Rattle.std.specs.Cmp.{nat_cmp_total, tied_then, tied_itself}
use Rattle.std.specs.FinMap.{nat_cmp-IsAntisymmetric}
use Rattle.std.specs.List.{AllByRecursion}
use Rattle.std.specs.List.Sorted.{IsStrictlySortedBy}
use Rattle.ct_values.specs.Key.{key_cmp}
use Rattle.ct_frame.specs.declared.frame.TableRow.{TableRow}
use Rattle.ct_frame.specs.Fields.{ascends, row_before}
use Rattle.ct_merge.specs.Held.{is_row_at}
use Rattle.ct_merge.specs.Rule.{row_at}
use Rattle.ct_merge.proofs.Ordered.{in_order, is_lt_then}
use Rattle.ct_law_merge.proofs.Rules.{place_cmp, place_total}
use Rattle.ct_store.specs.Map.{Pairs, Ascends, look, write}
use Rattle.ct_store.proofs.Maps.{one_key, equal, key_total, written, not_written, write_ascends}
use Rattle.ct_rules.specs.declared.state.RecState.{RecState}
use Rattle.ct_rules_node.specs.Node.{master_of, or_nothing}
use Rattle.ct_rules_node.specs.Rounds.{changed, bared, installed_state, install_row, install_rows}
use Rattle.ct_law_rules_node.specs.NodeLaws.{installed_at, IsInstalled}
use Rattle.ct_law_rules_node.proofs.Keys.{changed_seen, changed_ascends}

-- ---- rows by their places

abbrev pub place : TableRow → (ℕ × List ℕ)
place row = (row.db, row.key)

pub row_is : (a b : TableRow) → row_before a b ≡ is_lt (place_cmp (place a) (place b))
row_is a b = sym (is_lt_then (nat_lt a.db b.db) (a.db == b.db) (key_cmp a.key b.key))

pub in_places : (rows : List TableRow) → ascends row_before rows ≡ true → IsStrictlySortedBy place_cmp (map place rows)
in_places rows h = in_order place_cmp place_total row_before place row_is rows h

-- a row that is at a place has its number and key
pub same_db : (db : ℕ) (key : List ℕ) (row : TableRow) → is_row_at db key row ≡ true → db ≡ row.db
same_db db key row t = nat_cmp-IsAntisymmetric db row.db (equal _ (and_parts _ _ t).0)

pub same_key : (db : ℕ) (key : List ℕ) (row : TableRow) → is_row_at db key row ≡ true → key ≡ row.key
same_key db key row t = one_key key row.key (equal _ (and_parts _ _ t).1)

pub same_number : (n : ℕ) → is_eq (nat_cmp n n) ≡ true
same_number n = ap is_eq (tied_itself nat_cmp_total n)

pub own_key : (key : List ℕ) → is_eq (key_cmp key key) ≡ true
own_key key = ap is_eq (tied_itself key_total key)

pub own_place : (row : TableRow) → is_row_at row.db row.key row ≡ true
own_place row = and_from _ _ (same_number row.db) (own_key row.key)

-- at another place is another number or another key
not_at : (db : ℕ) (key : List ℕ) (row : TableRow) → is_row_at db key row ≡ false → db ≡ row.db → key ≢ row.key
not_at db key row e d k = absurd (cc (own_place row, e, d, k))

-- ---- one row

row_put : (me db : ℕ) (members : List ℕ) (row : TableRow) (m : Pairs RecState) (key : List ℕ) (t b : Bool) → is_row_at db key row ≡ t → nat_eq row.db db ≡ b
    → look key (cond b (install_row me members row m) m) ≡ cond t (Some (installed_state me (master_of members key) row (or_nothing (look key m)))) (look key m)
unfolding install_row
row_put me db members row m key true true e f =
    subst (λ (q : List ℕ). look q (write row.key (installed_state me (master_of members row.key) row (or_nothing (look row.key m))) m) ≡ Some (installed_state me (master_of members q) row (or_nothing (look q m)))) (sym (same_key db key row e)) (written m row.key _)
row_put me db members row m key true false e f = absurd (eqb-false row.db db f (sym (same_db db key row e)))
row_put me db members row m key false true e f = not_written m row.key key _ (λ (k : key ≡ row.key). not_at db key row e (sym (eqb-true row.db db f)) k)
row_put me db members row m key false false e f = refl

-- ---- all rows

-- a place before those of all rows has no row
none_at : (db : ℕ) (key : List ℕ) (rows : List TableRow) → AllByRecursion (λ p. place_cmp (db, key) p ≡ Less) (map place rows) → row_at db key rows ≡ None
none_at db key [] h = refl
none_at db key (row ∷ rows) h =
    ap (λ b. cond b (Some row) (row_at db key rows)) (tied_then (nat_cmp db row.db) (key_cmp key row.key) ∙ ap is_eq h.0) ∙ none_at db key rows h.1

above_place : (db : ℕ) (key : List ℕ) (row : TableRow) (rows : List TableRow) → is_row_at db key row ≡ true → AllByRecursion (λ p. place_cmp (place row) p ≡ Less) (map place rows) → AllByRecursion (λ p. place_cmp (db, key) p ≡ Less) (map place rows)
above_place db key row rows t h =
    subst (λ (q : ℕ × List ℕ). AllByRecursion (λ p. place_cmp q p ≡ Less) (map place rows)) (λ i. (sym (same_db db key row t) i, sym (same_key db key row t) i)) h

first_put : (me l : ℕ) (row : TableRow) (left : Option RecState) (rest : Option TableRow) (t : Bool) → (t ≡ true → rest ≡ None)
    → installed_at me l (cond t (Some (installed_state me l row (or_nothing left))) left) rest ≡ installed_at me l left (cond t (Some row) rest)
unfolding installed_at
first_put me l row left rest true n = ap (λ (r : Option TableRow). installed_at me l (Some (installed_state me l row (or_nothing left))) r) (n refl)
first_put me l row left rest false n = refl

pub installed_seen : (me db : ℕ) (members : List ℕ) (rows : List TableRow) (m : Pairs RecState) (key : List ℕ) → IsStrictlySortedBy place_cmp (map place rows)
    → look key (install_rows me db members rows m) ≡ installed_at me (master_of members key) (look key m) (row_at db key rows)
unfolding install_rows installed_at IsStrictlySortedBy
installed_seen me db members [] m key h = refl
installed_seen me db members (row ∷ rows) m key h =
    installed_seen me db members rows (cond (nat_eq row.db db) (install_row me members row m) m) key h.1
    ∙ ap (λ (s : Option RecState). installed_at me (master_of members key) s (row_at db key rows)) (row_put me db members row m key (is_row_at db key row) (nat_eq row.db db) refl refl)
    ∙ first_put me (master_of members key) row (look key m) (row_at db key rows) (is_row_at db key row)
    (λ (t : is_row_at db key row ≡ true). none_at db key rows (above_place db key row rows t h.0))

pub install_ascends : (me db : ℕ) (members : List ℕ) (rows : List TableRow) (m : Pairs RecState) → Ascends m → Ascends (install_rows me db members rows m)
unfolding install_rows install_row
install_ascends me db members [] m h = h
install_ascends me db members (row ∷ rows) m h =
    install_ascends me db members rows _ (cond_both (nat_eq row.db db) (install_row me members row m) m Ascends (λ _. write_ascends m row.key _ h) (λ _. h))

pub installs_at : (me db : ℕ) (members : List ℕ) (table : List TableRow) (m : Pairs RecState) → ascends row_before table ≡ true → Ascends m → IsInstalled me db members table m
installs_at me db members table m a h = record {
  seen = λ key.
      installed_seen me db members table (changed bared m) key (in_places table a)
      ∙ ap (λ (s : Option RecState). installed_at me (master_of members key) s (row_at db key table)) (changed_seen bared m h key);
  order = install_ascends me db members table (changed bared m) (changed_ascends bared m h);
}
