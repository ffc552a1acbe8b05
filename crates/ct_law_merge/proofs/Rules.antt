-- What is gathered of pulls in order is what the rule makes of them.
use Rattle.std.proofs.Common.{◌≡◌, ℕ, Bool, true, false, cond, ◌==◌, ◌≤◌, length, drop, List, [], ◌∷◌, ◌++◌, Some, None, refl, sym, ◌∙◌, ap, subst, arith}
use Rattle.std.specs.Prelude.{if◌then◌else◌, map, Result, Ok, Err, IfOk}
use Rattle.std.specs.declared.cmp.Ordering.{Ordering}
use Rattle.std.specs.declared.cmp.Ordering.TheVariants.{Less, Equal, Greater}
use Rattle.std.specs.Ordering.{is_eq, nat_cmp, ordering_then}
use Rattle.std.specs.Option.{option_map}
use Rattle.std.specs.Cmp.{IsTotalOrder, alike_right, nat_cmp_total, on_total, then_total, tied_then}
use Rattle.std.specs.Cmp.Lexicographic.{nat_list_cmp_total}
use Rattle.std.specs.List.{filter, find, flat_map}
use Rattle.std.proofs.lemmas.List.{drop_all}
use Rattle.ct_values.proofs.AddressOrder.{address_total}
use Rattle.ct_values.specs.Key.{key_cmp}
use Rattle.ct_values.specs.Address.{address_cmp}
use Rattle.ct_values.specs.declared.address.Address.{Address}
use Rattle.ct_frame.specs.declared.frame.Assigned.{Assigned}
use Rattle.ct_values.specs.declared.memory.NoMemory.{NoMemory}
use Rattle.ct_frame.specs.declared.frame.PTable.{PTable}
use Rattle.ct_frame.specs.declared.frame.TableRow.{TableRow}
use Rattle.ct_frame.specs.declared.round.Pull.{Pull}
use Rattle.ct_frame.specs.Fields.{row_before, ptable_before, assigned_before}
use Rattle.ct_merge.specs.declared.held.HeldRow.{HeldRow}
use Rattle.ct_merge.specs.declared.held.HeldPTable.{HeldPTable}
use Rattle.ct_merge.specs.declared.held.HeldAddress.{HeldAddress}
use Rattle.ct_merge.specs.Placing.{best_from, best}
use Rattle.ct_merge.specs.Held.{is_row_at, row_order, row_rank, ptable_order, ptable_rank, address_order, address_rank, rows_of, ptables_of, addresses_of}
use Rattle.ct_merge.specs.Orders.{row_order_total, ptable_order_total, address_order_total}
use Rattle.ct_merge.specs.Gathered.{Gathered, nothing, gathered, gathered_all, greater, assigned_to, finished}
use Rattle.ct_merge.specs.Rule.{are_in_order, told, vparent, pparent, is_ptable_at, rows_at, ptables_at, addresses_at, IsVolatileMerge, IsPersistentMerge, IsAddressMerge, IsMerge}
use Rattle.ct_merge.proofs.Ordered.{rows_ascend, ptables_ascend, addresses_ascend, chained, row_is, ptable_is, assigned_is, no_items}
use Rattle.ct_law_merge.proofs.Folding.{based, based_is, all_joined, all_joined_ascends, find_all_joined}

pub equal : (r : Ordering) → is_eq r ≡ true → r ≡ Equal
equal Less h = absurd (cc)
equal Equal h = refl
equal Greater h = absurd (cc)

-- a test for a place
module _ {K X : Type 0} (R : K → K → Ordering) (t : IsTotalOrder R) (place : X → K) (k : K) where
  pub alike_at : (x y : X) → R (place x) (place y) ≡ Equal → is_eq (R k (place x)) ≡ is_eq (R k (place y))
  alike_at x y h = ap is_eq (alike_right t (place x) (place y) k h)

  pub one_at : (x y : X) → is_eq (R k (place x)) ≡ true → is_eq (R k (place y)) ≡ true → R (place x) (place y) ≡ Equal
  one_at x y p q = sym (t.congr k (place x) (place y) (equal _ p)) ∙ equal _ q

find_map : {X Y : Type 0} (f : X → Y) (test : Y → Bool) (xs : List X) → find test (map f xs) ≡ option_map f (find (λ x. test (f x)) xs)
find_map f test [] = refl
find_map f test (x ∷ xs) = elim (test (f x)) as (λ b. cond b (Some (f x)) (find test (map f xs)) ≡ option_map f (cond b (Some x) (find (λ x. test (f x)) xs))) [ true ↦ refl | false ↦ find_map f test xs ]

pub none_yet : {X : Type 0} (b : Bool) (test : X → Bool) → (if b then find test [] else None) ≡ None
none_yet true test = refl
none_yet false test = refl

pub from_zero : (n : ℕ) → greater 0 n ≡ n
from_zero n = grind arith

-- rows by database and key
abbrev pub place_cmp : (ℕ × List ℕ) → (ℕ × List ℕ) → Ordering
place_cmp a b = ordering_then (nat_cmp a.0 b.0) (key_cmp a.1 b.1)

pub place_total : IsTotalOrder place_cmp
place_total = then_total (on_total (λ a. a.0) nat_cmp_total) (on_total (λ a. a.1) nat_list_cmp_total)

abbrev pub row_place : HeldRow → (ℕ × List ℕ)
row_place h = (h.row.db, h.row.key)

pub row_test : (db : ℕ) (key : List ℕ) (h : HeldRow) → is_row_at db key h.row ≡ is_eq (place_cmp (db, key) (row_place h))
row_test db key h = tied_then (nat_cmp db h.row.db) (key_cmp key h.row.key)

pub rows_alike : (db : ℕ) (key : List ℕ) (x y : HeldRow) → row_order x y ≡ Equal → is_row_at db key x.row ≡ is_row_at db key y.row
rows_alike db key x y h = row_test db key x ∙ alike_at place_cmp place_total row_place (db, key) x y h ∙ sym (row_test db key y)

pub rows_one : (db : ℕ) (key : List ℕ) (x y : HeldRow) → is_row_at db key x.row ≡ true → is_row_at db key y.row ≡ true → row_order x y ≡ Equal
rows_one db key x y p q = one_at place_cmp place_total row_place (db, key) x y (sym (row_test db key x) ∙ p) (sym (row_test db key y) ∙ q)

joined_rows : List Pull → List HeldRow
joined_rows pulls = all_joined row_order row_rank (λ p. p.vbase) rows_of pulls 0 []

pub rows_found : (pulls : List Pull) → are_in_order pulls ≡ true → (db : ℕ) (key : List ℕ) → find (λ h. is_row_at db key h.row) (all_joined row_order row_rank (λ p. p.vbase) rows_of pulls 0 []) ≡ best row_rank (rows_at db key pulls)
rows_found pulls k db key =
    find_all_joined row_order row_rank row_order_total (λ p. p.vbase) rows_of rows_ascend (λ h. is_row_at db key h.row) (rows_alike db key) (rows_one db key) pulls 0 [] k (no_items row_order) (vparent pulls) (sym (based_is (λ p. p.vbase) pulls 0 ∙ from_zero _))
    ∙ ap (λ f. best_from row_rank f (rows_at db key pulls)) (none_yet (0 == vparent pulls) (λ h. is_row_at db key h.row))

-- the rows of the greatest base, joined pull by pull, are what the rule says
pub volatile_is : (pulls : List Pull) → are_in_order pulls ≡ true → IsVolatileMerge pulls (record { parent = based (λ p. p.vbase) pulls 0; table = map (λ h. h.row) (all_joined row_order row_rank (λ p. p.vbase) rows_of pulls 0 []) })
volatile_is pulls k = (
  based_is (λ p. p.vbase) pulls 0 ∙ from_zero _,
  chained row_order row_before (λ h. h.row) row_is _ (all_joined_ascends row_order row_rank row_order_total (λ p. p.vbase) rows_of rows_ascend pulls 0 [] k (no_items row_order)),
  λ db key. find_map (λ h. h.row) (is_row_at db key) _ ∙ ap (option_map (λ h. h.row)) (rows_found pulls k db key),
)

pub ptables_found : (pulls : List Pull) → are_in_order pulls ≡ true → (db : ℕ) → find (λ h. is_ptable_at db h.ptable) (all_joined ptable_order ptable_rank (λ p. p.pbase) ptables_of pulls 0 []) ≡ best ptable_rank (ptables_at db pulls)
ptables_found pulls k db =
    find_all_joined ptable_order ptable_rank ptable_order_total (λ p. p.pbase) ptables_of ptables_ascend (λ h. is_ptable_at db h.ptable) (alike_at nat_cmp nat_cmp_total (λ h. h.ptable.db) db) (one_at nat_cmp nat_cmp_total (λ h. h.ptable.db) db) pulls 0 [] k (no_items ptable_order) (pparent pulls) (sym (based_is (λ p. p.pbase) pulls 0 ∙ from_zero _))
    ∙ ap (λ f. best_from ptable_rank f (ptables_at db pulls)) (none_yet (0 == pparent pulls) (λ h. is_ptable_at db h.ptable))

pub persistent_is : (pulls : List Pull) → are_in_order pulls ≡ true → IsPersistentMerge pulls (record { parent = based (λ p. p.pbase) pulls 0; ptables = map (λ h. h.ptable) (all_joined ptable_order ptable_rank (λ p. p.pbase) ptables_of pulls 0 []) })
persistent_is pulls k = (
  based_is (λ p. p.pbase) pulls 0 ∙ from_zero _,
  chained ptable_order ptable_before (λ h. h.ptable) ptable_is _ (all_joined_ascends ptable_order ptable_rank ptable_order_total (λ p. p.pbase) ptables_of ptables_ascend pulls 0 [] k (no_items ptable_order)),
  λ db. find_map (λ h. h.ptable) (is_ptable_at db) _ ∙ ap (option_map (λ h. h.ptable)) (ptables_found pulls k db),
)

-- all pulls count for addresses
based_zero : (pulls : List Pull) → based (λ p. 0) pulls 0 ≡ 0
based_zero [] = refl
based_zero (pull ∷ pulls) = based_zero pulls

-- what is told of one base by all pulls is what they hold
all_told : (pulls : List Pull) → told (λ p. 0) addresses_of 0 pulls ≡ flat_map addresses_of pulls
all_told [] = refl
all_told (pull ∷ pulls) = ap (λ xs. addresses_of pull ++ xs) (all_told pulls)

pub addresses_found : (pulls : List Pull) → are_in_order pulls ≡ true → (address : Address) → find (λ h. is_eq (address_cmp address h.address)) (all_joined address_order address_rank (λ p. 0) addresses_of pulls 0 []) ≡ best address_rank (addresses_at address pulls)
addresses_found pulls k address =
    find_all_joined address_order address_rank address_order_total (λ p. 0) addresses_of addresses_ascend (λ h. is_eq (address_cmp address h.address)) (alike_at address_cmp address_total (λ h. h.address) address) (one_at address_cmp address_total (λ h. h.address) address) pulls 0 [] k (no_items address_order) 0 (sym (based_zero pulls))
    ∙ ap (λ xs. best address_rank (filter (λ h. is_eq (address_cmp address h.address)) xs)) (all_told pulls)

pub addresses_are : (pulls : List Pull) → are_in_order pulls ≡ true → IsAddressMerge pulls (map assigned_to (all_joined address_order address_rank (λ p. 0) addresses_of pulls 0 []))
addresses_are pulls k = (
  chained address_order assigned_before assigned_to assigned_is _ (all_joined_ascends address_order address_rank address_order_total (λ p. 0) addresses_of addresses_ascend pulls 0 [] k (no_items address_order)),
  λ address. find_map assigned_to (λ a. is_eq (address_cmp address a.address)) _ ∙ ap (option_map assigned_to) (addresses_found pulls k address),
)

-- the parts of what is gathered
pub gathered_vbase : (pulls : List Pull) (g : Gathered) → (gathered_all pulls g).vbase ≡ based (λ p. p.vbase) pulls g.vbase
gathered_vbase [] g = refl
gathered_vbase (pull ∷ pulls) g = gathered_vbase pulls (gathered pull g)

pub gathered_pbase : (pulls : List Pull) (g : Gathered) → (gathered_all pulls g).pbase ≡ based (λ p. p.pbase) pulls g.pbase
gathered_pbase [] g = refl
gathered_pbase (pull ∷ pulls) g = gathered_pbase pulls (gathered pull g)

pub gathered_rows : (pulls : List Pull) (g : Gathered) → (gathered_all pulls g).rows ≡ all_joined row_order row_rank (λ p. p.vbase) rows_of pulls g.vbase g.rows
gathered_rows [] g = refl
gathered_rows (pull ∷ pulls) g = gathered_rows pulls (gathered pull g)

pub gathered_ptables : (pulls : List Pull) (g : Gathered) → (gathered_all pulls g).ptables ≡ all_joined ptable_order ptable_rank (λ p. p.pbase) ptables_of pulls g.pbase g.ptables
gathered_ptables [] g = refl
gathered_ptables (pull ∷ pulls) g = gathered_ptables pulls (gathered pull g)

pub gathered_addresses : (pulls : List Pull) (g : Gathered) → (gathered_all pulls g).addresses ≡ all_joined address_order address_rank (λ p. 0) addresses_of pulls 0 g.addresses
gathered_addresses [] g = refl
gathered_addresses (pull ∷ pulls) g = gathered_addresses pulls (gathered pull g)

pub gathered_nodes : (pulls : List Pull) (g : Gathered) → (gathered_all pulls g).nodes ≡ all_joined nat_cmp nat_cmp (λ p. 0) (λ p. p.node ∷ []) pulls 0 g.nodes
gathered_nodes [] g = refl
gathered_nodes (pull ∷ pulls) g = gathered_nodes pulls (gathered pull g)

-- what is made of all that was gathered is what the rule says
pub merge_is : (pulls : List Pull) → are_in_order pulls ≡ true → IsMerge pulls (finished (gathered_all pulls nothing))
merge_is pulls k = (
  subst (IsVolatileMerge pulls) (λ i. record { parent = sym (gathered_vbase pulls nothing) i; table = map (λ h. h.row) (sym (gathered_rows pulls nothing) i) }) (volatile_is pulls k),
  subst (IsPersistentMerge pulls) (λ i. record { parent = sym (gathered_pbase pulls nothing) i; ptables = map (λ h. h.ptable) (sym (gathered_ptables pulls nothing) i) }) (persistent_is pulls k),
  subst (λ l. IsAddressMerge pulls (map assigned_to l)) (sym (gathered_addresses pulls nothing)) (addresses_are pulls k),
)

-- the answers of the merges, once no pull is left
pub merged_volatile : (pulls : List Pull) (i parent : ℕ) (held rows : List HeldRow) (table : List TableRow) → length pulls ≤ i
    → based (λ p. p.vbase) (drop i pulls) parent ≡ based (λ p. p.vbase) pulls 0
    → all_joined row_order row_rank (λ p. p.vbase) rows_of (drop i pulls) parent rows ≡ all_joined row_order row_rank (λ p. p.vbase) rows_of pulls 0 []
    → are_in_order pulls ≡ true → held ≡ rows → table ≡ map (λ h. h.row) held → IsVolatileMerge pulls (record { parent = parent; table = table })
merged_volatile pulls i parent held rows table l b j k h t =
    let none = drop_all i pulls l in
    let parent_is = ap (λ ps. based (λ p. p.vbase) ps parent) (sym none) ∙ b in
    let rows_are = ap (λ ps. all_joined row_order row_rank (λ p. p.vbase) rows_of ps parent rows) (sym none) ∙ j in
    let table_is = t ∙ ap (map (λ h. h.row)) (h ∙ rows_are) in
    subst (IsVolatileMerge pulls) (λ i. record { parent = sym parent_is i; table = sym table_is i }) (volatile_is pulls k)

pub merged_persistent : (pulls : List Pull) (i parent : ℕ) (held rows : List HeldPTable) (ptables : List PTable) → length pulls ≤ i
    → based (λ p. p.pbase) (drop i pulls) parent ≡ based (λ p. p.pbase) pulls 0
    → all_joined ptable_order ptable_rank (λ p. p.pbase) ptables_of (drop i pulls) parent rows ≡ all_joined ptable_order ptable_rank (λ p. p.pbase) ptables_of pulls 0 []
    → are_in_order pulls ≡ true → held ≡ rows → ptables ≡ map (λ h. h.ptable) held → IsPersistentMerge pulls (record { parent = parent; ptables = ptables })
merged_persistent pulls i parent held rows ptables l b j k h t =
    let none = drop_all i pulls l in
    let parent_is = ap (λ ps. based (λ p. p.pbase) ps parent) (sym none) ∙ b in
    let rows_are = ap (λ ps. all_joined ptable_order ptable_rank (λ p. p.pbase) ptables_of ps parent rows) (sym none) ∙ j in
    let ptables_are = t ∙ ap (map (λ h. h.ptable)) (h ∙ rows_are) in
    subst (IsPersistentMerge pulls) (λ i. record { parent = sym parent_is i; ptables = sym ptables_are i }) (persistent_is pulls k)

pub merged_assigned : (pulls : List Pull) (i : ℕ) (held rows : List HeldAddress) (result : Result (List Assigned) NoMemory) → length pulls ≤ i
    → all_joined address_order address_rank (λ p. 0) addresses_of (drop i pulls) 0 rows ≡ all_joined address_order address_rank (λ p. 0) addresses_of pulls 0 []
    → are_in_order pulls ≡ true → held ≡ rows → IfOk result (λ assigned. assigned ≡ map assigned_to held) → IfOk result (λ assigned. IsAddressMerge pulls assigned)
merged_assigned pulls i held rows (Err e) l j k h t = tt
merged_assigned pulls i held rows (Ok assigned) l j k h t =
    let none = drop_all i pulls l in
    let rows_are = ap (λ ps. all_joined address_order address_rank (λ p. 0) addresses_of ps 0 rows) (sym none) ∙ j in
    subst (IsAddressMerge pulls) (sym (t ∙ ap (map assigned_to) (h ∙ rows_are))) (addresses_are pulls k)
