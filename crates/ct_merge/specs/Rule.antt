-- What a round makes of the pulls of its members, by key, place and address.
use Rattle.std.specs.Prelude.{◌≡◌, ◌≤◌, ◌+◌, ℕ, Bool, true, ◌==◌, List, [], ◌∷◌, ◌++◌, Option, if◌then◌else◌, Contains}
use Rattle.std.specs.List.{filter, find, flat_map, list_all, list_any}
use Rattle.std.specs.Option.{option_map}
use Rattle.std.specs.Ordering.{nat_cmp}
use Rattle.std.specs.BTreeMap.{is_at}
use Rattle.ct_values.specs.Address.{address_cmp}
use Rattle.ct_values.specs.declared.address.Address.{Address}
use Rattle.ct_frame.specs.Fields.{ascends, row_before, ptable_before, assigned_before}
use Rattle.ct_frame.specs.declared.frame.Assigned.{Assigned}
use Rattle.ct_frame.specs.declared.frame.PTable.{PTable}
use Rattle.ct_frame.specs.declared.frame.TableRow.{TableRow}
use Rattle.ct_frame.specs.declared.round.Pull.{Pull}
use Rattle.ct_merge.specs.declared.held.HeldRow.{HeldRow}
use Rattle.ct_merge.specs.declared.held.HeldPTable.{HeldPTable}
use Rattle.ct_merge.specs.declared.held.HeldAddress.{HeldAddress}
use Rattle.ct_merge.specs.declared.merged.Merged.{Merged}
use Rattle.ct_merge.specs.declared.merged.MergedAll.{MergedAll}
use Rattle.ct_merge.specs.declared.merged.PMerged.{PMerged}
use Rattle.ct_merge.specs.Placing.{best}
use Rattle.ct_merge.specs.Held.{is_in_order, is_own, is_row_at, row_rank, ptable_rank, address_rank, rows_of, ptables_of, addresses_of}
use Rattle.ct_merge.specs.Gathered.{greater, assigned_to}

abbrev pub are_in_order : List Pull → Bool
are_in_order pulls = list_all is_in_order pulls

-- the greatest base of the pulls, 0 where there is none
abbrev pub greatest : (Pull → ℕ) → List Pull → ℕ
greatest base [] = 0
greatest base (pull ∷ pulls) = greater (base pull) (greatest base pulls)

-- what the pulls of a base hold, pull by pull
abbrev pub told : {X : Type 0} → (Pull → ℕ) → (Pull → List X) → ℕ → List Pull → List X
told base items b [] = []
told base items b (pull ∷ pulls) = if base pull == b then items pull ++ told base items b pulls else told base items b pulls

abbrev pub vparent : List Pull → ℕ
vparent pulls = greatest (λ p. p.vbase) pulls

-- the rows at a database and key among the pulls of the greatest base
abbrev pub rows_at : ℕ → List ℕ → List Pull → List HeldRow
rows_at db key pulls = filter (λ h. is_row_at db key h.row) (told (λ p. p.vbase) rows_of (vparent pulls) pulls)

-- the row that a table has at a database and key
abbrev pub row_at : ℕ → List ℕ → List TableRow → Option TableRow
row_at db key table = find (is_row_at db key) table

-- the parent is the greatest base, and at each database and key the table has the best of the rows there
abbrev pub IsVolatileMerge : List Pull → Merged → Type 0
IsVolatileMerge pulls m = (m.parent ≡ vparent pulls) × (ascends row_before m.table ≡ true) × ((db : ℕ) (key : List ℕ) → row_at db key m.table ≡ option_map (λ h. h.row) (best row_rank (rows_at db key pulls)))

abbrev pub pparent : List Pull → ℕ
pparent pulls = greatest (λ p. p.pbase) pulls

abbrev pub is_ptable_at : ℕ → PTable → Bool
is_ptable_at db ptable = is_at (nat_cmp db) ptable.db

-- the persistent databases at a place among the pulls of the greatest base
abbrev pub ptables_at : ℕ → List Pull → List HeldPTable
ptables_at db pulls = filter (λ h. is_ptable_at db h.ptable) (told (λ p. p.pbase) ptables_of (pparent pulls) pulls)

abbrev pub ptable_at : ℕ → List PTable → Option PTable
ptable_at db ptables = find (is_ptable_at db) ptables

-- the parent is the greatest base, and at each place stands the best of the databases there
abbrev pub IsPersistentMerge : List Pull → PMerged → Type 0
IsPersistentMerge pulls m = (m.parent ≡ pparent pulls) × (ascends ptable_before m.ptables ≡ true) × ((db : ℕ) → ptable_at db m.ptables ≡ option_map (λ h. h.ptable) (best ptable_rank (ptables_at db pulls)))

-- of the addresses that pulls hold, pull by pull, those that are this one
abbrev pub addresses_at : Address → List Pull → List HeldAddress
addresses_at address pulls = filter (λ h. is_at (address_cmp address) h.address) (flat_map addresses_of pulls)

abbrev pub assigned_at : Address → List Assigned → Option Assigned
assigned_at address assigned = find (λ a. is_at (address_cmp address) a.address) assigned

-- each address that some pull holds goes to the lowest such node
abbrev pub IsAddressMerge : List Pull → List Assigned → Type 0
IsAddressMerge pulls assigned = (ascends assigned_before assigned ≡ true) × ((address : Address) → assigned_at address assigned ≡ option_map assigned_to (best address_rank (addresses_at address pulls)))

-- all three
abbrev pub IsMerge : List Pull → MergedAll → Type 0
IsMerge pulls m = IsVolatileMerge pulls m.table × IsPersistentMerge pulls m.ptables × IsAddressMerge pulls m.assigned

-- pulls of one node are one pull
abbrev pub HasOneOfEach : List Pull → Type 0
HasOneOfEach pulls = (p q : Pull) → Contains pulls p → Contains pulls q → p.node ≡ q.node → p ≡ q

-- how many of these differ
abbrev pub different : {X : Type 0} → (X → X → Bool) → List X → ℕ
different same [] = 0
different same (x ∷ xs) = if list_any (same x) xs then different same xs else different same xs + 1

-- rows of one database and key
abbrev pub is_same_place : HeldRow → HeldRow → Bool
is_same_place a b = is_row_at a.row.db a.row.key b.row

-- of two rows at a key the first is kept rather than the second: its RSN is no smaller; where they have one RSN and the
-- second names its own node as data master, so does the first; and where both do or both do not, its node is no higher
abbrev pub IsKeptRather : HeldRow → HeldRow → Type 0
IsKeptRather x y = (y.row.rsn ≤ x.row.rsn) × (y.row.rsn ≡ x.row.rsn → is_own y ≡ true → is_own x ≡ true) × (y.row.rsn ≡ x.row.rsn → is_own y ≡ is_own x → x.node ≤ y.node)
