-- What is gathered of the pulls so far, with one more pull, and what is made of it in the end.
use Rattle.std.specs.Prelude.{ℕ, List, [], ◌∷◌, Some, nat_lt, map, if◌then◌else◌}
use Rattle.std.specs.declared.cmp.Ordering.{Ordering}
use Rattle.std.specs.Ordering.{nat_cmp}
use Rattle.std.specs.List.Sorted.{IsStrictlySortedBy}
use Rattle.ct_frame.specs.declared.frame.Assigned.{Assigned}
use Rattle.ct_frame.specs.declared.round.Pull.{Pull}
use Rattle.ct_merge.specs.declared.held.HeldRow.{HeldRow}
use Rattle.ct_merge.specs.declared.held.HeldPTable.{HeldPTable}
use Rattle.ct_merge.specs.declared.held.HeldAddress.{HeldAddress}
use Rattle.ct_merge.specs.declared.merged.Merged.{Merged}
use Rattle.ct_merge.specs.declared.merged.MergedAll.{MergedAll}
use Rattle.ct_merge.specs.declared.merged.PMerged.{PMerged}
use Rattle.ct_merge.specs.Placing.{inserted, all_inserted}
use Rattle.ct_merge.specs.Held.{row_order, row_rank, ptable_order, ptable_rank, address_order, address_rank, rows_of, ptables_of, addresses_of}

-- the members whose pulls were added, ascending; the greatest generation from which the volatile databases of one of
-- them come, and of the rows of that generation the best at each database and key; the same of the persistent
-- databases; and each address with the lowest member that holds it
pub record Gathered : Type 0 where
  pub nodes : List ℕ
  pub vbase : ℕ
  pub rows : List HeldRow
  pub pbase : ℕ
  pub ptables : List HeldPTable
  pub addresses : List HeldAddress

-- no pull was added
abbrev pub nothing : Gathered
nothing = record { nodes = []; vbase = 0; rows = []; pbase = 0; ptables = []; addresses = [] }

abbrev pub greater : ℕ → ℕ → ℕ
greater a b = if nat_lt a b then b else a

-- the items of a base with those of one more base: of a greater base they take the place of all, of a smaller one none
-- is taken, and of the same each is put in its place
abbrev pub joined : {X : Type 0} → (X → X → Ordering) → (X → X → Ordering) → ℕ → List X → ℕ → List X → List X
joined order rank base items new more = if nat_lt base new then more else if nat_lt new base then items else all_inserted order rank more items

-- one more pull
abbrev pub gathered : Pull → Gathered → Gathered
gathered pull g = record {
  nodes = inserted nat_cmp nat_cmp pull.node g.nodes;
  vbase = greater g.vbase pull.vbase;
  rows = joined row_order row_rank g.vbase g.rows pull.vbase (rows_of pull);
  pbase = greater g.pbase pull.pbase;
  ptables = joined ptable_order ptable_rank g.pbase g.ptables pull.pbase (ptables_of pull);
  addresses = all_inserted address_order address_rank (addresses_of pull) g.addresses;
}

-- more pulls, one after the other
abbrev pub gathered_all : List Pull → Gathered → Gathered
gathered_all [] g = g
gathered_all (pull ∷ pulls) g = gathered_all pulls (gathered pull g)

abbrev pub merged_rows : Gathered → Merged
merged_rows g = record { parent = g.vbase; table = map (λ h. h.row) g.rows }

abbrev pub merged_ptables : Gathered → PMerged
merged_ptables g = record { parent = g.pbase; ptables = map (λ h. h.ptable) g.ptables }

abbrev pub assigned_to : HeldAddress → Assigned
assigned_to h = record { address = h.address; node = Some h.node }

abbrev pub merged_addresses : Gathered → List Assigned
merged_addresses g = map assigned_to g.addresses

-- what is made of all that was gathered
abbrev pub finished : Gathered → MergedAll
finished g = record { table = merged_rows g; ptables = merged_ptables g; assigned = merged_addresses g }

-- all that is gathered stands in order
abbrev pub IsGathered : Gathered → Type 0
IsGathered g = IsStrictlySortedBy nat_cmp g.nodes × IsStrictlySortedBy row_order g.rows × IsStrictlySortedBy ptable_order g.ptables × IsStrictlySortedBy address_order g.addresses
