-- What members hold: the places of rows, persistent databases and addresses, and which of several at a place is kept.
use Rattle.std.specs.Prelude.{ℕ, Bool, ◌&&◌, ◌==◌, List, [], map, if◌then◌else◌}
use Rattle.std.specs.declared.cmp.Ordering.{Ordering}
use Rattle.std.specs.Ordering.{nat_cmp, bool_cmp, ordering_then}
use Rattle.std.specs.BTreeMap.{is_at}
use Rattle.ct_values.specs.Key.{key_cmp}
use Rattle.ct_values.specs.Words.{is_this_node}
use Rattle.ct_values.specs.Address.{address_cmp}
use Rattle.ct_values.specs.declared.address.Address.{Address}
use Rattle.ct_frame.specs.declared.frame.PTable.{PTable}
use Rattle.ct_frame.specs.declared.frame.TableRow.{TableRow}
use Rattle.ct_frame.specs.declared.round.Pull.{Pull}
use Rattle.ct_frame.specs.Fields.{ascends, row_before, ptable_before, are_addresses}
use Rattle.ct_merge.specs.declared.held.HeldRow.{HeldRow}
use Rattle.ct_merge.specs.declared.held.HeldPTable.{HeldPTable}
use Rattle.ct_merge.specs.declared.held.HeldAddress.{HeldAddress}

-- a pull whose rows ascend by database and key, its persistent databases by place, and its addresses
abbrev pub is_in_order : Pull → Bool
is_in_order pull = ascends row_before pull.table && ascends ptable_before pull.ptables && are_addresses pull.addresses

-- rows are in the order of their databases, and then of their keys
abbrev pub row_order : HeldRow → HeldRow → Ordering
row_order a b = ordering_then (nat_cmp a.row.db b.row.db) (key_cmp a.row.key b.row.key)

-- does the row stand at this database and key?
abbrev pub is_row_at : ℕ → List ℕ → TableRow → Bool
is_row_at db key row = is_at (nat_cmp db) row.db && is_at (key_cmp key) row.key

-- does the row name its own node as data master?
abbrev pub is_own : HeldRow → Bool
is_own h = is_this_node h.node h.row.master

-- of several rows at a key the greatest RSN comes first; of these those that name their own node as data master; and
-- of these the lowest node's
abbrev pub row_rank : HeldRow → HeldRow → Ordering
row_rank a b = ordering_then (ordering_then (nat_cmp b.row.rsn a.row.rsn) (bool_cmp (is_own b) (is_own a))) (nat_cmp a.node b.node)

-- persistent databases are in the order of their places
abbrev pub ptable_order : HeldPTable → HeldPTable → Ordering
ptable_order a b = nat_cmp a.ptable.db b.ptable.db

-- of several persistent databases at a place the greatest sequence number comes first, and of these the lowest node's
abbrev pub ptable_rank : HeldPTable → HeldPTable → Ordering
ptable_rank a b = ordering_then (nat_cmp b.ptable.seq a.ptable.seq) (nat_cmp a.node b.node)

abbrev pub address_order : HeldAddress → HeldAddress → Ordering
address_order a b = address_cmp a.address b.address

-- of several nodes that hold an address the lowest comes first
abbrev pub address_rank : HeldAddress → HeldAddress → Ordering
address_rank a b = nat_cmp a.node b.node

-- the rows of a table, with the node beside each
abbrev pub held_rows : ℕ → List TableRow → List HeldRow
held_rows node table = map (λ row. record { node = node; row = row }) table

-- the rows of a member whose volatile databases come from this generation; from generation 0 there are none
abbrev pub based_rows : ℕ → ℕ → List TableRow → List HeldRow
based_rows vbase node table = if vbase == 0 then [] else held_rows node table

abbrev pub rows_of : Pull → List HeldRow
rows_of pull = based_rows pull.vbase pull.node pull.table

abbrev pub held_ptables : ℕ → List PTable → List HeldPTable
held_ptables node ptables = map (λ ptable. record { node = node; ptable = ptable }) ptables

abbrev pub ptables_of : Pull → List HeldPTable
ptables_of pull = held_ptables pull.node pull.ptables

abbrev pub held_addresses : ℕ → List Address → List HeldAddress
held_addresses node addresses = map (λ address. record { node = node; address = address }) addresses

abbrev pub addresses_of : Pull → List HeldAddress
addresses_of pull = held_addresses pull.node pull.addresses
