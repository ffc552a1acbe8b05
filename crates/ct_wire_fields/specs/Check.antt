-- The rules of single fields, and of an item against the one before it.
use Rattle.std.specs.Prelude.{ℕ, ◌-◌, Bool, true, ◌&&◌, ◌||◌, ◌==◌, nat_lt, nat_le, List, length, slice_get, Option, None, Some, if◌then◌else◌}
use Rattle.ct_values.specs.Key.{key_before}
use Rattle.ct_values.specs.Address.{address_before}
use Rattle.ct_values.specs.declared.address.Address.{Address}
use Rattle.ct_values.specs.declared.client.Pair.{Pair}
use Rattle.ct_frame.specs.declared.frame.Assigned.{Assigned}
use Rattle.ct_frame.specs.declared.frame.PTable.{PTable}
use Rattle.ct_frame.specs.declared.frame.TableRow.{TableRow}

-- lists of nodes and of writes have 1 to 16 items
abbrev pub is_count : ℕ → Bool
is_count n = nat_lt 0 n && nat_lt n 17

abbrev pub last_of : {X : Type 0} → List X → Option X
last_of xs = slice_get xs (length xs - 1)

-- a key has 1 to 255 bytes
abbrev pub key_of : List ℕ → Option (List ℕ)
key_of text = if nat_lt 0 (length text) && nat_lt (length text) 256 then Some text else None

-- a value has at most 1,024 bytes
abbrev pub value_of : List ℕ → Option (List ℕ)
value_of text = if nat_lt (length text) 1025 then Some text else None

abbrev pub follows_node : Option ℕ → ℕ → Bool
follows_node None node = true
follows_node (Some last) node = nat_lt last node

-- a row's database is not below that of the row before
abbrev pub follows_db : Option TableRow → ℕ → Bool
follows_db None db = true
follows_db (Some last) db = nat_le last.db db

-- rows ascend by database and key
abbrev pub follows_row : Option TableRow → ℕ → List ℕ → Bool
follows_row None db key = true
follows_row (Some last) db key = nat_lt last.db db || (last.db == db && key_before last.key key)

abbrev pub follows_pair : Option Pair → List ℕ → Bool
follows_pair None key = true
follows_pair (Some last) key = key_before last.key key

abbrev pub follows_ptable : Option PTable → ℕ → Bool
follows_ptable None db = true
follows_ptable (Some last) db = nat_lt last.db db

abbrev pub follows_address : Option Address → Address → Bool
follows_address None address = true
follows_address (Some last) address = address_before last address

abbrev pub follows_assigned : Option Assigned → Address → Bool
follows_assigned None address = true
follows_assigned (Some last) address = address_before last.address address
