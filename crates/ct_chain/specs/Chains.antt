-- Which chain a client's call belongs to.
use Rattle.std.specs.Prelude.{ℕ, ◌/◌, ◌%◌, nat_eq, Bool, not, ◌&&◌, if◌then◌else◌, List}
use Rattle.ct_values.specs.Client.{db_of, key_of}
use Rattle.ct_values.specs.Hash.{hash_of}
use Rattle.ct_values.specs.declared.client.ClientOp.{ClientOp}
use Rattle.ct_values.specs.declared.config.Config.{Config}
use Rattle.ct_rules_node.specs.Clients.{is_commit}
use Rattle.ct_rules_node.specs.Node.{has_records, kind_at}

-- does the database of this number keep records that migrate?
unfoldable pub keeps_records : Config → ℕ → Bool
keeps_records c db = has_records (kind_at c db)

-- Chains: the chain of a record. It is 0 for one of database 0 and where the database keeps no records that migrate, and else
-- the hash of its key, divided by 65,536, modulo the number of chains.
abbrev pub chain_of_record : Config → ℕ → ℕ → List ℕ → ℕ
chain_of_record c chains db key = if not (nat_eq db 0) && keeps_records c db then hash_of key / 65536 % chains else 0

-- Chains: the chain of a call is that of the record that it speaks of, and 0 for a commit
abbrev pub chain_of : Config → ℕ → ClientOp → ℕ
chain_of c chains o = if is_commit o then 0 else chain_of_record c chains (db_of o) (key_of o)
