-- What a client's operation speaks of, and what it wants.
use Rattle.std.specs.Prelude.{ℕ, Bool, true, false, List, []}
use Rattle.ct_values.specs.declared.client.ClientOp.{ClientOp}
use Rattle.ct_values.specs.declared.client.ClientOp.TheVariants.{Lock, Read, Write, Apply, Store, Unlock, Commit}

-- the database that an operation speaks of
abbrev pub db_of : ClientOp → ℕ
db_of (Lock db key) = db
db_of (Read db key) = db
db_of (Write db key value) = db
db_of (Apply db key function arg) = db
db_of (Store db key value) = db
db_of (Unlock db key) = db
db_of (Commit db writes) = db

-- the key that an operation speaks of; a commit speaks of no single one
abbrev pub key_of : ClientOp → List ℕ
key_of (Lock db key) = key
key_of (Read db key) = key
key_of (Write db key value) = key
key_of (Apply db key function arg) = key
key_of (Store db key value) = key
key_of (Unlock db key) = key
key_of (Commit db writes) = []

-- is it a read?
unfoldable pub is_read : ClientOp → Bool
is_read (Read db key) = true
is_read _ = false

-- is it a lock, a read, a write or a function, which want the record?
unfoldable pub wants_record : ClientOp → Bool
wants_record (Lock db key) = true
wants_record (Read db key) = true
wants_record (Write db key value) = true
wants_record (Apply db key function arg) = true
wants_record _ = false
