-- Which clusters the registers describe.
use Rattle.std.specs.Prelude.{◌≡◌, ◌≢◌, ◌↔◌, ℕ, ◌+◌, ◌≤◌, nat_lt, true, List, length, None, Some, is_some}
use Rattle.std.specs.List.{list_any}
use Rattle.ct_values.specs.Address.{same_address}
use Rattle.ct_values.specs.declared.address.Address.{Address}
use Rattle.ct_values.specs.declared.config.Config.{Config}
use Rattle.ct_values.specs.declared.config.DbKind.TheVariants.{Persistent}
use Rattle.ct_frame.specs.Header.{for_reading}
use Rattle.ct_frame.specs.declared.header.RecCopy.{RecCopy}
use Rattle.ct_persist.specs.Persisted.{Persisted}
use Rattle.ct_rules_cluster.specs.Handed.{state_at, db_at, kind_at, holder_in}
use Rattle.ct_rules_cluster.specs.Cluster as cluster
use Rattle.ct_rules_cluster.specs.Cluster.{Cluster, is_up, node_at}
use Rattle.ct_register.specs.Register.{reading}
use Rattle.ct_register.specs.Database.{Database, contents_after}
use Rattle.ct_frame.specs.declared.frame.Assigned.{Assigned}
use Rattle.ct_register.specs.Placing.{given_placement}
use Rattle.ct_register.specs.Lines
use Rattle.ct_register.specs.Lines.{Lines}
use Rattle.ct_register.specs.Legal.{CommitWaits}

-- a node has the number and the pairs of a database after its first j commits: all that are acknowledged, and all that the
-- node has seen
pub record IsAfter (j n : ℕ) (d : Database) (p : Persisted) : Type 0 where
  pub number : p.seq ≡ d.seq + j
  pub pairs : p.pairs ≡ contents_after j d
  pub acked : d.acked ≤ j
  pub seen : d.seen n ≤ j
  pub within : j ≤ length d.commits

-- the node has this copy of a record
abbrev pub HasCopy : Cluster → ℕ → ℕ → List ℕ → RecCopy → Type 0
HasCopy w n db key c = (state_at db key (node_at n w)).copy ≡ Some c

-- the node holds the address
abbrev pub HoldsAddress : Cluster → ℕ → Address → Type 0
HoldsAddress w n a = list_any (same_address a) (node_at n w).held ≡ true

-- the cluster stands for the registers of records, which are those of volatile and read-only databases
pub record RecordsStand (w : Cluster) (r : Lines) : Type 0 where
  -- a running node has locked a record exactly where it owns it in its line
  pub locks : (n db : ℕ) (key : List ℕ) → is_up n w ≡ true →
      (is_some (state_at db key (node_at n w)).locked ≡ true) ↔ (r.line n ≢ 0) × ((r.records (r.line n) db key).owner ≡ Some n)
  -- a copy whose data master is its own node has the reading as its value
  pub masters : (n db : ℕ) (key : List ℕ) (c : RecCopy) → HasCopy w n db key c → c.header.dmaster ≡ n →
      (r.line n ≢ 0) × (c.value ≡ reading (r.records (r.line n) db key).versions)
  -- and no other running node of that line has such a copy
  pub one_master : (n m db : ℕ) (key : List ℕ) (c d : RecCopy) → is_up m w ≡ true → r.line m ≡ r.line n → HasCopy w n db key c → c.header.dmaster ≡ n →
      HasCopy w m db key d → d.header.dmaster ≡ m → m ≡ n
  -- a read-only copy has the reading as its value, and nobody owns the record
  pub readers : (n db : ℕ) (key : List ℕ) (c : RecCopy) → HasCopy w n db key c → c.header.flags ≡ for_reading →
      (r.line n ≢ 0) × (c.value ≡ reading (r.records (r.line n) db key).versions) × ((r.records (r.line n) db key).owner ≡ None)

-- the cluster stands for the registers
pub record StandsFor (config : Config) (w : Cluster) (r : Lines) : Type 0 where
  -- for those of records
  pub records : RecordsStand w r
  -- a running node is in the generation that is its line
  pub generations : (n : ℕ) → is_up n w ≡ true → (node_at n w).generation ≡ r.line n
  -- each node, running or not, has the persistent databases of the line that the registers say
  pub bases : (n : ℕ) → nat_lt n config.nodes ≡ true → (node_at n w).pbase ≡ r.pline n
  -- each node, running or not, has each persistent database as it was after some of its line's commits
  pub databases : (n db : ℕ) → nat_lt n config.nodes ≡ true → kind_at config db ≡ Some Persistent →
      (j : ℕ) × IsAfter j n (r.databases (r.pline n) db) (db_at db (node_at n w)).store
  -- a commit of a database waits at a node exactly where one began there, in its line, that is not answered
  pub commits : (n db : ℕ) → (is_some (db_at db (node_at n w)).commit ≡ true) ↔ CommitWaits config n db r
  -- a running node holds exactly the addresses that it took, without those that it released since
  pub holds : (n : ℕ) (a : Address) → is_up n w ≡ true → HoldsAddress w n a ↔ (r.held n a ≡ true)
  -- it holds an address only where the last take of its line assigns it, or the push before any take
  pub assigned : (n : ℕ) (a : Address) → is_up n w ≡ true → HoldsAddress w n a →
      (xs : List Assigned) × (given_placement (r.placing (r.line n)).pushed (r.placing (r.line n)).last ≡ Some xs) × (holder_in a xs ≡ Some n)
  -- no two running nodes of one line hold the same address
  pub addresses : (n m : ℕ) (a : Address) → is_up n w ≡ true → is_up m w ≡ true → r.line n ≢ 0 → r.line m ≡ r.line n → HoldsAddress w n a → HoldsAddress w m a → m ≡ n

-- at the opening the cluster stands for the registers of records
abbrev pub OpeningRecordsStand : Type 0
OpeningRecordsStand = (config : Config) → RecordsStand (cluster.opening config) (Lines.opening config)

-- the cluster stands for the registers at the opening
abbrev pub OpeningStands : Type 0
OpeningStands = (config : Config) → StandsFor config (cluster.opening config) (Lines.opening config)
