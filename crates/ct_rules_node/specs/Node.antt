-- The state of a node.
use Rattle.std.specs.Prelude.{ℕ, nat_eq, Bool, true, false, ◌&&◌, if◌then◌else◌, List, [], ◌∷◌, map, Option, None, Some, slice_get, slice_set}
use Rattle.std.specs.List.{list_any}
use Rattle.ct_values.specs.Address.{same_address}
use Rattle.ct_values.specs.declared.address.Address.{Address}
use Rattle.ct_values.specs.declared.client.Pair.{Pair}
use Rattle.ct_values.specs.declared.config.Config.{Config}
use Rattle.ct_values.specs.declared.config.DbDecl.{DbDecl}
use Rattle.ct_values.specs.declared.config.DbKind.{DbKind}
use Rattle.ct_values.specs.declared.config.DbKind.TheVariants.{Volatile, ReadOnly, Persistent}
use Rattle.ct_frame.specs.declared.frame.Assigned.{Assigned}
use Rattle.ct_frame.specs.declared.round.PushBody.{PushBody}
use Rattle.ct_values.specs.Members.{member_of}
use Rattle.ct_store.specs.Map.{Pairs, look}
use Rattle.ct_persist.specs.Persisted.{Persisted, unwritten}
use Rattle.ct_persist.specs.Commits.{Pending}
use Rattle.ct_merge.specs.Gathered.{Gathered}
use Rattle.ct_rules.specs.State.{nothing_kept}
use Rattle.ct_rules.specs.declared.state.RecState.{RecState}

-- Phase: idle; serving; installed; freezing, for a round and its leader, while locks last; or frozen, for a round
pub data Phase : Type 0 where
  Idle : Phase
  Serving : Phase
  Installed : Phase
  Freezing : (generation leader : ℕ) → Phase
  Frozen : (generation : ℕ) → Phase

-- a commit that waits for other members: the client's call, its writes, and its number with the missing members
pub record Committing : Type 0 where
  pub call : ℕ
  pub writes : List Pair
  pub pending : Pending

-- State of a database: keys and floor of one with records; contents and the waiting commit of a persistent one
pub record Database : Type 0 where
  pub records : Pairs RecState
  pub floor : ℕ
  pub store : Persisted
  pub commit : Option Committing

-- where a takeover run is: there is none yet, it waits for the releases of the missing members, or it is handed out
pub data Run : Type 0 where
  NoRun : Run
  Releasing : (placement : List Assigned) (missing : List ℕ) → Run
  Taking : (placement : List Assigned) → Run

-- what a completed round knows of addresses: the last placement made, the last run's number, and where that run is
pub record Takeover : Type 0 where
  pub made : List Assigned
  pub number : ℕ
  pub run : Run

-- What a node leads: nothing, or a round of this generation and these members, by what it waits for; or a completed one
pub data Lead : Type 0 where
  Nothing : Lead
  Freezes : (generation : ℕ) (members missing : List ℕ) → Lead
  Pulls : (generation : ℕ) (members missing : List ℕ) (gathered : Gathered) → Lead
  Installs : (generation : ℕ) (members missing : List ℕ) (body : PushBody) → Lead
  Completed : (generation : ℕ) (members : List ℕ) (takeover : Takeover) → Lead

-- State of a node
pub record Node : Type 0 where
  pub promise : ℕ  -- no Freeze of this generation or an older one is followed any more; kept over a stop
  pub pbase : ℕ  -- the generation whose persistent databases the node has; kept over a stop, as they are
  pub phase : Phase
  pub generation : ℕ  -- 0 for none; its volatile databases come from there
  pub members : List ℕ  -- of the generation, which are also the map of location masters
  pub leader : Option ℕ  -- who pushed what was installed last
  pub dbs : List Database  -- one for each database of the configuration
  pub placement : List Assigned  -- where the node knows each address to be
  pub held : List Address
  pub last_run : ℕ
  pub next : ℕ  -- the next request number
  pub lead : Lead

-- ---- small words

-- does a node of this phase serve clients?
unfoldable pub is_serving : Phase → Bool
is_serving Serving = true
is_serving _ = false

-- is a node of this phase present in its generation?
unfoldable pub is_present : Phase → Bool
is_present Serving = true
is_present Installed = true
is_present _ = false

-- does a node of this phase wait for its locks to end?
unfoldable pub is_freezing : Phase → Bool
is_freezing (Freezing g leader) = true
is_freezing _ = false

-- is a node of this phase frozen for the round of this generation?
unfoldable pub is_frozen_in : ℕ → Phase → Bool
is_frozen_in g (Frozen h) = nat_eq h g
is_frozen_in g _ = false

-- is the node present in this generation, serving in it or with it installed?
unfoldable pub is_present_in : ℕ → Node → Bool
is_present_in g n = is_present n.phase && nat_eq n.generation g

-- is the node in the list?
unfoldable pub is_among : ℕ → List ℕ → Bool
is_among n ns = list_any (nat_eq n) ns

-- the number, and 0 where there is none
unfoldable pub or_zero : Option ℕ → ℕ
or_zero None = 0
or_zero (Some n) = n

-- the location master of a key: the member that its hash picks
unfoldable pub master_of : List ℕ → List ℕ → ℕ
master_of members key = or_zero (member_of members key)

-- a database of which nothing is kept
unfoldable pub untouched : Database
untouched = record { records = []; floor = 0; store = unwritten; commit = None }

-- the database, and one of which nothing is kept where there is none
unfoldable pub or_untouched : Option Database → Database
or_untouched None = untouched
or_untouched (Some d) = d

-- State of a database: that of this number at the node
unfoldable pub db_at : ℕ → Node → Database
db_at db n = or_untouched (slice_get n.dbs db)

-- the node with another state of a database
unfoldable pub with_db : ℕ → Database → Node → Node
with_db db d n = record n { dbs = slice_set n.dbs db d }

-- the state of a key, and the blank one where nothing is kept of it
unfoldable pub or_nothing : Option RecState → RecState
or_nothing None = nothing_kept
or_nothing (Some s) = s

-- State of a key: what the node keeps of this record
unfoldable pub state_at : ℕ → List ℕ → Node → RecState
state_at db key n = or_nothing (look key (db_at db n).records)

-- ---- the configuration

-- the kind of a declared database
unfoldable pub kind_in : Option DbDecl → Option DbKind
kind_in None = None
kind_in (Some d) = Some d.kind

-- the kind of the database of this number, where there is one
unfoldable pub kind_at : Config → ℕ → Option DbKind
kind_at c db = kind_in (slice_get c.dbs db)

-- does the database hand out copies for reading?
unfoldable pub is_readonly : Option DbKind → Bool
is_readonly (Some ReadOnly) = true
is_readonly _ = false

-- is the database a persistent one?
unfoldable pub is_persistent : Option DbKind → Bool
is_persistent (Some Persistent) = true
is_persistent _ = false

-- is the database a volatile or a read-only one, whose records migrate?
unfoldable pub has_records : Option DbKind → Bool
has_records (Some Volatile) = true
has_records (Some ReadOnly) = true
has_records _ = false

-- the name of a declared database, and no bytes where there is none
unfoldable pub name_in : Option DbDecl → List ℕ
name_in None = []
name_in (Some d) = d.name

-- a database's name, which is also the key of its lock in `g_lock`, the database 0
unfoldable pub name_of : Config → ℕ → List ℕ
name_of c db = name_in (slice_get c.dbs db)

-- the node that a list assigns an address to, if it does
unfoldable pub holder_in : Address → List Assigned → Option ℕ
holder_in a [] = None
holder_in a (x ∷ xs) = if same_address a x.address then x.node else holder_in a xs

-- each of these addresses with the node that a list assigns it to, or with none
unfoldable pub assigned_all : List Address → List Assigned → List Assigned
assigned_all [] xs = []
assigned_all (a ∷ rest) xs = record { address = a; node = holder_in a xs } ∷ assigned_all rest xs

-- ---- the opening, and what a start leaves

-- as many databases as there are items, and nothing is kept of any
unfoldable pub untouched_all : {X : Type 0} → List X → List Database
untouched_all [] = []
untouched_all (x ∷ xs) = untouched ∷ untouched_all xs

-- Opening: a node in generation 1 of all nodes, which serves; nothing is kept of any key and nothing is led
unfoldable pub opening : Config → List ℕ → Node
opening c members = record {
  promise = 1;
  pbase = 1;
  phase = Serving;
  generation = 1;
  members = members;
  leader = None;
  dbs = untouched_all c.dbs;
  placement = assigned_all c.addresses [];
  held = [];
  last_run = 0;
  next = 1;
  lead = Nothing;
}

-- What a stop leaves of a database: the contents of a persistent one
unfoldable pub restarted_db : Database → Database
restarted_db d = record untouched { store = d.store }

-- What a stop leaves of a node: the promise, the persistent databases and their base
unfoldable pub restarted : Config → Node → Node
restarted c n = record {
  promise = n.promise;
  pbase = n.pbase;
  phase = Idle;
  generation = 0;
  members = [];
  leader = None;
  dbs = map restarted_db n.dbs;
  placement = assigned_all c.addresses [];
  held = [];
  last_run = 0;
  next = 1;
  lead = Nothing;
}
