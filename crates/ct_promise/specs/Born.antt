-- What is promised of records in a generation that began with some.
use Rattle.std.specs.Prelude.{◌≡◌, ℕ, ◌+◌, ◌<◌, ◌≤◌, ◌^◌, nat_eq, nat_lt, Bool, true, false, not, List, [], ◌∷◌, length, map, Option, None, Some}
use Rattle.std.specs.List.{list_all}
use Rattle.ct_values.specs.Client.{db_of, key_of, wants_record}
use Rattle.ct_values.specs.declared.config.Config.{Config}
use Rattle.ct_frame.specs.Fields.{ascends}
use Rattle.ct_frame.specs.declared.frame.TableRow.{TableRow}
use Rattle.ct_call.specs.Rules.{Rules}
use Rattle.ct_store.specs.Map.{Ascends}
use Rattle.ct_rules.specs.State.{nothing_kept}
use Rattle.ct_rules.specs.declared.state.RecState.{RecState}
use Rattle.ct_rules.specs.declared.state.Wish.{Wish}
use Rattle.ct_rules_node.specs.Admission.{record_in}
use Rattle.ct_rules_node.specs.Node.{Node, Lead, Nothing, Freezes, Pulls, Installs, Completed, is_present_in, master_of, db_at, state_at, is_among, has_records, kind_at}
use Rattle.ct_rules_node.specs.Rounds.{row_master, installed_state}
use Rattle.ct_rules_cluster.specs.Cluster.{Cluster, Sent, is_up, node_at, sent_at, pending}
use Rattle.ct_rules_cluster.specs.Traces.{OpenCall, ran}
use Rattle.ct_rules_cluster.specs.declared.step.PendingCall.{PendingCall}
use Rattle.ct_rules_cluster.specs.declared.step.Step.{Step}
use Rattle.ct_register.specs.Register.{reading}
use Rattle.ct_register.specs.Lines.{Lines}
use Rattle.ct_promise.specs.Promises.{IsConfig}
use Rattle.ct_promise.specs.Generation.{is_of_one_generation, KeepsRecords}

-- what a generation began with: the row of each database and key, if there is one
abbrev pub Rows : Type 0
Rows = ℕ → List ℕ → Option TableRow

-- ---- the cluster

-- a call waits that wants this record, under a request that the node has drawn, or under none
pub record MayWait (db : ℕ) (key : List ℕ) (next : ℕ) (wish : Wish) : Type 0 where
  pub wanting : wants_record wish.op ≡ true
  pub of_db : db_of wish.op ≡ db
  pub of_key : key_of wish.op ≡ key
  pub drawn : wish.request < next

-- no call waits, or one that may
unfoldable pub WishIsSound : ℕ → List ℕ → ℕ → Option Wish → Type 0
WishIsSound db key next None = Unit {0}
WishIsSound db key next (Some wish) = MayWait db key next wish

-- what an installation makes of a row where nothing but a wish is kept; without a row that wish is all
unfoldable pub born_state : ℕ → ℕ → Option TableRow → Option Wish → RecState
born_state me l None wish = record nothing_kept { wish = wish }
born_state me l (Some row) wish = installed_state me l row (record nothing_kept { wish = wish })

-- the row, if there is one, has a member as its data master
unfoldable pub IsMastered : List ℕ → Option TableRow → Type 0
IsMastered members None = Unit {0}
IsMastered members (Some row) = is_among (row_master row) members ≡ true

-- the RSNs that an installation makes of a row, where there is one, are below 2^62
unfoldable pub IsLow : Option TableRow → Type 0
IsLow None = Unit {0}
IsLow (Some row) = row.rsn + 1 < 2 ^ 62

-- Does the node lead no round whose push is still to come? It leads nothing, or what it leads is the round of this generation,
-- whose push was sent.
unfoldable pub has_pushed : ℕ → Lead → Bool
has_pushed g Nothing = true
has_pushed g (Freezes h members missing) = false
has_pushed g (Pulls h members missing x) = false
has_pushed g (Installs h members missing body) = nat_eq h g
has_pushed g (Completed h members x) = nat_eq h g

-- one member
pub record IsBornNode (config : Config) (g : ℕ) (members : List ℕ) (row : Rows) (n : ℕ) (node : Node) : Type 0 where
  -- it is present in the generation, with these members; that is the last one whose freeze it followed
  pub present : is_present_in g node ≡ true
  pub knows : node.members ≡ members
  pub promise : node.promise ≡ g
  pub lead : has_pushed g node.lead ≡ true
  -- request numbers begin at 1, and stay below 2^62
  pub drawn : 1 ≤ node.next
  pub limit : node.next < 2 ^ 62
  -- it has a state for each database, with floor 0 and a map of records
  pub dbs : length node.dbs ≡ length config.dbs
  pub floors : (db : ℕ) → (db_at db node).floor ≡ 0
  pub maps : (db : ℕ) → Ascends (db_at db node).records
  -- of each record it has what an installation makes of its row, and perhaps a wish
  pub records : (db : ℕ) (key : List ℕ) → has_records (kind_at config db) ≡ true →
      state_at db key node ≡ born_state n (master_of members key) (row db key) (state_at db key node).wish
  pub wishes : (db : ℕ) (key : List ℕ) → has_records (kind_at config db) ≡ true → WishIsSound db key node.next (state_at db key node).wish
  -- and no record in a database that is none of records
  pub others : (db : ℕ) → has_records (kind_at config db) ≡ false → (db_at db node).records ≡ []

-- a node that is no member: it has a state for each database, keeps nothing of any record, none of its commits waits, and
-- request numbers begin at 1 or above; no node stands where there is none of this number
pub record HasLeft (config : Config) (n : ℕ) (node : Node) : Type 0 where
  pub dbs : n < config.nodes → length node.dbs ≡ length config.dbs
  pub records : (db : ℕ) → (db_at db node).records ≡ []
  pub floors : (db : ℕ) → (db_at db node).floor ≡ 0
  pub commits : (db : ℕ) → (db_at db node).commit ≡ None
  pub drawn : 1 ≤ node.next

-- the cluster is in one generation, which all members have installed with these rows, and nothing was done since
pub record IsBornWith (config : Config) (g : ℕ) (members : List ℕ) (row : Rows) (w : Cluster) : Type 0 where
  pub real : 1 ≤ g
  pub size : length w.nodes ≡ config.nodes
  -- members ascend and are nodes of the configuration; they run
  pub ascend : ascends nat_lt members ≡ true
  pub there : (n : ℕ) → is_among n members ≡ true → nat_lt n config.nodes ≡ true
  pub up : (n : ℕ) → is_among n members ≡ true → is_up n w ≡ true
  pub born : (n : ℕ) → is_among n members ≡ true → IsBornNode config g members row n (node_at n w)
  -- a data master is one of them
  pub mastered : (db : ℕ) (key : List ℕ) → IsMastered members (row db key)
  pub low : (db : ℕ) (key : List ℕ) → IsLow (row db key)
  -- every other node is down, and has left as a stop lets it: it keeps nothing of any record, and none of its commits waits
  pub down : (n : ℕ) → is_among n members ≡ false → is_up n w ≡ false
  pub left : (n : ℕ) → is_among n members ≡ false → HasLeft config n (node_at n w)
  -- calls that wait have different numbers, none of them above the last one that was given
  pub numbered : ascends nat_lt (map (λ x. x.call) (pending w)) ≡ true
  pub given : list_all (λ x. not (nat_lt w.calls x.call)) (pending w) ≡ true
  -- no message of a newer generation was sent, and none of this one that speaks of a record
  pub newest : (k : ℕ) (s : Sent) → sent_at k w ≡ Some s → s.frame.generation ≤ g
  pub silent : (k : ℕ) (s : Sent) → sent_at k w ≡ Some s → s.frame.generation ≡ g → record_in s.frame.msg ≡ None

-- the log of calls that wait, where a run goes on from them
unfoldable pub log_of : List PendingCall → List OpenCall
log_of [] = []
log_of (x ∷ xs) = record { call = x.call; node = x.node; asked = x.op } ∷ log_of xs

-- ---- the registers

-- the versions that a record begins with: their reading is the row's value, and there is none without a row
unfoldable pub IsBirthOf : Option TableRow → List (List ℕ) → Type 0
IsBirthOf None vs = vs ≡ []
IsBirthOf (Some row) vs = reading vs ≡ row.value

-- line g was born with these members, who all have installed it; each record is newborn, and they alone have seen that
pub record BornRegisters (config : Config) (w : Cluster) (g : ℕ) (members : List ℕ) (row : Rows) (r : Lines) : Type 0 where
  pub born : r.born g ≡ true
  pub named : r.members g ≡ members
  pub inside : (n : ℕ) → is_among n members ≡ true → r.line n ≡ g
  pub outside : (n : ℕ) → is_among n members ≡ false → r.line n ≡ 0
  pub installed : (n : ℕ) → is_among n members ≡ true → r.installed g n ≡ true
  -- the recovery lock is where the cluster has it
  pub holder : r.holder ≡ w.holder
  pub births : (db : ℕ) (key : List ℕ) → has_records (kind_at config db) ≡ true → IsBirthOf (row db key) (r.records g db key).birth
  pub none : (db : ℕ) (key : List ℕ) → has_records (kind_at config db) ≡ false → (r.records g db key).birth ≡ []
  pub newborn : (db : ℕ) (key : List ℕ) → (r.records g db key).versions ≡ (r.records g db key).birth
  pub unowned : (db : ℕ) (key : List ℕ) → (r.records g db key).owner ≡ None
  pub seen : (n db : ℕ) (key : List ℕ) → is_among n members ≡ true → (r.records g db key).seen n ≡ length (r.records g db key).birth
  pub unseen : (n db : ℕ) (key : List ℕ) → is_among n members ≡ false → (r.records g db key).seen n ≡ 0

-- from every such cluster and registers on, where the calls that wait are open, records are kept through every list of steps
-- of one generation
abbrev pub PromiseFromRows : Type 0
PromiseFromRows = (config : Config) (rules : Rules) (g : ℕ) (members : List ℕ) (row : Rows) (w : Cluster) (r : Lines) (steps : List Step) →
    IsConfig config → IsBornWith config g members row w → BornRegisters config w g members row r → list_all is_of_one_generation steps ≡ true →
    KeepsRecords config rules r (ran config rules w (log_of (pending w)) steps)
