-- A node in form: what holds of a whole node between its steps, by which every message that it sends keeps its rules.
use Rattle.std.specs.Prelude.{◌≡◌, ℕ, ◌<◌, ◌≤◌, ◌^◌, nat_eq, nat_lt, Bool, true, false, ◌&&◌, List, [], map, length, Option, None, Some, Ok}
use Rattle.std.specs.List.{list_all}
use Rattle.ct_values.specs.declared.address.Address.{Address}
use Rattle.ct_values.specs.Config.{Configures}
use Rattle.ct_values.specs.declared.config.Config.{Config}
use Rattle.ct_values.specs.declared.config.DbDecl.{DbDecl}
use Rattle.ct_frame.specs.Fields.{ascends, are_addresses, are_nodes, is_below_limit, is_db, is_from_one, is_message, is_node, is_one_to_sixteen, is_ptable, well_formed}
use Rattle.ct_frame.specs.declared.event.Out.{Out}
use Rattle.ct_frame.specs.declared.event.Out.TheVariants as out
use Rattle.ct_frame.specs.declared.frame.Assigned.{Assigned}
use Rattle.ct_persist.specs.Persisted.{Persisted, IsKept}
use Rattle.ct_merge.specs.Gathered.{Gathered, IsGathered}
use Rattle.ct_merge.specs.declared.held.HeldAddress.{HeldAddress}
use Rattle.ct_merge.specs.declared.held.HeldPTable.{HeldPTable}
use Rattle.ct_merge.specs.declared.held.HeldRow.{HeldRow}
use Rattle.ct_law_rules_node.specs.Named.{NamesOnly}
use Rattle.ct_rules_node.specs.Admission.{nodes_in}
use Rattle.ct_law_rules_node.specs.NodeLaws.{NodeAscends}
use Rattle.ct_rules_node.specs.Node.{Node, Phase, Idle, Serving, Installed, Freezing, Frozen, Committing, Lead, Nothing, Freezes, Pulls, Installs, Completed, Takeover, Run, NoRun, Releasing, Taking, is_among, db_at, state_at, opening, restarted}
use Rattle.ct_rules_node.specs.Rounds.{frozen_state, push_of}
use Rattle.ct_rules_node.specs.Turn.{Turn}
use Rattle.ct_law_form.specs.Form.{AreFormed}

-- ---- the configuration

-- a configuration has at most 16 nodes, 16 databases and 64 addresses, which ascend
pub record HasLimits (c : Config) : Type 0 where
  pub nodes : c.nodes ≤ 16
  pub dbs : length c.dbs ≤ 16
  pub few_addresses : length c.addresses ≤ 64
  pub addresses : are_addresses c.addresses ≡ true

-- In form: is it a node of the configuration?
unfoldable pub is_node_of : Config → ℕ → Bool
is_node_of c n = nat_lt n c.nodes

-- ---- records

-- what the node keeps of each record names nodes of the configuration alone
abbrev pub AreNamed : Config → Node → Type 0
AreNamed c n = (db : ℕ) (key : List ℕ) → NamesOnly (is_node_of c) (state_at db key n)

-- a Freeze would change no record
abbrev pub AreAtRest : Node → Type 0
AreAtRest n = (db : ℕ) (key : List ℕ) → frozen_state (state_at db key n) ≡ state_at db key n

-- no record is locked
abbrev pub AreUnlocked : Node → Type 0
AreUnlocked n = (db : ℕ) (key : List ℕ) → (state_at db key n).locked ≡ None

-- ---- persistent databases

-- a persistent database: its pairs are in order, none with the empty value, and its number is below 2^62
pub record StoreInForm (p : Persisted) : Type 0 where
  pub pairs_kept : IsKept p.pairs
  pub seq_limit : p.seq < 2 ^ 62

-- a commit that waits has 1 to 16 writes and a number from 1 to below 2^62, and waits for nodes of the configuration
pub record WaitsInForm (c : Config) (x : Committing) : Type 0 where
  pub writes_few : is_one_to_sixteen x.writes ≡ true
  pub seq_from_one : is_from_one x.pending.seq ≡ true
  pub missing_are : list_all (is_node_of c) x.pending.missing ≡ true

-- so it is of every commit that waits
unfoldable pub CommitInForm : Config → Option Committing → Type 0
CommitInForm c None = Unit {0}
CommitInForm c (Some x) = WaitsInForm c x

-- ---- the phase

-- A node that is present has a generation. One that freezes does so for a generation and a leader that is a node, and what a
-- Freeze takes away is gone; in one that is frozen no record is locked.
unfoldable pub PhaseInForm : Config → Node → Phase → Type 0
PhaseInForm c n Idle = Unit {0}
PhaseInForm c n Serving = 1 ≤ n.generation
PhaseInForm c n Installed = 1 ≤ n.generation
PhaseInForm c n (Freezing g leader) = (is_from_one g ≡ true) × (is_node_of c leader ≡ true) × AreAtRest n
PhaseInForm c n (Frozen g) = AreAtRest n × AreUnlocked n

-- ---- what is led

-- a round that is led: a generation, members that are nodes of the configuration, this one among them, and who is missing is a
-- member
pub record RoundInForm (c : Config) (me g : ℕ) (members missing : List ℕ) : Type 0 where
  pub number : is_from_one g ≡ true
  pub members_are : are_nodes members ≡ true
  pub configured : list_all (is_node_of c) members ≡ true
  pub own : is_among me members ≡ true
  pub missing_are : list_all (λ m. is_among m members) missing ≡ true

-- is it a member, or none?
unfoldable pub is_member_or_none : List ℕ → Option ℕ → Bool
is_member_or_none members None = true
is_member_or_none members (Some m) = is_among m members

-- may the row be pushed once each row has a data master?
unfoldable pub is_row_of : List ℕ → HeldRow → Bool
is_row_of members h = is_db h.row.db && is_below_limit h.row.rsn && is_member_or_none members h.row.master

-- does the persistent table keep its rules?
unfoldable pub is_held_ptable : HeldPTable → Bool
is_held_ptable h = is_ptable h.ptable

-- is the address held by a node?
unfoldable pub is_held_by_node : HeldAddress → Bool
is_held_by_node h = is_node h.node

-- what is gathered of the members may be pushed: all stands in order, and each item keeps the rules of its fields
pub record GatheredInForm (members : List ℕ) (x : Gathered) : Type 0 where
  pub in_order : IsGathered x
  pub rows_are : list_all (is_row_of members) x.rows ≡ true
  pub ptables_are : list_all is_held_ptable x.ptables ≡ true
  pub addresses_are : list_all is_held_by_node x.addresses ≡ true

-- a placement of the configuration's addresses over nodes
pub record PlacementInForm (c : Config) (placement : List Assigned) : Type 0 where
  pub addresses_are : map (λ x. x.address) placement ≡ c.addresses
  pub nodes_are : list_all is_node (nodes_in placement) ≡ true

-- the last run: its number, its placement, and that members are missing
unfoldable pub RunInForm : Config → List ℕ → ℕ → Run → Type 0
RunInForm c members number NoRun = Unit {0}
RunInForm c members number (Releasing placement missing) = (1 ≤ number) × PlacementInForm c placement × (list_all (λ m. is_among m members) missing ≡ true)
RunInForm c members number (Taking placement) = (1 ≤ number) × PlacementInForm c placement

-- what a completed round knows of addresses
pub record TakeoverInForm (c : Config) (members : List ℕ) (x : Takeover) : Type 0 where
  pub made : PlacementInForm c x.made
  pub number_limit : x.number < 2 ^ 62
  pub last : RunInForm c members x.number x.run

-- what a node leads
unfoldable pub LeadInForm : Config → ℕ → Lead → Type 0
LeadInForm c me Nothing = Unit {0}
LeadInForm c me (Freezes g members missing) = RoundInForm c me g members missing
LeadInForm c me (Pulls g members missing x) = RoundInForm c me g members missing × GatheredInForm members x
LeadInForm c me (Installs g members missing b) = RoundInForm c me g members missing × (is_message me (push_of b) ≡ true)
LeadInForm c me (Completed g members x) = RoundInForm c me g members [] × TakeoverInForm c members x

-- ---- the whole

-- In form: a node
pub record NodeInForm (c : Config) (me : ℕ) (n : Node) : Type 0 where
  pub limits : HasLimits c
  -- it is a node of the configuration, and has a database for each of that
  pub own : is_node_of c me ≡ true
  pub dbs : length n.dbs ≡ length c.dbs
  -- records
  pub order : NodeAscends n
  pub formed : AreFormed c me n
  pub named : AreNamed c n
  -- persistent databases
  pub stores : (db : ℕ) → StoreInForm (db_at db n).store
  pub commits : (db : ℕ) → CommitInForm c (db_at db n).commit
  -- the generation, which is 0 for none, and its members; the generation of the persistent databases
  pub generation_limit : n.generation < 2 ^ 62
  pub members_ascend : ascends nat_lt n.members ≡ true
  pub members_are : list_all (is_node_of c) n.members ≡ true
  pub pbase_limit : n.pbase < 2 ^ 62
  pub phase : PhaseInForm c n n.phase
  -- addresses
  pub held : are_addresses n.held ≡ true
  pub lead : LeadInForm c me n.lead

-- ---- what a node does

-- is it sound: a message that it sends keeps the rules of its fields, is its own, and goes to a node?
unfoldable pub is_sound_out : Config → ℕ → Out → Bool
is_sound_out c me (out.Send f) = well_formed f && nat_eq f.sender me && is_node_of c f.receiver
is_sound_out c me (out.Answer call a) = true
is_sound_out c me (out.Note x) = true

-- the middle of a step: the node is in form, and what it did is sound
pub record TurnInForm (c : Config) (me : ℕ) (t : Turn) : Type 0 where
  pub node : NodeInForm c me t.node
  pub outs : list_all (is_sound_out c me) t.outs ≡ true

-- a part of a step that reaches no number of 2^62 leaves it so
abbrev pub KeepsInForm : Config → ℕ → Turn → Turn → Type 0
KeepsInForm c me t u = TurnInForm c me t → u.spent ≡ false → TurnInForm c me u

-- ---- the laws

-- a configuration keeps its limits
abbrev pub ConfigsHaveLimits : Type 0
ConfigsHaveLimits = (c : Config) (dbs : List DbDecl) → (addresses : List Address) → Configures (Ok c) c.nodes dbs addresses → HasLimits c

-- a node is in form at the opening, where the members are nodes of the configuration that ascend
abbrev pub OpensInForm : Type 0
OpensInForm = (c : Config) (me : ℕ) (members : List ℕ) → HasLimits c → is_node_of c me ≡ true → ascends nat_lt members ≡ true → list_all (is_node_of c) members ≡ true → NodeInForm c me (opening c members)

-- so it is after a stop
abbrev pub RestartsInForm : Type 0
RestartsInForm = (c : Config) (me : ℕ) (n : Node) → NodeInForm c me n → NodeInForm c me (restarted c n)
