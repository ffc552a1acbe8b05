-- What the law of persistent databases takes from the laws of rounds and of records.
use Rattle.std.proofs.Common.{◌≡◌, ◌≢◌, ℕ, ◌<◌, ◌≤◌, true, false, List, length, None, Some}
use Rattle.std.specs.Prelude.{◌⊎◌, nat_lt}
use Rattle.ct_values.specs.declared.config.Config.{Config}
use Rattle.ct_frame.specs.Fields.{ascends}
use Rattle.ct_frame.specs.declared.event.Note.TheVariants as note
use Rattle.ct_frame.specs.declared.frame.Frame.{Frame}
use Rattle.ct_frame.specs.declared.frame.Msg.{Msg}
use Rattle.ct_frame.specs.declared.frame.Msg.TheVariants as msg
use Rattle.ct_frame.specs.declared.round.Pull.{Pull}
use Rattle.ct_merge.specs.Gathered.{Gathered, nothing, gathered_all}
use Rattle.ct_merge.proofs.Among.{In}
use Rattle.ct_rules_node.specs.Node.{Node, Lead, Pulls, is_present, is_frozen_in, is_among, is_persistent, kind_at, name_of}
use Rattle.ct_rules_node.specs.Clients.{is_locked}
use Rattle.ct_rules_cluster.specs.Labels.{Label, Noted, Stopped}
use Rattle.ct_law_registers.proofs.Facts.{Bases, Gone, Owners}

-- ---- rounds

-- a node that is present is in its line, knows the members, which ascend, and has promised no later generation
pub record IsThere (config : Config) (b : Bases) (n : ℕ) (x : Node) : Type 0 where
  pub line : b.line n ≢ 0
  pub generation : x.generation ≡ b.line n
  pub members : x.members ≡ b.members (b.line n)
  pub size : length x.dbs ≡ length config.dbs
  pub ascend : ascends nat_lt x.members ≡ true
  pub promise : x.promise ≡ b.line n

-- a node that is frozen for generation g has installed older ones alone, and at least one
pub record IsFrozen (config : Config) (b : Bases) (g n : ℕ) (x : Node) : Type 0 where
  pub older : b.pline n < g
  pub based : b.pline n ≢ 0
  pub base : x.pbase ≡ b.pline n
  pub size : length x.dbs ≡ length config.dbs

-- what node m told in generation g of its persistent line q is so still: it is a member of q, and is not present there any more
pub record Replied (nodes : ℕ → Node) (b : Bases) (g m q : ℕ) : Type 0 where
  pub older : q < g
  pub real : q ≢ 0
  pub member : is_among m (b.members q) ≡ true
  pub still : b.pline m < g → b.pline m ≡ q
  pub left : is_present (nodes m).phase ≡ true → b.pline m ≢ q
  pub promised : g ≤ (nodes m).promise

unfoldable pub ReplySays : (ℕ → Node) → Bases → ℕ → ℕ → Msg → Type 0
ReplySays nodes b g m (msg.PullReply vbase q table ptables addresses) = Replied nodes b g m q
ReplySays nodes b g m _ = Unit {0}

-- the reply that a pull is
abbrev pub reply_of : ℕ → ℕ → Pull → Frame
reply_of n g p = record { generation = g; sender = p.node; receiver = n; msg = msg.PullReply p.vbase p.pbase p.table p.ptables p.addresses }

-- what was gathered is that of replies, one of each member that is not missing
pub record Gathers (fs : List Frame) (n g : ℕ) (members missing : List ℕ) (x : Gathered) : Type 0 where
  pub pulls : List Pull
  pub same : x ≡ gathered_all pulls nothing
  pub sent : (p : Pull) → In p pulls → In (reply_of n g p) fs
  pub met : (m : ℕ) → is_among m members ≡ true → (is_among m missing ≡ true) ⊎ ((p : Pull) × In p pulls × (p.node ≡ m))

-- who pulls leads a generation that is no line yet
unfoldable pub LeadSays : List Frame → Bases → ℕ → Lead → Type 0
LeadSays fs b n (Pulls g members missing x) = (b.born g ≡ false) × (b.members g ≡ members) × Gathers fs n g members missing x
LeadSays fs b n _ = Unit {0}

-- what holds of lines, of the phases of nodes, and of replies
pub record RoundsHold (config : Config) (nodes : ℕ → Node) (fs : List Frame) (b : Bases) : Type 0 where
  -- a node's line is that of its persistent databases, but for a node that stopped; that is a line, and the node a member
  pub stays : (n : ℕ) → b.line n ≢ 0 → b.line n ≡ b.pline n
  pub real : (n : ℕ) → b.pline n ≢ 0 → b.born (b.pline n) ≡ true
  pub named : (n : ℕ) → b.pline n ≢ 0 → is_among n (b.members (b.pline n)) ≡ true
  pub there : (n : ℕ) → is_present (nodes n).phase ≡ true → IsThere config b n (nodes n)
  pub frozen : (n g : ℕ) → is_frozen_in g (nodes n).phase ≡ true → IsFrozen config b g n (nodes n)
  pub replies : (f : Frame) → In f fs → ReplySays nodes b f.generation f.sender f.msg
  pub leads : (n : ℕ) → LeadSays fs b n (nodes n).lead

-- ---- locks

-- two persistent databases of one name are one: so no two commits stand under one lock
abbrev pub NamesDiffer : Config → Type 0
NamesDiffer config = (i j : ℕ) → is_persistent (kind_at config i) ≡ true → is_persistent (kind_at config j) ≡ true → name_of config i ≡ name_of config j → i ≡ j

-- who owns the lock of a database is a member, in the line; where it is locked its node owns it; and nobody owns one that is gone. No
-- record of a persistent database is locked.
pub record LockLaw (config : Config) (nodes : ℕ → Node) (b : Bases) (gone : Gone) (owner : Owners) : Type 0 where
  pub ended : (g db : ℕ) → gone g (name_of config db) ≡ true → owner g db ≡ None
  pub locks : (n db : ℕ) → is_persistent (kind_at config db) ≡ true → is_locked 0 (name_of config db) (nodes n) ≡ true → owner (b.line n) db ≡ Some n
  pub owns : (g db n : ℕ) → owner g db ≡ Some n → (b.line n ≡ g) × (is_among n (b.members g) ≡ true)
  pub unlocked : (n db : ℕ) (key : List ℕ) → is_persistent (kind_at config db) ≡ true → is_locked db key (nodes n) ≡ false

-- what is gone stays so, and in one step a lock goes from no node to another
pub record LockStep (gone later : Gone) (owner then : Owners) : Type 0 where
  pub stays : (g : ℕ) (key : List ℕ) → gone g key ≡ true → later g key ≡ true
  pub once : (g db n m : ℕ) → owner g db ≡ Some n → then g db ≡ Some m → m ≡ n

-- where a step tells that a lock of a line ended, or that its owner stopped, it is gone then
pub record LocksEnd (config : Config) (b : Bases) (owner : Owners) (later : Gone) (ls : List Label) : Type 0 where
  pub ended : (n : ℕ) (key : List ℕ) → In (Noted n (note.Ended 0 key)) ls → later (b.line n) key ≡ true
  pub stopped : (n db : ℕ) → In (Stopped n) ls → owner (b.line n) db ≡ Some n → later (b.line n) (name_of config db) ≡ true
