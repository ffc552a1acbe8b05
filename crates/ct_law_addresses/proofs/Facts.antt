-- The facts of addresses that hold in every run, said of nodes, messages and registers apart, so that they may be said amid a
-- step. And what they take from the law of rounds.
use Rattle.std.proofs.Common.{◌≡◌, ◌≢◌, ℕ, ◌<◌, ◌≤◌, Bool, true, false, List, Option, None, Some}
use Rattle.ct_values.specs.declared.address.Address.{Address}
use Rattle.ct_frame.specs.declared.frame.Frame.{Frame}
use Rattle.ct_frame.specs.declared.frame.Msg.{Msg}
use Rattle.ct_frame.specs.declared.frame.Msg.TheVariants as msg
use Rattle.ct_merge.proofs.Among.{In}
use Rattle.ct_rules_node.specs.Node.{Node, Lead, Nothing, Freezes, Pulls, Installs, Completed, Takeover, Run, NoRun, Releasing, Taking, is_present, is_frozen_in, is_among}
use Rattle.ct_rules_node.specs.Takeovers.{share, assigned_in, has_address}
use Rattle.ct_register.specs.Placing.{Placing}
use Rattle.ct_register.specs.Lines.{Lines}
use Rattle.ct_law_registers.proofs.Places.{Turns, Counts, Follows, plan}

-- what the registers say of addresses, and of the lines that they are in
pub record Spots : Type 0 where
  pub placing : ℕ → Placing
  pub held : ℕ → Address → Bool
  pub members : ℕ → List ℕ
  pub leader : ℕ → Option ℕ
  pub line : ℕ → ℕ
  pub pline : ℕ → ℕ
  pub born : ℕ → Bool
  pub installed : ℕ → ℕ → Bool

abbrev pub spots : Lines → Spots
spots r = record { placing = r.placing; held = r.held; members = r.members; leader = r.leader; line = r.line; pline = r.pline; born = r.born; installed = r.installed }

-- ---- what the law of rounds says

-- a node that is present is in its line, and knows the members
pub record IsThere (b : Spots) (n : ℕ) (x : Node) : Type 0 where
  pub line : b.line n ≢ 0
  pub generation : x.generation ≡ b.line n
  pub members : x.members ≡ b.members (b.line n)

-- node n leads generation g, alone and as a member
pub record IsLeader (b : Spots) (n g : ℕ) (members : List ℕ) : Type 0 where
  pub given : b.leader g ≡ Some n
  pub named : b.members g ≡ members
  pub member : is_among n members ≡ true

-- What a node leads is a line from its last reply on. A completed round is of a line that all members have installed.
unfoldable pub LeadSays : Spots → ℕ → Node → Lead → Type 0
LeadSays b n x Nothing = Unit {0}
LeadSays b n x (Freezes g members missing) = IsLeader b n g members × (b.born g ≡ false)
LeadSays b n x (Pulls g members missing gathered) = IsLeader b n g members × (b.born g ≡ false)
LeadSays b n x (Installs g members missing body) = IsLeader b n g members × (b.born g ≡ true)
LeadSays b n x (Completed g members takeover) = IsLeader b n g members × (g ≢ 0) × ((m : ℕ) → is_among m members ≡ true → b.installed g m ≡ true)

-- a push is of the members of its line
unfoldable pub PushSays : Spots → ℕ → Msg → Type 0
PushSays b g (msg.Push members table ptables assigned) = b.members g ≡ members
PushSays b g _ = Unit {0}

-- what holds of lines, of the phases of nodes, and of what they lead
pub record RoundsHold (nodes : ℕ → Node) (fs : List Frame) (b : Spots) : Type 0 where
  -- a node's line is that of its persistent databases, but for a node that stopped; that is a line; and the node is a member of
  -- its own
  pub stays : (n : ℕ) → b.line n ≢ 0 → b.line n ≡ b.pline n
  pub real : (n : ℕ) → b.pline n ≢ 0 → b.born (b.pline n) ≡ true
  pub named : (n : ℕ) → b.line n ≢ 0 → is_among n (b.members (b.line n)) ≡ true
  -- what a node has installed is its persistent line, or an older one
  pub had : (g n : ℕ) → b.installed g n ≡ true → g ≤ b.pline n
  pub there : (n : ℕ) → is_present (nodes n).phase ≡ true → IsThere b n (nodes n)
  -- a node that is frozen for a generation has installed older ones alone
  pub frozen : (n g : ℕ) → is_frozen_in g (nodes n).phase ≡ true → b.pline n < g
  pub leads : (n : ℕ) → LeadSays b n (nodes n) (nodes n).lead
  pub pushes : (f : Frame) → In f fs → PushSays b f.generation f.msg

-- ---- what runs stand for

-- node m, where it is still in line g, follows this run or a later one
abbrev pub Follower : (ℕ → Node) → Spots → ℕ → ℕ → ℕ → Type 0
Follower nodes b g number m = b.line m ≡ g → number ≤ (nodes m).last_run

-- The last run of line g, which is led: who is not missing follows it; once nobody is, its take was sent. Its placement is
-- what the registers place.
unfoldable pub RunStands : List Address → (ℕ → Node) → Spots → Turns → ℕ → List ℕ → ℕ → Run → Type 0
RunStands addresses nodes b turns g members number NoRun = (b.placing g).begun ≡ 0
RunStands addresses nodes b turns g members number (Releasing placement missing) =
    (placement ≡ plan addresses (b.placing g) number) × (turns g < number) × ((m : ℕ) → is_among m members ≡ true → is_among m missing ≡ false → Follower nodes b g number m)
RunStands addresses nodes b turns g members number (Taking placement) =
    (placement ≡ plan addresses (b.placing g) number) × (turns g ≡ number) × (1 ≤ number) × ((b.placing g).taken number ≡ Some (assigned_in placement))

-- what a completed round knows of addresses
pub record TakeoverStands (addresses : List Address) (nodes : ℕ → Node) (b : Spots) (turns : Turns) (g : ℕ) (members : List ℕ) (x : Takeover) : Type 0 where
  pub pushed : (b.placing g).pushed ≢ None
  pub number : x.number ≡ (b.placing g).begun
  pub made : x.made ≡ plan addresses (b.placing g) (turns g)
  pub run : RunStands addresses nodes b turns g members x.number x.run

-- what a node leads; no run began in a line whose round is not completed
unfoldable pub LeadStands : List Address → (ℕ → Node) → Spots → Turns → Lead → Type 0
LeadStands addresses nodes b turns Nothing = Unit {0}
LeadStands addresses nodes b turns (Freezes g members missing) = (b.placing g).begun ≡ 0
LeadStands addresses nodes b turns (Pulls g members missing x) = (b.placing g).begun ≡ 0
LeadStands addresses nodes b turns (Installs g members missing body) = ((b.placing g).begun ≡ 0) × ((b.placing g).pushed ≡ Some body.assigned)
LeadStands addresses nodes b turns (Completed g members x) = TakeoverStands addresses nodes b turns g members x

-- what a message of generation g stands for, from node n to node m
unfoldable pub Stands : List Address → (ℕ → Node) → Spots → Turns → ℕ → ℕ → ℕ → Msg → Type 0
Stands addresses nodes b turns g n m (msg.Release number keep) = (1 ≤ number) × (number ≤ (b.placing g).begun) × (keep ≡ share m (plan addresses (b.placing g) number))
Stands addresses nodes b turns g n m (msg.ReleaseAck number) = (g ≢ 0) × (g ≤ b.pline n) × (number ≤ (b.placing g).begun) × Follower nodes b g number n
Stands addresses nodes b turns g n m (msg.Take number assigned) =
    (1 ≤ number) × (number ≤ turns g) × ((b.placing g).taken number ≡ Some assigned) × (assigned ≡ assigned_in (plan addresses (b.placing g) number))
Stands addresses nodes b turns g n m (msg.Push members table ptables assigned) = (b.placing g).pushed ≡ Some assigned
Stands addresses nodes b turns g n m _ = Unit {0}

abbrev pub FrameStands : List Address → (ℕ → Node) → Spots → Turns → Frame → Type 0
FrameStands addresses nodes b turns f = Stands addresses nodes b turns f.generation f.sender f.receiver f.msg

-- all these messages do
abbrev pub MailStands : List Address → (ℕ → Node) → Spots → Turns → List Frame → Type 0
MailStands addresses nodes b turns fs = (f : Frame) → In f fs → FrameStands addresses nodes b turns f

-- ---- the whole

-- nothing is placed in a line that was not born
abbrev pub IsUnplaced : Placing → Type 0
IsUnplaced p = (p.pushed ≡ None) × (p.begun ≡ 0)

-- a node of a line follows the run of its last take or a later one, and holds what both place at it
abbrev pub FollowsIn : List Address → Placing → ℕ → ℕ → Node → Type 0
FollowsIn addresses p t n x = Follows addresses p t n x (λ a. has_address x.held a ≡ true)

-- what holds of nodes and registers, amid a step too
pub record Holds (addresses : List Address) (nodes : ℕ → Node) (b : Spots) (turns : Turns) : Type 0 where
  pub unborn : (g : ℕ) → b.born g ≡ false → IsUnplaced (b.placing g)
  pub counts : (g : ℕ) → Counts addresses (b.placing g) (turns g)
  -- once a take was sent, every member has installed
  pub installed : (g m : ℕ) → turns g ≢ 0 → is_among m (b.members g) ≡ true → b.installed g m ≡ true
  -- each node holds what the registers say
  pub holds : (n : ℕ) (a : Address) → b.held n a ≡ has_address (nodes n).held a
  pub follows : (n : ℕ) → b.line n ≢ 0 → FollowsIn addresses (b.placing (b.line n)) (turns (b.line n)) n (nodes n)
  pub leads : (n : ℕ) → LeadStands addresses nodes b turns (nodes n).lead
