-- What holds of every cluster, said line by line, node by node and message by message.
use Rattle.std.specs.Prelude.{◌≡◌, ◌≢◌, ◌⊎◌, ℕ, ◌<◌, ◌≤◌, nat_eq, nat_lt, ◌||◌, true, false, List, [], length, map, None, Some, is_some}
use Rattle.std.specs.List.{AllByRecursion, list_all}
use Rattle.ct_values.specs.declared.config.Config.{Config}
use Rattle.ct_frame.specs.Fields.{ascends, row_before, is_node}
use Rattle.ct_frame.specs.declared.frame.Frame.{Frame}
use Rattle.ct_frame.specs.declared.frame.Msg.{Msg}
use Rattle.ct_frame.specs.declared.frame.Msg.TheVariants as msg
use Rattle.ct_frame.specs.declared.frame.TableRow.{TableRow}
use Rattle.ct_frame.specs.declared.round.Pull.{Pull}
use Rattle.ct_call.specs.Rules.{Rules}
use Rattle.ct_merge.specs.Gathered.{Gathered, nothing, gathered_all}
use Rattle.ct_merge.specs.Rule.{row_at}
use Rattle.ct_merge.proofs.Among.{In}
use Rattle.ct_rules_node.specs.Node.{is_persistent, kind_at, Node, Phase, Idle, Serving, Installed, Freezing, Frozen, Committing, Lead, Nothing, Freezes, Pulls, Installs, Completed, is_among, is_present, is_serving, name_of, db_at, state_at}
use Rattle.ct_rules_node.specs.Rounds.{row_of}
use Rattle.ct_rules_node.specs.Admission.{record_in}
use Rattle.ct_rules_cluster.specs.Cluster.{Cluster, is_up, node_at}
use Rattle.ct_register.specs.Formed.{IsFormed}
use Rattle.ct_register.specs.Lines.{Lines}
use Rattle.ct_law_generation.specs.Shown.{scene, view}
use Rattle.ct_law_generation.proofs.Pending.{Callers, NodeKnown}
use Rattle.ct_law_generation.proofs.Staying.{NodeStays, AllWishes, Of_records}
use Rattle.ct_law_generation.proofs.Forming.{Is_formed, Is_sound_mail}
use Rattle.ct_law_run.proofs.Ages.{Ages, era_of, row_in, begun_view, Rests, LinesLive}

-- ---- messages: what each that was ever sent says; it stays so for ever

-- a ticket and its members
pub record IsTicket (c : Config) (r : Lines) (g n : ℕ) (members : List ℕ) : Type 0 where
  pub given : r.leader g ≡ Some n
  pub named : r.members g ≡ members
  pub later : 2 ≤ g
  pub real : list_all is_node members ≡ true
  pub ascend : ascends nat_lt members ≡ true
  pub there : (m : ℕ) → is_among m members ≡ true → nat_lt m c.nodes ≡ true
  pub own : is_among n members ≡ true

abbrev pub AllHaveInstalled : Lines → ℕ → List ℕ → Type 0
AllHaveInstalled r g members = (m : ℕ) → is_among m members ≡ true → r.installed g m ≡ true

unfoldable pub RoundSays : Config → Lines → Ages → ℕ → ℕ → Msg → Type 0
RoundSays c r a g from (msg.Freeze members) = IsTicket c r g from members
RoundSays c r a g from (msg.Push members table ptables assigned) = (2 ≤ g) × (r.born g ≡ true) × (members ≡ r.members g) × (table ≡ a.tables g)
RoundSays c r a g from msg.PushAck = r.installed g from ≡ true
RoundSays c r a g from msg.Thaw = (r.born g ≡ true) × AllHaveInstalled r g (r.members g)
RoundSays c r a g from m = Unit {0}

-- every message says what one of a round does, and one of a record keeps the rules of its fields
pub record MailSays (c : Config) (r : Lines) (a : Ages) (f : Frame) : Type 0 where
  pub round : RoundSays c r a f.generation f.sender f.msg
  pub sound : (k : ℕ × List ℕ) → record_in f.msg ≡ Some k → Is_sound_mail (record { sender = f.sender; receiver = f.receiver; msg = f.msg })

-- the one message that speaks of a node, its sender: what it told of itself in generation g it has still, while its line stays
pub record Replied (r : Lines) (a : Ages) (g n vbase pbase : ℕ) (table : List TableRow) (x : Node) : Type 0 where
  pub promised : g ≤ x.promise
  pub given : g ≤ r.last
  pub older : vbase < g
  pub had : r.had g n vbase ≡ true
  pub still : r.line n ≢ 0 → r.line n < g → r.line n ≡ vbase
  -- it does not freeze for g any more
  pub past : (h : ℕ) → x.phase ≢ Freezing g h
  pub stuck : vbase ≢ 0 → r.line n ≡ vbase → (is_present x.phase ≡ false) × ((db : ℕ) (key : List ℕ) → (state_at db key x).locked ≡ None)
  pub some : vbase ≢ 0 → (r.born vbase ≡ true) × ((nat_eq vbase 1 || r.installed vbase n) ≡ true) × ((db : ℕ) (key : List ℕ) → row_at db key table ≡ row_of n db key ((a.worlds vbase db key).nodes n).state.copy)
  pub order : ascends row_before table ≡ true
  pub polder : pbase < g
  pub phad : r.phad g n pbase ≡ true
  pub pstill : r.pline n < g → r.pline n ≡ pbase

unfoldable pub ReplySays : Lines → Ages → ℕ → Node → Frame → Msg → Type 0
ReplySays r a n x f (msg.PullReply vbase pbase table ptables addresses) = f.sender ≡ n → Replied r a f.generation n vbase pbase table x
ReplySays r a n x f m = Unit {0}

-- ---- leaders

-- of the members each is missing still, or has done this
pub record Waits (members missing : List ℕ) (Done : ℕ → Type 0) : Type 0 where
  pub within : (m : ℕ) → is_among m missing ≡ true → is_among m members ≡ true
  pub met : (m : ℕ) → is_among m members ≡ true → (is_among m missing ≡ true) ⊎ Done m

-- the message was sent
abbrev pub WasSent : Cluster → Frame → Type 0
WasSent w f = In f (map (λ s. s.frame) w.sent)

-- the pull was sent to node n in generation g
abbrev pub IsReply : Cluster → ℕ → ℕ → Pull → Type 0
IsReply w n g p = WasSent w (record { generation = g; sender = p.node; receiver = n; msg = msg.PullReply p.vbase p.pbase p.table p.ptables p.addresses })

-- what was gathered is that of replies, one of each member that is not missing
pub record IsGatheredOf (w : Cluster) (n g : ℕ) (members missing : List ℕ) (x : Gathered) : Type 0 where
  pub pulls : List Pull
  pub same : x ≡ gathered_all pulls nothing
  pub sent : (p : Pull) → In p pulls → IsReply w n g p
  pub member : (p : Pull) → In p pulls → is_among p.node members ≡ true
  pub waits : Waits members missing (λ m. (p : Pull) × In p pulls × (p.node ≡ m))

unfoldable pub LeadSays : Config → Cluster → Lines → Ages → ℕ → Lead → Type 0
LeadSays c w r a n Nothing = Unit {0}
LeadSays c w r a n (Freezes g members missing) = IsTicket c r g n members × (r.born g ≡ false)
LeadSays c w r a n (Pulls g members missing x) = IsTicket c r g n members × (r.born g ≡ false) × IsGatheredOf w n g members missing x
LeadSays c w r a n (Installs g members missing b) = IsTicket c r g n members × (r.born g ≡ true) × (b.members ≡ members) × (b.table ≡ a.tables g) × Waits members missing (λ m. r.installed g m ≡ true)
LeadSays c w r a n (Completed g members t) = IsTicket c r g n members × (r.born g ≡ true) × AllHaveInstalled r g members

-- ---- nodes

-- the ticket was given
abbrev pub HasTicket : Lines → ℕ → Type 0
HasTicket r g = (h : ℕ) × (r.leader g ≡ Some h)

-- by its phase: nothing is kept, or its records are those of the worlds of its line, or it rests there; and it serves only where
-- all members of its line have installed that, or in line 1
unfoldable pub PhaseSays : Config → Rules → Callers → Cluster → Lines → Ages → ℕ → Node → Phase → Type 0
PhaseSays c rules who w r a n x Idle = (r.line n ≡ 0) × ((db : ℕ) → (db_at db x).records ≡ []) × ((db : ℕ) → (db_at db x).commit ≡ None)
PhaseSays c rules who w r a n x (Freezing g h) = HasTicket r g × (r.born g ≡ false) × (x.promise ≡ g) × (r.pline n < g) × (r.line n ≡ 0 → (db : ℕ) → (db_at db x).records ≡ []) × (r.line n ≢ 0 → (db : ℕ) (key : List ℕ) → Rests db key ((a.worlds (r.line n) db key).nodes n) x) × ((db : ℕ) → (db_at db x).commit ≡ None) × (is_among n (r.members g) ≡ true)
PhaseSays c rules who w r a n x (Frozen g) = HasTicket r g × (x.promise ≡ g) × (r.pline n < g) × (r.line n ≡ 0 → (db : ℕ) → (db_at db x).records ≡ []) × (r.line n ≢ 0 → (db : ℕ) (key : List ℕ) → Rests db key ((a.worlds (r.line n) db key).nodes n) x) × ((db : ℕ) → (db_at db x).commit ≡ None) ×
    ((db : ℕ) (key : List ℕ) → (state_at db key x).locked ≡ None) ×
    -- where generation g was born, each world of it has the node as it will install it
    (r.born g ≡ true → (db : ℕ) (key : List ℕ) → (a.worlds g db key).nodes n ≡ begun_view (scene c (era_of r a g) rules db key) (row_in a g db key) n (state_at db key x).wish x.next)
PhaseSays c rules who w r a n x Serving = (r.line n ≢ 0) × NodeStays c (era_of r a (r.line n)) rules who w.calls n (record x { lead = Nothing }) × ((db : ℕ) (key : List ℕ) → (a.worlds (r.line n) db key).nodes n ≡ view db key x) ×
    (r.line n ≢ 1 → AllHaveInstalled r (r.line n) (r.members (r.line n)))
PhaseSays c rules who w r a n x Installed = (r.line n ≢ 0) × NodeStays c (era_of r a (r.line n)) rules who w.calls n (record x { lead = Nothing }) × ((db : ℕ) (key : List ℕ) → (a.worlds (r.line n) db key).nodes n ≡ view db key x)

pub record NodeLives (c : Config) (rules : Rules) (who : Callers) (w : Cluster) (r : Lines) (a : Ages) (n : ℕ) (x : Node) : Type 0 where
  pub size : length x.dbs ≡ length c.dbs
  pub known : NodeKnown who w.calls n x
  pub line : x.generation ≡ r.line n
  pub base : x.pbase ≡ r.pline n
  pub older : r.pline n ≤ x.promise
  pub given : x.promise ≤ r.last
  -- it is a member of its line, and knows the members
  pub named : r.line n ≢ 0 → (r.born (r.line n) ≡ true) × (x.members ≡ r.members (r.line n)) × (is_among n (r.members (r.line n)) ≡ true)
  pub done : 2 ≤ r.line n → r.installed (r.line n) n ≡ true
  -- of a line that was born every member has promised it
  pub promises : (g : ℕ) → r.born g ≡ true → is_among n (r.members g) ≡ true → g ≤ x.promise
  -- calls wait for records alone, and each record's state is in form, whatever the phase
  pub waits : AllWishes (Of_records c) x
  pub formed : (db : ℕ) (key : List ℕ) → Is_formed (scene c (era_of r a (r.line n)) rules db key) n (view db key x)
  -- a commit waits under its lock, is of a persistent database, and its node serves
  pub commits : (db : ℕ) (k : Committing) → (db_at db x).commit ≡ Some k → is_some (state_at 0 (name_of c db) x).locked ≡ true
  pub persist : (db : ℕ) (k : Committing) → (db_at db x).commit ≡ Some k → is_persistent (kind_at c db) ≡ true
  pub serving : (db : ℕ) (k : Committing) → (db_at db x).commit ≡ Some k → is_serving x.phase ≡ true
  pub phase : PhaseSays c rules who w r a n x x.phase
  pub lead : LeadSays c w r a n x.lead
  pub replies : AllByRecursion (λ s. ReplySays r a n x s.frame s.frame.msg) w.sent

-- ---- the cluster

pub record Lives (c : Config) (rules : Rules) (w : Cluster) (r : Lines) : Type 0 where
  pub who : Callers
  pub ages : Ages
  pub formed : IsFormed r
  pub last : r.last ≡ w.ticket
  pub holder : r.holder ≡ w.holder
  pub size : length w.nodes ≡ c.nodes
  pub up : (n : ℕ) → is_up n w ≡ true → nat_lt n c.nodes ≡ true
  pub lines : LinesLive c rules w r ages
  pub nodes : (n : ℕ) → nat_lt n c.nodes ≡ true → NodeLives c rules who w r ages n (node_at n w)
  pub outside : (n : ℕ) → nat_lt n c.nodes ≡ false → r.line n ≡ 0
  pub mail : AllByRecursion (λ s. MailSays c r ages s.frame) w.sent
  -- labels of records leave databases without commits
  pub bare : (g db : ℕ) → ((r.databases g db).commits ≡ []) × ((r.databases g db).acked ≡ 0) × ((n : ℕ) → (r.databases g db).seen n ≡ 0)
