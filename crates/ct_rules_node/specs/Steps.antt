-- What comes of every event at a node.
use Rattle.std.specs.Prelude.{ℕ, ◌&&◌, if◌then◌else◌, List, [], ◌∷◌, Option, None, Some}
use Rattle.ct_values.specs.Words.{others}
use Rattle.ct_values.specs.declared.config.Config.{Config}
use Rattle.ct_frame.specs.declared.event.Event.{Event}
use Rattle.ct_frame.specs.declared.event.Event.TheVariants as event
use Rattle.ct_frame.specs.declared.frame.Frame.{Frame}
use Rattle.ct_frame.specs.declared.frame.Msg.{Msg}
use Rattle.ct_frame.specs.declared.frame.Msg.TheVariants as msg
use Rattle.ct_call.specs.Rules.{Rules}
use Rattle.ct_store.specs.Map.{Pairs}
use Rattle.ct_rules.specs.Moves.{arrive, vacuum}
use Rattle.ct_rules.specs.declared.state.RecState.{RecState}
use Rattle.ct_rules_node.specs.Node.{Node, is_serving, has_records, is_persistent, kind_at, db_at}
use Rattle.ct_rules_node.specs.Turn.{Turn, begins}
use Rattle.ct_rules_node.specs.Records.{at_record}
use Rattle.ct_rules_node.specs.Clients.{client}
use Rattle.ct_rules_node.specs.Databases.{on_pupdate, on_pack}
use Rattle.ct_rules_node.specs.Rounds.{begin_round, on_freeze, on_freezeack, on_pull, on_pullreply, on_push, on_pushack, on_thaw}
use Rattle.ct_rules_node.specs.Takeovers.{begin_takeover, on_release, on_releaseack, on_take}
use Rattle.ct_rules_node.specs.Retries.{retry}
use Rattle.ct_rules_node.specs.Admission.{record_in, is_current, is_sound}

-- Which messages are dropped: one of a record must be current, and of a volatile or a read-only database
unfoldable pub on_record_of : Config → Rules → ℕ → Frame → Turn → Option (ℕ × List ℕ) → Turn
on_record_of c rules me f t None = t
on_record_of c rules me f t (Some r) =
    if is_current f t.node && has_records (kind_at c r.0) then at_record c me r.0 r.1 (λ at o. arrive at rules f.sender f.msg o) t else t

-- Which messages are dropped: one of a persistent database must be current, and of such a database
unfoldable pub if_persistent : Config → Frame → ℕ → Turn → Turn → Turn
if_persistent c f db done t = if is_current f t.node && is_persistent (kind_at c db) then done else t

-- Which messages are dropped: one of a round must be sound
unfoldable pub if_sound : Config → Frame → Turn → Turn → Turn
if_sound c f done t = if is_sound c f then done else t

-- Which messages are dropped: one of a takeover run must be sound and current
unfoldable pub if_taken_over : Config → Frame → Turn → Turn → Turn
if_taken_over c f done t = if is_sound c f && is_current f t.node then done else t

-- a message arrives: it is dropped, or its rule is followed
unfoldable pub arrives : Config → Rules → ℕ → Frame → Turn → Msg → Turn
arrives c rules me f t (msg.PUpdate db seq writes) = if_persistent c f db (on_pupdate me f.sender db seq writes t) t
arrives c rules me f t (msg.PAck db seq) = if_persistent c f db (on_pack f.sender db seq t) t
arrives c rules me f t (msg.Freeze members) = if_sound c f (on_freeze c me f.sender f.generation t) t
arrives c rules me f t msg.FreezeAck = if_sound c f (on_freezeack me f.sender f.generation t t.node.lead) t
arrives c rules me f t msg.Pull = if_sound c f (on_pull c me f.sender f.generation t) t
arrives c rules me f t (msg.PullReply vbase pbase table ptables addresses) =
    if_sound c f (on_pullreply me f.generation (record { node = f.sender; vbase = vbase; pbase = pbase; table = table; ptables = ptables; addresses = addresses }) t t.node.lead) t
arrives c rules me f t (msg.Push members table ptables assigned) = if_sound c f (on_push c me f.sender f.generation members table ptables assigned t) t
arrives c rules me f t msg.PushAck = if_sound c f (on_pushack c me f.sender f.generation t t.node.lead) t
arrives c rules me f t msg.Thaw = if_sound c f (on_thaw c rules me f.generation t t.node.phase) t
arrives c rules me f t (msg.Release number keep) = if_taken_over c f (on_release me f.sender number keep t) t
arrives c rules me f t (msg.ReleaseAck number) = if_taken_over c f (on_releaseack me f.sender f.generation number t t.node.lead) t
arrives c rules me f t (msg.Take number assigned) = if_taken_over c f (on_take c me number assigned t) t
arrives c rules me f t m = on_record_of c rules me f t (record_in m)

-- Vacuum: each of these keys, in ascending order
unfoldable pub vacuum_all : Config → ℕ → ℕ → Pairs RecState → Turn → Turn
vacuum_all c me db [] t = t
vacuum_all c me db (e ∷ m) t = vacuum_all c me db m (at_record c me db e.0 (λ at o. vacuum at (others me t.node.members) o) t)

-- Vacuum: every key of a database, at a node that serves
unfoldable pub vacuums : Config → ℕ → ℕ → Turn → Turn
vacuums c me db t = if is_serving t.node.phase then vacuum_all c me db (db_at db t.node).records t else t

-- the rule of a node: what comes of each event
unfoldable pub happens : Config → Rules → ℕ → Turn → Event → Turn
happens c rules me t (event.Client call o) = client c rules me call o t
happens c rules me t (event.Arrive f) = arrives c rules me f t f.msg
happens c rules me t event.Retry = retry c me t
happens c rules me t (event.Vacuum db) = vacuums c me db t
happens c rules me t (event.BeginRound ticket members) = begin_round me ticket members t
happens c rules me t (event.BeginTakeover able) = begin_takeover me able t t.node.lead

-- Numbers: a whole step, or none where a number would reach 2^62
abbrev pub unless_spent : Turn → Option Turn
unless_spent t = if t.spent then None else Some t

-- a step of a node: its new state and what it does, or none where a number would reach 2^62
abbrev pub stepped : Config → Rules → ℕ → Event → Node → Option Turn
stepped c rules me e n = unless_spent (happens c rules me (begins n) e)
