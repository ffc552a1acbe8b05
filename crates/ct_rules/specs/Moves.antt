-- What comes of every event at one record.
use Rattle.std.specs.Prelude.{ℕ, ◌+◌, ◌==◌, nat_eq, Bool, false, ◌&&◌, if◌then◌else◌, List, [], ◌∷◌, Option, None, Some, is_none}
use Rattle.ct_values.specs.Words.{is_nil}
use Rattle.ct_values.specs.declared.client.Answer.TheVariants as answer
use Rattle.ct_frame.specs.declared.frame.Msg.{Msg}
use Rattle.ct_frame.specs.declared.frame.Msg.TheVariants as msg
use Rattle.ct_call.specs.Rules.{Rules}
use Rattle.ct_tracking.specs.Tracked.{Revocation}
use Rattle.ct_tracking.specs.Vacuum.{Vacuuming, vacuum_begun}
use Rattle.ct_tracking.specs.declared.vacuum.VacuumPhase.{VacuumPhase}
use Rattle.ct_tracking.specs.declared.vacuum.VacuumPhase.TheVariants.{Storing, Deleting}
use Rattle.ct_rules.specs.State.{rsn_of, value_of, with_value, risen, is_free, kind_of}
use Rattle.ct_rules.specs.Parts.{Moving, send, send_all, reply, keeps, reaches, give, drained, want}
use Rattle.ct_rules.specs.Messages.{on_call, on_recall, on_give, on_pass, on_refuse, on_grant, on_done, on_revoke, on_revokeack, on_vstore, on_vstored, on_vdelete, on_vdeleted, finish}
use Rattle.ct_rules.specs.declared.state.RecState.{RecState}
use Rattle.ct_rules.specs.declared.state.Wish.{Wish}
use Rattle.ct_rules.specs.declared.event.MoveEvent.{MoveEvent}
use Rattle.ct_rules.specs.declared.event.MoveEvent.TheVariants as event
use Rattle.ct_rules.specs.declared.event.Place.{Place}

-- ---- under the lock

-- Store: the value is set
unfoldable pub store : ℕ → List ℕ → Moving → Moving
store call v o =
    let o' = keeps (record o.state { copy = with_value v o.state.copy }) o in
    reply call answer.Stored o'

-- Unlock: the lock ends
unfoldable pub release : ℕ → Moving → Moving
release call o =
    let o' = keeps (record o.state { locked = None }) o in
    reply call answer.Unlocked o'

-- Unlock at a node that serves: the lock ends, and then Drain
unfoldable pub unlock : Place → ℕ → Moving → Moving
unlock at call o = drained at (release call o)

-- ---- a vacuum of the database

-- Vacuum: is it a key to take away?
unfoldable pub is_vacuumed : ℕ → RecState → Bool
is_vacuumed me s = is_free me s && is_nil (value_of s.copy) && is_nil s.tracking.tracked && is_nil s.waiting && is_nil s.queue && is_none s.wish

-- Vacuum: the message of its phase
unfoldable pub phase_message : Place → ℕ → VacuumPhase → Msg
phase_message at rsn Storing = msg.VStore at.db at.key rsn
phase_message at rsn Deleting = msg.VDelete at.db at.key rsn

-- Vacuum: it begins in the phase Storing; with no other member Finish
unfoldable pub begin_vacuum : Place → Moving → List ℕ → Moving
begin_vacuum at o [] = finish (rsn_of o.state.copy) o
begin_vacuum at o (n ∷ ns) =
    let rsn = rsn_of o.state.copy in
    let o' = keeps (record o.state { copy = risen o.state.copy; vacuum = Some (vacuum_begun rsn (n ∷ ns)) }) o in
    send_all (n ∷ ns) (msg.VStore at.db at.key rsn) (reaches (rsn + 1) o')

-- Vacuum at L: one that runs asks the missing nodes again, and else one begins
unfoldable pub vacuum_at_home : Place → List ℕ → Moving → Option Vacuuming → Moving
vacuum_at_home at others o None = begin_vacuum at o others
vacuum_at_home at others o (Some v) = send_all v.missing (phase_message at v.rsn v.phase) o

-- Vacuum of one key: at L its phases, and elsewhere Give
unfoldable pub vacuum : Place → List ℕ → Moving → Moving
vacuum at others o =
    if is_vacuumed at.me o.state
    then (if nat_eq at.me at.lmaster then vacuum_at_home at others o o.state.vacuum else give at o)
    else o

-- ---- sending again

-- Retry: the Call of a wish that has a request, under the same number
unfoldable pub call_again_of : Place → Moving → Option Wish → Moving
call_again_of at o None = o
call_again_of at o (Some w) = if w.request == 0 then o else send at.lmaster (msg.Call at.db at.key w.request (kind_of at.readonly w.op)) o

-- Retry: the Call of the wish
unfoldable pub call_again : Place → Moving → Moving
call_again at o = call_again_of at o o.state.wish

-- Retry: the Revoke of a revocation that runs, to the missing nodes
unfoldable pub revoke_again_of : Place → Moving → Option Revocation → Moving
revoke_again_of at o None = o
revoke_again_of at o (Some r) = send_all r.missing (msg.Revoke at.db at.key r.rsn) o

-- Retry: the Revoke
unfoldable pub revoke_again : Place → Moving → Moving
revoke_again at o = revoke_again_of at o o.state.tracking.revoking

-- ---- every message

-- Which messages are dropped: these only come to L
unfoldable pub at_home : Place → Moving → Moving → Moving
at_home at done o = if nat_eq at.me at.lmaster then done else o

-- Which messages are dropped: these only come from L
unfoldable pub from_home : Place → ℕ → Moving → Moving → Moving
from_home at sender done o = if nat_eq sender at.lmaster then done else o

-- a message of the record arrives: it is dropped, or its rule is followed
unfoldable pub arrive : Place → Rules → ℕ → Msg → Moving → Moving
arrive at rules n (msg.Call db key request k) o = at_home at (on_call at n request k o) o
arrive at rules n (msg.Recall db key least node request k) o = from_home at n (on_recall at (record { least = least; node = node; request = request; kind = k }) o) o
arrive at rules n (msg.Give db key rsn value) o = at_home at (on_give at n rsn value o) o
arrive at rules n (msg.Pass db key request rsn value) o = from_home at n (on_pass at rules request rsn value o) o
arrive at rules n (msg.Refuse db key request rsn) o = at_home at (on_refuse at n request rsn o) o
arrive at rules n (msg.Grant db key request rsn value) o = on_grant at n request rsn value o
arrive at rules n (msg.Done db key node request) o = at_home at (on_done at node request o) o
arrive at rules n (msg.Revoke db key rsn) o = on_revoke at n rsn o
arrive at rules n (msg.RevokeAck db key rsn) o = on_revokeack at rules n rsn o
arrive at rules n (msg.VStore db key rsn) o = from_home at n (on_vstore at n rsn o) o
arrive at rules n (msg.VStored db key rsn) o = at_home at (on_vstored at n rsn o) o
arrive at rules n (msg.VDelete db key rsn) o = from_home at n (on_vdelete at n rsn o) o
arrive at rules n (msg.VDeleted db key rsn) o = at_home at (on_vdeleted n rsn o) o
arrive at rules n _ o = o

-- ---- every event

-- the rule of one record: what comes of each event
abbrev pub move : Place → Rules → MoveEvent → Moving → Moving
move at rules (event.Want call asked) o = want at rules call asked o
move at rules (event.Store call v) o = store call v o
move at rules (event.Unlock call) o = unlock at call o
move at rules (event.Arrive sender m) o = arrive at rules sender m o
move at rules (event.Vacuum others) o = vacuum at others o
move at rules event.Resend o = revoke_again at (call_again at o)

-- a step begins
abbrev pub begins : RecState → ℕ → ℕ → Moving
begins s next floor = record { state = s; next = next; floor = floor; acts = []; spent = false }

-- Numbers: a whole step, or none where a number would reach 2^62
abbrev pub unless_spent : Moving → Option Moving
unless_spent o = if o.spent then None else Some o

-- a step of one record, or none where a number would reach 2^62
abbrev pub moved : Place → Rules → MoveEvent → RecState → ℕ → Option Moving
moved at rules e s n = unless_spent (move at rules e (begins s n at.floor))
