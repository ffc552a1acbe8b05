-- What the rule of a record sends speaks of that record.
use Rattle.std.proofs.Common.{◌≡◌, ℕ, ◌+◌, List, [], ◌∷◌, ◌++◌, Option, Some, refl, arith}
use Rattle.std.specs.List.{AllByRecursion}
use Rattle.ct_call.specs.Rules.{Rules}
use Rattle.ct_frame.specs.declared.frame.CallKind.{CallKind}
use Rattle.ct_frame.specs.declared.frame.Msg.{Msg}
use Rattle.ct_frame.specs.declared.frame.Msg.TheVariants as msg
use Rattle.ct_values.specs.declared.client.Answer.{Answer}
use Rattle.ct_values.specs.declared.client.ClientOp.{ClientOp}
use Rattle.ct_rules.specs.Parts.{Moving, performs, send, send_all, reply, keeps, reaches, opened, open_of, end_vacuum, give, applies, satisfy, revoke, read_here, delegate, grant, yield_record, drain, drained, satisfy_own, raise, end_revocation, next, next_of, keep, call_for, wait_for_copies, want_of, opened_at_home, want}
use Rattle.ct_rules.specs.Messages.{pass_again, enqueue, on_call_of, called, on_call, wait, handle, recalled, on_recall, hand_on, on_give_of, on_give, satisfy_wish, becomes, accept, refuse, on_pass, on_refuse_of, on_refuse, read_granted, on_grant, on_done_of, on_done, acknowledge, renew, on_revoke_of, on_revoke, acknowledged, on_revokeack, on_vstore, on_vdelete, finish, greater, on_vstored_of, on_vstored, on_vdeleted_of, on_vdeleted}
use Rattle.ct_rules.specs.declared.event.Place.{Place}
use Rattle.ct_rules.specs.declared.state.RecallNote.{RecallNote}
use Rattle.ct_rules.specs.declared.state.Entry.{Entry}
use Rattle.ct_rules.specs.declared.state.Waiter.{Waiter}
use Rattle.ct_rules.specs.declared.state.Wish.{Wish}
use Rattle.ct_rules.specs.Moves.{store, release, unlock, begin_vacuum, vacuum_at_home, phase_message, vacuum, call_again_of, call_again, revoke_again_of, revoke_again, at_home, from_home, arrive, move}
use Rattle.ct_tracking.specs.declared.vacuum.VacuumPhase.{VacuumPhase}
use Rattle.ct_tracking.specs.declared.vacuum.VacuumPhase.TheVariants.{Storing, Deleting}
use Rattle.ct_rules.specs.declared.event.MoveEvent.{MoveEvent}
use Rattle.ct_rules.specs.declared.event.MoveEvent.TheVariants as event
use Rattle.ct_rules.specs.declared.event.Act.{Act}
use Rattle.ct_rules.specs.declared.event.Act.TheVariants as act
use Rattle.ct_rules_node.specs.Admission.{record_in}

-- what is sent speaks of the record
unfoldable pub About : Place → Act → Type 0
About at (act.Send receiver m) = record_in m ≡ Some (at.db, at.key)
About at _ = Unit {0}

unfoldable pub Told : Place → List Act → Type 0
Told at acts = AllByRecursion (About at) acts

more_told : (at : Place) (as' : List Act) (a : Act) → About at a → Told at as' → Told at (as' ++ a ∷ [])
unfolding Told
more_told at [] a k h = (k, tt)
more_told at (b ∷ bs) a k h = (h.0, more_told at bs a k h.1)

send_told : (at : Place) (n : ℕ) (m : Msg) (o : Moving) → record_in m ≡ Some (at.db, at.key) → Told at o.acts → Told at (send n m o).acts
unfolding send performs About
send_told at n m o k h = more_told at o.acts (act.Send n m) k h

reply_told : (at : Place) (call : ℕ) (a : Answer) (o : Moving) → Told at o.acts → Told at (reply call a o).acts
unfolding reply performs About
reply_told at call a o h = more_told at o.acts (act.Answer call a) tt h

send_all_told : (at : Place) (ns : List ℕ) (m : Msg) (o : Moving) → record_in m ≡ Some (at.db, at.key) → Told at o.acts → Told at (send_all ns m o).acts
unfolding send_all
send_all_told at [] m o k h = h
send_all_told at (n ∷ ns) m o k h = send_all_told at ns m (send n m o) k (send_told at n m o k h)

read_here_told : (at : Place) (request : ℕ) (o : Moving) (w : Option Wish) → Told at o.acts → Told at (read_here at request o w).acts
unfolding keeps reaches record_in read_here
read_here_told at request o w h = grind (arith, h, send_told, reply_told)

grant_told : (at : Place) (node request : ℕ) (o : Moving) → Told at o.acts → Told at (grant at node request o).acts
unfolding keeps reaches record_in grant delegate
grant_told at node request o h = grind (arith, h, send_told, reply_told, read_here_told)

revoke_told : (at : Place) (o : Moving) → Told at o.acts → Told at (revoke at o).acts
unfolding keeps reaches record_in revoke
revoke_told at o h = grind (arith, h, send_told, reply_told, send_all_told)

give_told : (at : Place) (o : Moving) → Told at o.acts → Told at (give at o).acts
unfolding keeps reaches record_in give
give_told at o h = grind (arith, h, send_told, reply_told)

yield_told : (at : Place) (o : Moving) → Told at o.acts → Told at (yield_record at o).acts
unfolding yield_record
yield_told at o h = grind (arith, h, send_told, reply_told, give_told, revoke_told)

drain_told : (at : Place) (ws : List RecallNote) (o : Moving) → Told at o.acts → Told at (drain at ws o).acts
unfolding drain keeps end_vacuum
drain_told at [] o h = h
drain_told at (r ∷ rs) o h = grind (arith, h, grant_told, yield_told, drain_told at rs (grant at r.node r.request (end_vacuum o)))

drained_told : (at : Place) (o : Moving) → Told at o.acts → Told at (drained at o).acts
unfolding drained
drained_told at o h = grind (arith, h, send_told, reply_told, drain_told)

satisfy_told : (at : Place) (rules : Rules) (call : ℕ) (asked : ClientOp) (o : Moving) → Told at o.acts → Told at (satisfy rules call asked o).acts
unfolding keeps reaches record_in satisfy applies
satisfy_told at rules call asked o h = grind (arith, h, send_told, reply_told)

own_told : (at : Place) (rules : Rules) (o : Moving) (w : Option Wish) → Told at o.acts → Told at (satisfy_own rules o w).acts
unfolding keeps reaches record_in satisfy_own
own_told at rules o w h = grind (arith, h, send_told, reply_told, satisfy_told)

end_revocation_told : (at : Place) (rules : Rules) (o : Moving) → Told at o.acts → Told at (end_revocation at rules o).acts
unfolding keeps reaches record_in end_revocation raise
end_revocation_told at rules o h = grind (arith, h, send_told, reply_told, own_told, drained_told)

next_told : (at : Place) (o : Moving) → Told at o.acts → Told at (next at o).acts
unfolding keeps reaches record_in next next_of
next_told at o h = grind (arith, h, send_told, reply_told)

keep_told : (at : Place) (rsn : ℕ) (value : List ℕ) (o : Moving) → Told at o.acts → Told at (keep at rsn value o).acts
unfolding keeps reaches record_in keep
keep_told at rsn value o h = grind (arith, h, send_told, reply_told, next_told)

opened_told : (at : Place) (o : Moving) → Told at o.acts → Told at (opened at o).acts
unfolding keeps reaches record_in opened open_of end_vacuum
opened_told at o h = grind (arith, h, send_told, reply_told)

enqueue_told : (at : Place) (w : Waiter) (o : Moving) (ws : List Waiter) → Told at o.acts → Told at (enqueue at w o ws).acts
unfolding keeps reaches record_in enqueue
enqueue_told at w o ws h = grind (arith, h, send_told, reply_told, next_told)

pass_again_told : (at : Place) (e : Entry) (o : Moving) → Told at o.acts → Told at (pass_again at e o).acts
unfolding keeps reaches record_in pass_again
pass_again_told at e o h = grind (arith, h, send_told, reply_told)

call_of_told : (at : Place) (n request : ℕ) (k : CallKind) (o : Moving) (e : Option Entry) → Told at o.acts → Told at (on_call_of at n request k o e).acts
unfolding on_call_of
call_of_told at n request k o e h = grind (arith, h, send_told, reply_told, pass_again_told, next_told, enqueue_told)

call_told : (at : Place) (n request : ℕ) (k : CallKind) (o : Moving) → Told at o.acts → Told at (on_call at n request k o).acts
unfolding keeps reaches record_in on_call called end_vacuum
call_told at n request k o h = grind (arith, h, send_told, reply_told, call_of_told, opened_told)

handle_told : (at : Place) (r : RecallNote) (o : Moving) → Told at o.acts → Told at (handle at r o).acts
unfolding keeps reaches record_in handle end_vacuum
handle_told at r o h = grind (arith, h, send_told, reply_told, grant_told, yield_told)

recall_told : (at : Place) (r : RecallNote) (o : Moving) → Told at o.acts → Told at (on_recall at r o).acts
unfolding keeps reaches record_in on_recall recalled wait
recall_told at r o h = grind (arith, h, send_told, reply_told, handle_told)

hand_on_told : (at : Place) (rsn : ℕ) (value : List ℕ) (o : Moving) (ws : List Waiter) → Told at o.acts → Told at (hand_on at rsn value o ws).acts
unfolding keeps reaches record_in hand_on
hand_on_told at rsn value o ws h = grind (arith, h, send_told, reply_told, keep_told, next_told)

on_give_told : (at : Place) (x rsn : ℕ) (value : List ℕ) (o : Moving) → Told at o.acts → Told at (on_give at x rsn value o).acts
unfolding keeps reaches record_in on_give on_give_of
on_give_told at x rsn value o h = grind (arith, h, send_told, reply_told, hand_on_told)

take_told : (at : Place) (rules : Rules) (rsn : ℕ) (value : List ℕ) (o : Moving) → Told at o.acts → Told at (accept at rules rsn value o).acts
unfolding keeps reaches record_in accept becomes satisfy_wish
take_told at rules rsn value o h = grind (arith, h, send_told, reply_told, satisfy_told, drained_told)

pass_told : (at : Place) (rules : Rules) (request rsn : ℕ) (value : List ℕ) (o : Moving) → Told at o.acts → Told at (on_pass at rules request rsn value o).acts
unfolding keeps reaches record_in on_pass refuse
pass_told at rules request rsn value o h = grind (arith, h, send_told, reply_told, take_told)

on_refuse_told : (at : Place) (n request rsn : ℕ) (o : Moving) → Told at o.acts → Told at (on_refuse at n request rsn o).acts
unfolding keeps reaches record_in on_refuse on_refuse_of
on_refuse_told at n request rsn o h = grind (arith, h, send_told, reply_told, keep_told)

on_grant_told : (at : Place) (n request rsn : ℕ) (value : List ℕ) (o : Moving) → Told at o.acts → Told at (on_grant at n request rsn value o).acts
unfolding keeps reaches record_in on_grant read_granted
on_grant_told at n request rsn value o h = grind (arith, h, send_told, reply_told)

on_done_told : (at : Place) (n request : ℕ) (o : Moving) → Told at o.acts → Told at (on_done at n request o).acts
unfolding keeps reaches record_in on_done on_done_of
on_done_told at n request o h = grind (arith, h, send_told, reply_told, next_told)

on_revoke_told : (at : Place) (n rsn : ℕ) (o : Moving) → Told at o.acts → Told at (on_revoke at n rsn o).acts
unfolding keeps reaches record_in on_revoke renew on_revoke_of acknowledge
on_revoke_told at n rsn o h = grind (arith, h, send_told, reply_told)

on_revokeack_told : (at : Place) (rules : Rules) (n rsn : ℕ) (o : Moving) → Told at o.acts → Told at (on_revokeack at rules n rsn o).acts
unfolding keeps reaches record_in on_revokeack acknowledged
on_revokeack_told at rules n rsn o h = grind (arith, h, send_told, reply_told, end_revocation_told)

on_vstore_told : (at : Place) (n rsn : ℕ) (o : Moving) → Told at o.acts → Told at (on_vstore at n rsn o).acts
unfolding keeps reaches record_in on_vstore
on_vstore_told at n rsn o h = grind (arith, h, send_told, reply_told)

on_vdelete_told : (at : Place) (n rsn : ℕ) (o : Moving) → Told at o.acts → Told at (on_vdelete at n rsn o).acts
unfolding keeps reaches record_in on_vdelete
on_vdelete_told at n rsn o h = grind (arith, h, send_told, reply_told)

finish_told : (at : Place) (rsn : ℕ) (o : Moving) → Told at o.acts → Told at (finish rsn o).acts
unfolding finish performs reaches About
finish_told at rsn o h = more_told at o.acts (act.Finished (greater o.floor (rsn + 2))) tt h

on_vstored_told : (at : Place) (n rsn : ℕ) (o : Moving) → Told at o.acts → Told at (on_vstored at n rsn o).acts
unfolding keeps reaches record_in on_vstored on_vstored_of
on_vstored_told at n rsn o h = grind (arith, h, send_told, reply_told, send_all_told)

on_vdeleted_told : (at : Place) (n rsn : ℕ) (o : Moving) → Told at o.acts → Told at (on_vdeleted n rsn o).acts
unfolding keeps reaches record_in on_vdeleted on_vdeleted_of
on_vdeleted_told at n rsn o h = grind (arith, h, send_told, reply_told, finish_told)

call_for_told : (at : Place) (call : ℕ) (asked : ClientOp) (o : Moving) → Told at o.acts → Told at (call_for at call asked o).acts
unfolding keeps reaches record_in call_for
call_for_told at call asked o h = grind (arith, h, send_told, reply_told)

wait_told : (at : Place) (call : ℕ) (asked : ClientOp) (o : Moving) → Told at o.acts → Told at (wait_for_copies at call asked o).acts
unfolding keeps reaches record_in wait_for_copies
wait_told at call asked o h = grind (arith, h, send_told, reply_told, revoke_told)

want_of_told : (at : Place) (rules : Rules) (call : ℕ) (asked : ClientOp) (o : Moving) → Told at o.acts → Told at (want_of at rules call asked o).acts
unfolding keeps reaches record_in want_of
want_of_told at rules call asked o h = grind (arith, h, send_told, reply_told, satisfy_told, wait_told, call_for_told)

pub want_told : (at : Place) (rules : Rules) (call : ℕ) (asked : ClientOp) (o : Moving) → Told at o.acts → Told at (want at rules call asked o).acts
unfolding keeps reaches record_in want opened_at_home end_vacuum
want_told at rules call asked o h = grind (arith, h, send_told, reply_told, want_of_told, opened_told)

pub store_told : (at : Place) (call : ℕ) (v : List ℕ) (o : Moving) → Told at o.acts → Told at (store call v o).acts
unfolding keeps reaches record_in store
store_told at call v o h = grind (arith, h, send_told, reply_told)

pub release_told : (at : Place) (call : ℕ) (o : Moving) → Told at o.acts → Told at (release call o).acts
unfolding keeps reaches record_in release
release_told at call o h = grind (arith, h, send_told, reply_told)

pub unlock_told : (at : Place) (call : ℕ) (o : Moving) → Told at o.acts → Told at (unlock at call o).acts
unfolding keeps reaches record_in unlock
unlock_told at call o h = grind (arith, h, send_told, reply_told, drained_told, release_told)

phase_told : (at : Place) (rsn : ℕ) (p : VacuumPhase) → record_in (phase_message at rsn p) ≡ Some (at.db, at.key)
unfolding phase_message record_in
phase_told at rsn Storing = refl
phase_told at rsn Deleting = refl

begin_told : (at : Place) (o : Moving) (ns : List ℕ) → Told at o.acts → Told at (begin_vacuum at o ns).acts
unfolding keeps reaches record_in begin_vacuum
begin_told at o ns h = grind (arith, h, send_told, reply_told, finish_told, send_all_told)

pub vacuum_told : (at : Place) (ns : List ℕ) (o : Moving) → Told at o.acts → Told at (vacuum at ns o).acts
unfolding keeps reaches record_in vacuum vacuum_at_home
vacuum_told at ns o h = grind (arith, h, send_told, reply_told, begin_told, send_all_told, phase_told, give_told)

pub call_again_told : (at : Place) (o : Moving) → Told at o.acts → Told at (call_again at o).acts
unfolding keeps reaches record_in call_again call_again_of
call_again_told at o h = grind (arith, h, send_told, reply_told)

pub revoke_again_told : (at : Place) (o : Moving) → Told at o.acts → Told at (revoke_again at o).acts
unfolding keeps reaches record_in revoke_again revoke_again_of
revoke_again_told at o h = grind (arith, h, send_told, reply_told, send_all_told)

home_told : (at : Place) (o p : Moving) → Told at o.acts → Told at p.acts → Told at (at_home at p o).acts
unfolding at_home
home_told at o p h f = grind (arith, h, f)

from_told : (at : Place) (n : ℕ) (o p : Moving) → Told at o.acts → Told at p.acts → Told at (from_home at n p o).acts
unfolding from_home
from_told at n o p h f = grind (arith, h, f)

pub arrive_told : (at : Place) (rules : Rules) (n : ℕ) (m : Msg) (o : Moving) → Told at o.acts → Told at (arrive at rules n m o).acts
unfolding arrive
arrive_told at rules n (msg.Call db key request k) o h = home_told at o _ h (call_told at n request k o h)
arrive_told at rules n (msg.Recall db key least node request k) o h = from_told at n o _ h (recall_told at (record { least = least; node = node; request = request; kind = k }) o h)
arrive_told at rules n (msg.Give db key rsn value) o h = home_told at o _ h (on_give_told at n rsn value o h)
arrive_told at rules n (msg.Pass db key request rsn value) o h = from_told at n o _ h (pass_told at rules request rsn value o h)
arrive_told at rules n (msg.Refuse db key request rsn) o h = home_told at o _ h (on_refuse_told at n request rsn o h)
arrive_told at rules n (msg.Grant db key request rsn value) o h = on_grant_told at n request rsn value o h
arrive_told at rules n (msg.Done db key node request) o h = home_told at o _ h (on_done_told at node request o h)
arrive_told at rules n (msg.Revoke db key rsn) o h = on_revoke_told at n rsn o h
arrive_told at rules n (msg.RevokeAck db key rsn) o h = on_revokeack_told at rules n rsn o h
arrive_told at rules n (msg.VStore db key rsn) o h = from_told at n o _ h (on_vstore_told at n rsn o h)
arrive_told at rules n (msg.VStored db key rsn) o h = home_told at o _ h (on_vstored_told at n rsn o h)
arrive_told at rules n (msg.VDelete db key rsn) o h = from_told at n o _ h (on_vdelete_told at n rsn o h)
arrive_told at rules n (msg.VDeleted db key rsn) o h = home_told at o _ h (on_vdeleted_told at n rsn o h)
arrive_told at rules n _ o h = h

-- whatever comes: what is sent speaks of the record
pub move_told : (at : Place) (rules : Rules) (e : MoveEvent) (o : Moving) → Told at o.acts → Told at (move at rules e o).acts
move_told at rules (event.Want call asked) o h = want_told at rules call asked o h
move_told at rules (event.Store call v) o h = store_told at call v o h
move_told at rules (event.Unlock call) o h = unlock_told at call o h
move_told at rules (event.Arrive sender m) o h = arrive_told at rules sender m o h
move_told at rules (event.Vacuum others) o h = vacuum_told at others o h
move_told at rules event.Resend o h = revoke_again_told at (call_again at o) (call_again_told at o h)
