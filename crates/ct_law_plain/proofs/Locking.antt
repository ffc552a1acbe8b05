-- The lock of a record ends by its unlock, at a freeze and at a stop: every other rule of the record keeps it.
use Rattle.std.proofs.Common.{◌≡◌, ℕ, true, List, [], ◌∷◌, Option, Some, None, arith}
use Rattle.std.specs.Prelude.{is_some}
use Rattle.ct_call.specs.Rules.{Rules}
use Rattle.ct_frame.specs.declared.frame.CallKind.{CallKind}
use Rattle.ct_frame.specs.declared.frame.Msg.{Msg}
use Rattle.ct_frame.specs.declared.frame.Msg.TheVariants as msg
use Rattle.ct_values.specs.declared.client.ClientOp.{ClientOp}
use Rattle.ct_rules.specs.Parts.{Moving, performs, send, send_all, reply, keeps, reaches, opened, open_of, end_vacuum, give, applies, satisfy, revoke, read_here, delegate, grant, yield_record, drain, drained, satisfy_own, raise, end_revocation, next, next_of, keep, call_for, wait_for_copies, want_of, opened_at_home, want}
use Rattle.ct_rules.specs.Messages.{pass_again, enqueue, on_call_of, called, on_call, wait, handle, recalled, on_recall, hand_on, on_give_of, on_give, satisfy_wish, becomes, accept, refuse, on_pass, on_refuse_of, on_refuse, read_granted, on_grant, on_done_of, on_done, acknowledge, renew, on_revoke_of, on_revoke, acknowledged, on_revokeack, on_vstore, on_vdelete, finish, on_vstored_of, on_vstored, on_vdeleted_of, on_vdeleted}
use Rattle.ct_rules.specs.declared.event.Place.{Place}
use Rattle.ct_rules.specs.declared.state.Entry.{Entry}
use Rattle.ct_rules.specs.declared.state.RecallNote.{RecallNote}
use Rattle.ct_rules.specs.declared.state.Waiter.{Waiter}
use Rattle.ct_rules.specs.declared.state.Wish.{Wish}
use Rattle.ct_rules.specs.Moves.{store, begin_vacuum, vacuum_at_home, vacuum, call_again_of, call_again, revoke_again_of, revoke_again, at_home, from_home, arrive}
use Rattle.ct_rules_node.specs.Rounds.{want_again_of, want_again}

-- the record is locked in the middle of a step
abbrev pub IsHeld : Moving → Type 0
IsHeld o = is_some o.state.locked ≡ true

-- a part of the rules that keeps the lock
abbrev pub KeepsLock : (Place → Moving → Moving) → Type 0
KeepsLock part = (at : Place) (o : Moving) → IsHeld o → IsHeld (part at o)

send_all_held : (ns : List ℕ) (m : Msg) (o : Moving) → IsHeld o → IsHeld (send_all ns m o)
unfolding send_all send performs
send_all_held [] m o h = h
send_all_held (n ∷ ns) m o h = send_all_held ns m (send n m o) h

read_here_held : (at : Place) (request : ℕ) (o : Moving) (w : Option Wish) → IsHeld o → IsHeld (read_here at request o w)
unfolding send performs reply keeps reaches read_here
read_here_held at request o w h = grind (arith, h)

grant_held : (at : Place) (node request : ℕ) (o : Moving) → IsHeld o → IsHeld (grant at node request o)
unfolding send performs keeps grant delegate
grant_held at node request o h = grind (arith, h, read_here_held)

revoke_held : (at : Place) (o : Moving) → IsHeld o → IsHeld (revoke at o)
unfolding keeps revoke
revoke_held at o h = grind (arith, h, send_all_held)

give_held : (at : Place) (o : Moving) → IsHeld o → IsHeld (give at o)
unfolding send performs keeps give
give_held at o h = grind (arith, h)

yield_held : (at : Place) (o : Moving) → IsHeld o → IsHeld (yield_record at o)
unfolding yield_record
yield_held at o h = grind (arith, h, give_held, revoke_held)

drain_held : (at : Place) (ws : List RecallNote) (o : Moving) → IsHeld o → IsHeld (drain at ws o)
unfolding drain keeps end_vacuum
drain_held at [] o h = h
drain_held at (r ∷ rs) o h = grind (arith, h, grant_held, yield_held, drain_held at rs (grant at r.node r.request (end_vacuum o)))

drained_held : (at : Place) (o : Moving) → IsHeld o → IsHeld (drained at o)
unfolding drained
drained_held at o h = grind (arith, h, drain_held)

satisfied_held : (rules : Rules) (call : ℕ) (asked : ClientOp) (o : Moving) → IsHeld o → IsHeld (satisfy rules call asked o)
unfolding performs reply keeps satisfy applies
satisfied_held rules call asked o h = grind (arith, h)

own_held : (rules : Rules) (o : Moving) (w : Option Wish) → IsHeld o → IsHeld (satisfy_own rules o w)
unfolding keeps satisfy_own
own_held rules o w h = grind (arith, h, satisfied_held)

end_revocation_held : (at : Place) (rules : Rules) (o : Moving) → IsHeld o → IsHeld (end_revocation at rules o)
unfolding keeps reaches end_revocation raise
end_revocation_held at rules o h = grind (arith, h, own_held, drained_held)

handle_held : (at : Place) (r : RecallNote) (o : Moving) → IsHeld o → IsHeld (handle at r o)
unfolding keeps handle end_vacuum
handle_held at r o h = grind (arith, h, grant_held, yield_held)

recall_held : (at : Place) (r : RecallNote) (o : Moving) → IsHeld o → IsHeld (on_recall at r o)
unfolding send performs keeps on_recall recalled wait
recall_held at r o h = grind (arith, h, handle_held)

take_held : (at : Place) (rules : Rules) (rsn : ℕ) (value : List ℕ) (o : Moving) → IsHeld o → IsHeld (accept at rules rsn value o)
unfolding keeps reaches accept becomes satisfy_wish
take_held at rules rsn value o h = grind (arith, h, satisfied_held, drained_held)

pass_held : (at : Place) (rules : Rules) (request rsn : ℕ) (value : List ℕ) (o : Moving) → IsHeld o → IsHeld (on_pass at rules request rsn value o)
unfolding send performs keeps on_pass refuse
pass_held at rules request rsn value o h = grind (arith, h, take_held)

on_grant_held : (at : Place) (n request rsn : ℕ) (value : List ℕ) (o : Moving) → IsHeld o → IsHeld (on_grant at n request rsn value o)
unfolding send performs reply keeps reaches on_grant read_granted
on_grant_held at n request rsn value o h = grind (arith, h)

on_revoke_of_held : (at : Place) (n rsn : ℕ) (o : Moving) (w : Option Wish) → IsHeld o → IsHeld (on_revoke_of at n rsn o w)
unfolding send performs keeps reaches renew on_revoke_of acknowledge
on_revoke_of_held at n rsn o None h = h
on_revoke_of_held at n rsn o (Some w) h = grind (arith, h)

on_revoke_held : (at : Place) (n rsn : ℕ) (o : Moving) → IsHeld o → IsHeld (on_revoke at n rsn o)
unfolding on_revoke
on_revoke_held at n rsn o h = on_revoke_of_held at n rsn o o.state.wish h

on_revokeack_held : (at : Place) (rules : Rules) (n rsn : ℕ) (o : Moving) → IsHeld o → IsHeld (on_revokeack at rules n rsn o)
unfolding keeps on_revokeack acknowledged
on_revokeack_held at rules n rsn o h = grind (arith, h, end_revocation_held)

on_vstore_held : (at : Place) (n rsn : ℕ) (o : Moving) → IsHeld o → IsHeld (on_vstore at n rsn o)
unfolding send performs keeps on_vstore
on_vstore_held at n rsn o h = grind (arith, h)

on_vdelete_held : (at : Place) (n rsn : ℕ) (o : Moving) → IsHeld o → IsHeld (on_vdelete at n rsn o)
unfolding send performs keeps on_vdelete
on_vdelete_held at n rsn o h = grind (arith, h)

call_for_held : (at : Place) (call : ℕ) (asked : ClientOp) (o : Moving) → IsHeld o → IsHeld (call_for at call asked o)
unfolding send performs reply keeps reaches call_for
call_for_held at call asked o h = grind (arith, h)

wait_held : (at : Place) (call : ℕ) (asked : ClientOp) (o : Moving) → IsHeld o → IsHeld (wait_for_copies at call asked o)
unfolding keeps wait_for_copies
wait_held at call asked o h = grind (arith, h, revoke_held)

want_of_held : (at : Place) (rules : Rules) (call : ℕ) (asked : ClientOp) (o : Moving) → IsHeld o → IsHeld (want_of at rules call asked o)
unfolding reply performs want_of
want_of_held at rules call asked o h = grind (arith, h, satisfied_held, wait_held at call asked o h, call_for_held at call asked o h)

pub store_held : (call : ℕ) (v : List ℕ) (o : Moving) → IsHeld o → IsHeld (store call v o)
unfolding reply performs keeps store
store_held call v o h = grind (arith, h)

pub call_again_held : (at : Place) (o : Moving) → IsHeld o → IsHeld (call_again at o)
unfolding send performs call_again call_again_of
call_again_held at o h = grind (arith, h)

pub revoke_again_held : (at : Place) (o : Moving) → IsHeld o → IsHeld (revoke_again at o)
unfolding revoke_again revoke_again_of
revoke_again_held at o h = grind (arith, h, send_all_held)

-- ---- what a location master does

next_held : (at : Place) (o : Moving) → IsHeld o → IsHeld (next at o)
unfolding send performs next next_of
next_held at o h = grind (arith, h)

keep_held : (at : Place) (rsn : ℕ) (value : List ℕ) (o : Moving) → IsHeld o → IsHeld (keep at rsn value o)
unfolding keeps reaches keep
keep_held at rsn value o h = grind (arith, h, next_held)

opened_held : (at : Place) (o : Moving) → IsHeld o → IsHeld (opened at o)
unfolding keeps opened open_of
opened_held at o h = grind (arith, h)

at_home_held : (at : Place) (o : Moving) → IsHeld o → IsHeld (opened_at_home at o)
unfolding keeps opened_at_home end_vacuum
at_home_held at o h = grind (arith, h, opened_held)

enqueue_held : (at : Place) (w : Waiter) (o : Moving) (ws : List Waiter) → IsHeld o → IsHeld (enqueue at w o ws)
unfolding keeps enqueue
enqueue_held at w o ws h = grind (arith, h, next_held)

pass_again_held : (at : Place) (e : Entry) (o : Moving) → IsHeld o → IsHeld (pass_again at e o)
unfolding send performs pass_again
pass_again_held at e o h = h

call_of_held : (at : Place) (n request : ℕ) (k : CallKind) (o : Moving) (e : Option Entry) → IsHeld o → IsHeld (on_call_of at n request k o e)
unfolding on_call_of
call_of_held at n request k o e h = grind (arith, h, pass_again_held, next_held, enqueue_held)

call_held : (at : Place) (n request : ℕ) (k : CallKind) (o : Moving) → IsHeld o → IsHeld (on_call at n request k o)
unfolding keeps on_call called end_vacuum
call_held at n request k o h = grind (arith, h, call_of_held, opened_held)

hand_on_held : (at : Place) (rsn : ℕ) (value : List ℕ) (o : Moving) (ws : List Waiter) → IsHeld o → IsHeld (hand_on at rsn value o ws)
unfolding send performs keeps reaches hand_on
hand_on_held at rsn value o ws h = grind (arith, h, keep_held, next_held)

on_give_held : (at : Place) (x rsn : ℕ) (value : List ℕ) (o : Moving) → IsHeld o → IsHeld (on_give at x rsn value o)
unfolding on_give on_give_of
on_give_held at x rsn value o h = grind (arith, h, hand_on_held)

on_refuse_held : (at : Place) (n request rsn : ℕ) (o : Moving) → IsHeld o → IsHeld (on_refuse at n request rsn o)
unfolding on_refuse on_refuse_of
on_refuse_held at n request rsn o h = grind (arith, h, keep_held)

on_done_held : (at : Place) (n request : ℕ) (o : Moving) → IsHeld o → IsHeld (on_done at n request o)
unfolding keeps on_done on_done_of
on_done_held at n request o h = grind (arith, h, next_held)

finish_held : (rsn : ℕ) (o : Moving) → IsHeld o → IsHeld (finish rsn o)
unfolding performs reaches finish
finish_held rsn o h = h

on_vstored_held : (at : Place) (n rsn : ℕ) (o : Moving) → IsHeld o → IsHeld (on_vstored at n rsn o)
unfolding keeps on_vstored on_vstored_of
on_vstored_held at n rsn o h = grind (arith, h, send_all_held)

on_vdeleted_held : (n rsn : ℕ) (o : Moving) → IsHeld o → IsHeld (on_vdeleted n rsn o)
unfolding keeps on_vdeleted on_vdeleted_of
on_vdeleted_held n rsn o h = grind (arith, h, finish_held)

begin_held : (at : Place) (o : Moving) (ns : List ℕ) → IsHeld o → IsHeld (begin_vacuum at o ns)
unfolding keeps reaches begin_vacuum
begin_held at o ns h = grind (arith, h, finish_held, send_all_held)

-- ---- every rule but an unlock

pub want_held : (rules : Rules) (call : ℕ) (asked : ClientOp) → KeepsLock (λ at o. want at rules call asked o)
unfolding want
want_held rules call asked at o h = want_of_held at rules call asked (opened_at_home at o) (at_home_held at o h)

want_again_of_held : (at : Place) (rules : Rules) (o : Moving) (w : Option Wish) → IsHeld o → IsHeld (want_again_of at rules o w)
unfolding want_again_of keeps
want_again_of_held at rules o None h = h
want_again_of_held at rules o (Some w) h = want_held rules w.call w.op at (keeps (record o.state { wish = None }) o) h

pub want_again_held : (rules : Rules) → KeepsLock (want_again rules)
unfolding want_again
want_again_held rules at o h = want_again_of_held at rules o o.state.wish h

pub vacuum_held : (ns : List ℕ) → KeepsLock (λ at o. vacuum at ns o)
unfolding vacuum vacuum_at_home
vacuum_held ns at o h = grind (arith, h, begin_held, send_all_held, give_held)

home_held : (at : Place) (done o : Moving) → IsHeld o → IsHeld done → IsHeld (at_home at done o)
unfolding at_home
home_held at done o h f = grind (arith, h, f)

from_held : (at : Place) (n : ℕ) (o p : Moving) → IsHeld o → IsHeld p → IsHeld (from_home at n p o)
unfolding from_home
from_held at n o p h f = grind (arith, h, f)

pub arrive_held : (rules : Rules) (n : ℕ) (m : Msg) → KeepsLock (λ at o. arrive at rules n m o)
unfolding arrive
arrive_held rules n (msg.Call db key request k) at o h = home_held at _ o h (call_held at n request k o h)
arrive_held rules n (msg.Recall db key least node request k) at o h = from_held at n o _ h (recall_held at (record { least = least; node = node; request = request; kind = k }) o h)
arrive_held rules n (msg.Give db key rsn value) at o h = home_held at _ o h (on_give_held at n rsn value o h)
arrive_held rules n (msg.Pass db key request rsn value) at o h = from_held at n o _ h (pass_held at rules request rsn value o h)
arrive_held rules n (msg.Refuse db key request rsn) at o h = home_held at _ o h (on_refuse_held at n request rsn o h)
arrive_held rules n (msg.Grant db key request rsn value) at o h = on_grant_held at n request rsn value o h
arrive_held rules n (msg.Done db key node request) at o h = home_held at _ o h (on_done_held at node request o h)
arrive_held rules n (msg.Revoke db key rsn) at o h = on_revoke_held at n rsn o h
arrive_held rules n (msg.RevokeAck db key rsn) at o h = on_revokeack_held at rules n rsn o h
arrive_held rules n (msg.VStore db key rsn) at o h = from_held at n o _ h (on_vstore_held at n rsn o h)
arrive_held rules n (msg.VStored db key rsn) at o h = home_held at _ o h (on_vstored_held at n rsn o h)
arrive_held rules n (msg.VDelete db key rsn) at o h = from_held at n o _ h (on_vdelete_held at n rsn o h)
arrive_held rules n (msg.VDeleted db key rsn) at o h = home_held at _ o h (on_vdeleted_held n rsn o h)
arrive_held rules n _ at o h = h
