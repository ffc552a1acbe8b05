-- What a step adds to: the next request number, the floor, what was spent and what is done.
use Rattle.std.proofs.Common.{ℕ, ◌+◌, ◌==◌, Bool, true, false, cond, List, [], ◌∷◌, ◌++◌, Option, Some, None, sym, ap, ◌∙◌, append_assoc, append-nil, arith}
use Rattle.ct_call.specs.Rules.{Rules}
use Rattle.ct_frame.specs.declared.frame.CallKind.{CallKind}
use Rattle.ct_frame.specs.declared.frame.Msg.{Msg}
use Rattle.ct_frame.specs.declared.frame.Msg.TheVariants as msg
use Rattle.ct_values.specs.declared.client.ClientOp.{ClientOp}
use Rattle.ct_rules.specs.Parts.{Moving, performs, send, send_all, reply, keeps, reaches, opened, open_of, end_vacuum, give, applies, satisfy, revoke, read_here, delegate, grant, yield_record, drain, drained, satisfy_own, raise, end_revocation, next, next_of, keep, call_for, wait_for_copies, want_of, opened_at_home, want}
use Rattle.ct_rules.specs.Messages.{pass_again, enqueue, on_call_of, called, on_call, wait, handle, recalled, on_recall, hand_on, on_give_of, on_give, satisfy_wish, becomes, accept, refuse, on_pass, on_refuse_of, on_refuse, read_granted, on_grant, on_done_of, on_done, acknowledge, renew, on_revoke_of, on_revoke, acknowledged, on_revokeack, on_vstore, on_vdelete, finish, greater, on_vstored_of, on_vstored, on_vdeleted_of, on_vdeleted}
use Rattle.ct_rules.specs.declared.event.Place.{Place}
use Rattle.ct_rules.specs.declared.state.RecallNote.{RecallNote}
use Rattle.ct_rules.specs.declared.state.Entry.{Entry}
use Rattle.ct_rules.specs.declared.state.Waiter.{Waiter}
use Rattle.ct_rules.specs.declared.state.Wish.{Wish}
use Rattle.ct_rules.specs.Moves.{store, release, unlock, begin_vacuum, vacuum_at_home, vacuum, call_again_of, call_again, revoke_again_of, revoke_again, at_home, from_home, arrive, move}
use Rattle.ct_rules.specs.declared.event.MoveEvent.{MoveEvent}
use Rattle.ct_rules.specs.declared.event.MoveEvent.TheVariants as event
use Rattle.ct_law_rules.specs.Laws.{IsFront, Grows}
use Rattle.ct_rules.specs.declared.event.Act.{Act}

-- ---- what is done before stays in front

pub front_same : {X : Type 0} (a : List X) → IsFront a a
unfolding IsFront
front_same a = ([], sym (append-nil a))

pub front_more : {X : Type 0} (a b xs : List X) → IsFront a b → IsFront a (b ++ xs)
unfolding IsFront
front_more a b xs f = (f.0 ++ xs, ap (λ l. l ++ xs) f.1 ∙ append_assoc a f.0 xs)

pub front_after : {X : Type 0} (a b c : List X) → IsFront a b → IsFront b c → IsFront a c
unfolding IsFront
front_after a b c f g = (f.0 ++ g.0, g.1 ∙ ap (λ l. l ++ g.0) f.1 ∙ append_assoc a f.0 g.0)

-- ---- the parts

pub grows_same : (o : Moving) → Grows o o
grows_same o = record { next = omega arith; floor = omega arith; spent = λ e. e; acts = front_same o.acts }

pub grows_after : (o p q : Moving) → Grows o p → Grows p q → Grows o q
grows_after o p q f g = record { next = omega arith; floor = omega arith; spent = λ e. g.spent (f.spent e); acts = front_after o.acts p.acts q.acts f.acts g.acts }

pub if_grows : (o : Moving) (b : Bool) (x y : Moving) → Grows o x → Grows o y → Grows o (cond b x y)
if_grows o true x y f g = f
if_grows o false x y f g = g

performs_grows : (a : Act) (o : Moving) → Grows o (performs a o)
unfolding performs
performs_grows a o = grind (arith, front_same, front_more)

pub send_grows : (n : ℕ) (m : Msg) (o : Moving) → Grows o (send n m o)
unfolding send
send_grows n m o = performs_grows _ o

pub send_all_grows : (ns : List ℕ) (m : Msg) (o : Moving) → Grows o (send_all ns m o)
unfolding send_all
send_all_grows [] m o = grows_same o
send_all_grows (n ∷ ns) m o = grows_after o (send n m o) (send_all ns m (send n m o)) (send_grows n m o) (send_all_grows ns m (send n m o))

read_here_grows : (at : Place) (request : ℕ) (o : Moving) (w : Option Wish) → Grows o (read_here at request o w)
unfolding send performs reply keeps reaches read_here
read_here_grows at request o w = grind (arith, front_same, front_more, front_after)

grant_grows : (at : Place) (node request : ℕ) (o : Moving) → Grows o (grant at node request o)
unfolding send performs reply keeps reaches grant delegate
grant_grows at node request o = grind (arith, front_same, front_more, front_after, read_here_grows)

revoke_grows : (at : Place) (o : Moving) → Grows o (revoke at o)
unfolding send performs reply keeps reaches revoke
revoke_grows at o = grind (arith, front_same, front_more, front_after, send_all_grows)

give_grows : (at : Place) (o : Moving) → Grows o (give at o)
unfolding send performs reply keeps reaches give
give_grows at o = grind (arith, front_same, front_more, front_after)

yield_grows : (at : Place) (o : Moving) → Grows o (yield_record at o)
unfolding yield_record
yield_grows at o = grind (arith, front_same, front_more, front_after, give_grows, revoke_grows)

drain_grows : (at : Place) (ws : List RecallNote) (o : Moving) → Grows o (drain at ws o)
unfolding drain keeps end_vacuum
drain_grows at [] o = grind (arith, front_same)
drain_grows at (r ∷ rs) o = grind (arith, front_same, front_after, grant_grows, yield_grows, drain_grows at rs (grant at r.node r.request (end_vacuum o)))

drained_grows : (at : Place) (o : Moving) → Grows o (drained at o)
unfolding drained
drained_grows at o = grind (arith, front_same, front_more, front_after, drain_grows)

satisfy_grows : (rules : Rules) (call : ℕ) (asked : ClientOp) (o : Moving) → Grows o (satisfy rules call asked o)
unfolding send performs reply keeps reaches satisfy applies
satisfy_grows rules call asked o = grind (arith, front_same, front_more, front_after)

own_grows : (rules : Rules) (o : Moving) (w : Option Wish) → Grows o (satisfy_own rules o w)
unfolding send performs reply keeps reaches satisfy_own
own_grows rules o w = grind (arith, front_same, front_more, front_after, satisfy_grows)

end_revocation_grows : (at : Place) (rules : Rules) (o : Moving) → Grows o (end_revocation at rules o)
unfolding send performs reply keeps reaches end_revocation raise
end_revocation_grows at rules o = grind (arith, front_same, front_more, front_after, own_grows, drained_grows)

next_grows : (at : Place) (o : Moving) → Grows o (next at o)
unfolding send performs reply keeps reaches next next_of
next_grows at o = grind (arith, front_same, front_more, front_after)

keep_grows : (at : Place) (rsn : ℕ) (value : List ℕ) (o : Moving) → Grows o (keep at rsn value o)
unfolding send performs reply keeps reaches keep
keep_grows at rsn value o = grind (arith, front_same, front_more, front_after, next_grows)

opened_grows : (at : Place) (o : Moving) → Grows o (opened at o)
unfolding send performs reply keeps reaches opened open_of end_vacuum
opened_grows at o = grind (arith, front_same, front_more, front_after)

enqueue_grows : (at : Place) (w : Waiter) (o : Moving) (ws : List Waiter) → Grows o (enqueue at w o ws)
unfolding send performs reply keeps reaches enqueue
enqueue_grows at w o ws = grind (arith, front_same, front_more, front_after, next_grows)

pass_again_grows : (at : Place) (e : Entry) (o : Moving) → Grows o (pass_again at e o)
unfolding pass_again
pass_again_grows at e o = send_grows _ _ o

call_of_grows : (at : Place) (n request : ℕ) (k : CallKind) (o : Moving) (e : Option Entry) → Grows o (on_call_of at n request k o e)
unfolding on_call_of
call_of_grows at n request k o None = grows_same o
call_of_grows at n request k o (Some e) = if_grows o _ _ _ (pass_again_grows at e o) (if_grows o _ _ _ (grows_after o _ _ (if_grows o (e.request == 0) _ _ (grows_same o) (pass_again_grows at e o)) (next_grows at _)) (enqueue_grows at _ o _))

call_grows : (at : Place) (n request : ℕ) (k : CallKind) (o : Moving) → Grows o (on_call at n request k o)
unfolding send performs reply keeps reaches on_call called end_vacuum
call_grows at n request k o = grind (arith, front_same, front_more, front_after, call_of_grows, opened_grows)

handle_grows : (at : Place) (r : RecallNote) (o : Moving) → Grows o (handle at r o)
unfolding send performs reply keeps reaches handle end_vacuum
handle_grows at r o = grind (arith, front_same, front_more, front_after, grant_grows, yield_grows)

recall_grows : (at : Place) (r : RecallNote) (o : Moving) → Grows o (on_recall at r o)
unfolding send performs reply keeps reaches on_recall recalled wait
recall_grows at r o = grind (arith, front_same, front_more, front_after, handle_grows)

handed_grows : (at : Place) (rsn : ℕ) (value : List ℕ) (o : Moving) (w : Waiter) (ws : List Waiter) → Grows o (send w.node (msg.Pass at.db at.key w.request rsn value) (reaches (rsn + 1) (keeps (record o.state { entry = Some (record { holder = w.node; least = rsn + 1; request = w.request; value = value }); queue = ws }) o)))
unfolding send performs reaches keeps
handed_grows at rsn value o w ws = grind (arith, front_same, front_more)

hand_on_grows : (at : Place) (rsn : ℕ) (value : List ℕ) (o : Moving) (ws : List Waiter) → Grows o (hand_on at rsn value o ws)
unfolding hand_on
hand_on_grows at rsn value o [] = keep_grows at (rsn + 1) value o
hand_on_grows at rsn value o (w ∷ ws) = if_grows o _ _ _ (keep_grows at (rsn + 1) value o) (grows_after o _ _ (handed_grows at rsn value o w ws) (next_grows at _))

on_give_grows : (at : Place) (x rsn : ℕ) (value : List ℕ) (o : Moving) → Grows o (on_give at x rsn value o)
unfolding send performs reply keeps reaches on_give on_give_of
on_give_grows at x rsn value o = grind (arith, front_same, front_more, front_after, hand_on_grows)

accept_grows : (at : Place) (rules : Rules) (rsn : ℕ) (value : List ℕ) (o : Moving) → Grows o (accept at rules rsn value o)
unfolding send performs reply keeps reaches accept becomes satisfy_wish
accept_grows at rules rsn value o = grind (arith, front_same, front_more, front_after, satisfy_grows, drained_grows)

pass_grows : (at : Place) (rules : Rules) (request rsn : ℕ) (value : List ℕ) (o : Moving) → Grows o (on_pass at rules request rsn value o)
unfolding send performs reply keeps reaches on_pass refuse
pass_grows at rules request rsn value o = grind (arith, front_same, front_more, front_after, accept_grows)

on_refuse_grows : (at : Place) (n request rsn : ℕ) (o : Moving) → Grows o (on_refuse at n request rsn o)
unfolding send performs reply keeps reaches on_refuse on_refuse_of
on_refuse_grows at n request rsn o = grind (arith, front_same, front_more, front_after, keep_grows)

on_grant_grows : (at : Place) (n request rsn : ℕ) (value : List ℕ) (o : Moving) → Grows o (on_grant at n request rsn value o)
unfolding send performs reply keeps reaches on_grant read_granted
on_grant_grows at n request rsn value o = grind (arith, front_same, front_more, front_after)

on_done_grows : (at : Place) (n request : ℕ) (o : Moving) → Grows o (on_done at n request o)
unfolding send performs reply keeps reaches on_done on_done_of
on_done_grows at n request o = grind (arith, front_same, front_more, front_after, next_grows)

on_revoke_grows : (at : Place) (n rsn : ℕ) (o : Moving) → Grows o (on_revoke at n rsn o)
unfolding send performs reply keeps reaches on_revoke renew on_revoke_of acknowledge
on_revoke_grows at n rsn o = grind (arith, front_same, front_more, front_after)

on_revokeack_grows : (at : Place) (rules : Rules) (n rsn : ℕ) (o : Moving) → Grows o (on_revokeack at rules n rsn o)
unfolding send performs reply keeps reaches on_revokeack acknowledged
on_revokeack_grows at rules n rsn o = grind (arith, front_same, front_more, front_after, end_revocation_grows)

on_vstore_grows : (at : Place) (n rsn : ℕ) (o : Moving) → Grows o (on_vstore at n rsn o)
unfolding send performs reply keeps reaches on_vstore
on_vstore_grows at n rsn o = grind (arith, front_same, front_more, front_after)

on_vdelete_grows : (at : Place) (n rsn : ℕ) (o : Moving) → Grows o (on_vdelete at n rsn o)
unfolding send performs reply keeps reaches on_vdelete
on_vdelete_grows at n rsn o = grind (arith, front_same, front_more, front_after)

finish_grows : (rsn : ℕ) (o : Moving) → Grows o (finish rsn o)
unfolding send performs reply keeps reaches finish greater
finish_grows rsn o = grind (arith, front_same, front_more, front_after)

on_vstored_grows : (at : Place) (n rsn : ℕ) (o : Moving) → Grows o (on_vstored at n rsn o)
unfolding send performs reply keeps reaches on_vstored on_vstored_of
on_vstored_grows at n rsn o = grind (arith, front_same, front_more, front_after, send_all_grows)

on_vdeleted_grows : (n rsn : ℕ) (o : Moving) → Grows o (on_vdeleted n rsn o)
unfolding send performs reply keeps reaches on_vdeleted on_vdeleted_of
on_vdeleted_grows n rsn o = grind (arith, front_same, front_more, front_after, finish_grows)

call_for_grows : (at : Place) (call : ℕ) (asked : ClientOp) (o : Moving) → Grows o (call_for at call asked o)
unfolding send performs reply keeps reaches call_for
call_for_grows at call asked o = grind (arith, front_same, front_more, front_after)

wait_grows : (at : Place) (call : ℕ) (asked : ClientOp) (o : Moving) → Grows o (wait_for_copies at call asked o)
unfolding send performs reply keeps reaches wait_for_copies
wait_grows at call asked o = grind (arith, front_same, front_more, front_after, revoke_grows)

want_of_grows : (at : Place) (rules : Rules) (call : ℕ) (asked : ClientOp) (o : Moving) → Grows o (want_of at rules call asked o)
unfolding send performs reply keeps reaches want_of
want_of_grows at rules call asked o = grind (arith, front_same, front_more, front_after, satisfy_grows, wait_grows, call_for_grows)

pub want_grows : (at : Place) (rules : Rules) (call : ℕ) (asked : ClientOp) (o : Moving) → Grows o (want at rules call asked o)
unfolding send performs reply keeps reaches want opened_at_home end_vacuum
want_grows at rules call asked o = grind (arith, front_same, front_more, front_after, want_of_grows, opened_grows)

pub release_grows : (call : ℕ) (o : Moving) → Grows o (release call o)
unfolding release keeps reply performs
release_grows call o = grind (arith, front_same, front_more)

pub unlock_grows : (at : Place) (call : ℕ) (o : Moving) → Grows o (unlock at call o)
unfolding unlock
unlock_grows at call o = grows_after o _ _ (release_grows call o) (drained_grows at (release call o))

begin_grows : (at : Place) (o : Moving) (ns : List ℕ) → Grows o (begin_vacuum at o ns)
unfolding send performs reply keeps reaches begin_vacuum
begin_grows at o ns = grind (arith, front_same, front_more, front_after, finish_grows, send_all_grows)

pub vacuum_grows : (at : Place) (ns : List ℕ) (o : Moving) → Grows o (vacuum at ns o)
unfolding send performs reply keeps reaches vacuum vacuum_at_home
vacuum_grows at ns o = grind (arith, front_same, front_more, front_after, begin_grows, send_all_grows, give_grows)

pub call_again_grows : (at : Place) (o : Moving) → Grows o (call_again at o)
unfolding send performs reply keeps reaches call_again call_again_of
call_again_grows at o = grind (arith, front_same, front_more, front_after)

pub revoke_again_grows : (at : Place) (o : Moving) → Grows o (revoke_again at o)
unfolding send performs reply keeps reaches revoke_again revoke_again_of
revoke_again_grows at o = grind (arith, front_same, front_more, front_after, send_all_grows)

home_grows : (at : Place) (o p : Moving) → Grows o p → Grows o (at_home at p o)
unfolding at_home
home_grows at o p f = grind (arith, front_same)

from_grows : (at : Place) (n : ℕ) (o p : Moving) → Grows o p → Grows o (from_home at n p o)
unfolding from_home
from_grows at n o p f = grind (arith, front_same)

pub arrive_grows : (at : Place) (rules : Rules) (n : ℕ) (m : Msg) (o : Moving) → Grows o (arrive at rules n m o)
unfolding arrive
arrive_grows at rules n (msg.Call db key request k) o = home_grows at o _ (call_grows at n request k o)
arrive_grows at rules n (msg.Recall db key least node request k) o = from_grows at n o _ (recall_grows at (record { least = least; node = node; request = request; kind = k }) o)
arrive_grows at rules n (msg.Give db key rsn value) o = home_grows at o _ (on_give_grows at n rsn value o)
arrive_grows at rules n (msg.Pass db key request rsn value) o = from_grows at n o _ (pass_grows at rules request rsn value o)
arrive_grows at rules n (msg.Refuse db key request rsn) o = home_grows at o _ (on_refuse_grows at n request rsn o)
arrive_grows at rules n (msg.Grant db key request rsn value) o = on_grant_grows at n request rsn value o
arrive_grows at rules n (msg.Done db key node request) o = home_grows at o _ (on_done_grows at node request o)
arrive_grows at rules n (msg.Revoke db key rsn) o = on_revoke_grows at n rsn o
arrive_grows at rules n (msg.RevokeAck db key rsn) o = on_revokeack_grows at rules n rsn o
arrive_grows at rules n (msg.VStore db key rsn) o = from_grows at n o _ (on_vstore_grows at n rsn o)
arrive_grows at rules n (msg.VStored db key rsn) o = home_grows at o _ (on_vstored_grows at n rsn o)
arrive_grows at rules n (msg.VDelete db key rsn) o = from_grows at n o _ (on_vdelete_grows at n rsn o)
arrive_grows at rules n (msg.VDeleted db key rsn) o = home_grows at o _ (on_vdeleted_grows n rsn o)
arrive_grows at rules n _ o = grows_same o

pub move_grows : (at : Place) (rules : Rules) (e : MoveEvent) (o : Moving) → Grows o (move at rules e o)
unfolding store keeps reply performs
move_grows at rules (event.Want call asked) o = want_grows at rules call asked o
move_grows at rules (event.Store call v) o = grind (arith, front_same, front_more)
move_grows at rules (event.Unlock call) o = unlock_grows at call o
move_grows at rules (event.Arrive sender m) o = arrive_grows at rules sender m o
move_grows at rules (event.Vacuum others) o = vacuum_grows at others o
move_grows at rules event.Resend o = grows_after o (call_again at o) _ (call_again_grows at o) (revoke_again_grows at (call_again at o))
