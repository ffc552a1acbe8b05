-- The rule of a record answers a call that waits for it, or the call of the event.
use Rattle.std.proofs.Common.{ℕ, ◌+◌, Bool, true, false, cond, List, [], ◌∷◌, ◌++◌, Option, Some, None, arith}
use Rattle.std.specs.Prelude.{Result, Ok, Err}
use Rattle.std.specs.List.{AllByRecursion}
use Rattle.ct_call.specs.Rules.{Rules}
use Rattle.ct_frame.specs.declared.frame.CallKind.{CallKind}
use Rattle.ct_frame.specs.declared.frame.Msg.{Msg}
use Rattle.ct_frame.specs.declared.frame.Msg.TheVariants as msg
use Rattle.ct_values.specs.declared.client.Answer.{Answer}
use Rattle.ct_values.specs.declared.client.ClientOp.{ClientOp}
use Rattle.ct_rules.specs.Parts.{Moving, performs, send, send_all, reply, keeps, reaches, opened, open_of, end_vacuum, give, applies, satisfy, revoke, read_here, delegate, grant, yield_record, drain, drained, satisfy_own, raise, end_revocation, next, next_of, keep, call_for, wait_for_copies, want_of, opened_at_home, want}
use Rattle.ct_rules.specs.Messages.{pass_again, enqueue, on_call_of, called, on_call, wait, handle, recalled, on_recall, hand_on, on_give_of, on_give, satisfy_wish, becomes, accept, refuse, on_pass, on_refuse_of, on_refuse, read_granted, on_grant, on_done_of, on_done, acknowledge, renew, on_revoke_of, on_revoke, acknowledged, on_revokeack, on_vstore, on_vdelete, finish, greater, on_vstored_of, on_vstored, on_vdeleted_of, on_vdeleted}
use Rattle.ct_rules.specs.declared.event.Place.{Place}
use Rattle.ct_rules.specs.declared.state.RecallNote.{RecallNote}
use Rattle.ct_rules.specs.declared.state.Entry.{Entry}
use Rattle.ct_rules.specs.declared.state.Waiter.{Waiter}
use Rattle.ct_rules.specs.declared.state.Wish.{Wish}
use Rattle.ct_rules.specs.Moves.{store, release, unlock, begin_vacuum, vacuum_at_home, vacuum, call_again_of, call_again, revoke_again_of, revoke_again, at_home, from_home, arrive}
use Rattle.ct_rules.specs.declared.event.Act.{Act}
use Rattle.ct_rules.specs.declared.event.Act.TheVariants as act
use Rattle.ct_rules.specs.State.{with_value}
use Rattle.ct_values.specs.declared.client.ClientOp.TheVariants as op
use Rattle.ct_call.specs.declared.fault.CallFault.{CallFault}
use Rattle.ct_call.specs.declared.fault.CallFault.TheVariants as fault
use Rattle.ct_rules_node.specs.Rounds.{want_again_of, want_again}
use Rattle.ct_law_wishes.proofs.Wishing.{Wishful, drain_wish, drained_wish, end_revocation_wish, grant_wish, handle_wish, home_opened_wish, own_wish, read_here_wish, release_wish, satisfied_wish, send_all_wish, take_wish}

-- the answer is to a call that has this
unfoldable pub IsOf : (ℕ → ClientOp → Type 0) → Act → Type 0
IsOf P (act.Answer call a) = (asked : ClientOp) × P call asked
IsOf P _ = Unit {0}

unfoldable pub Ofs : (ℕ → ClientOp → Type 0) → List Act → Type 0
Ofs P xs = AllByRecursion (IsOf P) xs

more_of : (P : ℕ → ClientOp → Type 0) (xs : List Act) (a : Act) → IsOf P a → Ofs P xs → Ofs P (xs ++ a ∷ [])
unfolding Ofs
more_of P [] a k h = (k, tt)
more_of P (b ∷ bs) a k h = (h.0, more_of P bs a k h.1)

send_tells : (P : ℕ → ClientOp → Type 0) (n : ℕ) (m : Msg) (o : Moving) → Ofs P o.acts → Ofs P (send n m o).acts
unfolding send performs IsOf
send_tells P n m o h = more_of P o.acts (act.Send n m) tt h

reply_tells : (P : ℕ → ClientOp → Type 0) (call : ℕ) (asked : ClientOp) (a : Answer) (o : Moving) → P call asked → Ofs P o.acts → Ofs P (reply call a o).acts
unfolding reply performs IsOf
reply_tells P call asked a o own h = more_of P o.acts (act.Answer call a) (asked, own) h

send_all_tells : (P : ℕ → ClientOp → Type 0) (ns : List ℕ) (m : Msg) (o : Moving) → Ofs P o.acts → Ofs P (send_all ns m o).acts
unfolding send_all
send_all_tells P [] m o h = h
send_all_tells P (n ∷ ns) m o h = send_all_tells P ns m (send n m o) (send_tells P n m o h)

either_of : (P : ℕ → ClientOp → Type 0) (b : Bool) (o p : Moving) → Ofs P o.acts → Ofs P p.acts → Ofs P (cond b o p).acts
either_of P true o p h k = h
either_of P false o p h k = k

read_here_tells : (P : ℕ → ClientOp → Type 0) (at : Place) (request : ℕ) (o : Moving) (w : Option Wish) → Wishful P w → Ofs P o.acts → Ofs P (read_here at request o w).acts
unfolding keeps read_here Wishful
read_here_tells P at request o None v h = h
read_here_tells P at request o (Some w) v h = either_of P _ _ _ (reply_tells P w.call w.op _ (keeps (record o.state { wish = None }) o) v h) h

grant_tells : (P : ℕ → ClientOp → Type 0) (at : Place) (node request : ℕ) (o : Moving) → Wishful P o.state.wish → Ofs P o.acts → Ofs P (grant at node request o).acts
unfolding keeps reaches grant delegate Wishful
grant_tells P at node request o v h = grind (arith, h, v, send_tells P, reply_tells P, read_here_tells P, read_here_wish P)

revoke_tells : (P : ℕ → ClientOp → Type 0) (at : Place) (o : Moving) → Ofs P o.acts → Ofs P (revoke at o).acts
unfolding keeps reaches revoke Wishful
revoke_tells P at o h = grind (arith, h, send_tells P, reply_tells P, send_all_tells P, send_all_wish P)

give_tells : (P : ℕ → ClientOp → Type 0) (at : Place) (o : Moving) → Ofs P o.acts → Ofs P (give at o).acts
unfolding keeps reaches give Wishful
give_tells P at o h = grind (arith, h, send_tells P, reply_tells P)

yield_tells : (P : ℕ → ClientOp → Type 0) (at : Place) (o : Moving) → Ofs P o.acts → Ofs P (yield_record at o).acts
unfolding yield_record Wishful
yield_tells P at o h = grind (arith, h, send_tells P, reply_tells P, give_tells P, revoke_tells P)

drain_tells : (P : ℕ → ClientOp → Type 0) (at : Place) (ws : List RecallNote) (o : Moving) → Wishful P o.state.wish → Ofs P o.acts → Ofs P (drain at ws o).acts
unfolding drain keeps end_vacuum Wishful
drain_tells P at [] o v h = h
drain_tells P at (r ∷ rs) o v h = grind (arith, h, v, grant_tells P, grant_wish P, yield_tells P, drain_tells P at rs (grant at r.node r.request (end_vacuum o)))

drained_tells : (P : ℕ → ClientOp → Type 0) (at : Place) (o : Moving) → Wishful P o.state.wish → Ofs P o.acts → Ofs P (drained at o).acts
unfolding drained Wishful
drained_tells P at o v h = grind (arith, h, v, send_tells P, reply_tells P, drain_tells P, drain_wish P)

applies_tells : (P : ℕ → ClientOp → Type 0) (call : ℕ) (asked : ClientOp) (o : Moving) (r : Result (List ℕ) CallFault) → P call asked → Ofs P o.acts → Ofs P (applies call o r).acts
unfolding keeps applies
applies_tells P call asked o (Ok v) own h = reply_tells P call asked _ (keeps (record o.state { copy = with_value v o.state.copy }) o) own h
applies_tells P call asked o (Err (fault.TooLong n)) own h = reply_tells P call asked _ o own h
applies_tells P call asked o (Err fault.NoSuchCall) own h = reply_tells P call asked _ o own h
applies_tells P call asked o (Err fault.NoMemory) own h = h

satisfy_tells : (P : ℕ → ClientOp → Type 0) (rules : Rules) (call : ℕ) (asked : ClientOp) (o : Moving) → P call asked → Ofs P o.acts → Ofs P (satisfy rules call asked o).acts
unfolding keeps satisfy
satisfy_tells P rules call (op.Lock db key) o own h = reply_tells P call (op.Lock db key) _ (keeps (record o.state { locked = Some call }) o) own h
satisfy_tells P rules call (op.Read db key) o own h = reply_tells P call (op.Read db key) _ o own h
satisfy_tells P rules call (op.Write db key v) o own h = reply_tells P call (op.Write db key v) _ (keeps (record o.state { copy = with_value v o.state.copy }) o) own h
satisfy_tells P rules call (op.Apply db key f arg) o own h = applies_tells P call (op.Apply db key f arg) o _ own h
satisfy_tells P rules call _ o own h = h

own_tells : (P : ℕ → ClientOp → Type 0) (rules : Rules) (o : Moving) (w : Option Wish) → Wishful P w → Ofs P o.acts → Ofs P (satisfy_own rules o w).acts
unfolding keeps satisfy_own Wishful
own_tells P rules o None v h = h
own_tells P rules o (Some w) v h = either_of P _ _ _ (satisfy_tells P rules w.call w.op (keeps (record o.state { wish = None }) o) v h) h

wish_tells : (P : ℕ → ClientOp → Type 0) (rules : Rules) (o : Moving) (w : Option Wish) → Wishful P w → Ofs P o.acts → Ofs P (satisfy_wish rules o w).acts
unfolding keeps satisfy_wish Wishful
wish_tells P rules o None v h = h
wish_tells P rules o (Some w) v h = satisfy_tells P rules w.call w.op (keeps (record o.state { wish = None }) o) v h

end_revocation_tells : (P : ℕ → ClientOp → Type 0) (at : Place) (rules : Rules) (o : Moving) → Wishful P o.state.wish → Ofs P o.acts → Ofs P (end_revocation at rules o).acts
unfolding keeps reaches end_revocation raise Wishful
end_revocation_tells P at rules o v h = grind (arith, h, v, send_tells P, reply_tells P, own_tells P, own_wish P, drained_tells P, drained_wish P)

next_tells : (P : ℕ → ClientOp → Type 0) (at : Place) (o : Moving) → Ofs P o.acts → Ofs P (next at o).acts
unfolding keeps reaches next next_of Wishful
next_tells P at o h = grind (arith, h, send_tells P, reply_tells P)

keep_tells : (P : ℕ → ClientOp → Type 0) (at : Place) (rsn : ℕ) (value : List ℕ) (o : Moving) → Ofs P o.acts → Ofs P (keep at rsn value o).acts
unfolding keeps reaches keep Wishful
keep_tells P at rsn value o h = grind (arith, h, send_tells P, reply_tells P, next_tells P)

opened_tells : (P : ℕ → ClientOp → Type 0) (at : Place) (o : Moving) → Ofs P o.acts → Ofs P (opened at o).acts
unfolding keeps reaches opened open_of end_vacuum Wishful
opened_tells P at o h = grind (arith, h, send_tells P, reply_tells P)

enqueue_tells : (P : ℕ → ClientOp → Type 0) (at : Place) (w : Waiter) (o : Moving) (ws : List Waiter) → Ofs P o.acts → Ofs P (enqueue at w o ws).acts
unfolding keeps reaches enqueue Wishful
enqueue_tells P at w o ws h = grind (arith, h, send_tells P, reply_tells P, next_tells P)

pass_again_tells : (P : ℕ → ClientOp → Type 0) (at : Place) (e : Entry) (o : Moving) → Ofs P o.acts → Ofs P (pass_again at e o).acts
unfolding keeps reaches pass_again Wishful
pass_again_tells P at e o h = grind (arith, h, send_tells P, reply_tells P)

call_of_tells : (P : ℕ → ClientOp → Type 0) (at : Place) (n request : ℕ) (k : CallKind) (o : Moving) (e : Option Entry) → Ofs P o.acts → Ofs P (on_call_of at n request k o e).acts
unfolding on_call_of Wishful
call_of_tells P at n request k o e h = grind (arith, h, send_tells P, reply_tells P, pass_again_tells P, next_tells P, enqueue_tells P)

call_tells : (P : ℕ → ClientOp → Type 0) (at : Place) (n request : ℕ) (k : CallKind) (o : Moving) → Ofs P o.acts → Ofs P (on_call at n request k o).acts
unfolding keeps reaches on_call called end_vacuum Wishful
call_tells P at n request k o h = grind (arith, h, send_tells P, reply_tells P, call_of_tells P, opened_tells P)

handle_tells : (P : ℕ → ClientOp → Type 0) (at : Place) (r : RecallNote) (o : Moving) → Wishful P o.state.wish → Ofs P o.acts → Ofs P (handle at r o).acts
unfolding keeps reaches handle end_vacuum Wishful
handle_tells P at r o v h = grind (arith, h, v, send_tells P, reply_tells P, grant_tells P, grant_wish P, yield_tells P)

recall_tells : (P : ℕ → ClientOp → Type 0) (at : Place) (r : RecallNote) (o : Moving) → Wishful P o.state.wish → Ofs P o.acts → Ofs P (on_recall at r o).acts
unfolding keeps reaches on_recall recalled wait Wishful
recall_tells P at r o v h = grind (arith, h, v, send_tells P, reply_tells P, handle_tells P, handle_wish P)

hand_on_tells : (P : ℕ → ClientOp → Type 0) (at : Place) (rsn : ℕ) (value : List ℕ) (o : Moving) (ws : List Waiter) → Ofs P o.acts → Ofs P (hand_on at rsn value o ws).acts
unfolding keeps reaches hand_on Wishful
hand_on_tells P at rsn value o ws h = grind (arith, h, send_tells P, reply_tells P, keep_tells P, next_tells P)

on_give_tells : (P : ℕ → ClientOp → Type 0) (at : Place) (x rsn : ℕ) (value : List ℕ) (o : Moving) → Ofs P o.acts → Ofs P (on_give at x rsn value o).acts
unfolding keeps reaches on_give on_give_of Wishful
on_give_tells P at x rsn value o h = grind (arith, h, send_tells P, reply_tells P, hand_on_tells P)

took_wish : (P : ℕ → ClientOp → Type 0) (rules : Rules) (o : Moving) (w : Option Wish) → Wishful P o.state.wish → Wishful P (satisfy_wish rules o w).state.wish
unfolding satisfy_wish keeps Wishful
took_wish P rules o None v = v
took_wish P rules o (Some w) v = satisfied_wish P rules w.call w.op (keeps (record o.state { wish = None }) o) tt

take_tells : (P : ℕ → ClientOp → Type 0) (at : Place) (rules : Rules) (rsn : ℕ) (value : List ℕ) (o : Moving) → Wishful P o.state.wish → Ofs P o.acts → Ofs P (accept at rules rsn value o).acts
unfolding keeps reaches accept becomes
take_tells P at rules rsn value o v h = drained_tells P at (satisfy_wish rules (becomes at (rsn + 1) value o) o.state.wish) (took_wish P rules (becomes at (rsn + 1) value o) o.state.wish v) (wish_tells P rules (becomes at (rsn + 1) value o) o.state.wish v h)

pass_tells : (P : ℕ → ClientOp → Type 0) (at : Place) (rules : Rules) (request rsn : ℕ) (value : List ℕ) (o : Moving) → Wishful P o.state.wish → Ofs P o.acts → Ofs P (on_pass at rules request rsn value o).acts
unfolding keeps reaches on_pass refuse Wishful
pass_tells P at rules request rsn value o v h = grind (arith, h, v, send_tells P, reply_tells P, take_tells P, take_wish P)

on_refuse_tells : (P : ℕ → ClientOp → Type 0) (at : Place) (n request rsn : ℕ) (o : Moving) → Ofs P o.acts → Ofs P (on_refuse at n request rsn o).acts
unfolding keeps reaches on_refuse on_refuse_of Wishful
on_refuse_tells P at n request rsn o h = grind (arith, h, send_tells P, reply_tells P, keep_tells P)

reads_tells : (P : ℕ → ClientOp → Type 0) (request : ℕ) (o : Moving) (w : Option Wish) (value : List ℕ) → Wishful P w → Ofs P o.acts → Ofs P (read_granted request o w value).acts
unfolding keeps read_granted Wishful
reads_tells P request o None value v h = h
reads_tells P request o (Some w) value v h = reply_tells P w.call w.op _ (keeps (record o.state { wish = None }) o) v h

on_grant_tells : (P : ℕ → ClientOp → Type 0) (at : Place) (n request rsn : ℕ) (value : List ℕ) (o : Moving) → Wishful P o.state.wish → Ofs P o.acts → Ofs P (on_grant at n request rsn value o).acts
unfolding keeps on_grant
on_grant_tells P at n request rsn value o v h = either_of P _ _ _ (reads_tells P request _ o.state.wish value v h) h

on_done_tells : (P : ℕ → ClientOp → Type 0) (at : Place) (n request : ℕ) (o : Moving) → Ofs P o.acts → Ofs P (on_done at n request o).acts
unfolding keeps reaches on_done on_done_of Wishful
on_done_tells P at n request o h = grind (arith, h, send_tells P, reply_tells P, next_tells P)

on_revoke_tells : (P : ℕ → ClientOp → Type 0) (at : Place) (n rsn : ℕ) (o : Moving) → Ofs P o.acts → Ofs P (on_revoke at n rsn o).acts
unfolding keeps reaches on_revoke renew on_revoke_of acknowledge Wishful
on_revoke_tells P at n rsn o h = grind (arith, h, send_tells P, reply_tells P)

on_revokeack_tells : (P : ℕ → ClientOp → Type 0) (at : Place) (rules : Rules) (n rsn : ℕ) (o : Moving) → Wishful P o.state.wish → Ofs P o.acts → Ofs P (on_revokeack at rules n rsn o).acts
unfolding keeps reaches on_revokeack acknowledged Wishful
on_revokeack_tells P at rules n rsn o v h = grind (arith, h, v, send_tells P, reply_tells P, end_revocation_tells P, end_revocation_wish P)

on_vstore_tells : (P : ℕ → ClientOp → Type 0) (at : Place) (n rsn : ℕ) (o : Moving) → Ofs P o.acts → Ofs P (on_vstore at n rsn o).acts
unfolding keeps reaches on_vstore Wishful
on_vstore_tells P at n rsn o h = grind (arith, h, send_tells P, reply_tells P)

on_vdelete_tells : (P : ℕ → ClientOp → Type 0) (at : Place) (n rsn : ℕ) (o : Moving) → Ofs P o.acts → Ofs P (on_vdelete at n rsn o).acts
unfolding keeps reaches on_vdelete Wishful
on_vdelete_tells P at n rsn o h = grind (arith, h, send_tells P, reply_tells P)

finish_tells : (P : ℕ → ClientOp → Type 0) (rsn : ℕ) (o : Moving) → Ofs P o.acts → Ofs P (finish rsn o).acts
unfolding finish performs reaches IsOf
finish_tells P rsn o h = more_of P o.acts (act.Finished (greater o.floor (rsn + 2))) tt h

on_vstored_tells : (P : ℕ → ClientOp → Type 0) (at : Place) (n rsn : ℕ) (o : Moving) → Ofs P o.acts → Ofs P (on_vstored at n rsn o).acts
unfolding keeps reaches on_vstored on_vstored_of Wishful
on_vstored_tells P at n rsn o h = grind (arith, h, send_tells P, reply_tells P, send_all_tells P, send_all_wish P)

on_vdeleted_tells : (P : ℕ → ClientOp → Type 0) (at : Place) (n rsn : ℕ) (o : Moving) → Ofs P o.acts → Ofs P (on_vdeleted n rsn o).acts
unfolding keeps reaches on_vdeleted on_vdeleted_of Wishful
on_vdeleted_tells P at n rsn o h = grind (arith, h, send_tells P, reply_tells P, finish_tells P)

call_for_tells : (P : ℕ → ClientOp → Type 0) (at : Place) (call : ℕ) (asked : ClientOp) (o : Moving) → Ofs P o.acts → Ofs P (call_for at call asked o).acts
unfolding keeps reaches call_for Wishful
call_for_tells P at call asked o h = grind (arith, h, send_tells P, reply_tells P)

wait_tells : (P : ℕ → ClientOp → Type 0) (at : Place) (call : ℕ) (asked : ClientOp) (o : Moving) → Ofs P o.acts → Ofs P (wait_for_copies at call asked o).acts
unfolding keeps reaches wait_for_copies Wishful
wait_tells P at call asked o h = grind (arith, h, send_tells P, reply_tells P, revoke_tells P)

want_of_tells : (P : ℕ → ClientOp → Type 0) (at : Place) (rules : Rules) (call : ℕ) (asked : ClientOp) (o : Moving) → P call asked → Wishful P o.state.wish → Ofs P o.acts → Ofs P (want_of at rules call asked o).acts
unfolding keeps reaches want_of Wishful
want_of_tells P at rules call asked o own v h = grind (arith, h, v, own, send_tells P, reply_tells P, satisfy_tells P, wait_tells P, call_for_tells P)

home_opened_tells : (P : ℕ → ClientOp → Type 0) (at : Place) (o : Moving) → Ofs P o.acts → Ofs P (opened_at_home at o).acts
unfolding opened_at_home end_vacuum keeps
home_opened_tells P at o h = either_of P _ (end_vacuum (opened at o)) o (opened_tells P at o h) h

pub want_tells : (P : ℕ → ClientOp → Type 0) (at : Place) (rules : Rules) (call : ℕ) (asked : ClientOp) (o : Moving) → P call asked → Wishful P o.state.wish → Ofs P o.acts → Ofs P (want at rules call asked o).acts
unfolding want
want_tells P at rules call asked o own v h = want_of_tells P at rules call asked (opened_at_home at o) own (home_opened_wish P at o v) (home_opened_tells P at o h)

pub store_tells : (P : ℕ → ClientOp → Type 0) (at : Place) (call : ℕ) (asked : ClientOp) (v : List ℕ) (o : Moving) → P call asked → Ofs P o.acts → Ofs P (store call v o).acts
unfolding keeps reaches store Wishful
store_tells P at call asked v o own h = grind (arith, h, own, send_tells P, reply_tells P)

pub release_tells : (P : ℕ → ClientOp → Type 0) (at : Place) (call : ℕ) (asked : ClientOp) (o : Moving) → P call asked → Ofs P o.acts → Ofs P (release call o).acts
unfolding keeps reaches release Wishful
release_tells P at call asked o own h = grind (arith, h, own, send_tells P, reply_tells P)

pub unlock_tells : (P : ℕ → ClientOp → Type 0) (at : Place) (call : ℕ) (asked : ClientOp) (o : Moving) → P call asked → Wishful P o.state.wish → Ofs P o.acts → Ofs P (unlock at call o).acts
unfolding unlock
unlock_tells P at call asked o own v h = drained_tells P at (release call o) (release_wish P call o v) (release_tells P at call asked o own h)

begin_tells : (P : ℕ → ClientOp → Type 0) (at : Place) (o : Moving) (ns : List ℕ) → Ofs P o.acts → Ofs P (begin_vacuum at o ns).acts
unfolding keeps reaches begin_vacuum Wishful
begin_tells P at o ns h = grind (arith, h, send_tells P, reply_tells P, finish_tells P, send_all_tells P, send_all_wish P)

pub vacuum_tells : (P : ℕ → ClientOp → Type 0) (at : Place) (ns : List ℕ) (o : Moving) → Ofs P o.acts → Ofs P (vacuum at ns o).acts
unfolding keeps reaches vacuum vacuum_at_home Wishful
vacuum_tells P at ns o h = grind (arith, h, send_tells P, reply_tells P, begin_tells P, send_all_tells P, send_all_wish P, give_tells P)

pub call_again_tells : (P : ℕ → ClientOp → Type 0) (at : Place) (o : Moving) → Ofs P o.acts → Ofs P (call_again at o).acts
unfolding keeps reaches call_again call_again_of Wishful
call_again_tells P at o h = grind (arith, h, send_tells P, reply_tells P)

pub revoke_again_tells : (P : ℕ → ClientOp → Type 0) (at : Place) (o : Moving) → Ofs P o.acts → Ofs P (revoke_again at o).acts
unfolding keeps reaches revoke_again revoke_again_of Wishful
revoke_again_tells P at o h = grind (arith, h, send_tells P, reply_tells P, send_all_tells P, send_all_wish P)

home_tells : (P : ℕ → ClientOp → Type 0) (at : Place) (o p : Moving) → Ofs P o.acts → Ofs P p.acts → Ofs P (at_home at p o).acts
unfolding at_home
home_tells P at o p h f = either_of P _ p o f h

from_tells : (P : ℕ → ClientOp → Type 0) (at : Place) (n : ℕ) (o p : Moving) → Ofs P o.acts → Ofs P p.acts → Ofs P (from_home at n p o).acts
unfolding from_home
from_tells P at n o p h f = either_of P _ p o f h

pub arrive_tells : (P : ℕ → ClientOp → Type 0) (at : Place) (rules : Rules) (n : ℕ) (m : Msg) (o : Moving) → Wishful P o.state.wish → Ofs P o.acts → Ofs P (arrive at rules n m o).acts
unfolding arrive
arrive_tells P at rules n (msg.Call db key request k) o v h = home_tells P at o _ h (call_tells P at n request k o h)
arrive_tells P at rules n (msg.Recall db key least node request k) o v h = from_tells P at n o _ h (recall_tells P at (record { least = least; node = node; request = request; kind = k }) o v h)
arrive_tells P at rules n (msg.Give db key rsn value) o v h = home_tells P at o _ h (on_give_tells P at n rsn value o h)
arrive_tells P at rules n (msg.Pass db key request rsn value) o v h = from_tells P at n o _ h (pass_tells P at rules request rsn value o v h)
arrive_tells P at rules n (msg.Refuse db key request rsn) o v h = home_tells P at o _ h (on_refuse_tells P at n request rsn o h)
arrive_tells P at rules n (msg.Grant db key request rsn value) o v h = on_grant_tells P at n request rsn value o v h
arrive_tells P at rules n (msg.Done db key node request) o v h = home_tells P at o _ h (on_done_tells P at node request o h)
arrive_tells P at rules n (msg.Revoke db key rsn) o v h = on_revoke_tells P at n rsn o h
arrive_tells P at rules n (msg.RevokeAck db key rsn) o v h = on_revokeack_tells P at rules n rsn o v h
arrive_tells P at rules n (msg.VStore db key rsn) o v h = from_tells P at n o _ h (on_vstore_tells P at n rsn o h)
arrive_tells P at rules n (msg.VStored db key rsn) o v h = home_tells P at o _ h (on_vstored_tells P at n rsn o h)
arrive_tells P at rules n (msg.VDelete db key rsn) o v h = from_tells P at n o _ h (on_vdelete_tells P at n rsn o h)
arrive_tells P at rules n (msg.VDeleted db key rsn) o v h = home_tells P at o _ h (on_vdeleted_tells P at n rsn o h)
arrive_tells P at rules n _ o v h = h

want_again_of_tells : (P : ℕ → ClientOp → Type 0) (at : Place) (rules : Rules) (o : Moving) (w : Option Wish) → Wishful P w → Ofs P o.acts → Ofs P (want_again_of at rules o w).acts
unfolding want_again_of keeps Wishful
want_again_of_tells P at rules o None v h = h
want_again_of_tells P at rules o (Some w) v h = want_tells P at rules w.call w.op (keeps (record o.state { wish = None }) o) v tt h

pub want_again_tells : (P : ℕ → ClientOp → Type 0) (rules : Rules) (at : Place) (o : Moving) → Wishful P o.state.wish → Ofs P o.acts → Ofs P (want_again rules at o).acts
unfolding want_again
want_again_tells P rules at o v h = want_again_of_tells P at rules o o.state.wish v h
