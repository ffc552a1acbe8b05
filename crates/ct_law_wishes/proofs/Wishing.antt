-- A call that waits at a record asks what it asked: its rule changes only the request of a wish.
use Rattle.std.proofs.Common.{◌≡◌, ℕ, Bool, true, false, cond, List, [], ◌∷◌, Option, Some, None, refl, sym, subst, arith}
use Rattle.ct_call.specs.Rules.{Rules}
use Rattle.ct_frame.specs.declared.frame.CallKind.{CallKind}
use Rattle.ct_frame.specs.declared.frame.Msg.{Msg}
use Rattle.ct_frame.specs.declared.frame.Msg.TheVariants as msg
use Rattle.ct_values.specs.declared.client.ClientOp.{ClientOp}
use Rattle.ct_rules.specs.State.{is_read_kind, kind_of}
use Rattle.ct_rules.specs.Parts.{Moving, performs, send, send_all, reply, keeps, reaches, opened, open_of, end_vacuum, give, applies, satisfy, revoke, read_here, delegate, grant, yield_record, drain, drained, satisfy_own, raise, end_revocation, next, next_of, keep, call_for, wait_for_copies, want_of, opened_at_home, want}
use Rattle.ct_rules.specs.Messages.{pass_again, enqueue, on_call_of, called, on_call, wait, handle, recalled, on_recall, hand_on, on_give_of, on_give, satisfy_wish, becomes, accept, refuse, on_pass, on_refuse_of, on_refuse, read_granted, on_grant, on_done_of, on_done, acknowledge, renew, on_revoke_of, on_revoke, acknowledged, on_revokeack, on_vstore, on_vdelete, finish, on_vstored_of, on_vstored, on_vdeleted_of, on_vdeleted}
use Rattle.ct_rules.specs.declared.event.Place.{Place}
use Rattle.ct_rules.specs.declared.state.RecallNote.{RecallNote}
use Rattle.ct_rules.specs.declared.state.Entry.{Entry}
use Rattle.ct_rules.specs.declared.state.Waiter.{Waiter}
use Rattle.ct_rules.specs.declared.state.Wish.{Wish}
use Rattle.ct_rules.specs.Moves.{store, release, unlock, begin_vacuum, vacuum_at_home, vacuum, at_home, from_home, arrive, call_again_of, call_again, revoke_again_of, revoke_again}
use Rattle.ct_tracking.specs.Tracked.{Revocation}
use Rattle.ct_rules_node.specs.Rounds.{want_again_of, want_again}

-- the call that waits, if there is one, keeps this
unfoldable pub Wishful : (ℕ → ClientOp → Type 0) → Option Wish → Type 0
Wishful P None = Unit {0}
Wishful P (Some w) = P w.call w.op

-- what every call has, the one that waits has
pub all_wishful : (P : ℕ → ClientOp → Type 0) (w : Option Wish) → ((call : ℕ) (asked : ClientOp) → P call asked) → Wishful P w
unfolding Wishful
all_wishful P None h = tt
all_wishful P (Some w) h = h w.call w.op

pub send_all_same : (ns : List ℕ) (m : Msg) (o : Moving) → (send_all ns m o).state ≡ o.state
unfolding send_all send performs
send_all_same [] m o = refl
send_all_same (n ∷ ns) m o = send_all_same ns m (send n m o)

pub send_all_wish : (P : ℕ → ClientOp → Type 0) (ns : List ℕ) (m : Msg) (o : Moving) → Wishful P o.state.wish → Wishful P (send_all ns m o).state.wish
send_all_wish P ns m o h = rw (send_all_same ns m o) h

pub read_here_wish : (P : ℕ → ClientOp → Type 0) (at : Place) (request : ℕ) (o : Moving) (w : Option Wish) → Wishful P o.state.wish → Wishful P (read_here at request o w).state.wish
unfolding send performs reply keeps reaches Wishful read_here
read_here_wish P at request o w h = grind (arith, h)

pub grant_wish : (P : ℕ → ClientOp → Type 0) (at : Place) (node request : ℕ) (o : Moving) → Wishful P o.state.wish → Wishful P (grant at node request o).state.wish
unfolding send performs keeps grant delegate
grant_wish P at node request o h = grind (arith, h, read_here_wish P)

revoke_wish : (P : ℕ → ClientOp → Type 0) (at : Place) (o : Moving) → Wishful P o.state.wish → Wishful P (revoke at o).state.wish
unfolding keeps revoke
revoke_wish P at o h = grind (arith, h, send_all_wish P)

give_wish : (P : ℕ → ClientOp → Type 0) (at : Place) (o : Moving) → Wishful P o.state.wish → Wishful P (give at o).state.wish
unfolding send performs keeps give
give_wish P at o h = grind (arith, h)

yield_wish : (P : ℕ → ClientOp → Type 0) (at : Place) (o : Moving) → Wishful P o.state.wish → Wishful P (yield_record at o).state.wish
unfolding yield_record
yield_wish P at o h = grind (arith, h, give_wish P, revoke_wish P)

pub drain_wish : (P : ℕ → ClientOp → Type 0) (at : Place) (ws : List RecallNote) (o : Moving) → Wishful P o.state.wish → Wishful P (drain at ws o).state.wish
unfolding drain keeps end_vacuum
drain_wish P at [] o h = h
drain_wish P at (r ∷ rs) o h = grind (arith, h, grant_wish P, yield_wish P, drain_wish P at rs (grant at r.node r.request (end_vacuum o)))

pub drained_wish : (P : ℕ → ClientOp → Type 0) (at : Place) (o : Moving) → Wishful P o.state.wish → Wishful P (drained at o).state.wish
unfolding drained
drained_wish P at o h = grind (arith, h, drain_wish P)

pub satisfied_wish : (P : ℕ → ClientOp → Type 0) (rules : Rules) (call : ℕ) (asked : ClientOp) (o : Moving) → Wishful P o.state.wish → Wishful P (satisfy rules call asked o).state.wish
unfolding performs reply keeps satisfy applies
satisfied_wish P rules call asked o h = grind (arith, h)

pub own_wish : (P : ℕ → ClientOp → Type 0) (rules : Rules) (o : Moving) (w : Option Wish) → Wishful P o.state.wish → Wishful P (satisfy_own rules o w).state.wish
unfolding keeps satisfy_own Wishful
own_wish P rules o w h = grind (arith, h, satisfied_wish P)

pub end_revocation_wish : (P : ℕ → ClientOp → Type 0) (at : Place) (rules : Rules) (o : Moving) → Wishful P o.state.wish → Wishful P (end_revocation at rules o).state.wish
unfolding keeps reaches end_revocation raise
end_revocation_wish P at rules o h = grind (arith, h, own_wish P, drained_wish P)

next_wish : (P : ℕ → ClientOp → Type 0) (at : Place) (o : Moving) → Wishful P o.state.wish → Wishful P (next at o).state.wish
unfolding send performs next next_of
next_wish P at o h = grind (arith, h)

keep_wish : (P : ℕ → ClientOp → Type 0) (at : Place) (rsn : ℕ) (value : List ℕ) (o : Moving) → Wishful P o.state.wish → Wishful P (keep at rsn value o).state.wish
unfolding keeps reaches keep
keep_wish P at rsn value o h = grind (arith, h, next_wish P)

opened_wish : (P : ℕ → ClientOp → Type 0) (at : Place) (o : Moving) → Wishful P o.state.wish → Wishful P (opened at o).state.wish
unfolding keeps opened open_of
opened_wish P at o h = grind (arith, h)

enqueue_wish : (P : ℕ → ClientOp → Type 0) (at : Place) (w : Waiter) (o : Moving) (ws : List Waiter) → Wishful P o.state.wish → Wishful P (enqueue at w o ws).state.wish
unfolding keeps enqueue
enqueue_wish P at w o ws h = grind (arith, h, next_wish P)

pass_again_wish : (P : ℕ → ClientOp → Type 0) (at : Place) (e : Entry) (o : Moving) → Wishful P o.state.wish → Wishful P (pass_again at e o).state.wish
unfolding send performs pass_again
pass_again_wish P at e o h = grind (arith, h)

call_of_wish : (P : ℕ → ClientOp → Type 0) (at : Place) (n request : ℕ) (k : CallKind) (o : Moving) (e : Option Entry) → Wishful P o.state.wish → Wishful P (on_call_of at n request k o e).state.wish
unfolding on_call_of
call_of_wish P at n request k o e h = grind (arith, h, pass_again_wish P, next_wish P, enqueue_wish P)

call_wish : (P : ℕ → ClientOp → Type 0) (at : Place) (n request : ℕ) (k : CallKind) (o : Moving) → Wishful P o.state.wish → Wishful P (on_call at n request k o).state.wish
unfolding keeps on_call called end_vacuum
call_wish P at n request k o h = grind (arith, h, call_of_wish P, opened_wish P)

pub handle_wish : (P : ℕ → ClientOp → Type 0) (at : Place) (r : RecallNote) (o : Moving) → Wishful P o.state.wish → Wishful P (handle at r o).state.wish
unfolding keeps handle end_vacuum
handle_wish P at r o h = grind (arith, h, grant_wish P, yield_wish P)

recall_wish : (P : ℕ → ClientOp → Type 0) (at : Place) (r : RecallNote) (o : Moving) → Wishful P o.state.wish → Wishful P (on_recall at r o).state.wish
unfolding send performs keeps on_recall recalled wait
recall_wish P at r o h = grind (arith, h, handle_wish P)

hand_on_wish : (P : ℕ → ClientOp → Type 0) (at : Place) (rsn : ℕ) (value : List ℕ) (o : Moving) (ws : List Waiter) → Wishful P o.state.wish → Wishful P (hand_on at rsn value o ws).state.wish
unfolding send performs keeps reaches hand_on
hand_on_wish P at rsn value o ws h = grind (arith, h, keep_wish P, next_wish P)

on_give_wish : (P : ℕ → ClientOp → Type 0) (at : Place) (x rsn : ℕ) (value : List ℕ) (o : Moving) → Wishful P o.state.wish → Wishful P (on_give at x rsn value o).state.wish
unfolding on_give on_give_of
on_give_wish P at x rsn value o h = grind (arith, h, hand_on_wish P)

pub take_wish : (P : ℕ → ClientOp → Type 0) (at : Place) (rules : Rules) (rsn : ℕ) (value : List ℕ) (o : Moving) → Wishful P o.state.wish → Wishful P (accept at rules rsn value o).state.wish
unfolding keeps reaches accept becomes satisfy_wish Wishful
take_wish P at rules rsn value o h = grind (arith, h, satisfied_wish P, drained_wish P)

pass_wish : (P : ℕ → ClientOp → Type 0) (at : Place) (rules : Rules) (request rsn : ℕ) (value : List ℕ) (o : Moving) → Wishful P o.state.wish → Wishful P (on_pass at rules request rsn value o).state.wish
unfolding send performs keeps on_pass refuse
pass_wish P at rules request rsn value o h = grind (arith, h, take_wish P)

on_refuse_wish : (P : ℕ → ClientOp → Type 0) (at : Place) (n request rsn : ℕ) (o : Moving) → Wishful P o.state.wish → Wishful P (on_refuse at n request rsn o).state.wish
unfolding on_refuse on_refuse_of
on_refuse_wish P at n request rsn o h = grind (arith, h, keep_wish P)

on_grant_wish : (P : ℕ → ClientOp → Type 0) (at : Place) (n request rsn : ℕ) (value : List ℕ) (o : Moving) → Wishful P o.state.wish → Wishful P (on_grant at n request rsn value o).state.wish
unfolding send performs reply keeps reaches Wishful on_grant read_granted
on_grant_wish P at n request rsn value o h = grind (arith, h)

on_done_wish : (P : ℕ → ClientOp → Type 0) (at : Place) (n request : ℕ) (o : Moving) → Wishful P o.state.wish → Wishful P (on_done at n request o).state.wish
unfolding keeps on_done on_done_of
on_done_wish P at n request o h = grind (arith, h, next_wish P)

either_wish : (P : ℕ → ClientOp → Type 0) (b : Bool) (x y : Moving) → Wishful P x.state.wish → Wishful P y.state.wish → Wishful P (cond b x y).state.wish
either_wish P true x y h k = h
either_wish P false x y h k = k

asked_anew : (P : ℕ → ClientOp → Type 0) (w : Wish) (r : ℕ) → Wishful P (Some w) → Wishful P (Some (record w { request = r }))
unfolding Wishful
asked_anew P w r h = h

on_revoke_of_wish : (P : ℕ → ClientOp → Type 0) (at : Place) (n rsn : ℕ) (o : Moving) (w : Option Wish) → o.state.wish ≡ w → Wishful P w → Wishful P (on_revoke_of at n rsn o w).state.wish
unfolding send performs keeps reaches renew on_revoke_of acknowledge
on_revoke_of_wish P at n rsn o None e h = subst (λ (x : Option Wish). Wishful P x) (sym e) h
on_revoke_of_wish P at n rsn o (Some w) e h =
    either_wish P (is_read_kind (kind_of at.readonly w.op)) _ _ (asked_anew P w o.next h) (subst (λ (x : Option Wish). Wishful P x) (sym e) h)

on_revoke_wish : (P : ℕ → ClientOp → Type 0) (at : Place) (n rsn : ℕ) (o : Moving) → Wishful P o.state.wish → Wishful P (on_revoke at n rsn o).state.wish
unfolding on_revoke
on_revoke_wish P at n rsn o h = on_revoke_of_wish P at n rsn o o.state.wish refl h

on_revokeack_wish : (P : ℕ → ClientOp → Type 0) (at : Place) (rules : Rules) (n rsn : ℕ) (o : Moving) → Wishful P o.state.wish → Wishful P (on_revokeack at rules n rsn o).state.wish
unfolding keeps on_revokeack acknowledged
on_revokeack_wish P at rules n rsn o h = grind (arith, h, end_revocation_wish P)

on_vstore_wish : (P : ℕ → ClientOp → Type 0) (at : Place) (n rsn : ℕ) (o : Moving) → Wishful P o.state.wish → Wishful P (on_vstore at n rsn o).state.wish
unfolding send performs keeps on_vstore
on_vstore_wish P at n rsn o h = grind (arith, h)

on_vdelete_wish : (P : ℕ → ClientOp → Type 0) (at : Place) (n rsn : ℕ) (o : Moving) → Wishful P o.state.wish → Wishful P (on_vdelete at n rsn o).state.wish
unfolding send performs keeps on_vdelete
on_vdelete_wish P at n rsn o h = grind (arith, h)

finish_wish : (P : ℕ → ClientOp → Type 0) (rsn : ℕ) (o : Moving) → Wishful P o.state.wish → Wishful P (finish rsn o).state.wish
unfolding performs reaches finish
finish_wish P rsn o h = grind (arith, h)

on_vstored_wish : (P : ℕ → ClientOp → Type 0) (at : Place) (n rsn : ℕ) (o : Moving) → Wishful P o.state.wish → Wishful P (on_vstored at n rsn o).state.wish
unfolding keeps on_vstored on_vstored_of
on_vstored_wish P at n rsn o h = grind (arith, h, send_all_wish P)

on_vdeleted_wish : (P : ℕ → ClientOp → Type 0) (n rsn : ℕ) (o : Moving) → Wishful P o.state.wish → Wishful P (on_vdeleted n rsn o).state.wish
unfolding keeps on_vdeleted on_vdeleted_of
on_vdeleted_wish P n rsn o h = grind (arith, h, finish_wish P)

call_for_wish : (P : ℕ → ClientOp → Type 0) (at : Place) (call : ℕ) (asked : ClientOp) (o : Moving) → P call asked → Wishful P o.state.wish → Wishful P (call_for at call asked o).state.wish
unfolding send performs reply keeps reaches Wishful call_for
call_for_wish P at call asked o own h = grind (arith, h, own)

wait_wish : (P : ℕ → ClientOp → Type 0) (at : Place) (call : ℕ) (asked : ClientOp) (o : Moving) → P call asked → Wishful P o.state.wish → Wishful P (wait_for_copies at call asked o).state.wish
unfolding keeps wait_for_copies Wishful
wait_wish P at call asked o own h = grind (arith, h, own, revoke_wish P)

want_of_wish : (P : ℕ → ClientOp → Type 0) (at : Place) (rules : Rules) (call : ℕ) (asked : ClientOp) (o : Moving) → P call asked → Wishful P o.state.wish → Wishful P (want_of at rules call asked o).state.wish
unfolding reply performs want_of
want_of_wish P at rules call asked o own h = grind (arith, h, own, satisfied_wish P, wait_wish P at call asked o own h, call_for_wish P at call asked o own h)

pub home_opened_wish : (P : ℕ → ClientOp → Type 0) (at : Place) (o : Moving) → Wishful P o.state.wish → Wishful P (opened_at_home at o).state.wish
unfolding keeps opened_at_home end_vacuum
home_opened_wish P at o h = grind (arith, h, opened_wish P)

pub want_wish : (P : ℕ → ClientOp → Type 0) (at : Place) (rules : Rules) (call : ℕ) (asked : ClientOp) (o : Moving) → P call asked → Wishful P o.state.wish → Wishful P (want at rules call asked o).state.wish
unfolding want
want_wish P at rules call asked o own h = want_of_wish P at rules call asked (opened_at_home at o) own (home_opened_wish P at o h)

pub store_wish : (P : ℕ → ClientOp → Type 0) (call : ℕ) (v : List ℕ) (o : Moving) → Wishful P o.state.wish → Wishful P (store call v o).state.wish
unfolding reply performs keeps store
store_wish P call v o h = grind (arith, h)

pub release_wish : (P : ℕ → ClientOp → Type 0) (call : ℕ) (o : Moving) → Wishful P o.state.wish → Wishful P (release call o).state.wish
unfolding reply performs keeps release
release_wish P call o h = grind (arith, h)

pub unlock_wish : (P : ℕ → ClientOp → Type 0) (at : Place) (call : ℕ) (o : Moving) → Wishful P o.state.wish → Wishful P (unlock at call o).state.wish
unfolding unlock
unlock_wish P at call o h = grind (arith, h, drained_wish P, release_wish P)

begin_wish : (P : ℕ → ClientOp → Type 0) (at : Place) (o : Moving) (ns : List ℕ) → Wishful P o.state.wish → Wishful P (begin_vacuum at o ns).state.wish
unfolding keeps reaches begin_vacuum
begin_wish P at o ns h = grind (arith, h, finish_wish P, send_all_wish P)

pub vacuum_wish : (P : ℕ → ClientOp → Type 0) (at : Place) (ns : List ℕ) (o : Moving) → Wishful P o.state.wish → Wishful P (vacuum at ns o).state.wish
unfolding vacuum vacuum_at_home
vacuum_wish P at ns o h = grind (arith, h, begin_wish P, send_all_wish P, give_wish P)

home_wish : (P : ℕ → ClientOp → Type 0) (at : Place) (o p : Moving) → Wishful P o.state.wish → Wishful P p.state.wish → Wishful P (at_home at p o).state.wish
unfolding at_home
home_wish P at o p h f = grind (arith, h, f)

from_wish : (P : ℕ → ClientOp → Type 0) (at : Place) (n : ℕ) (o p : Moving) → Wishful P o.state.wish → Wishful P p.state.wish → Wishful P (from_home at n p o).state.wish
unfolding from_home
from_wish P at n o p h f = grind (arith, h, f)

-- a message that comes leaves the call that waits, or no call
pub arrive_wish : (P : ℕ → ClientOp → Type 0) (at : Place) (rules : Rules) (n : ℕ) (m : Msg) (o : Moving) → Wishful P o.state.wish → Wishful P (arrive at rules n m o).state.wish
unfolding arrive
arrive_wish P at rules n (msg.Call db key request k) o h = home_wish P at o _ h (call_wish P at n request k o h)
arrive_wish P at rules n (msg.Recall db key least node request k) o h = from_wish P at n o _ h (recall_wish P at (record { least = least; node = node; request = request; kind = k }) o h)
arrive_wish P at rules n (msg.Give db key rsn value) o h = home_wish P at o _ h (on_give_wish P at n rsn value o h)
arrive_wish P at rules n (msg.Pass db key request rsn value) o h = from_wish P at n o _ h (pass_wish P at rules request rsn value o h)
arrive_wish P at rules n (msg.Refuse db key request rsn) o h = home_wish P at o _ h (on_refuse_wish P at n request rsn o h)
arrive_wish P at rules n (msg.Grant db key request rsn value) o h = on_grant_wish P at n request rsn value o h
arrive_wish P at rules n (msg.Done db key node request) o h = home_wish P at o _ h (on_done_wish P at node request o h)
arrive_wish P at rules n (msg.Revoke db key rsn) o h = on_revoke_wish P at n rsn o h
arrive_wish P at rules n (msg.RevokeAck db key rsn) o h = on_revokeack_wish P at rules n rsn o h
arrive_wish P at rules n (msg.VStore db key rsn) o h = from_wish P at n o _ h (on_vstore_wish P at n rsn o h)
arrive_wish P at rules n (msg.VStored db key rsn) o h = home_wish P at o _ h (on_vstored_wish P at n rsn o h)
arrive_wish P at rules n (msg.VDelete db key rsn) o h = from_wish P at n o _ h (on_vdelete_wish P at n rsn o h)
arrive_wish P at rules n (msg.VDeleted db key rsn) o h = home_wish P at o _ h (on_vdeleted_wish P n rsn o h)
arrive_wish P at rules n _ o h = h

-- ---- what asks again

again_wish : (P : ℕ → ClientOp → Type 0) (rules : Rules) (at : Place) (o : Moving) (w : Option Wish) → o.state.wish ≡ w → Wishful P w → Wishful P o.state.wish → Wishful P (want_again_of at rules o w).state.wish
unfolding want_again_of keeps Wishful
again_wish P rules at o None is h k = k
again_wish P rules at o (Some w) is h k = want_wish P at rules w.call w.op (record o { state = record o.state { wish = None } }) h tt

pub want_again_wish : (P : ℕ → ClientOp → Type 0) (rules : Rules) (at : Place) (o : Moving) → Wishful P o.state.wish → Wishful P (want_again rules at o).state.wish
unfolding want_again
want_again_wish P rules at o h = again_wish P rules at o o.state.wish refl h h

again_called_wish : (P : ℕ → ClientOp → Type 0) (at : Place) (o : Moving) (w : Option Wish) → Wishful P o.state.wish → Wishful P (call_again_of at o w).state.wish
unfolding call_again_of send performs
again_called_wish P at o None h = h
again_called_wish P at o (Some w) h = grind (arith, h)

pub call_again_wish : (P : ℕ → ClientOp → Type 0) (at : Place) (o : Moving) → Wishful P o.state.wish → Wishful P (call_again at o).state.wish
unfolding call_again
call_again_wish P at o h = again_called_wish P at o o.state.wish h

again_revoked_wish : (P : ℕ → ClientOp → Type 0) (at : Place) (o : Moving) (r : Option Revocation) → Wishful P o.state.wish → Wishful P (revoke_again_of at o r).state.wish
unfolding revoke_again_of
again_revoked_wish P at o None h = h
again_revoked_wish P at o (Some r) h = rw (send_all_same r.missing (msg.Revoke at.db at.key r.rsn) o) h

pub revoke_again_wish : (P : ℕ → ClientOp → Type 0) (at : Place) (o : Moving) → Wishful P o.state.wish → Wishful P (revoke_again at o).state.wish
unfolding revoke_again
revoke_again_wish P at o h = again_revoked_wish P at o o.state.tracking.revoking h
