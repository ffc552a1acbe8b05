-- The calls of the lock and of the wish keep numbers below 2^62: every event keeps this.
use Rattle.std.proofs.Common.{◌≡◌, ℕ, ◌+◌, ◌<◌, ◌^◌, Bool, true, false, cond, List, [], ◌∷◌, Option, Some, None, refl, subst, arith, Ok, Err}
use Rattle.std.specs.Prelude.{Result, nat_lt, ◌&&◌, ◌||◌}
use Rattle.ct_values.specs.Words.{is_nil}
use Rattle.ct_values.specs.Client.{is_read}
use Rattle.ct_call.specs.Rules.{Rules}
use Rattle.ct_call.specs.declared.fault.CallFault.{CallFault}
use Rattle.ct_call.specs.declared.fault.CallFault.TheVariants as fault
use Rattle.ct_tracking.specs.Tracked.{Revocation}
use Rattle.ct_tracking.specs.Vacuum.{Vacuuming}
use Rattle.ct_frame.specs.declared.frame.CallKind.{CallKind}
use Rattle.ct_frame.specs.declared.frame.Msg.{Msg}
use Rattle.ct_frame.specs.declared.frame.Msg.TheVariants as msg
use Rattle.ct_values.specs.declared.client.Answer.{Answer}
use Rattle.ct_values.specs.declared.client.Answer.TheVariants as answer
use Rattle.ct_values.specs.declared.client.ClientOp.{ClientOp}
use Rattle.ct_values.specs.declared.client.ClientOp.TheVariants as op
use Rattle.ct_rules.specs.State.{rank, rsn_of, value_of, is_mastered, is_given, is_free, is_for_reading}
use Rattle.ct_rules.specs.Parts.{Moving, performs, send, send_all, reply, keeps, reaches, opened, open_of, end_vacuum, give, applies, satisfy, revoke, read_here, delegate, grant, yield_record, drain, drained, satisfy_own, raise, end_revocation, next, next_of, keep, call_for, wait_for_copies, want_of, opened_at_home, want}
use Rattle.ct_rules.specs.Messages.{pass_again, enqueue, on_call_of, called, on_call, wait, handle, recalled, on_recall, hand_on, on_give_of, on_give, satisfy_wish, becomes, accept, refuse, on_pass, on_refuse_of, on_refuse, read_granted, on_grant, on_done_of, on_done, acknowledge, renew, on_revoke_of, on_revoke, acknowledged, on_revokeack, on_vstore, on_vdelete, finish, on_vstored_of, on_vstored, on_vdeleted_of, on_vdeleted}
use Rattle.ct_rules.specs.Moves.{store, release, unlock, begin_vacuum, vacuum_at_home, vacuum, call_again_of, call_again, revoke_again_of, revoke_again, at_home, from_home, arrive, move}
use Rattle.ct_law_rules.specs.Form.{HasLowCalls, CallsLow, wishing_call, locking_call}
use Rattle.ct_law_rules.specs.Laws.{KeepsCallsLow, StartsWithLowCalls}
use Rattle.ct_rules.specs.declared.event.MoveEvent.{MoveEvent}
use Rattle.ct_rules.specs.declared.event.MoveEvent.TheVariants as event
use Rattle.ct_rules.specs.declared.event.Place.{Place}
use Rattle.ct_rules.specs.declared.state.Entry.{Entry}
use Rattle.ct_rules.specs.declared.state.RecallNote.{RecallNote}
use Rattle.ct_rules.specs.declared.state.RecState.{RecState}
use Rattle.ct_rules.specs.declared.state.Waiter.{Waiter}
use Rattle.ct_rules.specs.declared.state.Wish.{Wish}
use Rattle.ct_law_rules.proofs.Formed.{send_all_rest}

-- the middle of a step: both calls have numbers below 2^62
unfoldable pub Low : Moving → Type 0
Low o = HasLowCalls o.state.locked o.state.wish

pub low_at_start : StartsWithLowCalls
unfolding wishing_call locking_call
low_at_start = record { lock_limit = omega arith; wish_limit = omega arith }

-- ---- the parts that leave both as they are

if_low : (b : Bool) (x y : Moving) → Low x → Low y → Low (cond b x y)
if_low true x y p q = p
if_low false x y p q = q

send_low : (n : ℕ) (m : Msg) (o : Moving) → Low o → Low (send n m o)
unfolding Low send performs
send_low n m o h = h

send_all_low : (ns : List ℕ) (m : Msg) (o : Moving) → Low o → Low (send_all ns m o)
unfolding send_all
send_all_low [] m o h = h
send_all_low (n ∷ ns) m o h = send_all_low ns m (send n m o) (send_low n m o h)

reply_low : (call : ℕ) (a : Answer) (o : Moving) → Low o → Low (reply call a o)
unfolding Low reply performs
reply_low call a o h = h

next_low : (at : Place) (o : Moving) → Low o → Low (next at o)
unfolding Low next next_of send performs
next_low at o h = grind arith

keep_low : (at : Place) (rsn : ℕ) (value : List ℕ) (o : Moving) → Low o → Low (keep at rsn value o)
unfolding Low keep reaches keeps next next_of send performs
keep_low at rsn value o h = grind arith

opened_low : (at : Place) (o : Moving) → Low o → Low (opened at o)
unfolding Low opened open_of keeps
opened_low at o h = grind arith

ended_low : (o : Moving) → Low o → Low (end_vacuum o)
unfolding Low end_vacuum keeps
ended_low o h = h

give_low : (at : Place) (o : Moving) → Low o → Low (give at o)
unfolding Low give send performs keeps
give_low at o h = h

revoke_low : (at : Place) (o : Moving) → Low o → Low (revoke at o)
unfolding Low revoke keeps
revoke_low at o h = grind (arith, send_all_rest)

waiting_low : (ws : List RecallNote) (o : Moving) → Low o → Low (keeps (record o.state { waiting = ws }) o)
unfolding Low keeps
waiting_low ws o h = h

still_low : (ws : List RecallNote) (o : Moving) → Low o → Low (keeps (record o.state { waiting = ws; vacuum = None }) o)
unfolding Low keeps
still_low ws o h = h

yield_low : (at : Place) (o : Moving) → Low o → Low (yield_record at o)
unfolding yield_record
yield_low at o h = if_low _ _ _ (give_low at o h) (revoke_low at o h)

-- ---- the wish is cleared, and its call has the lock or an answer

unwished_low : (o : Moving) → Low o → Low (keeps (record o.state { wish = None }) o)
unfolding Low keeps wishing_call
unwished_low o h = record { lock_limit = h.lock_limit; wish_limit = omega arith }

read_here_low : (at : Place) (request : ℕ) (o : Moving) (w : Option Wish) → Low o → Low (read_here at request o w)
unfolding read_here
read_here_low at request o None h = h
read_here_low at request o (Some w) h = if_low _ _ _ (reply_low _ _ _ (unwished_low o h)) h

delegate_low : (at : Place) (node request : ℕ) (o : Moving) → Low o → Low (delegate at node request o)
unfolding Low delegate send performs keeps
delegate_low at node request o h = h

grant_low : (at : Place) (node request : ℕ) (o : Moving) → Low o → Low (grant at node request o)
unfolding grant
grant_low at node request o h = send_low _ _ _ (if_low _ _ _ (read_here_low at request o o.state.wish h) (delegate_low at node request o h))

drain_low : (at : Place) (ws : List RecallNote) (o : Moving) → Low o → Low (drain at ws o)
unfolding drain
drain_low at [] o h = waiting_low [] o h
drain_low at (r ∷ rs) o h = if_low _ _ _
    (if_low _ _ _
    (drain_low at rs (grant at r.node r.request (end_vacuum o)) (grant_low at r.node r.request (end_vacuum o) (ended_low o h)))
    (yield_low at _ (still_low (r ∷ rs) o h)))
    (waiting_low (r ∷ rs) o h)

drained_low : (at : Place) (o : Moving) → Low o → Low (drained at o)
unfolding drained
drained_low at o h = drain_low at o.state.waiting o h

applies_low : (call : ℕ) (o : Moving) (r : Result (List ℕ) CallFault) → Low o → Low (applies call o r)
unfolding Low applies reply performs keeps
applies_low call o (Ok v) h = h
applies_low call o (Err (fault.TooLong n)) h = h
applies_low call o (Err fault.NoSuchCall) h = h
applies_low call o (Err fault.NoMemory) h = h

locked_low : (call : ℕ) (o : Moving) → call < 2 ^ 62 → Low o → Low (keeps (record o.state { locked = Some call }) o)
unfolding Low keeps locking_call
locked_low call o low h = record { lock_limit = low; wish_limit = h.wish_limit }

written_low : (copy : RecState) (o : Moving) → copy.locked ≡ o.state.locked → copy.wish ≡ o.state.wish → Low o → Low (keeps copy o)
unfolding Low keeps
written_low copy o l w h = grind arith

satisfy_low : (rules : Rules) (call : ℕ) (asked : ClientOp) (o : Moving) → call < 2 ^ 62 → Low o → Low (satisfy rules call asked o)
unfolding satisfy
satisfy_low rules call (op.Lock db key) o low h = reply_low _ _ _ (locked_low call o low h)
satisfy_low rules call (op.Read db key) o low h = reply_low _ _ o h
satisfy_low rules call (op.Write db key v) o low h = reply_low _ _ _ (written_low _ o refl refl h)
satisfy_low rules call (op.Apply db key f arg) o low h = applies_low call o _ h
satisfy_low rules call (op.Store db key v) o low h = h
satisfy_low rules call (op.Unlock db key) o low h = h
satisfy_low rules call (op.Commit db writes) o low h = h

call_of : (o : Moving) (w : Wish) → o.state.wish ≡ Some w → Low o → w.call < 2 ^ 62
unfolding Low wishing_call
call_of o w is h = subst (λ (x : Option Wish). wishing_call x < 2 ^ 62) is h.wish_limit

satisfy_own_low : (rules : Rules) (o : Moving) (w : Option Wish) → o.state.wish ≡ w → Low o → Low (satisfy_own rules o w)
unfolding satisfy_own
satisfy_own_low rules o None is h = h
satisfy_own_low rules o (Some w) is h = if_low _ _ _ (satisfy_low rules w.call w.op _ (call_of o w is h) (unwished_low o h)) h

satisfy_wish_low : (rules : Rules) (o : Moving) (w : Option Wish) → o.state.wish ≡ w → Low o → Low (satisfy_wish rules o w)
unfolding satisfy_wish
satisfy_wish_low rules o None is h = h
satisfy_wish_low rules o (Some w) is h = satisfy_low rules w.call w.op _ (call_of o w is h) (unwished_low o h)

raise_low : (o : Moving) → Low o → Low (raise o)
unfolding Low raise reaches keeps
raise_low o h = h

raise_wish : (o : Moving) → (raise o).state.wish ≡ o.state.wish
unfolding raise reaches keeps
raise_wish o = refl

end_revocation_low : (at : Place) (rules : Rules) (o : Moving) → Low o → Low (end_revocation at rules o)
unfolding end_revocation
end_revocation_low at rules o h = drained_low at _ (satisfy_own_low rules (raise o) o.state.wish (raise_wish o) (raise_low o h))

-- ---- every message

call_of_low : (at : Place) (n request : ℕ) (k : CallKind) (o : Moving) (e : Option Entry) → Low o → Low (on_call_of at n request k o e)
unfolding Low on_call_of pass_again enqueue next next_of send performs keeps
call_of_low at n request k o e h = grind arith

call_low : (at : Place) (n request : ℕ) (k : CallKind) (o : Moving) → Low o → Low (on_call at n request k o)
unfolding on_call called
call_low at n request k o h = if_low _ _ _ h (call_of_low at n request k _ _ (ended_low _ (opened_low at o h)))

wait_low : (r : RecallNote) (o : Moving) → Low o → Low (wait r o)
unfolding wait
wait_low r o h = if_low _ _ _ h (waiting_low _ o h)

handle_low : (at : Place) (r : RecallNote) (o : Moving) → Low o → Low (handle at r o)
unfolding handle
handle_low at r o h = if_low _ _ _ (grant_low at r.node r.request _ (ended_low o h)) (yield_low at _ (still_low _ o h))

recalled_low : (at : Place) (r : RecallNote) (o : Moving) → Low o → Low (recalled at r o)
unfolding recalled
recalled_low at r o h = if_low (nat_lt r.least (rank o.state.copy)) _ _
    (if_low (is_mastered at.me o.state.copy) _ _
    (if_low (is_free at.me o.state) _ _ (handle_low at r o h) (wait_low r o h))
    (if_low (is_given o.state.copy) _ _ (send_low at.lmaster (msg.Give at.db at.key (rsn_of o.state.copy) (value_of o.state.copy)) o h) h))
    (wait_low r o h)

recall_low : (at : Place) (r : RecallNote) (o : Moving) → Low o → Low (on_recall at r o)
unfolding on_recall
recall_low at r o h = if_low _ _ _ h (recalled_low at r o h)

handed_low : (e : Option Entry) (ws : List Waiter) (n : ℕ) (o : Moving) → Low o → Low (reaches n (keeps (record o.state { entry = e; queue = ws }) o))
unfolding Low reaches keeps
handed_low e ws n o h = h

hand_on_low : (at : Place) (rsn : ℕ) (value : List ℕ) (o : Moving) (ws : List Waiter) → Low o → Low (hand_on at rsn value o ws)
unfolding hand_on
hand_on_low at rsn value o [] h = keep_low at (rsn + 1) value o h
hand_on_low at rsn value o (w ∷ ws) h = if_low _ _ _ (keep_low at (rsn + 1) value o h) (next_low at _ (send_low _ _ _ (handed_low _ ws (rsn + 1) o h)))

give_of_low : (at : Place) (x rsn : ℕ) (value : List ℕ) (o : Moving) (e : Option Entry) → Low o → Low (on_give_of at x rsn value o e)
unfolding on_give_of
give_of_low at x rsn value o None h = h
give_of_low at x rsn value o (Some e) h = if_low _ _ _ (hand_on_low at rsn value o o.state.queue h) h

refuse_of_low : (at : Place) (n request rsn : ℕ) (o : Moving) (e : Option Entry) → Low o → Low (on_refuse_of at n request rsn o e)
unfolding on_refuse_of
refuse_of_low at n request rsn o None h = h
refuse_of_low at n request rsn o (Some e) h = if_low _ _ _ (keep_low at (rsn + 2) e.value o h) h

becomes_low : (at : Place) (rsn : ℕ) (value : List ℕ) (o : Moving) → Low o → Low (becomes at rsn value o)
unfolding Low becomes reaches keeps
becomes_low at rsn value o h = h

becomes_wish : (at : Place) (rsn : ℕ) (value : List ℕ) (o : Moving) → (becomes at rsn value o).state.wish ≡ o.state.wish
unfolding becomes reaches keeps
becomes_wish at rsn value o = refl

pass_low : (at : Place) (rules : Rules) (request rsn : ℕ) (value : List ℕ) (o : Moving) → Low o → Low (on_pass at rules request rsn value o)
unfolding on_pass accept refuse
pass_low at rules request rsn value o h = if_low _ _ _ h (if_low _ _ _
    (drained_low at _ (satisfy_wish_low rules (becomes at (rsn + 1) value o) o.state.wish (becomes_wish at (rsn + 1) value o) (becomes_low at (rsn + 1) value o h)))
    (send_low _ _ _ (waiting_low [] o h)))

read_granted_low : (request : ℕ) (o : Moving) (w : Option Wish) (value : List ℕ) → Low o → Low (read_granted request o w value)
unfolding read_granted
read_granted_low request o None value h = h
read_granted_low request o (Some w) value h = reply_low _ _ _ (unwished_low o h)

on_grant_low : (at : Place) (n request rsn : ℕ) (value : List ℕ) (o : Moving) → Low o → Low (on_grant at n request rsn value o)
unfolding on_grant
on_grant_low at n request rsn value o h = if_low _ _ _ (read_granted_low request _ o.state.wish value (written_low _ o refl refl h)) h

done_of_low : (at : Place) (n request : ℕ) (o : Moving) (ws : List Waiter) → Low o → Low (on_done_of at n request o ws)
unfolding on_done_of
done_of_low at n request o [] h = h
done_of_low at n request o (w ∷ ws) h = if_low _ _ _ (next_low at _ (written_low _ o refl refl h)) h

acknowledge_low : (at : Place) (n rsn : ℕ) (o : Moving) → Low o → Low (acknowledge at n rsn o)
unfolding acknowledge
acknowledge_low at n rsn o h = send_low _ _ _ (written_low _ o refl refl h)

renew_low : (o : Moving) (w : Wish) → o.state.wish ≡ Some w → Low o → Low (renew w o)
unfolding Low renew reaches wishing_call
renew_low o w is h = record { lock_limit = h.lock_limit; wish_limit = subst (λ (x : Option Wish). wishing_call x < 2 ^ 62) is h.wish_limit }

revoke_of_low : (at : Place) (n rsn : ℕ) (o : Moving) (w : Option Wish) → o.state.wish ≡ w → Low o → Low (on_revoke_of at n rsn o w)
unfolding on_revoke_of
revoke_of_low at n rsn o None is h = acknowledge_low at n rsn o h
revoke_of_low at n rsn o (Some w) is h = if_low _ _ _ (send_low _ _ _ (acknowledge_low at n rsn _ (renew_low o w is h))) (acknowledge_low at n rsn o h)

on_revokeack_low : (at : Place) (rules : Rules) (n rsn : ℕ) (o : Moving) → Low o → Low (on_revokeack at rules n rsn o)
unfolding on_revokeack acknowledged
on_revokeack_low at rules n rsn o h = (let k = written_low _ o refl refl h in if_low _ _ _ (end_revocation_low at rules _ k) k)

on_vstore_low : (at : Place) (n rsn : ℕ) (o : Moving) → Low o → Low (on_vstore at n rsn o)
unfolding on_vstore
on_vstore_low at n rsn o h = send_low _ _ _ (written_low _ o refl refl h)

on_vdelete_low : (at : Place) (n rsn : ℕ) (o : Moving) → Low o → Low (on_vdelete at n rsn o)
unfolding on_vdelete
on_vdelete_low at n rsn o h = send_low _ _ _ (written_low _ o refl refl h)

finish_low : (rsn : ℕ) (o : Moving) → Low o → Low (finish rsn o)
unfolding Low finish reaches performs
finish_low rsn o h = h

vstored_of_low : (at : Place) (n rsn : ℕ) (o : Moving) (v : Option Vacuuming) → Low o → Low (on_vstored_of at n rsn o v)
unfolding on_vstored_of
vstored_of_low at n rsn o None h = h
vstored_of_low at n rsn o (Some v) h = (let k = written_low _ o refl refl h in if_low _ _ _ (send_all_low _ _ _ k) k)

vdeleted_of_low : (n rsn : ℕ) (o : Moving) (v : Option Vacuuming) → Low o → Low (on_vdeleted_of n rsn o v)
unfolding on_vdeleted_of
vdeleted_of_low n rsn o None h = h
vdeleted_of_low n rsn o (Some v) h = if_low _ _ _ (finish_low rsn o h) (written_low _ o refl refl h)

home_low : (at : Place) (o p : Moving) → Low o → Low p → Low (at_home at p o)
unfolding at_home
home_low at o p h k = if_low _ _ _ k h

from_low : (at : Place) (n : ℕ) (o p : Moving) → Low o → Low p → Low (from_home at n p o)
unfolding from_home
from_low at n o p h k = if_low _ _ _ k h

arrive_low : (at : Place) (rules : Rules) (n : ℕ) (m : Msg) (o : Moving) → Low o → Low (arrive at rules n m o)
unfolding arrive on_give on_refuse on_done on_revoke on_vstored on_vdeleted
arrive_low at rules n (msg.Call db key request k) o h = home_low at o _ h (call_low at n request k o h)
arrive_low at rules n (msg.Recall db key least node request k) o h = from_low at n o _ h (recall_low at (record { least = least; node = node; request = request; kind = k }) o h)
arrive_low at rules n (msg.Give db key rsn value) o h = home_low at o _ h (give_of_low at n rsn value o o.state.entry h)
arrive_low at rules n (msg.Pass db key request rsn value) o h = from_low at n o _ h (pass_low at rules request rsn value o h)
arrive_low at rules n (msg.Refuse db key request rsn) o h = home_low at o _ h (refuse_of_low at n request rsn o o.state.entry h)
arrive_low at rules n (msg.Grant db key request rsn value) o h = on_grant_low at n request rsn value o h
arrive_low at rules n (msg.Done db key node request) o h = home_low at o _ h (done_of_low at node request o o.state.queue h)
arrive_low at rules n (msg.Revoke db key rsn) o h = revoke_of_low at n rsn o o.state.wish refl h
arrive_low at rules n (msg.RevokeAck db key rsn) o h = on_revokeack_low at rules n rsn o h
arrive_low at rules n (msg.VStore db key rsn) o h = from_low at n o _ h (on_vstore_low at n rsn o h)
arrive_low at rules n (msg.VStored db key rsn) o h = home_low at o _ h (vstored_of_low at n rsn o o.state.vacuum h)
arrive_low at rules n (msg.VDelete db key rsn) o h = from_low at n o _ h (on_vdelete_low at n rsn o h)
arrive_low at rules n (msg.VDeleted db key rsn) o h = home_low at o _ h (vdeleted_of_low n rsn o o.state.vacuum h)
arrive_low at rules n _ o h = h

-- ---- every event

wished_low : (call request : ℕ) (asked : ClientOp) (next : ℕ) (o : Moving) → call < 2 ^ 62 → Low o → Low (record o { state = record o.state { wish = Some (record { call = call; request = request; op = asked }) }; next = next })
unfolding Low wishing_call
wished_low call request asked next o low h = record { lock_limit = h.lock_limit; wish_limit = low }

made_low : (n : ℕ) (o : Moving) → Low o → Low (reaches n o)
unfolding Low reaches
made_low n o h = h

call_for_low : (at : Place) (call : ℕ) (asked : ClientOp) (o : Moving) → call < 2 ^ 62 → Low o → Low (call_for at call asked o)
unfolding call_for
call_for_low at call asked o low h = send_low _ _ _ (made_low _ _ (wished_low call o.next asked (o.next + 1) o low h))

wait_for_low : (at : Place) (call : ℕ) (asked : ClientOp) (o : Moving) → call < 2 ^ 62 → Low o → Low (wait_for_copies at call asked o)
unfolding wait_for_copies keeps
wait_for_low at call asked o low h = (let k = wished_low call 0 asked o.next o low h in if_low _ _ _ (revoke_low at _ k) k)

want_of_low : (at : Place) (rules : Rules) (call : ℕ) (asked : ClientOp) (o : Moving) → call < 2 ^ 62 → Low o → Low (want_of at rules call asked o)
unfolding want_of
want_of_low at rules call asked o low h = if_low (is_read asked && (is_mastered at.me o.state.copy || is_for_reading o.state.copy)) _ _
    (reply_low call (answer.Read (value_of o.state.copy)) o h)
    (if_low (is_mastered at.me o.state.copy) _ _ (if_low (is_nil o.state.tracking.tracked) _ _ (satisfy_low rules call asked o low h) (wait_for_low at call asked o low h)) (call_for_low at call asked o low h))

want_low : (at : Place) (rules : Rules) (call : ℕ) (asked : ClientOp) (o : Moving) → call < 2 ^ 62 → Low o → Low (want at rules call asked o)
unfolding want opened_at_home
want_low at rules call asked o low h = want_of_low at rules call asked _ low (if_low _ _ _ (ended_low _ (opened_low at o h)) h)

release_low : (call : ℕ) (o : Moving) → Low o → Low (release call o)
unfolding Low release reply performs keeps locking_call
release_low call o h = record { lock_limit = omega arith; wish_limit = h.wish_limit }

begin_low : (at : Place) (o : Moving) (ns : List ℕ) → Low o → Low (begin_vacuum at o ns)
unfolding begin_vacuum
begin_low at o [] h = finish_low _ o h
begin_low at o (n ∷ ns) h = send_all_low _ _ _ (made_low _ _ (written_low _ o refl refl h))

home_vacuum_low : (at : Place) (others : List ℕ) (o : Moving) (v : Option Vacuuming) → Low o → Low (vacuum_at_home at others o v)
unfolding vacuum_at_home
home_vacuum_low at others o None h = begin_low at o others h
home_vacuum_low at others o (Some v) h = send_all_low _ _ o h

vacuum_low : (at : Place) (others : List ℕ) (o : Moving) → Low o → Low (vacuum at others o)
unfolding vacuum
vacuum_low at others o h = if_low _ _ _ (if_low _ _ _ (home_vacuum_low at others o o.state.vacuum h) (give_low at o h)) h

again_low : (at : Place) (o : Moving) (w : Option Wish) → Low o → Low (call_again_of at o w)
unfolding call_again_of
again_low at o None h = h
again_low at o (Some w) h = if_low _ _ _ h (send_low _ _ o h)

revoke_again_low : (at : Place) (o : Moving) (r : Option Revocation) → Low o → Low (revoke_again_of at o r)
unfolding revoke_again_of
revoke_again_low at o None h = h
revoke_again_low at o (Some r) h = send_all_low _ _ o h

low_after : (at : Place) (rules : Rules) (e : MoveEvent) (o : Moving) → CallsLow e → Low o → Low (move at rules e o)
unfolding CallsLow store unlock revoke_again call_again
low_after at rules (event.Want call asked) o low h = want_low at rules call asked o low h
low_after at rules (event.Store call v) o low h = reply_low _ _ _ (written_low _ o refl refl h)
low_after at rules (event.Unlock call) o low h = drained_low at _ (release_low call o h)
low_after at rules (event.Arrive sender m) o low h = arrive_low at rules sender m o h
low_after at rules (event.Vacuum others) o low h = vacuum_low at others o h
low_after at rules event.Resend o low h = revoke_again_low at _ _ (again_low at o o.state.wish h)

pub move_low : KeepsCallsLow
unfolding Low
move_low at rules e o low h = low_after at rules e o low h
