-- Only a holder tracks nodes, and none while a vacuum runs: every event keeps this.
use Rattle.std.proofs.Common.{◌≡◌, ℕ, ◌+◌, Bool, true, false, cond, List, [], ◌∷◌, Option, Some, None, refl, ap, arith, Ok, Err, ◌&&◌, ◌||◌}
use Rattle.std.proofs.lemmas.Bool.{cond_both, and_parts, eqb-true}
use Rattle.std.specs.Prelude.{is_none, nat_eq, Result}
use Rattle.ct_values.specs.Words.{is_nil}
use Rattle.ct_values.specs.Client.{is_read}
use Rattle.ct_call.specs.Rules.{Rules}
use Rattle.ct_call.specs.declared.fault.CallFault.{CallFault}
use Rattle.ct_call.specs.declared.fault.CallFault.TheVariants as fault
use Rattle.ct_tracking.specs.Tracked.{Revocation}
use Rattle.ct_frame.specs.declared.frame.CallKind.{CallKind}
use Rattle.ct_frame.specs.declared.frame.Msg.{Msg}
use Rattle.ct_frame.specs.declared.frame.Msg.TheVariants as msg
use Rattle.ct_values.specs.declared.client.Answer.{Answer}
use Rattle.ct_values.specs.declared.client.Answer.TheVariants as answer
use Rattle.ct_values.specs.declared.client.ClientOp.{ClientOp}
use Rattle.ct_values.specs.declared.client.ClientOp.TheVariants as op
use Rattle.ct_tracking.specs.Vacuum.{Vacuuming, vacuum_begun, stored, deleted}
use Rattle.ct_rules.specs.State.{rsn_of, is_mastered, is_free, given, with_flags, with_value, risen, is_for_reading, value_of}
use Rattle.ct_rules.specs.Parts.{Moving, performs, send, send_all, reply, keeps, reaches, opened, open_of, end_vacuum, give, applies, satisfy, revoke, read_here, delegate, grant, yield_record, drain, drained, satisfy_own, raise, end_revocation, next, next_of, keep, call_for, wait_for_copies, want_of, opened_at_home, want}
use Rattle.ct_rules.specs.Messages.{pass_again, enqueue, on_call_of, called, on_call, wait, handle, recalled, on_recall, hand_on, on_give_of, on_give, satisfy_wish, becomes, accept, refuse, on_pass, on_refuse_of, on_refuse, read_granted, on_grant, on_done_of, on_done, called_in, acknowledge, renew, on_revoke_of, on_revoke, acknowledged, on_revokeack, stored_copy, deleted_copy, on_vstore, on_vdelete, finish, on_vstored_of, on_vstored, on_vdeleted_of, on_vdeleted}
use Rattle.ct_rules.specs.Moves.{store, release, unlock, is_vacuumed, begin_vacuum, vacuum_at_home, vacuum, call_again_of, call_again, revoke_again_of, revoke_again, at_home, from_home, arrive, move}
use Rattle.ct_law_rules.specs.Laws.{TracksAsHolder, KeepsTracking}
use Rattle.ct_rules.specs.declared.event.MoveEvent.{MoveEvent}
use Rattle.ct_rules.specs.declared.event.MoveEvent.TheVariants as event
use Rattle.ct_rules.specs.declared.event.Place.{Place}
use Rattle.ct_rules.specs.declared.state.Entry.{Entry}
use Rattle.ct_rules.specs.declared.state.RecallNote.{RecallNote}
use Rattle.ct_rules.specs.declared.state.RecState.{RecState}
use Rattle.ct_rules.specs.declared.state.Waiter.{Waiter}
use Rattle.ct_rules.specs.declared.state.Wish.{Wish}
use Rattle.ct_law_rules.proofs.Formed.{send_all_rest}

-- the middle of a step: nodes are tracked as the law says
unfoldable pub Tracks : Place → Moving → Type 0
Tracks at o = TracksAsHolder at o.state.copy o.state.tracking o.state.vacuum

if_tracks : (at : Place) (b : Bool) (x y : Moving) → Tracks at x → Tracks at y → Tracks at (cond b x y)
if_tracks at true x y p q = p
if_tracks at false x y p q = q

send_tracks : (at : Place) (n : ℕ) (m : Msg) (o : Moving) → Tracks at o → Tracks at (send n m o)
unfolding Tracks send performs
send_tracks at n m o h = h

send_all_tracks : (at : Place) (ns : List ℕ) (m : Msg) (o : Moving) → Tracks at o → Tracks at (send_all ns m o)
unfolding send_all
send_all_tracks at [] m o h = h
send_all_tracks at (n ∷ ns) m o h = send_all_tracks at ns m (send n m o) (send_tracks at n m o h)

read_here_tracks : (at : Place) (request : ℕ) (o : Moving) (w : Option Wish) → Tracks at o → Tracks at (read_here at request o w)
unfolding Tracks keeps reply performs read_here
read_here_tracks at request o w h = grind (arith)

delegate_tracks : (at : Place) (node request : ℕ) (o : Moving) → is_mastered at.me o.state.copy ≡ true → is_none o.state.vacuum ≡ true → Tracks at o → Tracks at (delegate at node request o)
unfolding Tracks send performs reply keeps reaches delegate is_mastered with_flags
delegate_tracks at node request o held still h = grind (arith)

grant_tracks : (at : Place) (node request : ℕ) (o : Moving) → is_mastered at.me o.state.copy ≡ true → is_none o.state.vacuum ≡ true → Tracks at o → Tracks at (grant at node request o)
unfolding grant
grant_tracks at node request o held still h = send_tracks at _ _ _ (if_tracks at _ _ _ (read_here_tracks at request o o.state.wish h) (delegate_tracks at node request o held still h))

give_tracks : (at : Place) (o : Moving) → is_nil o.state.tracking.tracked ≡ true → Tracks at o → Tracks at (give at o)
unfolding Tracks give send performs keeps given is_mastered
give_tracks at o none h = grind arith

revoke_tracks : (at : Place) (o : Moving) → Tracks at o → Tracks at (revoke at o)
unfolding Tracks revoke keeps is_mastered with_flags
revoke_tracks at o h = grind (arith, send_all_rest)

yield_tracks : (at : Place) (o : Moving) → Tracks at o → Tracks at (yield_record at o)
unfolding yield_record
yield_tracks at o h = cond_both (is_nil o.state.tracking.tracked) _ _ (Tracks at) (λ none. give_tracks at o none h) (λ _. revoke_tracks at o h)

waiting_tracks : (at : Place) (ws : List RecallNote) (o : Moving) → Tracks at o → Tracks at (keeps (record o.state { waiting = ws }) o)
unfolding Tracks keeps
waiting_tracks at ws o h = h

still_tracks : (at : Place) (ws : List RecallNote) (o : Moving) → Tracks at o → Tracks at (keeps (record o.state { waiting = ws; vacuum = None }) o)
unfolding Tracks keeps
still_tracks at ws o h = grind arith

handle_tracks : (at : Place) (ws : List RecallNote) (o : Moving) → Tracks at o → Tracks at (yield_record at (keeps (record o.state { waiting = ws; vacuum = None }) o))
handle_tracks at ws o h = yield_tracks at _ (still_tracks at ws o h)

ended_tracks : (at : Place) (o : Moving) → Tracks at o → Tracks at (end_vacuum o)
unfolding Tracks end_vacuum keeps
ended_tracks at o h = grind arith

free_held : (me : ℕ) (s : RecState) → is_free me s ≡ true → is_mastered me s.copy ≡ true
unfolding is_free
free_held me s free = grind arith

granted_tracks : (at : Place) (r : RecallNote) (o : Moving) → is_free at.me o.state ≡ true → Tracks at o → Tracks at (grant at r.node r.request (end_vacuum o))
unfolding end_vacuum keeps
granted_tracks at r o free h = grant_tracks at r.node r.request (end_vacuum o) (free_held at.me o.state free) refl (ended_tracks at o h)

drain_tracks : (at : Place) (ws : List RecallNote) (o : Moving) → Tracks at o → Tracks at (drain at ws o)
unfolding drain
drain_tracks at [] o h = waiting_tracks at [] o h
drain_tracks at (r ∷ rs) o h = cond_both (is_free at.me o.state) _ _ (Tracks at)
    (λ free. if_tracks at _ _ _
    (drain_tracks at rs (grant at r.node r.request (end_vacuum o)) (granted_tracks at r o free h))
    (handle_tracks at (r ∷ rs) o h))
    (λ _. waiting_tracks at (r ∷ rs) o h)

pub drained_tracks : (at : Place) (o : Moving) → Tracks at o → Tracks at (drained at o)
unfolding drained
drained_tracks at o h = drain_tracks at o.state.waiting o h

applies_tracks : (at : Place) (call : ℕ) (o : Moving) (r : Result (List ℕ) CallFault) → Tracks at o → Tracks at (applies call o r)
unfolding Tracks applies reply performs keeps is_mastered with_value
applies_tracks at call o (Ok v) h = grind arith
applies_tracks at call o (Err (fault.TooLong n)) h = h
applies_tracks at call o (Err fault.NoSuchCall) h = h
applies_tracks at call o (Err fault.NoMemory) h = h

satisfy_tracks : (at : Place) (rules : Rules) (call : ℕ) (asked : ClientOp) (o : Moving) → Tracks at o → Tracks at (satisfy rules call asked o)
unfolding Tracks satisfy reply performs keeps is_mastered with_value
satisfy_tracks at rules call (op.Lock db key) o h = h
satisfy_tracks at rules call (op.Read db key) o h = h
satisfy_tracks at rules call (op.Write db key v) o h = grind arith
satisfy_tracks at rules call (op.Apply db key f arg) o h = applies_tracks at call o _ h
satisfy_tracks at rules call (op.Store db key v) o h = h
satisfy_tracks at rules call (op.Unlock db key) o h = h
satisfy_tracks at rules call (op.Commit db writes) o h = h

unwished_tracks : (at : Place) (o : Moving) → Tracks at o → Tracks at (keeps (record o.state { wish = None }) o)
unfolding Tracks keeps
unwished_tracks at o h = h

own_tracks : (at : Place) (rules : Rules) (o : Moving) (w : Option Wish) → Tracks at o → Tracks at (satisfy_own rules o w)
unfolding satisfy_own
own_tracks at rules o None h = h
own_tracks at rules o (Some w) h = if_tracks at _ _ _ (satisfy_tracks at rules w.call w.op _ (unwished_tracks at o h)) h

satisfy_wish_tracks : (at : Place) (rules : Rules) (o : Moving) (w : Option Wish) → Tracks at o → Tracks at (satisfy_wish rules o w)
unfolding satisfy_wish
satisfy_wish_tracks at rules o None h = h
satisfy_wish_tracks at rules o (Some w) h = satisfy_tracks at rules w.call w.op _ (unwished_tracks at o h)

raise_tracks : (at : Place) (o : Moving) → Tracks at o → Tracks at (raise o)
unfolding Tracks send performs reply keeps reaches raise
raise_tracks at o h = grind (arith)

end_revocation_tracks : (at : Place) (rules : Rules) (o : Moving) → Tracks at o → Tracks at (end_revocation at rules o)
unfolding end_revocation
end_revocation_tracks at rules o h = drained_tracks at _ (own_tracks at rules (raise o) o.state.wish (raise_tracks at o h))

next_tracks : (at : Place) (o : Moving) → Tracks at o → Tracks at (next at o)
unfolding Tracks send performs reply keeps reaches next next_of
next_tracks at o h = grind (arith)

kept_tracks : (at : Place) (rsn : ℕ) (value : List ℕ) (o : Moving) → at.me ≡ at.lmaster → Tracks at o → Tracks at (keep at rsn value o)
unfolding Tracks keeps reaches keep is_mastered next next_of send performs
kept_tracks at rsn value o home h = grind (arith)

opened_tracks : (at : Place) (o : Moving) → at.me ≡ at.lmaster → Tracks at o → Tracks at (opened at o)
unfolding Tracks keeps opened open_of is_mastered
opened_tracks at o home h = grind (arith)

called_tracks : (at : Place) (n request : ℕ) (k : CallKind) (o : Moving) → Tracks at o → Tracks at (called at n request k o)
unfolding Tracks send performs reply keeps reaches called on_call_of pass_again enqueue next next_of
called_tracks at n request k o h = grind (arith)

call_tracks : (at : Place) (n request : ℕ) (k : CallKind) (o : Moving) → at.me ≡ at.lmaster → Tracks at o → Tracks at (on_call at n request k o)
unfolding on_call
call_tracks at n request k o home h = if_tracks at _ _ _ h (called_tracks at n request k _ (ended_tracks at _ (opened_tracks at o home h)))

wait_tracks : (at : Place) (r : RecallNote) (o : Moving) → Tracks at o → Tracks at (wait r o)
unfolding wait
wait_tracks at r o h = if_tracks at _ _ _ h (waiting_tracks at _ o h)

handled_tracks : (at : Place) (r : RecallNote) (o : Moving) → is_free at.me o.state ≡ true → Tracks at o → Tracks at (handle at r o)
unfolding handle
handled_tracks at r o free h = if_tracks at _ _ _ (granted_tracks at r o free h) (handle_tracks at _ o h)

recalled_tracks : (at : Place) (r : RecallNote) (o : Moving) → Tracks at o → Tracks at (recalled at r o)
unfolding recalled
recalled_tracks at r o h = if_tracks at _ _ _
    (if_tracks at _ _ _
    (cond_both (is_free at.me o.state) _ _ (Tracks at) (λ free. handled_tracks at r o free h) (λ _. wait_tracks at r o h))
    (if_tracks at _ _ _ (send_tracks at _ _ o h) h))
    (wait_tracks at r o h)

recall_tracks : (at : Place) (r : RecallNote) (o : Moving) → Tracks at o → Tracks at (on_recall at r o)
unfolding on_recall
recall_tracks at r o h = if_tracks at _ _ _ h (recalled_tracks at r o h)

handed_tracks : (at : Place) (e : Option Entry) (ws : List Waiter) (n : ℕ) (o : Moving) → Tracks at o → Tracks at (reaches n (keeps (record o.state { entry = e; queue = ws }) o))
unfolding Tracks keeps reaches
handed_tracks at e ws n o h = h

hand_on_tracks : (at : Place) (rsn : ℕ) (value : List ℕ) (o : Moving) (ws : List Waiter) → at.me ≡ at.lmaster → Tracks at o → Tracks at (hand_on at rsn value o ws)
unfolding hand_on
hand_on_tracks at rsn value o [] home h = kept_tracks at (rsn + 1) value o home h
hand_on_tracks at rsn value o (w ∷ ws) home h = if_tracks at _ _ _ (kept_tracks at (rsn + 1) value o home h) (next_tracks at _ (send_tracks at _ _ _ (handed_tracks at _ ws (rsn + 1) o h)))

give_of_tracks : (at : Place) (x rsn : ℕ) (value : List ℕ) (o : Moving) (e : Option Entry) → at.me ≡ at.lmaster → Tracks at o → Tracks at (on_give_of at x rsn value o e)
unfolding on_give_of
give_of_tracks at x rsn value o None home h = h
give_of_tracks at x rsn value o (Some e) home h = if_tracks at _ _ _ (hand_on_tracks at rsn value o o.state.queue home h) h

on_give_tracks : (at : Place) (x rsn : ℕ) (value : List ℕ) (o : Moving) → at.me ≡ at.lmaster → Tracks at o → Tracks at (on_give at x rsn value o)
unfolding on_give
on_give_tracks at x rsn value o home h = give_of_tracks at x rsn value o o.state.entry home h

refuse_of_tracks : (at : Place) (n request rsn : ℕ) (o : Moving) (e : Option Entry) → at.me ≡ at.lmaster → Tracks at o → Tracks at (on_refuse_of at n request rsn o e)
unfolding on_refuse_of
refuse_of_tracks at n request rsn o None home h = h
refuse_of_tracks at n request rsn o (Some e) home h = if_tracks at _ _ _ (kept_tracks at (rsn + 2) e.value o home h) h

on_refuse_tracks : (at : Place) (n request rsn : ℕ) (o : Moving) → at.me ≡ at.lmaster → Tracks at o → Tracks at (on_refuse at n request rsn o)
unfolding on_refuse
on_refuse_tracks at n request rsn o home h = refuse_of_tracks at n request rsn o o.state.entry home h

becomes_tracks : (at : Place) (rsn : ℕ) (value : List ℕ) (o : Moving) → Tracks at o → Tracks at (becomes at rsn value o)
unfolding Tracks keeps reaches becomes
becomes_tracks at rsn value o h = grind (arith)

pass_tracks : (at : Place) (rules : Rules) (request rsn : ℕ) (value : List ℕ) (o : Moving) → Tracks at o → Tracks at (on_pass at rules request rsn value o)
unfolding on_pass accept refuse
pass_tracks at rules request rsn value o h = if_tracks at _ _ _ h (if_tracks at _ _ _ (drained_tracks at _ (satisfy_wish_tracks at rules _ _ (becomes_tracks at (rsn + 1) value o h))) (send_tracks at _ _ _ (waiting_tracks at [] o h)))

on_grant_tracks : (at : Place) (n request rsn : ℕ) (value : List ℕ) (o : Moving) → Tracks at o → Tracks at (on_grant at n request rsn value o)
unfolding Tracks send performs reply keeps reaches on_grant read_granted
on_grant_tracks at n request rsn value o h = grind (arith)

on_done_tracks : (at : Place) (n request : ℕ) (o : Moving) → Tracks at o → Tracks at (on_done at n request o)
unfolding Tracks send performs reply keeps reaches on_done on_done_of next next_of
on_done_tracks at n request o h = grind (arith)

on_revoke_tracks : (at : Place) (n rsn : ℕ) (o : Moving) → Tracks at o → Tracks at (on_revoke at n rsn o)
unfolding Tracks send performs reply keeps reaches on_revoke renew on_revoke_of acknowledge called_in is_mastered
on_revoke_tracks at n rsn o h = grind (arith)

acknowledged_tracks : (at : Place) (n rsn : ℕ) (o : Moving) → Tracks at o → Tracks at (acknowledged n rsn o)
unfolding Tracks keeps acknowledged
acknowledged_tracks at n rsn o h = grind (arith)

on_revokeack_tracks : (at : Place) (rules : Rules) (n rsn : ℕ) (o : Moving) → Tracks at o → Tracks at (on_revokeack at rules n rsn o)
unfolding on_revokeack
on_revokeack_tracks at rules n rsn o h = if_tracks at _ _ _ (end_revocation_tracks at rules _ (acknowledged_tracks at n rsn o h)) (acknowledged_tracks at n rsn o h)

on_vstore_tracks : (at : Place) (n rsn : ℕ) (o : Moving) → Tracks at o → Tracks at (on_vstore at n rsn o)
unfolding Tracks send performs reply keeps reaches on_vstore stored_copy is_mastered
on_vstore_tracks at n rsn o h = grind (arith)

on_vdelete_tracks : (at : Place) (n rsn : ℕ) (o : Moving) → Tracks at o → Tracks at (on_vdelete at n rsn o)
unfolding Tracks send performs reply keeps reaches on_vdelete deleted_copy is_mastered
on_vdelete_tracks at n rsn o h = grind (arith)

finish_tracks : (at : Place) (rsn : ℕ) (o : Moving) → is_nil o.state.tracking.tracked ≡ true → Tracks at o → Tracks at (finish rsn o)
unfolding Tracks send performs reply keeps reaches finish
finish_tracks at rsn o none h = grind (arith)

vacuuming_tracks : (at : Place) (v : Vacuuming) (o : Moving) → is_none o.state.vacuum ≡ false → Tracks at o → Tracks at (keeps (record o.state { vacuum = Some v }) o)
unfolding Tracks keeps
vacuuming_tracks at v o running h = grind arith

vstored_of_tracks : (at : Place) (n rsn : ℕ) (o : Moving) (v : Option Vacuuming) → o.state.vacuum ≡ v → Tracks at o → Tracks at (on_vstored_of at n rsn o v)
unfolding on_vstored_of
vstored_of_tracks at n rsn o None is h = h
vstored_of_tracks at n rsn o (Some v) is h = (let k = vacuuming_tracks at (stored n rsn v) o (ap (λ (x : Option Vacuuming). is_none x) is) h in if_tracks at _ _ _ (send_all_tracks at _ _ _ k) k)

running_untracked : (at : Place) (o : Moving) (v : Vacuuming) → o.state.vacuum ≡ Some v → Tracks at o → is_nil o.state.tracking.tracked ≡ true
unfolding Tracks
running_untracked at o v is h = grind arith

vdeleted_of_tracks : (at : Place) (n rsn : ℕ) (o : Moving) (v : Option Vacuuming) → o.state.vacuum ≡ v → Tracks at o → Tracks at (on_vdeleted_of n rsn o v)
unfolding on_vdeleted_of
vdeleted_of_tracks at n rsn o None is h = h
vdeleted_of_tracks at n rsn o (Some v) is h = if_tracks at _ _ _ (finish_tracks at rsn o (running_untracked at o v is h) h) (vacuuming_tracks at (deleted n rsn v) o (ap (λ (x : Option Vacuuming). is_none x) is) h)

call_for_tracks : (at : Place) (call : ℕ) (asked : ClientOp) (o : Moving) → Tracks at o → Tracks at (call_for at call asked o)
unfolding Tracks send performs reply keeps reaches call_for
call_for_tracks at call asked o h = grind (arith)

own_wish_tracks : (at : Place) (w : Wish) (o : Moving) → Tracks at o → Tracks at (keeps (record o.state { wish = Some w }) o)
unfolding Tracks keeps
own_wish_tracks at w o h = h

wait_for_tracks : (at : Place) (call : ℕ) (asked : ClientOp) (o : Moving) → Tracks at o → Tracks at (wait_for_copies at call asked o)
unfolding wait_for_copies
wait_for_tracks at call asked o h = (let k = own_wish_tracks at (record { call = call; request = 0; op = asked }) o h in if_tracks at _ _ _ (revoke_tracks at _ k) k)

reply_tracks : (at : Place) (call : ℕ) (a : Answer) (o : Moving) → Tracks at o → Tracks at (reply call a o)
unfolding Tracks reply performs
reply_tracks at call a o h = h

want_of_tracks : (at : Place) (rules : Rules) (call : ℕ) (asked : ClientOp) (o : Moving) → Tracks at o → Tracks at (want_of at rules call asked o)
unfolding want_of
want_of_tracks at rules call asked o h = if_tracks at (is_read asked && (is_mastered at.me o.state.copy || is_for_reading o.state.copy)) _ _
    (reply_tracks at call (answer.Read (value_of o.state.copy)) o h)
    (if_tracks at (is_mastered at.me o.state.copy) _ _
    (if_tracks at (is_nil o.state.tracking.tracked) _ _ (satisfy_tracks at rules call asked o h) (wait_for_tracks at call asked o h))
    (call_for_tracks at call asked o h))

opened_home_tracks : (at : Place) (o : Moving) → Tracks at o → Tracks at (opened_at_home at o)
unfolding opened_at_home
opened_home_tracks at o h = cond_both (nat_eq at.me at.lmaster && is_none o.state.locked) _ _ (Tracks at)
    (λ t. ended_tracks at (opened at o) (opened_tracks at o (eqb-true at.me at.lmaster (and_parts (nat_eq at.me at.lmaster) (is_none o.state.locked) t).0) h))
    (λ _. h)

pub want_tracks : (at : Place) (rules : Rules) (call : ℕ) (asked : ClientOp) (o : Moving) → Tracks at o → Tracks at (want at rules call asked o)
unfolding want
want_tracks at rules call asked o h = want_of_tracks at rules call asked _ (opened_home_tracks at o h)

pub store_tracks : (at : Place) (call : ℕ) (v : List ℕ) (o : Moving) → Tracks at o → Tracks at (store call v o)
unfolding Tracks send performs reply keeps reaches store is_mastered with_value
store_tracks at call v o h = grind (arith)

pub release_tracks : (at : Place) (call : ℕ) (o : Moving) → Tracks at o → Tracks at (release call o)
unfolding Tracks send performs reply keeps reaches release
release_tracks at call o h = grind (arith)

vacuumed_untracked : (me : ℕ) (s : RecState) → is_vacuumed me s ≡ true → (is_nil s.tracking.tracked ≡ true) × (is_mastered me s.copy ≡ true)
unfolding is_vacuumed is_free
vacuumed_untracked me s t = (grind arith, grind arith)

begun_tracks : (at : Place) (ns : List ℕ) (o : Moving) → is_nil o.state.tracking.tracked ≡ true → Tracks at o → Tracks at (reaches (rsn_of o.state.copy + 1) (keeps (record o.state { copy = risen o.state.copy; vacuum = Some (vacuum_begun (rsn_of o.state.copy) ns) }) o))
unfolding Tracks reaches keeps
begun_tracks at ns o none h = grind arith

begin_tracks : (at : Place) (o : Moving) (others : List ℕ) → is_nil o.state.tracking.tracked ≡ true → Tracks at o → Tracks at (begin_vacuum at o others)
unfolding begin_vacuum
begin_tracks at o [] none h = finish_tracks at (rsn_of o.state.copy) o none h
begin_tracks at o (n ∷ ns) none h = send_all_tracks at _ _ _ (begun_tracks at (n ∷ ns) o none h)

home_tracks : (at : Place) (others : List ℕ) (o : Moving) (v : Option Vacuuming) → is_nil o.state.tracking.tracked ≡ true → Tracks at o → Tracks at (vacuum_at_home at others o v)
unfolding vacuum_at_home
home_tracks at others o None none h = begin_tracks at o others none h
home_tracks at others o (Some v) none h = send_all_tracks at _ _ o h

pub vacuum_tracks : (at : Place) (others : List ℕ) (o : Moving) → Tracks at o → Tracks at (vacuum at others o)
unfolding vacuum
vacuum_tracks at others o h = cond_both (is_vacuumed at.me o.state) _ _ (Tracks at)
    (λ t. (let none = (vacuumed_untracked at.me o.state t).0 in if_tracks at _ _ _ (home_tracks at others o o.state.vacuum none h) (give_tracks at o none h)))
    (λ _. h)

pub call_again_tracks : (at : Place) (o : Moving) (w : Option Wish) → Tracks at o → Tracks at (call_again_of at o w)
unfolding call_again_of
call_again_tracks at o None h = h
call_again_tracks at o (Some w) h = if_tracks at _ _ _ h (send_tracks at _ _ o h)

pub revoke_again_tracks : (at : Place) (o : Moving) (r : Option Revocation) → Tracks at o → Tracks at (revoke_again_of at o r)
unfolding revoke_again_of
revoke_again_tracks at o None h = h
revoke_again_tracks at o (Some r) h = send_all_tracks at _ _ o h

home_only : (at : Place) (o p : Moving) → Tracks at o → (at.me ≡ at.lmaster → Tracks at p) → Tracks at (at_home at p o)
unfolding at_home
home_only at o p h k = cond_both (nat_eq at.me at.lmaster) _ _ (Tracks at) (λ t. k (eqb-true at.me at.lmaster t)) (λ _. h)

from_only : (at : Place) (n : ℕ) (o p : Moving) → Tracks at o → Tracks at p → Tracks at (from_home at n p o)
unfolding from_home
from_only at n o p h k = if_tracks at _ _ _ k h

pub arrive_tracks : (at : Place) (rules : Rules) (n : ℕ) (m : Msg) (o : Moving) → Tracks at o → Tracks at (arrive at rules n m o)
unfolding arrive on_vstored on_vdeleted
arrive_tracks at rules n (msg.Call db key request k) o h = home_only at o _ h (λ home. call_tracks at n request k o home h)
arrive_tracks at rules n (msg.Recall db key least node request k) o h = from_only at n o _ h (recall_tracks at (record { least = least; node = node; request = request; kind = k }) o h)
arrive_tracks at rules n (msg.Give db key rsn value) o h = home_only at o _ h (λ home. on_give_tracks at n rsn value o home h)
arrive_tracks at rules n (msg.Pass db key request rsn value) o h = from_only at n o _ h (pass_tracks at rules request rsn value o h)
arrive_tracks at rules n (msg.Refuse db key request rsn) o h = home_only at o _ h (λ home. on_refuse_tracks at n request rsn o home h)
arrive_tracks at rules n (msg.Grant db key request rsn value) o h = on_grant_tracks at n request rsn value o h
arrive_tracks at rules n (msg.Done db key node request) o h = home_only at o _ h (λ _. on_done_tracks at node request o h)
arrive_tracks at rules n (msg.Revoke db key rsn) o h = on_revoke_tracks at n rsn o h
arrive_tracks at rules n (msg.RevokeAck db key rsn) o h = on_revokeack_tracks at rules n rsn o h
arrive_tracks at rules n (msg.VStore db key rsn) o h = from_only at n o _ h (on_vstore_tracks at n rsn o h)
arrive_tracks at rules n (msg.VStored db key rsn) o h = home_only at o _ h (λ _. vstored_of_tracks at n rsn o o.state.vacuum refl h)
arrive_tracks at rules n (msg.VDelete db key rsn) o h = from_only at n o _ h (on_vdelete_tracks at n rsn o h)
arrive_tracks at rules n (msg.VDeleted db key rsn) o h = home_only at o _ h (λ _. vdeleted_of_tracks at n rsn o o.state.vacuum refl h)
arrive_tracks at rules n _ o h = h

pub move_tracks : (at : Place) (rules : Rules) (e : MoveEvent) (o : Moving) → Tracks at o → Tracks at (move at rules e o)
unfolding unlock revoke_again call_again
move_tracks at rules (event.Want call asked) o h = want_tracks at rules call asked o h
move_tracks at rules (event.Store call v) o h = store_tracks at call v o h
move_tracks at rules (event.Unlock call) o h = drained_tracks at _ (release_tracks at call o h)
move_tracks at rules (event.Arrive sender m) o h = arrive_tracks at rules sender m o h
move_tracks at rules (event.Vacuum others) o h = vacuum_tracks at others o h
move_tracks at rules event.Resend o h = revoke_again_tracks at _ _ (call_again_tracks at o o.state.wish h)

pub holder_tracks : KeepsTracking
unfolding Tracks
holder_tracks at rules e o h = move_tracks at rules e o h
