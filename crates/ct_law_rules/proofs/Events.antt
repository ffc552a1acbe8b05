-- Every event keeps the form of a state.
use Rattle.std.proofs.Common.{◌≡◌, ℕ, ◌+◌, ◌≤◌, Bool, true, false, List, [], ◌∷◌, Option, Some, None, ap, subst, ◌∙◌, arith, ◌&&◌, ◌||◌}
use Rattle.std.proofs.lemmas.Bool.{cond_both, and_parts, eqb-true}
use Rattle.std.specs.Prelude.{is_none, nat_eq}
use Rattle.ct_values.specs.Words.{is_nil}
use Rattle.ct_values.specs.Client.{is_read, wants_record}
use Rattle.ct_call.specs.Rules.{Rules}
use Rattle.ct_frame.specs.declared.frame.Msg.{Msg}
use Rattle.ct_frame.specs.declared.frame.Msg.TheVariants as msg
use Rattle.ct_values.specs.declared.client.ClientOp.{ClientOp}
use Rattle.ct_rules.specs.State.{rsn_of, is_mastered, is_quiet, is_free, with_value, risen, is_for_reading}
use Rattle.ct_rules.specs.Parts.{Moving, performs, send, reply, keeps, reaches, opened, open_of, end_vacuum, next, call_for, wait_for_copies, want_of, opened_at_home, want}
use Rattle.ct_law_rules.specs.Form.{vacuumed_rsn, wished_as, wishes_record, is_recalled, least_of, sent_for, revoked_rsn}
use Rattle.ct_rules.specs.declared.event.Place.{Place}
use Rattle.ct_rules.specs.declared.state.RecState.{RecState}
use Rattle.ct_rules.specs.declared.state.Wish.{Wish}
use Rattle.ct_rules.specs.Moves.{store, release, unlock, is_vacuumed, begin_vacuum, vacuum_at_home, vacuum, call_again_of, call_again, revoke_again_of, revoke_again, at_home, from_home, arrive, move, begins, unless_spent}
use Rattle.ct_law_rules.specs.Form.{HasShape, HasCounters, MayCome, IsInForm, IsAfter}
use Rattle.ct_rules.specs.declared.event.MoveEvent.{MoveEvent}
use Rattle.ct_rules.specs.declared.event.MoveEvent.TheVariants as event
use Rattle.ct_frame.specs.Fields.{is_message}
use Rattle.ct_law_rules.specs.Laws.{KeepsForm, StartsInForm}
use Rattle.ct_law_rules.proofs.Growing.{move_grows}
use Rattle.ct_law_rules.proofs.Arriving.{call_formed, recall_formed, on_give_formed, on_refuse_formed, pass_formed, on_grant_formed, on_done_formed, on_revoke_formed, on_revokeack_formed, on_vstore_formed, on_vdelete_formed, finish_formed, on_vstored_formed, on_vdeleted_formed}
use Rattle.ct_law_rules.proofs.Formed.{Formed, send_formed, reply_formed, send_all_formed, opened_formed, end_vacuum_formed, give_formed, revoke_formed, satisfy_formed, if_formed, drained_formed}
use Rattle.ct_tracking.specs.Tracked.{Revocation}
use Rattle.ct_tracking.specs.Vacuum.{Vacuuming, vacuum_begun}

-- ---- WANT

opened_home_formed : (at : Place) (o : Moving) → Formed at o → Formed at (opened_at_home at o)
unfolding opened_at_home
opened_home_formed at o h = cond_both (nat_eq at.me at.lmaster && is_none o.state.locked) _ _ (Formed at)
    (λ t. end_vacuum_formed at (opened at o) (opened_formed at o (eqb-true at.me at.lmaster (and_parts (nat_eq at.me at.lmaster) (is_none o.state.locked) t).0) h))
    (λ _. h)

-- then no vacuum runs, and the wish and the lock are as they were
opened_home_still : (at : Place) (o : Moving) → Formed at o → is_none (opened_at_home at o).state.vacuum ≡ true
unfolding Formed opened_at_home opened open_of end_vacuum keeps
opened_home_still at o h = grind arith

opened_home_rest : (at : Place) (o : Moving) → ((opened_at_home at o).state.wish ≡ o.state.wish) × ((opened_at_home at o).state.locked ≡ o.state.locked)
unfolding opened_at_home opened open_of end_vacuum keeps
opened_home_rest at o = (grind arith, grind arith)

call_for_formed : (at : Place) (call : ℕ) (asked : ClientOp) (o : Moving) → wants_record asked ≡ true → is_none o.state.vacuum ≡ true → is_mastered at.me o.state.copy ≡ false → Formed at o → Formed at (call_for at call asked o)
unfolding Formed call_for send performs reaches wishes_record wished_as
call_for_formed at call asked o wanting still other h = grind arith

own_wish_formed : (at : Place) (call : ℕ) (asked : ClientOp) (o : Moving) → wants_record asked ≡ true → is_none o.state.vacuum ≡ true → is_none o.state.locked ≡ true → Formed at o → Formed at (keeps (record o.state { wish = Some (record { call = call; request = 0; op = asked }) }) o)
unfolding Formed keeps wishes_record wished_as
own_wish_formed at call asked o wanting still unlocked h = grind arith

wait_formed : (at : Place) (call : ℕ) (asked : ClientOp) (o : Moving) → wants_record asked ≡ true → is_none o.state.vacuum ≡ true → is_none o.state.locked ≡ true → is_mastered at.me o.state.copy ≡ true → is_nil o.state.tracking.tracked ≡ false → Formed at o → Formed at (wait_for_copies at call asked o)
unfolding wait_for_copies keeps
wait_formed at call asked o wanting still unlocked held tracked h = (let k = own_wish_formed at call asked o wanting still unlocked h in if_formed at _ _ _ (revoke_formed at (keeps (record o.state { wish = Some (record { call = call; request = 0; op = asked }) }) o) held unlocked still tracked k) k)

untracked_quiet : (at : Place) (o : Moving) → is_nil o.state.tracking.tracked ≡ true → Formed at o → is_quiet o.state.tracking ≡ true
unfolding Formed
untracked_quiet at o none h = grind arith

not_read : (read held reading : Bool) → (read && (held || reading)) ≡ false → held ≡ true → read ≡ false
not_read read held reading t is = grind arith

want_of_formed : (at : Place) (rules : Rules) (call : ℕ) (asked : ClientOp) (o : Moving) → wants_record asked ≡ true → is_none o.state.wish ≡ true → is_none o.state.vacuum ≡ true → (is_read asked ≡ false → is_none o.state.locked ≡ true) → Formed at o → Formed at (want_of at rules call asked o)
unfolding want_of
want_of_formed at rules call asked o wanting unwished still unlocked h = cond_both (is_read asked && (is_mastered at.me o.state.copy || is_for_reading o.state.copy)) _ _ (Formed at)
    (λ _. reply_formed at _ _ o h)
    (λ t. cond_both (is_mastered at.me o.state.copy) _ _ (Formed at)
    (λ held. cond_both (is_nil o.state.tracking.tracked) _ _ (Formed at)
    (λ none. satisfy_formed at rules call asked o held unwished still (untracked_quiet at o none h) h)
    (λ tracked. wait_formed at call asked o wanting still (unlocked (not_read _ _ _ t held)) held tracked h))
    (λ other. call_for_formed at call asked o wanting still other h))

pub want_formed : (at : Place) (rules : Rules) (call : ℕ) (asked : ClientOp) (o : Moving) → wants_record asked ≡ true → o.state.wish ≡ None → (is_read asked ≡ false → o.state.locked ≡ None) → Formed at o → Formed at (want at rules call asked o)
unfolding want
want_formed at rules call asked o wanting unwished unlocked h = (let r = opened_home_rest at o in want_of_formed at rules call asked (opened_at_home at o) wanting (ap (λ (x : Option Wish). is_none x) (r.0 ∙ unwished)) (opened_home_still at o h) (λ n. ap (λ (x : Option ℕ). is_none x) (r.1 ∙ unlocked n)) (opened_home_formed at o h))

-- ---- Store and Unlock

pub store_formed : (at : Place) (call : ℕ) (v : List ℕ) (o : Moving) → Formed at o → Formed at (store call v o)
unfolding Formed store reply performs keeps with_value is_mastered rsn_of
store_formed at call v o h = grind arith

pub release_formed : (at : Place) (call : ℕ) (o : Moving) → Formed at o → Formed at (release call o)
unfolding Formed release reply performs keeps
release_formed at call o h = grind arith

pub unlock_formed : (at : Place) (call : ℕ) (o : Moving) → Formed at o → Formed at (unlock at call o)
unfolding unlock
unlock_formed at call o h = drained_formed at _ (release_formed at call o h)

-- ---- a vacuum of the database

begun_formed : (at : Place) (ns : List ℕ) (o : Moving) → at.me ≡ at.lmaster → is_vacuumed at.me o.state ≡ true → Formed at o → Formed at (reaches (rsn_of o.state.copy + 1) (keeps (record o.state { copy = risen o.state.copy; vacuum = Some (vacuum_begun (rsn_of o.state.copy) ns) }) o))
unfolding Formed reaches keeps is_vacuumed is_free is_mastered risen rsn_of vacuumed_rsn
begun_formed at ns o home t h = grind arith

vacuumed_quiet : (me : ℕ) (s : RecState) → is_vacuumed me s ≡ true → (is_none s.locked ≡ true) × (is_quiet s.tracking ≡ true) × (is_nil s.queue ≡ true)
unfolding is_vacuumed is_free
vacuumed_quiet me s t = (grind arith, grind arith, grind arith)

vacuumed_free : (me : ℕ) (s : RecState) → is_vacuumed me s ≡ true → is_free me s ≡ true
unfolding is_vacuumed
vacuumed_free me s t = grind arith

begin_formed : (at : Place) (o : Moving) (others : List ℕ) → at.me ≡ at.lmaster → is_vacuumed at.me o.state ≡ true → Formed at o → Formed at (begin_vacuum at o others)
unfolding begin_vacuum
begin_formed at o [] home t h = (let q = vacuumed_quiet at.me o.state t in finish_formed at (rsn_of o.state.copy) o q.0 q.1 q.2 h)
begin_formed at o (n ∷ ns) home t h = send_all_formed at _ _ _ (begun_formed at (n ∷ ns) o home t h)

home_formed : (at : Place) (others : List ℕ) (o : Moving) (v : Option Vacuuming) → at.me ≡ at.lmaster → is_vacuumed at.me o.state ≡ true → Formed at o → Formed at (vacuum_at_home at others o v)
unfolding vacuum_at_home
home_formed at others o None home t h = begin_formed at o others home t h
home_formed at others o (Some v) home t h = send_all_formed at _ _ o h

pub vacuum_formed : (at : Place) (others : List ℕ) (o : Moving) → Formed at o → Formed at (vacuum at others o)
unfolding vacuum
vacuum_formed at others o h = cond_both (is_vacuumed at.me o.state) _ _ (Formed at)
    (λ t. cond_both (nat_eq at.me at.lmaster) _ _ (Formed at)
    (λ home. home_formed at others o o.state.vacuum (eqb-true at.me at.lmaster home) t h)
    (λ _. give_formed at o (vacuumed_free at.me o.state t) h))
    (λ _. h)

-- ---- sending again

pub call_again_formed : (at : Place) (o : Moving) (w : Option Wish) → Formed at o → Formed at (call_again_of at o w)
unfolding call_again_of
call_again_formed at o None h = h
call_again_formed at o (Some w) h = if_formed at _ _ _ h (send_formed at _ _ o h)

pub revoke_again_formed : (at : Place) (o : Moving) (r : Option Revocation) → Formed at o → Formed at (revoke_again_of at o r)
unfolding revoke_again_of
revoke_again_formed at o None h = h
revoke_again_formed at o (Some r) h = send_all_formed at _ _ o h

pub resend_formed : (at : Place) (o : Moving) → Formed at o → Formed at (revoke_again at (call_again at o))
unfolding revoke_again call_again
resend_formed at o h = revoke_again_formed at _ _ (call_again_formed at o o.state.wish h)

-- ---- every message

home_only : (at : Place) (o p : Moving) → Formed at o → (at.me ≡ at.lmaster → Formed at p) → Formed at (at_home at p o)
unfolding at_home
home_only at o p h k = cond_both (nat_eq at.me at.lmaster) _ _ (Formed at) (λ t. k (eqb-true at.me at.lmaster t)) (λ _. h)

from_only : (at : Place) (n : ℕ) (o p : Moving) → Formed at o → Formed at p → Formed at (from_home at n p o)
unfolding from_home
from_only at n o p h k = if_formed at _ _ _ k h

pub arrive_formed : (at : Place) (rules : Rules) (n : ℕ) (m : Msg) (o : Moving) → is_message n m ≡ true → Formed at o → Formed at (arrive at rules n m o)
unfolding arrive is_recalled
arrive_formed at rules n (msg.Call db key request k) o keeps h = home_only at o _ h (λ home. call_formed at n request k o home (grind arith) h)
arrive_formed at rules n (msg.Recall db key least node request k) o keeps h = from_only at n o _ h (recall_formed at (record { least = least; node = node; request = request; kind = k }) o (grind arith) h)
arrive_formed at rules n (msg.Give db key rsn value) o keeps h = home_only at o _ h (λ home. on_give_formed at n rsn value o home h)
arrive_formed at rules n (msg.Pass db key request rsn value) o keeps h = from_only at n o _ h (pass_formed at rules request rsn value o h)
arrive_formed at rules n (msg.Refuse db key request rsn) o keeps h = home_only at o _ h (λ home. on_refuse_formed at n request rsn o home h)
arrive_formed at rules n (msg.Grant db key request rsn value) o keeps h = on_grant_formed at n request rsn value o (grind arith) h
arrive_formed at rules n (msg.Done db key node request) o keeps h = home_only at o _ h (λ _. on_done_formed at node request o h)
arrive_formed at rules n (msg.Revoke db key rsn) o keeps h = on_revoke_formed at n rsn o h
arrive_formed at rules n (msg.RevokeAck db key rsn) o keeps h = on_revokeack_formed at rules n rsn o h
arrive_formed at rules n (msg.VStore db key rsn) o keeps h = from_only at n o _ h (on_vstore_formed at n rsn o (grind arith) h)
arrive_formed at rules n (msg.VStored db key rsn) o keeps h = home_only at o _ h (λ _. on_vstored_formed at n rsn o h)
arrive_formed at rules n (msg.VDelete db key rsn) o keeps h = from_only at n o _ h (on_vdelete_formed at n rsn o h)
arrive_formed at rules n (msg.VDeleted db key rsn) o keeps h = home_only at o _ h (λ _. on_vdeleted_formed at n rsn o h)
arrive_formed at rules n _ o keeps h = h

-- ---- every event

pub move_formed : (at : Place) (rules : Rules) (e : MoveEvent) (o : Moving) → MayCome o.state e → Formed at o → Formed at (move at rules e o)
move_formed at rules (event.Want call asked) o may h = want_formed at rules call asked o may.0 may.1 may.2 h
move_formed at rules (event.Store call v) o may h = store_formed at call v o h
move_formed at rules (event.Unlock call) o may h = unlock_formed at call o h
move_formed at rules (event.Arrive sender m) o may h = arrive_formed at rules sender m o may.1 h
move_formed at rules (event.Vacuum others) o may h = vacuum_formed at others o h
move_formed at rules event.Resend o may h = resend_formed at o h

-- ---- a whole step

pub in_form_at_start : StartsInForm
unfolding is_quiet least_of sent_for revoked_rsn vacuumed_rsn wished_as wishes_record rsn_of
in_form_at_start at next counters = grind arith

pub begins_formed : (at : Place) (s : RecState) (next : ℕ) → IsInForm at next s → Formed at (begins s next at.floor)
unfolding Formed
begins_formed at s next f = record {
  shape = f.shape;
  copy_limit = λ _. f.numbers.copy_limit;
  least_limit = λ _. f.numbers.least_limit;
  request_limit = λ _. f.numbers.request_limit;
  revocation_limit = λ _. f.numbers.revocation_limit;
  vacuum_limit = λ _. f.numbers.vacuum_limit;
  wish_limit = λ _. f.numbers.wish_limit;
  next_limit = λ _. f.counters.next_limit;
  floor_limit = λ _. f.counters.floor_limit;
}

-- the form speaks of the node and of its location master, and not of the floor
shape_of : (at : Place) (floor : ℕ) (s : RecState) → HasShape at s.copy s.entry s.queue s.waiting s.tracking s.vacuum s.locked s.wish → HasShape (record at { floor = floor }) s.copy s.entry s.queue s.waiting s.tracking s.vacuum s.locked s.wish
shape_of at floor s h = record {
  sent_on = h.sent_on;
  queue_entry = h.queue_entry;
  lock_held = h.lock_held;
  revocation_held = h.revocation_held;
  lock_quiet = h.lock_quiet;
  revocation_tracked = h.revocation_tracked;
  lock_unwished = h.lock_unwished;
  vacuum_home = h.vacuum_home;
  vacuum_queue = h.vacuum_queue;
  vacuum_unlocked = h.vacuum_unlocked;
  vacuum_unwished = h.vacuum_unwished;
  vacuum_quiet = h.vacuum_quiet;
  wish_wants = h.wish_wants;
  queue_asked = h.queue_asked;
  waiting_recalled = h.waiting_recalled;
}

-- the node's numbers change
pub form_under : (at : Place) (next floor next' : ℕ) (s : RecState) → HasCounters next' floor → IsInForm at next s → IsInForm (record at { floor = floor }) next' s
form_under at next floor next' s counters f = record { shape = shape_of at floor s f.shape; numbers = f.numbers; counters = counters }

-- the form of what a step leaves
formed_form : (at : Place) (o : Moving) → o.spent ≡ false → 1 ≤ o.next → Formed at o → IsInForm (record at { floor = o.floor }) o.next o.state
unfolding Formed
formed_form at o unspent one h = record {
  shape = shape_of at o.floor o.state h.shape;
  numbers = record {
    copy_limit = h.copy_limit unspent;
    least_limit = h.least_limit unspent;
    request_limit = h.request_limit unspent;
    revocation_limit = h.revocation_limit unspent;
    vacuum_limit = h.vacuum_limit unspent;
    wish_limit = h.wish_limit unspent;
  };
  counters = record { from_one = one; next_limit = h.next_limit unspent; floor_limit = h.floor_limit unspent };
}

after_step : (at : Place) (next : ℕ) (o : Moving) → o.spent ≡ false → 1 ≤ next → Formed at o → next ≤ o.next → at.floor ≤ o.floor → IsAfter at next o
after_step at next o unspent one h rises floor = record { form = formed_form at o unspent (omega arith) h; next_rises = rises; floor_rises = floor }

pub unspent_same : (m o : Moving) → unless_spent m ≡ Some o → (m.spent ≡ false) × (m ≡ o)
unspent_same m o e = (grind arith, grind arith)

pub form_kept : KeepsForm
form_kept at rules e s next o f may whole = (let u = unspent_same (move at rules e (begins s next at.floor)) o whole in
    let g = move_grows at rules e (begins s next at.floor) in
    subst (λ (x : Moving). IsAfter at next x) u.1 (after_step at next (move at rules e (begins s next at.floor)) u.0 f.counters.from_one (move_formed at rules e (begins s next at.floor) may (begins_formed at s next f)) g.next g.floor))
