-- What comes of each message at one record, and of each call, a vacuum and a retry, under other numbers of calls.
use Rattle.std.proofs.Common.{◌≡◌, ℕ, ◌+◌, ◌==◌, Bool, cond, ◌&&◌, ◌||◌, List, [], ◌∷◌, ◌++◌, Option, Some, None, refl, ap, ◌∙◌}
use Rattle.std.specs.Prelude.{nat_eq, nat_le, nat_lt, not, is_none}
use Rattle.std.specs.List.{list_any}
use Rattle.ct_values.specs.declared.client.Answer.TheVariants as answer
use Rattle.ct_frame.specs.Header.{for_reading}
use Rattle.ct_frame.specs.declared.frame.CallKind.{CallKind}
use Rattle.ct_frame.specs.declared.frame.CallKind.TheVariants as kind
use Rattle.ct_frame.specs.declared.frame.Msg.{Msg}
use Rattle.ct_frame.specs.declared.frame.Msg.TheVariants as msg
use Rattle.ct_call.specs.Rules.{Rules}
use Rattle.ct_tracking.specs.Tracked.{Revocation, ends}
use Rattle.ct_tracking.specs.Vacuum.{Vacuuming, ends_phase, stored, deleted, vacuum_begun}
use Rattle.ct_tracking.specs.declared.vacuum.VacuumPhase.TheVariants.{Storing, Deleting}
use Rattle.ct_rules.specs.State.{a_copy, rank, rsn_of, value_of, with_value, risen, is_wished, kind_of, is_free, is_given, is_mastered, is_read_kind}
use Rattle.ct_rules.specs.Parts.{Moving, send, keeps, reaches, opened, end_vacuum, drained, next}
use Rattle.ct_rules.specs.Messages.{is_misplaced, is_request, same_recall, pass_again, enqueue, on_call_of, called, on_call, wait, handle, recalled, on_recall, hand_on, on_give_of, on_give, satisfy_wish, becomes, accept, refuse, on_pass, on_refuse_of, on_refuse, read_granted, on_grant, on_done_of, on_done, called_in, acknowledge, renew, on_revoke_of, on_revoke, acknowledged, on_revokeack, stored_copy, deleted_copy, on_vstore, on_vdelete, greater, finish, on_vstored_of, on_vstored, on_vdeleted_of, on_vdeleted}
use Rattle.ct_rules.specs.Moves.{store, release, unlock, is_vacuumed, begin_vacuum, vacuum_at_home, vacuum, call_again_of, call_again, revoke_again_of, revoke_again, at_home, from_home, arrive}
use Rattle.ct_rules.specs.declared.event.Place.{Place}
use Rattle.ct_rules.specs.declared.state.Entry.{Entry}
use Rattle.ct_rules.specs.declared.state.RecallNote.{RecallNote}
use Rattle.ct_rules.specs.declared.state.RecState.{RecState}
use Rattle.ct_rules.specs.declared.state.Waiter.{Waiter}
use Rattle.ct_rules.specs.declared.state.Wish.{Wish}
use Rattle.ct_journal.specs.Schedules.{answer_under}
use Rattle.ct_law_journal_numbers.specs.Renumbered.{lock_under, wish_under, state_under}
use Rattle.ct_law_journal_numbers.proofs.Parts.{moving_under, lock_none, wish_none, free_under, either_under, unchanged, send_under, finished_under, send_all_under, reply_under, opened_under, end_vacuum_under, satisfy_under, give_under, grant_under, yield_under, drained_under, end_revocation_under, next_under, keep_under}

module _ (number : ℕ → ℕ) where
  -- a part of the rules does the same
  abbrev Same : (Moving → Moving) → Type 0
  Same part = (o : Moving) → part (moving_under number o) ≡ moving_under number (part o)

  -- ---- Call

  pass_again_under : (at : Place) (e : Entry) → Same (pass_again at e)
  unfolding pass_again
  pass_again_under at e o = send_under number e.holder _ o

  enqueue_under : (at : Place) (w : Waiter) (o : Moving) (ws : List Waiter) → enqueue at w (moving_under number o) ws ≡ moving_under number (enqueue at w o ws)
  unfolding enqueue keeps moving_under state_under
  enqueue_under at w o [] = next_under number at (keeps (record o.state { queue = w ∷ [] }) o)
  enqueue_under at w o (v ∷ vs) = refl

  on_call_of_under : (at : Place) (n request : ℕ) (k : CallKind) (o : Moving) (e : Option Entry) → on_call_of at n request k (moving_under number o) e ≡ moving_under number (on_call_of at n request k o e)
  unfolding on_call_of moving_under state_under
  on_call_of_under at n request k o None = refl
  on_call_of_under at n request k o (Some e) = either_under number (nat_eq e.holder n && nat_eq e.request request) _ _ refl (pass_again_under at e o)
      (either_under number (list_any (is_request n request) o.state.queue) _ _ refl
      (ap (next at) (either_under number (e.request == 0) _ _ refl (unchanged number o) (pass_again_under at e o)) ∙ next_under number at (cond (e.request == 0) o (pass_again at e o)))
      (enqueue_under at (record { node = n; request = request; kind = k }) o o.state.queue))

  called_under : (at : Place) (n request : ℕ) (k : CallKind) → Same (called at n request k)
  unfolding called moving_under state_under
  called_under at n request k o = on_call_of_under at n request k o o.state.entry

  on_call_under : (at : Place) (n request : ℕ) (k : CallKind) → Same (on_call at n request k)
  unfolding on_call
  on_call_under at n request k o = either_under number (is_misplaced at k) _ _ refl (unchanged number o)
      (ap (called at n request k) (ap end_vacuum (opened_under number at o) ∙ end_vacuum_under number (opened at o)) ∙ called_under at n request k (end_vacuum (opened at o)))

  -- ---- Recall

  wait_under : (r : RecallNote) → Same (wait r)
  unfolding wait keeps moving_under state_under
  wait_under r o = either_under number (list_any (same_recall r) o.state.waiting) _ _ refl (unchanged number o) (unchanged number (keeps (record o.state { waiting = o.state.waiting ++ r ∷ [] }) o))

  handle_under : (at : Place) (r : RecallNote) → Same (handle at r)
  unfolding handle end_vacuum keeps moving_under state_under
  handle_under at r o = either_under number (is_read_kind r.kind) _ _ refl (grant_under number at r.node r.request (end_vacuum o)) (yield_under number at (keeps (record o.state { waiting = r ∷ o.state.waiting; vacuum = None }) o))

  recalled_under : (at : Place) (r : RecallNote) → Same (recalled at r)
  unfolding recalled moving_under state_under
  recalled_under at r o = either_under number (nat_lt r.least (rank o.state.copy)) _ _ refl
      (either_under number (is_mastered at.me o.state.copy) _ _ refl
      (either_under number (is_free at.me o.state) _ _ (free_under number at.me o.state) (handle_under at r o) (wait_under r o))
      (either_under number (is_given o.state.copy) _ _ refl (send_under number at.lmaster (msg.Give at.db at.key (rsn_of o.state.copy) (value_of o.state.copy)) o) (unchanged number o)))
      (wait_under r o)

  on_recall_under : (at : Place) (r : RecallNote) → Same (on_recall at r)
  unfolding on_recall moving_under state_under
  on_recall_under at r o = either_under number (is_misplaced at r.kind || (nat_eq at.me at.lmaster && is_none o.state.entry)) _ _ refl (unchanged number o) (recalled_under at r o)

  -- ---- Give

  hand_on_under : (at : Place) (rsn : ℕ) (value : List ℕ) (o : Moving) (ws : List Waiter) → hand_on at rsn value (moving_under number o) ws ≡ moving_under number (hand_on at rsn value o ws)
  unfolding hand_on keeps reaches moving_under state_under
  hand_on_under at rsn value o [] = keep_under number at (rsn + 1) value o
  hand_on_under at rsn value o (w ∷ ws) =
      let mid : Moving = reaches (rsn + 1) (keeps (record o.state { entry = Some (record { holder = w.node; least = rsn + 1; request = w.request; value = value }); queue = ws }) o) in
      let passes : Msg = msg.Pass at.db at.key w.request rsn value in
      either_under number (is_read_kind w.kind) _ _ refl (keep_under number at (rsn + 1) value o) (ap (next at) (send_under number w.node passes mid) ∙ next_under number at (send w.node passes mid))

  on_give_of_under : (at : Place) (x rsn : ℕ) (value : List ℕ) (o : Moving) (e : Option Entry) → on_give_of at x rsn value (moving_under number o) e ≡ moving_under number (on_give_of at x rsn value o e)
  unfolding on_give_of moving_under state_under
  on_give_of_under at x rsn value o None = refl
  on_give_of_under at x rsn value o (Some e) = either_under number (nat_eq e.holder x && nat_le e.least rsn) _ _ refl (hand_on_under at rsn value o o.state.queue) (unchanged number o)

  on_give_under : (at : Place) (x rsn : ℕ) (value : List ℕ) → Same (on_give at x rsn value)
  unfolding on_give moving_under state_under
  on_give_under at x rsn value o = on_give_of_under at x rsn value o o.state.entry

  -- ---- Pass

  satisfy_wish_under : (rules : Rules) (o : Moving) (w : Option Wish) → satisfy_wish rules (moving_under number o) (wish_under number w) ≡ moving_under number (satisfy_wish rules o w)
  unfolding satisfy_wish keeps moving_under state_under wish_under
  satisfy_wish_under rules o None = refl
  satisfy_wish_under rules o (Some w) = satisfy_under number rules w.call w.op (keeps (record o.state { wish = None }) o)

  accept_under : (at : Place) (rules : Rules) (rsn : ℕ) (value : List ℕ) → Same (accept at rules rsn value)
  unfolding accept becomes keeps reaches moving_under state_under
  accept_under at rules rsn value o =
      let mid : Moving = becomes at (rsn + 1) value o in
      ap (drained at) (satisfy_wish_under rules mid o.state.wish) ∙ drained_under number at (satisfy_wish rules mid o.state.wish)

  refuse_under : (at : Place) (request rsn : ℕ) → Same (refuse at request rsn)
  unfolding refuse keeps moving_under state_under
  refuse_under at request rsn o = send_under number at.lmaster _ (keeps (record o.state { waiting = [] }) o)

  is_wished_under : (readonly : Bool) (request : ℕ) (k : CallKind) (w : Option Wish) → is_wished readonly request k (wish_under number w) ≡ is_wished readonly request k w
  unfolding is_wished wish_under
  is_wished_under readonly request k None = refl
  is_wished_under readonly request k (Some w) = refl

  on_pass_under : (at : Place) (rules : Rules) (request rsn : ℕ) (value : List ℕ) → Same (on_pass at rules request rsn value)
  unfolding on_pass moving_under state_under
  on_pass_under at rules request rsn value o = either_under number (nat_lt (rsn + 1) (rank o.state.copy)) _ _ refl (unchanged number o)
      (either_under number (is_wished at.readonly request kind.Lock o.state.wish) _ _ (is_wished_under at.readonly request kind.Lock o.state.wish) (accept_under at rules rsn value o) (refuse_under at request rsn o))

  -- ---- Refuse, Grant and Done

  on_refuse_of_under : (at : Place) (n request rsn : ℕ) (o : Moving) (e : Option Entry) → on_refuse_of at n request rsn (moving_under number o) e ≡ moving_under number (on_refuse_of at n request rsn o e)
  unfolding on_refuse_of
  on_refuse_of_under at n request rsn o None = refl
  on_refuse_of_under at n request rsn o (Some e) = either_under number (nat_eq e.holder n && nat_eq e.least (rsn + 1) && nat_eq e.request request && not (request == 0)) _ _ refl (keep_under number at (rsn + 2) e.value o) (unchanged number o)

  on_refuse_under : (at : Place) (n request rsn : ℕ) → Same (on_refuse at n request rsn)
  unfolding on_refuse moving_under state_under
  on_refuse_under at n request rsn o = on_refuse_of_under at n request rsn o o.state.entry

  read_granted_under : (request : ℕ) (o : Moving) (w : Option Wish) (value : List ℕ) → read_granted request (moving_under number o) (wish_under number w) value ≡ moving_under number (read_granted request o w value)
  unfolding read_granted keeps moving_under state_under wish_under answer_under
  read_granted_under request o None value = refl
  read_granted_under request o (Some w) value = reply_under number w.call (answer.Read value) (keeps (record o.state { wish = None }) o)

  on_grant_under : (at : Place) (h request rsn : ℕ) (value : List ℕ) → Same (on_grant at h request rsn value)
  unfolding on_grant keeps moving_under state_under
  on_grant_under at h request rsn value o = either_under number (is_wished at.readonly request kind.Read o.state.wish && not (is_mastered at.me o.state.copy) && nat_le (rank o.state.copy) (rsn + 1)) _ _
      (ap (λ (b : Bool). b && not (is_mastered at.me o.state.copy) && nat_le (rank o.state.copy) (rsn + 1)) (is_wished_under at.readonly request kind.Read o.state.wish))
      (read_granted_under request (keeps (record o.state { copy = Some (a_copy rsn h for_reading value) }) o) o.state.wish value) (unchanged number o)

  on_done_of_under : (at : Place) (n request : ℕ) (o : Moving) (ws : List Waiter) → on_done_of at n request (moving_under number o) ws ≡ moving_under number (on_done_of at n request o ws)
  unfolding on_done_of keeps moving_under state_under
  on_done_of_under at n request o [] = refl
  on_done_of_under at n request o (w ∷ ws) = either_under number (is_request n request w) _ _ refl (next_under number at (keeps (record o.state { queue = ws }) o)) (unchanged number o)

  on_done_under : (at : Place) (n request : ℕ) → Same (on_done at n request)
  unfolding on_done moving_under state_under
  on_done_under at n request o = on_done_of_under at n request o o.state.queue

  -- ---- Revoke and RevokeAck

  acknowledge_under : (at : Place) (h rsn : ℕ) → Same (acknowledge at h rsn)
  unfolding acknowledge keeps moving_under state_under
  acknowledge_under at h rsn o = send_under number h _ (keeps (record o.state { copy = called_in rsn o.state.copy }) o)

  on_revoke_of_under : (at : Place) (h rsn : ℕ) (o : Moving) (w : Option Wish) → on_revoke_of at h rsn (moving_under number o) (wish_under number w) ≡ moving_under number (on_revoke_of at h rsn o w)
  unfolding on_revoke_of renew reaches moving_under state_under wish_under
  on_revoke_of_under at h rsn o None = acknowledge_under at h rsn o
  on_revoke_of_under at h rsn o (Some w) =
      let calls : Msg = msg.Call at.db at.key o.next kind.Read in
      either_under number (is_read_kind (kind_of at.readonly w.op)) _ _ refl (ap (send at.lmaster calls) (acknowledge_under at h rsn (renew w o)) ∙ send_under number at.lmaster calls (acknowledge at h rsn (renew w o))) (acknowledge_under at h rsn o)

  on_revoke_under : (at : Place) (h rsn : ℕ) → Same (on_revoke at h rsn)
  unfolding on_revoke moving_under state_under
  on_revoke_under at h rsn o = on_revoke_of_under at h rsn o o.state.wish

  on_revokeack_under : (at : Place) (rules : Rules) (n rsn : ℕ) → Same (on_revokeack at rules n rsn)
  unfolding on_revokeack acknowledged keeps moving_under state_under
  on_revokeack_under at rules n rsn o = either_under number (ends n rsn o.state.tracking) _ _ refl (end_revocation_under number at rules (acknowledged n rsn o)) (unchanged number (acknowledged n rsn o))

  -- ---- the two phases of a vacuum

  on_vstore_under : (at : Place) (l rsn : ℕ) → Same (on_vstore at l rsn)
  unfolding on_vstore keeps moving_under state_under
  on_vstore_under at l rsn o = rw (lock_none number o.state.locked) (send_under number l (msg.VStored at.db at.key rsn) (keeps (record o.state { copy = stored_copy at.me l rsn (is_none o.state.locked) o.state.copy }) o))

  on_vdelete_under : (at : Place) (l rsn : ℕ) → Same (on_vdelete at l rsn)
  unfolding on_vdelete keeps moving_under state_under
  on_vdelete_under at l rsn o = rw (lock_none number o.state.locked) (send_under number l (msg.VDeleted at.db at.key rsn) (keeps (record o.state { copy = deleted_copy at.me rsn (is_none o.state.locked) o.state.copy }) o))

  finish_under : (rsn : ℕ) → Same (finish rsn)
  unfolding finish reaches moving_under state_under
  finish_under rsn o =
      let floor : ℕ = greater o.floor (rsn + 2) in
      finished_under number floor (reaches (rsn + 2) (record o { state = record o.state { copy = None; entry = None; vacuum = None }; floor = floor }))

  on_vstored_of_under : (at : Place) (n rsn : ℕ) (o : Moving) (v : Option Vacuuming) → on_vstored_of at n rsn (moving_under number o) v ≡ moving_under number (on_vstored_of at n rsn o v)
  unfolding on_vstored_of keeps moving_under state_under
  on_vstored_of_under at n rsn o None = refl
  on_vstored_of_under at n rsn o (Some v) =
      let mid : Moving = keeps (record o.state { vacuum = Some (stored n rsn v) }) o in
      either_under number (ends_phase Storing n rsn v) _ _ refl (send_all_under number v.others (msg.VDelete at.db at.key rsn) mid) (unchanged number mid)

  on_vstored_under : (at : Place) (n rsn : ℕ) → Same (on_vstored at n rsn)
  unfolding on_vstored moving_under state_under
  on_vstored_under at n rsn o = on_vstored_of_under at n rsn o o.state.vacuum

  on_vdeleted_of_under : (n rsn : ℕ) (o : Moving) (v : Option Vacuuming) → on_vdeleted_of n rsn (moving_under number o) v ≡ moving_under number (on_vdeleted_of n rsn o v)
  unfolding on_vdeleted_of keeps moving_under state_under
  on_vdeleted_of_under n rsn o None = refl
  on_vdeleted_of_under n rsn o (Some v) = either_under number (ends_phase Deleting n rsn v) _ _ refl (finish_under rsn o) (unchanged number (keeps (record o.state { vacuum = Some (deleted n rsn v) }) o))

  on_vdeleted_under : (n rsn : ℕ) → Same (on_vdeleted n rsn)
  unfolding on_vdeleted moving_under state_under
  on_vdeleted_under n rsn o = on_vdeleted_of_under n rsn o o.state.vacuum

  -- ---- every message

  at_home_under : (at : Place) {done' : Moving} (done o : Moving) → done' ≡ moving_under number done → at_home at done' (moving_under number o) ≡ moving_under number (at_home at done o)
  unfolding at_home
  at_home_under at done o e = either_under number (nat_eq at.me at.lmaster) done o refl e refl

  from_home_under : (at : Place) (sender : ℕ) {done' : Moving} (done o : Moving) → done' ≡ moving_under number done → from_home at sender done' (moving_under number o) ≡ moving_under number (from_home at sender done o)
  unfolding from_home
  from_home_under at sender done o e = either_under number (nat_eq sender at.lmaster) done o refl e refl

  pub arrive_under : (at : Place) (rules : Rules) (n : ℕ) (m : Msg) → Same (arrive at rules n m)
  unfolding arrive
  arrive_under at rules n (msg.Call db key request k) o = at_home_under at _ o (on_call_under at n request k o)
  arrive_under at rules n (msg.Recall db key least node request k) o = from_home_under at n _ o (on_recall_under at (record { least = least; node = node; request = request; kind = k }) o)
  arrive_under at rules n (msg.Give db key rsn value) o = at_home_under at _ o (on_give_under at n rsn value o)
  arrive_under at rules n (msg.Pass db key request rsn value) o = from_home_under at n _ o (on_pass_under at rules request rsn value o)
  arrive_under at rules n (msg.Refuse db key request rsn) o = at_home_under at _ o (on_refuse_under at n request rsn o)
  arrive_under at rules n (msg.Grant db key request rsn value) o = on_grant_under at n request rsn value o
  arrive_under at rules n (msg.Done db key node request) o = at_home_under at _ o (on_done_under at node request o)
  arrive_under at rules n (msg.Revoke db key rsn) o = on_revoke_under at n rsn o
  arrive_under at rules n (msg.RevokeAck db key rsn) o = on_revokeack_under at rules n rsn o
  arrive_under at rules n (msg.VStore db key rsn) o = from_home_under at n _ o (on_vstore_under at n rsn o)
  arrive_under at rules n (msg.VStored db key rsn) o = at_home_under at _ o (on_vstored_under at n rsn o)
  arrive_under at rules n (msg.VDelete db key rsn) o = from_home_under at n _ o (on_vdelete_under at n rsn o)
  arrive_under at rules n (msg.VDeleted db key rsn) o = at_home_under at _ o (on_vdeleted_under n rsn o)
  arrive_under at rules n _ o = refl

  -- ---- under the lock

  pub store_under : (call : ℕ) (v : List ℕ) (o : Moving) → store (number call) v (moving_under number o) ≡ moving_under number (store call v o)
  unfolding store keeps moving_under state_under answer_under
  store_under call v o = reply_under number call answer.Stored (keeps (record o.state { copy = with_value v o.state.copy }) o)

  pub release_under : (call : ℕ) (o : Moving) → release (number call) (moving_under number o) ≡ moving_under number (release call o)
  unfolding release keeps moving_under state_under lock_under answer_under
  release_under call o = reply_under number call answer.Unlocked (keeps (record o.state { locked = None }) o)

  pub unlock_under : (at : Place) (call : ℕ) (o : Moving) → unlock at (number call) (moving_under number o) ≡ moving_under number (unlock at call o)
  unfolding unlock
  unlock_under at call o = ap (drained at) (release_under call o) ∙ drained_under number at (release call o)

  -- ---- a vacuum of the database

  vacuumed_under : (me : ℕ) (s : RecState) → is_vacuumed me (state_under number s) ≡ is_vacuumed me s
  unfolding is_vacuumed is_free state_under
  vacuumed_under me s = rw (lock_none number s.locked, wish_none number s.wish)

  begin_vacuum_under : (at : Place) (o : Moving) (ns : List ℕ) → begin_vacuum at (moving_under number o) ns ≡ moving_under number (begin_vacuum at o ns)
  unfolding begin_vacuum keeps reaches moving_under state_under
  begin_vacuum_under at o [] = finish_under (rsn_of o.state.copy) o
  begin_vacuum_under at o (n ∷ ns) =
      let rsn : ℕ = rsn_of o.state.copy in
      send_all_under number (n ∷ ns) (msg.VStore at.db at.key rsn) (reaches (rsn + 1) (keeps (record o.state { copy = risen o.state.copy; vacuum = Some (vacuum_begun rsn (n ∷ ns)) }) o))

  vacuum_at_home_under : (at : Place) (ns : List ℕ) (o : Moving) (v : Option Vacuuming) → vacuum_at_home at ns (moving_under number o) v ≡ moving_under number (vacuum_at_home at ns o v)
  unfolding vacuum_at_home
  vacuum_at_home_under at ns o None = begin_vacuum_under at o ns
  vacuum_at_home_under at ns o (Some v) = send_all_under number v.missing _ o

  pub vacuum_under : (at : Place) (ns : List ℕ) → Same (vacuum at ns)
  unfolding vacuum moving_under state_under
  vacuum_under at ns o = either_under number (is_vacuumed at.me o.state) _ _ (vacuumed_under at.me o.state) (either_under number (nat_eq at.me at.lmaster) _ _ refl (vacuum_at_home_under at ns o o.state.vacuum) (give_under number at o)) (unchanged number o)

  -- ---- sending again

  call_again_of_under : (at : Place) (o : Moving) (w : Option Wish) → call_again_of at (moving_under number o) (wish_under number w) ≡ moving_under number (call_again_of at o w)
  unfolding call_again_of wish_under
  call_again_of_under at o None = refl
  call_again_of_under at o (Some w) = either_under number (w.request == 0) _ _ refl (unchanged number o) (send_under number at.lmaster (msg.Call at.db at.key w.request (kind_of at.readonly w.op)) o)

  pub call_again_under : (at : Place) → Same (call_again at)
  unfolding call_again moving_under state_under
  call_again_under at o = call_again_of_under at o o.state.wish

  revoke_again_of_under : (at : Place) (o : Moving) (r : Option Revocation) → revoke_again_of at (moving_under number o) r ≡ moving_under number (revoke_again_of at o r)
  unfolding revoke_again_of
  revoke_again_of_under at o None = refl
  revoke_again_of_under at o (Some r) = send_all_under number r.missing _ o

  pub revoke_again_under : (at : Place) → Same (revoke_again at)
  unfolding revoke_again moving_under state_under
  revoke_again_under at o = revoke_again_of_under at o o.state.tracking.revoking
