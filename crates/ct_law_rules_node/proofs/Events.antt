-- Every event names and speaks to the same kind of nodes.
use Rattle.std.proofs.Common.{◌≡◌, ℕ, ◌+◌, Bool, true, false, cond, List, [], ◌∷◌, ◌++◌, Option, Some, None, refl, ◌&&◌, ◌||◌, ◌==◌, subst, ◌∙◌, sym}
use Rattle.std.proofs.lemmas.Bool.{and_parts, and_from}
use Rattle.std.proofs.lemmas.List.Folds.{list_all-append}
use Rattle.std.specs.List.{list_all, filter}
use Rattle.std.specs.Prelude.{nat_eq, nat_lt, not}
use Rattle.ct_values.specs.Words.{is_nil, others}
use Rattle.ct_values.specs.Client.{is_read}
use Rattle.ct_call.specs.Rules.{Rules}
use Rattle.ct_tracking.specs.Tracked.{Tracked, Revocation, awaiting, called_back_in, missing_of}
use Rattle.ct_frame.specs.declared.frame.CallKind.{CallKind}
use Rattle.ct_frame.specs.declared.frame.Msg.{Msg}
use Rattle.ct_frame.specs.declared.frame.Msg.TheVariants as msg
use Rattle.ct_values.specs.declared.client.ClientOp.{ClientOp}
use Rattle.ct_tracking.specs.declared.vacuum.VacuumPhase.{VacuumPhase}
use Rattle.ct_tracking.specs.declared.vacuum.VacuumPhase.TheVariants.{Storing, Deleting}
use Rattle.ct_tracking.specs.Vacuum.{Vacuuming, vacuum_begun, stored, deleted, done_by, deleting, ends_phase, is_in}
use Rattle.ct_rules.specs.State.{rank, is_given, rsn_of, is_mastered, is_free, is_for_reading}
use Rattle.ct_rules.specs.Parts.{Moving, keeps, opened, open_of, end_vacuum, next, next_of, keep, call_for, wait_for_copies, want_of, opened_at_home, want}
use Rattle.ct_rules.specs.Messages.{pass_again, enqueue, on_call_of, called, on_call, wait, handle, recalled, on_recall, hand_on, on_give_of, on_give, becomes, accept, refuse, on_pass, on_refuse_of, on_refuse, read_granted, on_grant, on_done_of, on_done, acknowledge, renew, on_revoke_of, on_revoke, acknowledged, on_revokeack, on_vstore, on_vdelete, finish, on_vstored_of, on_vstored, on_vdeleted_of, on_vdeleted}
use Rattle.ct_rules.specs.Moves.{store, release, unlock, begin_vacuum, vacuum_at_home, vacuum, call_again_of, call_again, revoke_again_of, revoke_again, at_home, from_home, arrive, move, begins}
use Rattle.ct_rules_node.specs.Admission.{named_in}
use Rattle.ct_rules.specs.declared.event.MoveEvent.{MoveEvent}
use Rattle.ct_rules.specs.declared.event.MoveEvent.TheVariants as event
use Rattle.ct_rules.specs.declared.event.Place.{Place}
use Rattle.ct_rules.specs.declared.state.Entry.{Entry}
use Rattle.ct_rules.specs.declared.state.RecallNote.{RecallNote}
use Rattle.ct_rules.specs.declared.state.RecState.{RecState}
use Rattle.ct_rules.specs.declared.state.Waiter.{Waiter}
use Rattle.ct_rules.specs.declared.state.Wish.{Wish}
use Rattle.ct_law_rules_node.specs.Named.{holders_of, waits_among, is_recalled_among, vacuumed_by, goes_among, comes_among, NamesOnly, StaysAmong, NamesKept, ResendsNamed}
use Rattle.ct_law_rules_node.proofs.Parts.{Named, all_one_more, if_named, performs_named, send_named, reply_named, send_all_named, copy_named, locked_named, wish_named, reaches_named, waiting_of, waiting_named, still_named, ended_named, give_named, revoke_named, yield_named, granted_named, drained_named, satisfy_named, satisfy_wish_named, untracked_named, end_revocation_named}

-- ---- Next and Keep

holder_of : (is : ℕ → Bool) (o : Moving) (e : Entry) → o.state.entry ≡ Some e → Named is o → is e.holder ≡ true
unfolding Named holders_of
holder_of is o e i h = (and_parts (is e.holder) true (subst (λ (x : Option Entry). list_all is (holders_of x) ≡ true) i h.holder_is)).0

queue_of : (is : ℕ → Bool) (o : Moving) (ws : List Waiter) → o.state.queue ≡ ws → Named is o → list_all (waits_among is) ws ≡ true
unfolding Named
queue_of is o ws i h = subst (λ (x : List Waiter). list_all (waits_among is) x ≡ true) i h.queue_are

next_of_named : (is : ℕ → Bool) (at : Place) (o : Moving) (e : Option Entry) (ws : List Waiter) → o.state.entry ≡ e → Named is o → Named is (next_of at o e ws)
unfolding next_of
next_of_named is at o None ws i h = h
next_of_named is at o (Some e) [] i h = h
next_of_named is at o (Some e) (w ∷ ws) i h = send_named is e.holder _ o (holder_of is o e i h) h

next_named : (is : ℕ → Bool) (at : Place) (o : Moving) → Named is o → Named is (next at o)
unfolding next
next_named is at o h = next_of_named is at o o.state.entry o.state.queue refl h

-- with another entry and copy
entry_named : (is : ℕ → Bool) (s : RecState) (e : Entry) (o : Moving) → is e.holder ≡ true → s.queue ≡ o.state.queue → s.waiting ≡ o.state.waiting → s.tracking ≡ o.state.tracking → s.vacuum ≡ o.state.vacuum → s.entry ≡ Some e → Named is o → Named is (keeps s o)
unfolding Named keeps holders_of
entry_named is s e o k q w t v i h = record {
  goes = h.goes;
  holder_is = subst (λ (x : Option Entry). list_all is (holders_of x) ≡ true) (sym i) (and_from _ _ k refl);
  queue_are = subst (λ (x : List Waiter). list_all (waits_among is) x ≡ true) (sym q) h.queue_are;
  waiting_are = subst (λ (x : List RecallNote). list_all (is_recalled_among is) x ≡ true) (sym w) h.waiting_are;
  tracked_are = subst (λ (x : Tracked). list_all is x.tracked ≡ true) (sym t) h.tracked_are;
  missing_are = subst (λ (x : Tracked). list_all is (missing_of x.revoking) ≡ true) (sym t) h.missing_are;
  vacuumed_are = subst (λ (x : Option Vacuuming). list_all is (vacuumed_by x) ≡ true) (sym v) h.vacuumed_are;
}

keep_named : (is : ℕ → Bool) (at : Place) (rsn : ℕ) (value : List ℕ) (o : Moving) → is at.lmaster ≡ true → Named is o → Named is (keep at rsn value o)
unfolding keep
keep_named is at rsn value o home h = next_named is at _ (reaches_named is rsn _ (entry_named is _ (record { holder = at.lmaster; least = rsn; request = 0; value = value }) o home refl refl refl refl refl h))

-- ---- Call

open_of_named : (is : ℕ → Bool) (at : Place) (o : Moving) (e : Option Entry) → is at.lmaster ≡ true → Named is o → Named is (open_of at o e)
unfolding open_of
open_of_named is at o None home h = entry_named is _ (record { holder = at.lmaster; least = o.floor; request = 0; value = [] }) o home refl refl refl refl refl h
open_of_named is at o (Some e) home h = h

opened_named : (is : ℕ → Bool) (at : Place) (o : Moving) → is at.lmaster ≡ true → Named is o → Named is (opened at o)
unfolding opened
opened_named is at o home h = open_of_named is at o o.state.entry home h

pass_again_named : (is : ℕ → Bool) (at : Place) (e : Entry) (o : Moving) → o.state.entry ≡ Some e → Named is o → Named is (pass_again at e o)
unfolding pass_again
pass_again_named is at e o i h = send_named is e.holder _ o (holder_of is o e i h) h

queued_named : (is : ℕ → Bool) (ws : List Waiter) (o : Moving) → list_all (waits_among is) ws ≡ true → Named is o → Named is (keeps (record o.state { queue = ws }) o)
unfolding Named keeps
queued_named is ws o all h = record { goes = h.goes; holder_is = h.holder_is; queue_are = all; waiting_are = h.waiting_are; tracked_are = h.tracked_are; missing_are = h.missing_are; vacuumed_are = h.vacuumed_are }

enqueue_named : (is : ℕ → Bool) (at : Place) (w : Waiter) (o : Moving) (ws : List Waiter) → o.state.queue ≡ ws → waits_among is w ≡ true → Named is o → Named is (enqueue at w o ws)
unfolding enqueue
enqueue_named is at w o [] i k h = next_named is at _ (queued_named is (w ∷ []) o (and_from _ _ k refl) h)
enqueue_named is at w o (v ∷ vs) i k h = queued_named is ((v ∷ vs) ++ w ∷ []) o (all_one_more (waits_among is) (v ∷ vs) w (queue_of is o (v ∷ vs) i h) k) h

call_of_named : (is : ℕ → Bool) (at : Place) (n request : ℕ) (k : CallKind) (o : Moving) (e : Option Entry) → o.state.entry ≡ e → is n ≡ true → Named is o → Named is (on_call_of at n request k o e)
unfolding on_call_of waits_among
call_of_named is at n request k o None i from h = h
call_of_named is at n request k o (Some e) i from h = if_named is (nat_eq e.holder n && nat_eq e.request request) _ _ (pass_again_named is at e o i h)
    (if_named is _ _ _ (next_named is at _ (if_named is (e.request == 0) _ _ h (pass_again_named is at e o i h))) (enqueue_named is at (record { node = n; request = request; kind = k }) o o.state.queue refl from h))

call_named : (is : ℕ → Bool) (at : Place) (n request : ℕ) (k : CallKind) (o : Moving) → is at.lmaster ≡ true → is n ≡ true → Named is o → Named is (on_call at n request k o)
unfolding on_call called
call_named is at n request k o home from h = if_named is _ _ _ h (call_of_named is at n request k (end_vacuum (opened at o)) _ refl from (ended_named is _ (opened_named is at o home h)))

-- ---- Recall

wait_named : (is : ℕ → Bool) (r : RecallNote) (o : Moving) → is_recalled_among is r ≡ true → Named is o → Named is (wait r o)
unfolding wait
wait_named is r o k h = if_named is _ _ _ h (waiting_named is (o.state.waiting ++ r ∷ []) o (all_one_more (is_recalled_among is) o.state.waiting r (waiting_of is o h) k) h)

handled_named : (is : ℕ → Bool) (at : Place) (r : RecallNote) (o : Moving) → is at.lmaster ≡ true → is_recalled_among is r ≡ true → Named is o → Named is (handle at r o)
unfolding handle
handled_named is at r o home k h = if_named is _ _ _ (granted_named is at r o home k h) (yield_named is at _ home (still_named is (r ∷ o.state.waiting) o (and_from _ _ k (waiting_of is o h)) h))

recalled_named : (is : ℕ → Bool) (at : Place) (r : RecallNote) (o : Moving) → is at.lmaster ≡ true → is_recalled_among is r ≡ true → Named is o → Named is (recalled at r o)
unfolding recalled
recalled_named is at r o home k h = if_named is (nat_lt r.least (rank o.state.copy)) _ _
    (if_named is (is_mastered at.me o.state.copy) _ _
    (if_named is (is_free at.me o.state) _ _ (handled_named is at r o home k h) (wait_named is r o k h))
    (if_named is (is_given o.state.copy) _ _ (send_named is at.lmaster _ o home h) h))
    (wait_named is r o k h)

recall_named : (is : ℕ → Bool) (at : Place) (r : RecallNote) (o : Moving) → is at.lmaster ≡ true → is_recalled_among is r ≡ true → Named is o → Named is (on_recall at r o)
unfolding on_recall
recall_named is at r o home k h = if_named is _ _ _ h (recalled_named is at r o home k h)

-- ---- Give, Pass and Refuse

handed_named : (is : ℕ → Bool) (rsn : ℕ) (value : List ℕ) (o : Moving) (w : Waiter) (ws : List Waiter) → list_all (waits_among is) (w ∷ ws) ≡ true → Named is o → Named is (keeps (record o.state { entry = Some (record { holder = w.node; least = rsn + 1; request = w.request; value = value }); queue = ws }) o)
unfolding Named keeps holders_of waits_among
handed_named is rsn value o w ws all h = (let p = and_parts (is w.node) (list_all (waits_among is) ws) all in record { goes = h.goes; holder_is = and_from _ _ p.0 refl; queue_are = p.1; waiting_are = h.waiting_are; tracked_are = h.tracked_are; missing_are = h.missing_are; vacuumed_are = h.vacuumed_are })

waiter_is : (is : ℕ → Bool) (w : Waiter) (ws : List Waiter) → list_all (waits_among is) (w ∷ ws) ≡ true → is w.node ≡ true
unfolding waits_among
waiter_is is w ws all = (and_parts (is w.node) (list_all (waits_among is) ws) all).0

hand_on_named : (is : ℕ → Bool) (at : Place) (rsn : ℕ) (value : List ℕ) (o : Moving) (ws : List Waiter) → o.state.queue ≡ ws → is at.lmaster ≡ true → Named is o → Named is (hand_on at rsn value o ws)
unfolding hand_on
hand_on_named is at rsn value o [] i home h = keep_named is at (rsn + 1) value o home h
hand_on_named is at rsn value o (w ∷ ws) i home h = (let all = queue_of is o (w ∷ ws) i h in
    if_named is _ _ _ (keep_named is at (rsn + 1) value o home h) (next_named is at _ (send_named is w.node _ _ (waiter_is is w ws all) (reaches_named is _ _ (handed_named is rsn value o w ws all h)))))

give_of_named : (is : ℕ → Bool) (at : Place) (x rsn : ℕ) (value : List ℕ) (o : Moving) (e : Option Entry) → is at.lmaster ≡ true → Named is o → Named is (on_give_of at x rsn value o e)
unfolding on_give_of
give_of_named is at x rsn value o None home h = h
give_of_named is at x rsn value o (Some e) home h = if_named is _ _ _ (hand_on_named is at rsn value o o.state.queue refl home h) h

refuse_of_named : (is : ℕ → Bool) (at : Place) (n request rsn : ℕ) (o : Moving) (e : Option Entry) → is at.lmaster ≡ true → Named is o → Named is (on_refuse_of at n request rsn o e)
unfolding on_refuse_of
refuse_of_named is at n request rsn o None home h = h
refuse_of_named is at n request rsn o (Some e) home h = if_named is _ _ _ (keep_named is at (rsn + 2) e.value o home h) h

becomes_named : (is : ℕ → Bool) (at : Place) (rsn : ℕ) (value : List ℕ) (o : Moving) → Named is o → Named is (becomes at rsn value o)
unfolding becomes
becomes_named is at rsn value o h = reaches_named is _ _ (untracked_named is _ o h)

pass_named : (is : ℕ → Bool) (at : Place) (rules : Rules) (request rsn : ℕ) (value : List ℕ) (o : Moving) → is at.lmaster ≡ true → Named is o → Named is (on_pass at rules request rsn value o)
unfolding on_pass accept refuse
pass_named is at rules request rsn value o home h = if_named is _ _ _ h (if_named is _ _ _
    (drained_named is at _ home (satisfy_wish_named is rules _ _ (becomes_named is at (rsn + 1) value o h)))
    (send_named is at.lmaster _ _ home (waiting_named is [] o refl h)))

-- ---- Grant, Done, Revoke and RevokeAck

read_granted_named : (is : ℕ → Bool) (request : ℕ) (o : Moving) (w : Option Wish) (value : List ℕ) → Named is o → Named is (read_granted request o w value)
unfolding read_granted
read_granted_named is request o None value h = h
read_granted_named is request o (Some w) value h = reply_named is _ _ _ (wish_named is None o h)

on_grant_named : (is : ℕ → Bool) (at : Place) (n request rsn : ℕ) (value : List ℕ) (o : Moving) → Named is o → Named is (on_grant at n request rsn value o)
unfolding on_grant
on_grant_named is at n request rsn value o h = if_named is _ _ _ (read_granted_named is request _ o.state.wish value (copy_named is _ o h)) h

done_of_named : (is : ℕ → Bool) (at : Place) (n request : ℕ) (o : Moving) (ws : List Waiter) → o.state.queue ≡ ws → Named is o → Named is (on_done_of at n request o ws)
unfolding on_done_of
done_of_named is at n request o [] i h = h
done_of_named is at n request o (w ∷ ws) i h = if_named is _ _ _ (next_named is at _ (queued_named is ws o (and_parts (waits_among is w) _ (queue_of is o (w ∷ ws) i h)).1 h)) h

acknowledge_named : (is : ℕ → Bool) (at : Place) (n rsn : ℕ) (o : Moving) → is n ≡ true → Named is o → Named is (acknowledge at n rsn o)
unfolding acknowledge
acknowledge_named is at n rsn o from h = send_named is n _ _ from (copy_named is _ o h)

renewed_named : (is : ℕ → Bool) (w : Option Wish) (m : ℕ) (o : Moving) → Named is o → Named is (record o { state = record o.state { wish = w }; next = m })
unfolding Named
renewed_named is w m o h = h

revoke_of_named : (is : ℕ → Bool) (at : Place) (n rsn : ℕ) (o : Moving) (w : Option Wish) → is at.lmaster ≡ true → is n ≡ true → Named is o → Named is (on_revoke_of at n rsn o w)
unfolding renew on_revoke_of
revoke_of_named is at n rsn o None home from h = acknowledge_named is at n rsn o from h
revoke_of_named is at n rsn o (Some w) home from h = if_named is _ _ _
    (send_named is at.lmaster _ _ home (acknowledge_named is at n rsn _ from (reaches_named is _ _ (renewed_named is _ _ o h))))
    (acknowledge_named is at n rsn o from h)

filtered_all : (is f : ℕ → Bool) (ns : List ℕ) → list_all is ns ≡ true → list_all is (filter f ns) ≡ true
filtered_all is f [] all = refl
filtered_all is f (m ∷ ns) all = (let p = and_parts (is m) (list_all is ns) all in one (f m) m (filter f ns) p.0 (filtered_all is f ns p.1))
  where
    one : (b : Bool) (m : ℕ) (ms : List ℕ) → is m ≡ true → list_all is ms ≡ true → list_all is (cond b (m ∷ ms) ms) ≡ true
    one true m ms e k = and_from _ _ e k
    one false m ms e k = k

pub others_all : (is : ℕ → Bool) (n : ℕ) (ns : List ℕ) → list_all is ns ≡ true → list_all is (others n ns) ≡ true
others_all is n ns all = filtered_all is (λ m. not (nat_eq m n)) ns all

-- a tracking that names such nodes alone
record TracksAmong (is : ℕ → Bool) (t : Tracked) : Type 0 where
  tracked_are : list_all is t.tracked ≡ true
  missing_are : list_all is (missing_of t.revoking) ≡ true

awaiting_among : (is : ℕ → Bool) (rsn : ℕ) (ns : List ℕ) (t : Tracked) → list_all is ns ≡ true → TracksAmong is t → TracksAmong is (awaiting rsn ns t)
awaiting_among is rsn [] t all h = record { tracked_are = refl; missing_are = refl }
awaiting_among is rsn (n ∷ ns) t all h = record { tracked_are = h.tracked_are; missing_are = all }

called_back_among : (is : ℕ → Bool) (n rsn : ℕ) (r : Option Revocation) (t : Tracked) → t.revoking ≡ r → TracksAmong is t → TracksAmong is (called_back_in r n rsn t)
called_back_among is n rsn None t i h = h
called_back_among is n rsn (Some r) t i h = if_tracks (nat_eq r.rsn rsn) (awaiting rsn (others n r.missing) t) t (awaiting_among is rsn _ t (others_all is n r.missing (subst (λ (x : Option Revocation). list_all is (missing_of x) ≡ true) i h.missing_are)) h) h
  where
    if_tracks : (b : Bool) (x y : Tracked) → TracksAmong is x → TracksAmong is y → TracksAmong is (cond b x y)
    if_tracks true x y p q = p
    if_tracks false x y p q = q

tracking_named : (is : ℕ → Bool) (t : Tracked) (o : Moving) → TracksAmong is t → Named is o → Named is (keeps (record o.state { tracking = t }) o)
unfolding Named keeps
tracking_named is t o k h = record { goes = h.goes; holder_is = h.holder_is; queue_are = h.queue_are; waiting_are = h.waiting_are; tracked_are = k.tracked_are; missing_are = k.missing_are; vacuumed_are = h.vacuumed_are }

tracks_of : (is : ℕ → Bool) (o : Moving) → Named is o → TracksAmong is o.state.tracking
unfolding Named
tracks_of is o h = record { tracked_are = h.tracked_are; missing_are = h.missing_are }

acked_named : (is : ℕ → Bool) (n rsn : ℕ) (o : Moving) → Named is o → Named is (acknowledged n rsn o)
unfolding acknowledged
acked_named is n rsn o h = tracking_named is _ o (called_back_among is n rsn o.state.tracking.revoking o.state.tracking refl (tracks_of is o h)) h

on_revokeack_named : (is : ℕ → Bool) (at : Place) (rules : Rules) (n rsn : ℕ) (o : Moving) → is at.lmaster ≡ true → Named is o → Named is (on_revokeack at rules n rsn o)
unfolding on_revokeack
on_revokeack_named is at rules n rsn o home h = if_named is _ _ _ (end_revocation_named is at rules _ home (acked_named is n rsn o h)) (acked_named is n rsn o h)

-- ---- the two phases of a vacuum

on_vstore_named : (is : ℕ → Bool) (at : Place) (n rsn : ℕ) (o : Moving) → is n ≡ true → Named is o → Named is (on_vstore at n rsn o)
unfolding on_vstore
on_vstore_named is at n rsn o from h = send_named is n _ _ from (copy_named is _ o h)

on_vdelete_named : (is : ℕ → Bool) (at : Place) (n rsn : ℕ) (o : Moving) → is n ≡ true → Named is o → Named is (on_vdelete at n rsn o)
unfolding on_vdelete
on_vdelete_named is at n rsn o from h = send_named is n _ _ from (copy_named is _ o h)

finished_named : (is : ℕ → Bool) (floor : ℕ) (o : Moving) → Named is o → Named is (record o { state = record o.state { copy = None; entry = None; vacuum = None }; floor = floor })
unfolding Named holders_of vacuumed_by
finished_named is floor o h = record { goes = h.goes; holder_is = refl; queue_are = h.queue_are; waiting_are = h.waiting_are; tracked_are = h.tracked_are; missing_are = h.missing_are; vacuumed_are = refl }

finish_named : (is : ℕ → Bool) (rsn : ℕ) (o : Moving) → Named is o → Named is (finish rsn o)
unfolding finish goes_among
finish_named is rsn o h = performs_named is _ _ refl (reaches_named is _ _ (finished_named is _ o h))

-- a vacuum that names such nodes alone
record VacuumsAmong (is : ℕ → Bool) (v : Vacuuming) : Type 0 where
  missing_are : list_all is v.missing ≡ true
  others_are : list_all is v.others ≡ true

vacuuming_named : (is : ℕ → Bool) (s : RecState) (v : Vacuuming) (o : Moving) → VacuumsAmong is v → s.entry ≡ o.state.entry → s.queue ≡ o.state.queue → s.waiting ≡ o.state.waiting → s.tracking ≡ o.state.tracking → s.vacuum ≡ Some v → Named is o → Named is (keeps s o)
unfolding Named keeps vacuumed_by
vacuuming_named is s v o k e q w t i h = record {
  goes = h.goes;
  holder_is = subst (λ (x : Option Entry). list_all is (holders_of x) ≡ true) (sym e) h.holder_is;
  queue_are = subst (λ (x : List Waiter). list_all (waits_among is) x ≡ true) (sym q) h.queue_are;
  waiting_are = subst (λ (x : List RecallNote). list_all (is_recalled_among is) x ≡ true) (sym w) h.waiting_are;
  tracked_are = subst (λ (x : Tracked). list_all is x.tracked ≡ true) (sym t) h.tracked_are;
  missing_are = subst (λ (x : Tracked). list_all is (missing_of x.revoking) ≡ true) (sym t) h.missing_are;
  vacuumed_are = subst (λ (x : Option Vacuuming). list_all is (vacuumed_by x) ≡ true) (sym i) (list_all-append is v.missing v.others ∙ and_from _ _ k.missing_are k.others_are);
}

vacuums_of : (is : ℕ → Bool) (o : Moving) (v : Vacuuming) → o.state.vacuum ≡ Some v → Named is o → VacuumsAmong is v
unfolding Named vacuumed_by
vacuums_of is o v i h =
    let p = and_parts (list_all is v.missing) (list_all is v.others) (sym (list_all-append is v.missing v.others) ∙ subst (λ (x : Option Vacuuming). list_all is (vacuumed_by x) ≡ true) i h.vacuumed_are) in
    record { missing_are = p.0; others_are = p.1 }

if_vacuums : (is : ℕ → Bool) (b : Bool) (x y : Vacuuming) → VacuumsAmong is x → VacuumsAmong is y → VacuumsAmong is (cond b x y)
if_vacuums is true x y p q = p
if_vacuums is false x y p q = q

done_among : (is : ℕ → Bool) (p : VacuumPhase) (n rsn : ℕ) (v : Vacuuming) → VacuumsAmong is v → VacuumsAmong is (done_by p n rsn v)
done_among is p n rsn v h = if_vacuums is (is_in p rsn v) (record v { missing = others n v.missing }) v (record { missing_are = others_all is n v.missing h.missing_are; others_are = h.others_are }) h

stored_among : (is : ℕ → Bool) (n rsn : ℕ) (v : Vacuuming) → VacuumsAmong is v → VacuumsAmong is (stored n rsn v)
stored_among is n rsn v h = if_vacuums is (ends_phase Storing n rsn v) (deleting v) (done_by Storing n rsn v) (record { missing_are = h.others_are; others_are = h.others_are }) (done_among is Storing n rsn v h)

vstored_of_named : (is : ℕ → Bool) (at : Place) (n rsn : ℕ) (o : Moving) (v : Option Vacuuming) → o.state.vacuum ≡ v → Named is o → Named is (on_vstored_of at n rsn o v)
unfolding on_vstored_of
vstored_of_named is at n rsn o None i h = h
vstored_of_named is at n rsn o (Some v) i h =
    let k = vacuums_of is o v i h in
    let m = vacuuming_named is _ (stored n rsn v) o (stored_among is n rsn v k) refl refl refl refl refl h in
    if_named is _ _ _ (send_all_named is v.others _ _ k.others_are m) m

vdeleted_of_named : (is : ℕ → Bool) (n rsn : ℕ) (o : Moving) (v : Option Vacuuming) → o.state.vacuum ≡ v → Named is o → Named is (on_vdeleted_of n rsn o v)
unfolding on_vdeleted_of
vdeleted_of_named is n rsn o None i h = h
vdeleted_of_named is n rsn o (Some v) i h = if_named is _ _ _ (finish_named is rsn o h) (vacuuming_named is _ (deleted n rsn v) o (done_among is Deleting n rsn v (vacuums_of is o v i h)) refl refl refl refl refl h)

-- ---- what clients and the node itself do

call_for_named : (is : ℕ → Bool) (at : Place) (call : ℕ) (asked : ClientOp) (o : Moving) → is at.lmaster ≡ true → Named is o → Named is (call_for at call asked o)
unfolding call_for
call_for_named is at call asked o home h = send_named is at.lmaster _ _ home (reaches_named is _ _ (renewed_named is _ _ o h))

wait_for_named : (is : ℕ → Bool) (at : Place) (call : ℕ) (asked : ClientOp) (o : Moving) → Named is o → Named is (wait_for_copies at call asked o)
unfolding wait_for_copies
wait_for_named is at call asked o h = (let k = wish_named is (Some (record { call = call; request = 0; op = asked })) o h in if_named is _ _ _ (revoke_named is at _ k) k)

want_of_named : (is : ℕ → Bool) (at : Place) (rules : Rules) (call : ℕ) (asked : ClientOp) (o : Moving) → is at.lmaster ≡ true → Named is o → Named is (want_of at rules call asked o)
unfolding want_of
want_of_named is at rules call asked o home h = if_named is (is_read asked && (is_mastered at.me o.state.copy || is_for_reading o.state.copy)) _ _
    (reply_named is call _ o h)
    (if_named is (is_mastered at.me o.state.copy) _ _
    (if_named is (is_nil o.state.tracking.tracked) _ _ (satisfy_named is rules call asked o h) (wait_for_named is at call asked o h))
    (call_for_named is at call asked o home h))

want_named : (is : ℕ → Bool) (at : Place) (rules : Rules) (call : ℕ) (asked : ClientOp) (o : Moving) → is at.lmaster ≡ true → Named is o → Named is (want at rules call asked o)
unfolding want opened_at_home
want_named is at rules call asked o home h = want_of_named is at rules call asked _ home (if_named is _ _ _ (ended_named is _ (opened_named is at o home h)) h)

begin_named : (is : ℕ → Bool) (at : Place) (o : Moving) (ns : List ℕ) → list_all is ns ≡ true → Named is o → Named is (begin_vacuum at o ns)
unfolding begin_vacuum
begin_named is at o [] all h = finish_named is (rsn_of o.state.copy) o h
begin_named is at o (n ∷ ns) all h = send_all_named is (n ∷ ns) _ _ all (reaches_named is _ _ (vacuuming_named is _ (vacuum_begun (rsn_of o.state.copy) (n ∷ ns)) o (record { missing_are = all; others_are = all }) refl refl refl refl refl h))

home_named : (is : ℕ → Bool) (at : Place) (ns : List ℕ) (o : Moving) (v : Option Vacuuming) → o.state.vacuum ≡ v → list_all is ns ≡ true → Named is o → Named is (vacuum_at_home at ns o v)
unfolding vacuum_at_home
home_named is at ns o None i all h = begin_named is at o ns all h
home_named is at ns o (Some v) i all h = send_all_named is v.missing _ o (vacuums_of is o v i h).missing_are h

vacuum_named : (is : ℕ → Bool) (at : Place) (ns : List ℕ) (o : Moving) → is at.lmaster ≡ true → list_all is ns ≡ true → Named is o → Named is (vacuum at ns o)
unfolding vacuum
vacuum_named is at ns o home all h = if_named is _ _ _ (if_named is _ _ _ (home_named is at ns o o.state.vacuum refl all h) (give_named is at o home h)) h

call_again_named : (is : ℕ → Bool) (at : Place) (o : Moving) (w : Option Wish) → is at.lmaster ≡ true → Named is o → Named is (call_again_of at o w)
unfolding call_again_of
call_again_named is at o None home h = h
call_again_named is at o (Some w) home h = if_named is (w.request == 0) _ _ h (send_named is at.lmaster _ o home h)

missing_are_of : (is : ℕ → Bool) (o : Moving) (r : Revocation) → o.state.tracking.revoking ≡ Some r → Named is o → list_all is r.missing ≡ true
unfolding Named
missing_are_of is o r i h = subst (λ (x : Option Revocation). list_all is (missing_of x) ≡ true) i h.missing_are

revoke_again_named : (is : ℕ → Bool) (at : Place) (o : Moving) (r : Option Revocation) → o.state.tracking.revoking ≡ r → Named is o → Named is (revoke_again_of at o r)
unfolding revoke_again_of
revoke_again_named is at o None i h = h
revoke_again_named is at o (Some r) i h = send_all_named is r.missing _ o (missing_are_of is o r i h) h

-- ---- every event

home_only : (is : ℕ → Bool) (at : Place) (o p : Moving) → Named is o → Named is p → Named is (at_home at p o)
unfolding at_home
home_only is at o p h k = if_named is _ _ _ k h

from_only : (is : ℕ → Bool) (at : Place) (n : ℕ) (o p : Moving) → Named is o → Named is p → Named is (from_home at n p o)
unfolding from_home
from_only is at n o p h k = if_named is _ _ _ k h

first_is : (is : ℕ → Bool) (n : ℕ) (ns : List ℕ) → list_all is (n ∷ ns) ≡ true → is n ≡ true
first_is is n ns all = (and_parts (is n) (list_all is ns) all).0

arrive_named : (is : ℕ → Bool) (at : Place) (rules : Rules) (n : ℕ) (m : Msg) (o : Moving) → is at.lmaster ≡ true → is n ≡ true → list_all is (named_in m) ≡ true → Named is o → Named is (arrive at rules n m o)
unfolding arrive on_give on_refuse on_done on_revoke on_vstored on_vdeleted named_in is_recalled_among
arrive_named is at rules n (msg.Call db key request k) o home from all h = home_only is at o _ h (call_named is at n request k o home from h)
arrive_named is at rules n (msg.Recall db key least for request k) o home from all h = from_only is at n o _ h (recall_named is at (record { least = least; node = for; request = request; kind = k }) o home (first_is is for [] all) h)
arrive_named is at rules n (msg.Give db key rsn value) o home from all h = home_only is at o _ h (give_of_named is at n rsn value o o.state.entry home h)
arrive_named is at rules n (msg.Pass db key request rsn value) o home from all h = from_only is at n o _ h (pass_named is at rules request rsn value o home h)
arrive_named is at rules n (msg.Refuse db key request rsn) o home from all h = home_only is at o _ h (refuse_of_named is at n request rsn o o.state.entry home h)
arrive_named is at rules n (msg.Grant db key request rsn value) o home from all h = on_grant_named is at n request rsn value o h
arrive_named is at rules n (msg.Done db key for request) o home from all h = home_only is at o _ h (done_of_named is at for request o o.state.queue refl h)
arrive_named is at rules n (msg.Revoke db key rsn) o home from all h = revoke_of_named is at n rsn o o.state.wish home from h
arrive_named is at rules n (msg.RevokeAck db key rsn) o home from all h = on_revokeack_named is at rules n rsn o home h
arrive_named is at rules n (msg.VStore db key rsn) o home from all h = from_only is at n o _ h (on_vstore_named is at n rsn o from h)
arrive_named is at rules n (msg.VStored db key rsn) o home from all h = home_only is at o _ h (vstored_of_named is at n rsn o o.state.vacuum refl h)
arrive_named is at rules n (msg.VDelete db key rsn) o home from all h = from_only is at n o _ h (on_vdelete_named is at n rsn o from h)
arrive_named is at rules n (msg.VDeleted db key rsn) o home from all h = home_only is at o _ h (vdeleted_of_named is n rsn o o.state.vacuum refl h)
arrive_named is at rules n _ o home from all h = h

pub move_named : (is : ℕ → Bool) (at : Place) (rules : Rules) (e : MoveEvent) (o : Moving) → is at.lmaster ≡ true → comes_among is e ≡ true → Named is o → Named is (move at rules e o)
unfolding store unlock release comes_among call_again revoke_again
move_named is at rules (event.Want call asked) o home from h = want_named is at rules call asked o home h
move_named is at rules (event.Store call v) o home from h = reply_named is _ _ _ (copy_named is _ o h)
move_named is at rules (event.Unlock call) o home from h = drained_named is at _ home (reply_named is _ _ _ (locked_named is None o h))
move_named is at rules (event.Arrive n m) o home from h = (let p = and_parts (is n) (list_all is (named_in m)) from in arrive_named is at rules n m o home p.0 p.1 h)
move_named is at rules (event.Vacuum ns) o home from h = vacuum_named is at ns o home from h
move_named is at rules event.Resend o home from h = revoke_again_named is at (call_again_of at o o.state.wish) _ refl (call_again_named is at o o.state.wish home h)

begins_named : (is : ℕ → Bool) (s : RecState) (next floor : ℕ) → NamesOnly is s → Named is (begins s next floor)
unfolding Named
begins_named is s next floor h = record { goes = refl; holder_is = h.holder_is; queue_are = h.queue_are; waiting_are = h.waiting_are; tracked_are = h.tracked_are; missing_are = h.missing_are; vacuumed_are = h.vacuumed_are }

stays_among : (is : ℕ → Bool) (o : Moving) → Named is o → StaysAmong is o
unfolding Named
stays_among is o h = (record { holder_is = h.holder_is; queue_are = h.queue_are; waiting_are = h.waiting_are; tracked_are = h.tracked_are; missing_are = h.missing_are; vacuumed_are = h.vacuumed_are }, h.goes)

pub names_kept : NamesKept
names_kept is at rules e s next floor home from h = stays_among is _ (move_named is at rules e (begins s next floor) home from (begins_named is s next floor h))

pub resends_named : ResendsNamed
unfolding call_again revoke_again
resends_named is at s next floor home h =
    let k = begins_named is s next floor h in
    (stays_among is _ (call_again_named is at (begins s next floor) s.wish home k), stays_among is _ (revoke_again_named is at (begins s next floor) s.tracking.revoking refl k))
