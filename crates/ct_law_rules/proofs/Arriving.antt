-- What comes of each message keeps the form of a state.
use Rattle.std.proofs.Common.{◌≡◌, ℕ, ◌+◌, ◌<◌, Bool, true, false, List, [], ◌∷◌, ◌++◌, Option, Some, None, refl, ap, subst, ◌∙◌, arith, ◌^◌}
use Rattle.std.proofs.lemmas.Bool.{cond_both, and_from}
use Rattle.std.proofs.lemmas.List.Folds.{list_all-append}
use Rattle.std.specs.Prelude.{is_none}
use Rattle.std.specs.List.{list_all}
use Rattle.ct_values.specs.Words.{is_nil}
use Rattle.ct_frame.specs.Header.{plain}
use Rattle.ct_call.specs.Rules.{Rules}
use Rattle.ct_frame.specs.Fields.{is_from_one}
use Rattle.ct_frame.specs.declared.frame.CallKind.{CallKind}
use Rattle.ct_frame.specs.declared.frame.CallKind.TheVariants as kind
use Rattle.ct_rules.specs.State.{a_copy, rsn_of, is_mastered, is_quiet, is_free, is_wished}
use Rattle.ct_rules.specs.Parts.{Moving, performs, send, reply, keeps, reaches, opened, end_vacuum, keep}
use Rattle.ct_rules.specs.Messages.{enqueue, on_call_of, called, on_call, wait, handle, recalled, on_recall, hand_on, on_give_of, on_give, satisfy_wish, becomes, accept, refuse, on_pass, on_refuse_of, on_refuse, read_granted, on_grant, on_done_of, on_done, called_in, acknowledge, renew, on_revoke_of, on_revoke, acknowledged, on_revokeack, stored_copy, deleted_copy, on_vstore, on_vdelete, finish, greater, on_vstored_of, on_vstored, on_vdeleted_of, on_vdeleted}
use Rattle.ct_law_rules.specs.Form.{least_of, sent_for, revoked_rsn, vacuumed_rsn, wished_as, wishes_record, is_asked, is_recalled}
use Rattle.ct_rules.specs.declared.event.Place.{Place}
use Rattle.ct_rules.specs.declared.state.RecallNote.{RecallNote}
use Rattle.ct_rules.specs.declared.state.Entry.{Entry}
use Rattle.ct_rules.specs.declared.state.Waiter.{Waiter}
use Rattle.ct_rules.specs.declared.state.Wish.{Wish}
use Rattle.ct_law_rules.proofs.Formed.{Formed, send_formed, send_all_formed, next_formed, pass_again_formed, opened_formed, end_vacuum_formed, waiting_formed, if_formed, handle_formed, granted_formed, waiting_of, drained_formed, satisfied_formed, end_revocation_formed}
use Rattle.ct_tracking.specs.Tracked.{ends}
use Rattle.ct_tracking.specs.Vacuum.{Vacuuming, stored, deleted}

-- ---- Call

queued_formed : (at : Place) (ws : List Waiter) (o : Moving) → list_all is_asked ws ≡ true → is_none o.state.entry ≡ false → is_none o.state.vacuum ≡ true → Formed at o → Formed at (keeps (record o.state { queue = ws }) o)
unfolding Formed keeps
queued_formed at ws o all there still h = grind arith

queue_of : (at : Place) (o : Moving) → Formed at o → list_all is_asked o.state.queue ≡ true
unfolding Formed
queue_of at o h = h.shape.queue_asked

pub enqueue_formed : (at : Place) (w : Waiter) (o : Moving) (ws : List Waiter) → o.state.queue ≡ ws → is_none o.state.entry ≡ false → is_none o.state.vacuum ≡ true → is_asked w ≡ true → Formed at o → Formed at (enqueue at w o ws)
unfolding enqueue
enqueue_formed at w o [] is there still asked h = next_formed at _ (queued_formed at (w ∷ []) o (and_from _ _ asked refl) there still h)
enqueue_formed at w o (v ∷ vs) is there still asked h = queued_formed at ((v ∷ vs) ++ w ∷ []) o (list_all-append is_asked (v ∷ vs) (w ∷ []) ∙ and_from _ _ (subst (λ (x : List Waiter). list_all is_asked x ≡ true) is (queue_of at o h)) (and_from _ _ asked refl)) there still h

called_of_formed : (at : Place) (n request : ℕ) (k : CallKind) (o : Moving) (e : Option Entry) → o.state.entry ≡ e → is_none o.state.vacuum ≡ true → is_from_one request ≡ true → Formed at o → Formed at (on_call_of at n request k o e)
unfolding on_call_of is_asked
called_of_formed at n request k o None is still asked h = h
called_of_formed at n request k o (Some e) is still asked h =
    if_formed at _ _ _ (pass_again_formed at e o h)
    (if_formed at _ _ _ (next_formed at _ (if_formed at _ _ _ h (pass_again_formed at e o h)))
    (enqueue_formed at (record { node = n; request = request; kind = k }) o o.state.queue refl (ap (λ (x : Option Entry). is_none x) is) still asked h))

called_formed : (at : Place) (n request : ℕ) (k : CallKind) (o : Moving) → is_none o.state.vacuum ≡ true → is_from_one request ≡ true → Formed at o → Formed at (called at n request k o)
unfolding called
called_formed at n request k o still asked h = called_of_formed at n request k o o.state.entry refl still asked h

ended : (o : Moving) → is_none (end_vacuum o).state.vacuum ≡ true
unfolding end_vacuum keeps
ended o = refl

pub call_formed : (at : Place) (n request : ℕ) (k : CallKind) (o : Moving) → at.me ≡ at.lmaster → is_from_one request ≡ true → Formed at o → Formed at (on_call at n request k o)
unfolding on_call
call_formed at n request k o home asked h = if_formed at _ _ _ h (called_formed at n request k (end_vacuum (opened at o)) (ended (opened at o)) asked (end_vacuum_formed at (opened at o) (opened_formed at o home h)))

-- ---- Recall

wait_formed : (at : Place) (r : RecallNote) (o : Moving) → is_recalled r ≡ true → Formed at o → Formed at (wait r o)
unfolding wait
wait_formed at r o asked h = if_formed at _ _ _ h (waiting_formed at (o.state.waiting ++ r ∷ []) o (list_all-append is_recalled o.state.waiting (r ∷ []) ∙ and_from _ _ (waiting_of at o h) (and_from _ _ asked refl)) h)

handled_formed : (at : Place) (r : RecallNote) (o : Moving) → is_recalled r ≡ true → is_free at.me o.state ≡ true → Formed at o → Formed at (handle at r o)
unfolding handle
handled_formed at r o asked free h = if_formed at _ _ _ (granted_formed at r o free h) (handle_formed at r o.state.waiting o free (and_from _ _ asked (waiting_of at o h)) h)

recalled_formed : (at : Place) (r : RecallNote) (o : Moving) → is_recalled r ≡ true → Formed at o → Formed at (recalled at r o)
unfolding recalled
recalled_formed at r o asked h = if_formed at _ _ _
    (if_formed at _ _ _
    (cond_both (is_free at.me o.state) _ _ (Formed at) (λ free. handled_formed at r o asked free h) (λ _. wait_formed at r o asked h))
    (if_formed at _ _ _ (send_formed at _ _ o h) h))
    (wait_formed at r o asked h)

pub recall_formed : (at : Place) (r : RecallNote) (o : Moving) → is_recalled r ≡ true → Formed at o → Formed at (on_recall at r o)
unfolding on_recall
recall_formed at r o asked h = if_formed at _ _ _ h (recalled_formed at r o asked h)

-- ---- Give and Refuse

kept_formed : (at : Place) (rsn : ℕ) (value : List ℕ) (o : Moving) → at.me ≡ at.lmaster → Formed at o → Formed at (reaches rsn (keeps (record o.state { entry = Some (record { holder = at.lmaster; least = rsn; request = 0; value = value }); copy = Some (a_copy rsn at.lmaster plain value) }) o))
unfolding Formed keeps reaches is_mastered least_of sent_for rsn_of
kept_formed at rsn value o home h = grind arith

pub keep_formed : (at : Place) (rsn : ℕ) (value : List ℕ) (o : Moving) → at.me ≡ at.lmaster → Formed at o → Formed at (keep at rsn value o)
unfolding keep
keep_formed at rsn value o home h = next_formed at _ (kept_formed at rsn value o home h)

handed_formed : (at : Place) (rsn : ℕ) (value : List ℕ) (o : Moving) (w : Waiter) (ws : List Waiter) → o.state.queue ≡ w ∷ ws → Formed at o → Formed at (reaches (rsn + 1) (keeps (record o.state { entry = Some (record { holder = w.node; least = rsn + 1; request = w.request; value = value }); queue = ws }) o))
unfolding Formed keeps reaches least_of sent_for is_asked
handed_formed at rsn value o w ws is h = grind arith

hand_on_formed : (at : Place) (rsn : ℕ) (value : List ℕ) (o : Moving) (ws : List Waiter) → o.state.queue ≡ ws → at.me ≡ at.lmaster → Formed at o → Formed at (hand_on at rsn value o ws)
unfolding hand_on
hand_on_formed at rsn value o [] is home h = keep_formed at (rsn + 1) value o home h
hand_on_formed at rsn value o (w ∷ ws) is home h = if_formed at _ _ _ (keep_formed at (rsn + 1) value o home h) (next_formed at _ (send_formed at _ _ _ (handed_formed at rsn value o w ws is h)))

give_of_formed : (at : Place) (x rsn : ℕ) (value : List ℕ) (o : Moving) (e : Option Entry) → at.me ≡ at.lmaster → Formed at o → Formed at (on_give_of at x rsn value o e)
unfolding on_give_of
give_of_formed at x rsn value o None home h = h
give_of_formed at x rsn value o (Some e) home h = if_formed at _ _ _ (hand_on_formed at rsn value o o.state.queue refl home h) h

pub on_give_formed : (at : Place) (x rsn : ℕ) (value : List ℕ) (o : Moving) → at.me ≡ at.lmaster → Formed at o → Formed at (on_give at x rsn value o)
unfolding on_give
on_give_formed at x rsn value o home h = give_of_formed at x rsn value o o.state.entry home h

refuse_of_formed : (at : Place) (n request rsn : ℕ) (o : Moving) (e : Option Entry) → at.me ≡ at.lmaster → Formed at o → Formed at (on_refuse_of at n request rsn o e)
unfolding on_refuse_of
refuse_of_formed at n request rsn o None home h = h
refuse_of_formed at n request rsn o (Some e) home h = if_formed at _ _ _ (keep_formed at (rsn + 2) e.value o home h) h

pub on_refuse_formed : (at : Place) (n request rsn : ℕ) (o : Moving) → at.me ≡ at.lmaster → Formed at o → Formed at (on_refuse at n request rsn o)
unfolding on_refuse
on_refuse_formed at n request rsn o home h = refuse_of_formed at n request rsn o o.state.entry home h

-- ---- Pass

become_formed : (at : Place) (rsn : ℕ) (value : List ℕ) (o : Moving) → is_none o.state.wish ≡ false → Formed at o → Formed at (becomes at rsn value o)
unfolding Formed becomes keeps reaches is_mastered is_quiet rsn_of least_of sent_for revoked_rsn vacuumed_rsn wished_as
become_formed at rsn value o wished h = grind arith

satisfy_wish_formed : (at : Place) (rules : Rules) (o : Moving) (w : Option Wish) → o.state.wish ≡ w → is_mastered at.me o.state.copy ≡ true → is_quiet o.state.tracking ≡ true → Formed at o → Formed at (satisfy_wish rules o w)
unfolding satisfy_wish
satisfy_wish_formed at rules o None is held quiet h = h
satisfy_wish_formed at rules o (Some w) is held quiet h = satisfied_formed at rules o w is held quiet h

become_held : (at : Place) (rsn : ℕ) (value : List ℕ) (o : Moving) → is_mastered at.me (becomes at rsn value o).state.copy ≡ true
unfolding becomes keeps reaches is_mastered
become_held at rsn value o = grind arith

become_rest : (at : Place) (rsn : ℕ) (value : List ℕ) (o : Moving) → ((becomes at rsn value o).state.wish ≡ o.state.wish) × (is_quiet (becomes at rsn value o).state.tracking ≡ true)
unfolding becomes keeps reaches is_quiet
become_rest at rsn value o = (refl, refl)

accept_formed : (at : Place) (rules : Rules) (rsn : ℕ) (value : List ℕ) (o : Moving) → is_none o.state.wish ≡ false → Formed at o → Formed at (accept at rules rsn value o)
unfolding accept
accept_formed at rules rsn value o wished h = drained_formed at _ (satisfy_wish_formed at rules (becomes at (rsn + 1) value o) o.state.wish (become_rest at (rsn + 1) value o).0 (become_held at (rsn + 1) value o) (become_rest at (rsn + 1) value o).1 (become_formed at (rsn + 1) value o wished h))

refuse_formed : (at : Place) (request rsn : ℕ) (o : Moving) → Formed at o → Formed at (refuse at request rsn o)
unfolding refuse
refuse_formed at request rsn o h = send_formed at _ _ _ (waiting_formed at [] o refl h)

wished_some : (readonly : Bool) (request : ℕ) (k : CallKind) (w : Option Wish) → is_wished readonly request k w ≡ true → is_none w ≡ false
unfolding is_wished
wished_some readonly request k None is = absurd (cc)
wished_some readonly request k (Some w) is = refl

pub pass_formed : (at : Place) (rules : Rules) (request rsn : ℕ) (value : List ℕ) (o : Moving) → Formed at o → Formed at (on_pass at rules request rsn value o)
unfolding on_pass
pass_formed at rules request rsn value o h = if_formed at _ _ _ h (cond_both (is_wished at.readonly request kind.Lock o.state.wish) _ _ (Formed at) (λ wished. accept_formed at rules rsn value o (wished_some at.readonly request kind.Lock o.state.wish wished) h) (λ _. refuse_formed at request rsn o h))

-- ---- Grant, Done, Revoke and RevokeAck

pub on_grant_formed : (at : Place) (n request rsn : ℕ) (value : List ℕ) (o : Moving) → rsn < 2 ^ 62 → Formed at o → Formed at (on_grant at n request rsn value o)
unfolding Formed on_grant read_granted reply performs keeps wishes_record is_wished rsn_of least_of sent_for revoked_rsn vacuumed_rsn wished_as
on_grant_formed at n request rsn value o below h = grind arith

served_formed : (at : Place) (o : Moving) (w : Waiter) (ws : List Waiter) → o.state.queue ≡ w ∷ ws → Formed at o → Formed at (keeps (record o.state { queue = ws }) o)
unfolding Formed keeps rsn_of least_of sent_for revoked_rsn vacuumed_rsn wished_as
served_formed at o w ws is h = grind arith

done_of_formed : (at : Place) (n request : ℕ) (o : Moving) (ws : List Waiter) → o.state.queue ≡ ws → Formed at o → Formed at (on_done_of at n request o ws)
unfolding on_done_of
done_of_formed at n request o [] is h = h
done_of_formed at n request o (w ∷ ws) is h = if_formed at _ _ _ (next_formed at _ (served_formed at o w ws is h)) h

pub on_done_formed : (at : Place) (n request : ℕ) (o : Moving) → Formed at o → Formed at (on_done at n request o)
unfolding on_done
on_done_formed at n request o h = done_of_formed at n request o o.state.queue refl h

acknowledge_formed : (at : Place) (n rsn : ℕ) (o : Moving) → Formed at o → Formed at (acknowledge at n rsn o)
unfolding Formed acknowledge called_in send performs keeps is_mastered rsn_of
acknowledge_formed at n rsn o h = grind arith

renewed_formed : (at : Place) (o : Moving) (w : Wish) → o.state.wish ≡ Some w → Formed at o → Formed at (reaches (o.next + 1) (record o { state = record o.state { wish = Some (record w { request = o.next }) }; next = o.next + 1 }))
unfolding Formed reaches wishes_record wished_as
renewed_formed at o w is h = grind arith

revoke_of_formed : (at : Place) (n rsn : ℕ) (o : Moving) (w : Option Wish) → o.state.wish ≡ w → Formed at o → Formed at (on_revoke_of at n rsn o w)
unfolding renew on_revoke_of
revoke_of_formed at n rsn o None is h = acknowledge_formed at n rsn o h
revoke_of_formed at n rsn o (Some w) is h = if_formed at _ _ _ (send_formed at _ _ _ (acknowledge_formed at n rsn _ (renewed_formed at o w is h))) (acknowledge_formed at n rsn o h)

pub on_revoke_formed : (at : Place) (n rsn : ℕ) (o : Moving) → Formed at o → Formed at (on_revoke at n rsn o)
unfolding on_revoke
on_revoke_formed at n rsn o h = revoke_of_formed at n rsn o o.state.wish refl h

acknowledged_formed : (at : Place) (n rsn : ℕ) (o : Moving) → Formed at o → Formed at (acknowledged n rsn o)
unfolding Formed acknowledged keeps is_quiet rsn_of least_of sent_for revoked_rsn vacuumed_rsn wished_as
acknowledged_formed at n rsn o h = grind arith

ends_held : (at : Place) (n rsn : ℕ) (o : Moving) → ends n rsn o.state.tracking ≡ true → Formed at o → is_mastered at.me (acknowledged n rsn o).state.copy ≡ true
unfolding Formed acknowledged keeps is_quiet rsn_of least_of sent_for revoked_rsn vacuumed_rsn wished_as
ends_held at n rsn o last h = grind arith

pub on_revokeack_formed : (at : Place) (rules : Rules) (n rsn : ℕ) (o : Moving) → Formed at o → Formed at (on_revokeack at rules n rsn o)
unfolding on_revokeack
on_revokeack_formed at rules n rsn o h = cond_both (ends n rsn o.state.tracking) _ _ (Formed at) (λ last. end_revocation_formed at rules (acknowledged n rsn o) (ends_held at n rsn o last h) (acknowledged_formed at n rsn o h)) (λ _. acknowledged_formed at n rsn o h)

-- ---- the two phases of a vacuum

pub on_vstore_formed : (at : Place) (n rsn : ℕ) (o : Moving) → rsn < 2 ^ 62 → Formed at o → Formed at (on_vstore at n rsn o)
unfolding Formed on_vstore stored_copy send performs keeps is_mastered rsn_of least_of sent_for revoked_rsn vacuumed_rsn wished_as
on_vstore_formed at n rsn o below h = grind arith

pub on_vdelete_formed : (at : Place) (n rsn : ℕ) (o : Moving) → Formed at o → Formed at (on_vdelete at n rsn o)
unfolding Formed on_vdelete deleted_copy send performs keeps is_mastered rsn_of least_of sent_for revoked_rsn vacuumed_rsn wished_as
on_vdelete_formed at n rsn o h = grind arith

pub finish_formed : (at : Place) (rsn : ℕ) (o : Moving) → is_none o.state.locked ≡ true → is_quiet o.state.tracking ≡ true → is_nil o.state.queue ≡ true → Formed at o → Formed at (finish rsn o)
unfolding Formed finish performs reaches greater least_of sent_for rsn_of revoked_rsn vacuumed_rsn wished_as
finish_formed at rsn o unlocked quiet empty h = grind arith

vacuuming_formed : (at : Place) (v w : Vacuuming) (o : Moving) → o.state.vacuum ≡ Some v → w.rsn ≡ v.rsn → Formed at o → Formed at (keeps (record o.state { vacuum = Some w }) o)
unfolding Formed keeps vacuumed_rsn
vacuuming_formed at v w o running same h = grind arith

pub stored_rsn : (n rsn : ℕ) (v : Vacuuming) → (stored n rsn v).rsn ≡ v.rsn
stored_rsn n rsn v = grind arith

pub deleted_rsn : (n rsn : ℕ) (v : Vacuuming) → (deleted n rsn v).rsn ≡ v.rsn
deleted_rsn n rsn v = grind arith

vstored_of_formed : (at : Place) (n rsn : ℕ) (o : Moving) (v : Option Vacuuming) → o.state.vacuum ≡ v → Formed at o → Formed at (on_vstored_of at n rsn o v)
unfolding on_vstored_of
vstored_of_formed at n rsn o None is h = h
vstored_of_formed at n rsn o (Some v) is h = (let k = vacuuming_formed at v (stored n rsn v) o is (stored_rsn n rsn v) h in if_formed at _ _ _ (send_all_formed at _ _ _ k) k)

pub on_vstored_formed : (at : Place) (n rsn : ℕ) (o : Moving) → Formed at o → Formed at (on_vstored at n rsn o)
unfolding on_vstored
on_vstored_formed at n rsn o h = vstored_of_formed at n rsn o o.state.vacuum refl h

running : (at : Place) (o : Moving) (v : Vacuuming) → o.state.vacuum ≡ Some v → Formed at o → (is_none o.state.locked ≡ true) × (is_quiet o.state.tracking ≡ true) × (is_nil o.state.queue ≡ true)
unfolding Formed rsn_of least_of sent_for revoked_rsn vacuumed_rsn wished_as
running at o v is h = (grind arith, grind arith, grind arith)

vdeleted_of_formed : (at : Place) (n rsn : ℕ) (o : Moving) (v : Option Vacuuming) → o.state.vacuum ≡ v → Formed at o → Formed at (on_vdeleted_of n rsn o v)
unfolding on_vdeleted_of
vdeleted_of_formed at n rsn o None is h = h
vdeleted_of_formed at n rsn o (Some v) is h = (let r = running at o v is h in if_formed at _ _ _ (finish_formed at rsn o r.0 r.1 r.2 h) (vacuuming_formed at v (deleted n rsn v) o is (deleted_rsn n rsn v) h))

pub on_vdeleted_formed : (at : Place) (n rsn : ℕ) (o : Moving) → Formed at o → Formed at (on_vdeleted n rsn o)
unfolding on_vdeleted
on_vdeleted_formed at n rsn o h = vdeleted_of_formed at n rsn o o.state.vacuum refl h
