-- What every event makes a node send keeps the rules of its fields.
use Rattle.std.proofs.Common.{◌≡◌, ℕ, ◌+◌, Bool, true, false, List, [], ◌∷◌, Option, Some, None, refl, arith, ◌&&◌, ◌||◌, ◌<◌, ◌^◌, ◌++◌, ◌==◌, ◌-◌, subst, ◌∙◌, sym}
use Rattle.std.proofs.lemmas.Bool.{cond_both, and_parts, and_from}
use Rattle.std.proofs.lemmas.List.Folds.{list_all-append}
use Rattle.std.specs.List.{list_all}
use Rattle.std.specs.Prelude.{is_none, nat_eq, nat_le, nat_lt}
use Rattle.ct_values.specs.Words.{is_nil}
use Rattle.ct_values.specs.Client.{is_read}
use Rattle.ct_frame.specs.Header.{for_reading, plain}
use Rattle.ct_call.specs.Rules.{Rules}
use Rattle.ct_tracking.specs.Tracked.{Revocation}
use Rattle.ct_frame.specs.declared.frame.CallKind.{CallKind}
use Rattle.ct_frame.specs.declared.frame.CallKind.TheVariants as kind
use Rattle.ct_frame.specs.declared.frame.Msg.{Msg}
use Rattle.ct_frame.specs.declared.frame.Msg.TheVariants as msg
use Rattle.ct_values.specs.declared.client.Answer.TheVariants as answer
use Rattle.ct_values.specs.declared.client.ClientOp.{ClientOp}
use Rattle.ct_tracking.specs.declared.vacuum.VacuumPhase.{VacuumPhase}
use Rattle.ct_tracking.specs.declared.vacuum.VacuumPhase.TheVariants.{Storing, Deleting}
use Rattle.ct_tracking.specs.Vacuum.{Vacuuming, vacuum_begun, stored, deleted}
use Rattle.ct_rules.specs.State.{rank, is_given, kind_of, a_copy, rsn_of, is_mastered, is_free, risen, is_for_reading, value_of}
use Rattle.ct_rules.specs.Parts.{Moving, performs, send, keeps, reaches, opened, open_of, end_vacuum, next, next_of, keep, call_for, wait_for_copies, want_of, opened_at_home, want}
use Rattle.ct_rules.specs.Messages.{pass_again, enqueue, on_call_of, called, on_call, wait, handle, recalled, on_recall, hand_on, on_give_of, on_give, becomes, accept, refuse, on_pass, on_refuse_of, on_refuse, read_granted, on_grant, on_done_of, on_done, called_in, acknowledge, renew, on_revoke_of, on_revoke, acknowledged, on_revokeack, stored_copy, deleted_copy, on_vstore, on_vdelete, finish, greater, on_vstored_of, on_vstored, on_vdeleted_of, on_vdeleted}
use Rattle.ct_rules.specs.Moves.{store, release, unlock, phase_message, begin_vacuum, vacuum_at_home, vacuum, call_again_of, call_again, revoke_again_of, revoke_again, at_home, from_home, arrive, move, begins}
use Rattle.ct_law_rules.specs.Form.{least_of, sent_for, revoked_rsn, vacuumed_rsn, wished_as, is_asked, is_recalled, MayCome, IsInForm}
use Rattle.ct_law_rules.specs.Sent.{is_well_formed, is_of_node, is_for_node, waits_for_nodes, is_from_node, SendsSound}
use Rattle.ct_frame.specs.Fields.{is_db, is_node, is_message, is_from_one}
use Rattle.ct_rules.specs.declared.event.MoveEvent.{MoveEvent}
use Rattle.ct_rules.specs.declared.event.MoveEvent.TheVariants as event
use Rattle.ct_rules.specs.declared.event.Place.{Place}
use Rattle.ct_rules.specs.declared.state.Entry.{Entry}
use Rattle.ct_rules.specs.declared.state.RecallNote.{RecallNote}
use Rattle.ct_rules.specs.declared.state.RecState.{RecState}
use Rattle.ct_rules.specs.declared.state.Waiter.{Waiter}
use Rattle.ct_rules.specs.declared.state.Wish.{Wish}
use Rattle.ct_law_rules.proofs.Arriving.{stored_rsn, deleted_rsn}
use Rattle.ct_law_rules.proofs.Events.{unspent_same}
use Rattle.ct_law_rules.proofs.SentParts.{Sent, rsn_sound, request_sound, if_sent, performs_sent, send_sent, reply_sent, send_all_sent, db_of, copy_of, waiting_of, waiting_sent, ended_sent, give_sent, revoke_sent, yield_sent, still_sent, granted_sent, drained_sent, valued_sent, locked_sent, satisfy_sent, satisfy_wish_sent, unwished_sent, end_revocation_sent}

-- ---- NEXT and KEEP

recall_sound : (me db least node request : ℕ) (key : List ℕ) (k : CallKind) → is_db db ≡ true → least < 2 ^ 62 → is_node node ≡ true → is_from_one request ≡ true → is_message me (msg.Recall db key least node request k) ≡ true
recall_sound me db least node request key k d l n q = grind arith

head_of : (at : Place) (o : Moving) (w : Waiter) (ws : List Waiter) → o.state.queue ≡ w ∷ ws → Sent at o → (is_from_one w.request ≡ true) × (is_node w.node ≡ true)
unfolding Sent is_asked is_of_node
head_of at o w ws is h = (grind arith, grind arith)

entry_of : (at : Place) (o : Moving) (e : Entry) → o.state.entry ≡ Some e → Sent at o → o.spent ≡ false → (e.least < 2 ^ 62) × (e.request < 2 ^ 62)
unfolding Sent least_of sent_for
entry_of at o e is h u = (grind arith, grind arith)

next_of_sent : (at : Place) (o : Moving) (e : Option Entry) (ws : List Waiter) → o.state.entry ≡ e → o.state.queue ≡ ws → Sent at o → Sent at (next_of at o e ws)
unfolding next_of
next_of_sent at o None ws ie iq h = h
next_of_sent at o (Some e) [] ie iq h = h
next_of_sent at o (Some e) (w ∷ ws) ie iq h = (let q = head_of at o w ws iq h in send_sent at _ _ o (λ u. recall_sound at.me at.db e.least w.node w.request at.key w.kind (db_of at o h) (entry_of at o e ie h u).0 q.1 q.0) h)

next_sent : (at : Place) (o : Moving) → Sent at o → Sent at (next at o)
unfolding next
next_sent at o h = next_of_sent at o o.state.entry o.state.queue refl refl h

kept_sent : (at : Place) (rsn : ℕ) (value : List ℕ) (o : Moving) → Sent at o → Sent at (reaches rsn (keeps (record o.state { entry = Some (record { holder = at.lmaster; least = rsn; request = 0; value = value }); copy = Some (a_copy rsn at.lmaster plain value) }) o))
unfolding Sent keeps reaches least_of sent_for rsn_of
kept_sent at rsn value o h = grind arith

keep_sent : (at : Place) (rsn : ℕ) (value : List ℕ) (o : Moving) → Sent at o → Sent at (keep at rsn value o)
unfolding keep
keep_sent at rsn value o h = next_sent at _ (kept_sent at rsn value o h)

-- ---- Call

opened_sent : (at : Place) (o : Moving) → Sent at o → Sent at (opened at o)
unfolding Sent opened open_of keeps least_of sent_for rsn_of
opened_sent at o h = grind arith

pass_again_sent : (at : Place) (e : Entry) (o : Moving) → o.state.entry ≡ Some e → (o.spent ≡ false → is_from_one e.request ≡ true) → Sent at o → Sent at (pass_again at e o)
unfolding pass_again
pass_again_sent at e o is q h = send_sent at _ _ o (λ u. (let l = entry_of at o e is h u in (request_sound at.me at.db e.request (e.least - 1) at.key e.value kind.Lock (db_of at o h) (q u) (omega arith)).0)) h

queued_sent : (at : Place) (ws : List Waiter) (o : Moving) → list_all is_asked ws ≡ true → list_all is_of_node ws ≡ true → Sent at o → Sent at (keeps (record o.state { queue = ws }) o)
unfolding Sent keeps
queued_sent at ws o all nodes h = grind arith

queue_of : (at : Place) (o : Moving) → Sent at o → (list_all is_asked o.state.queue ≡ true) × (list_all is_of_node o.state.queue ≡ true)
unfolding Sent
queue_of at o h = (h.queue_asked, h.queue_nodes)

one_more : (p : Waiter → Bool) (ws : List Waiter) (w : Waiter) → list_all p ws ≡ true → p w ≡ true → list_all p (ws ++ w ∷ []) ≡ true
one_more p ws w all e = list_all-append p ws (w ∷ []) ∙ and_from _ _ all (and_from _ _ e refl)

enqueue_sent : (at : Place) (w : Waiter) (o : Moving) (ws : List Waiter) → o.state.queue ≡ ws → is_asked w ≡ true → is_of_node w ≡ true → Sent at o → Sent at (enqueue at w o ws)
unfolding enqueue
enqueue_sent at w o [] is asked named h = next_sent at _ (queued_sent at (w ∷ []) o (and_from _ _ asked refl) (and_from _ _ named refl) h)
enqueue_sent at w o (v ∷ vs) is asked named h = (let q = queue_of at o h in queued_sent at ((v ∷ vs) ++ w ∷ []) o
    (one_more is_asked (v ∷ vs) w (subst (λ (l : List Waiter). list_all is_asked l ≡ true) is q.0) asked)
    (one_more is_of_node (v ∷ vs) w (subst (λ (l : List Waiter). list_all is_of_node l ≡ true) is q.1) named) h)

same_request : (a b c d : ℕ) → (nat_eq a b && nat_eq c d) ≡ true → is_from_one d ≡ true → is_from_one c ≡ true
same_request a b c d t q = grind arith

some_request : (q : ℕ) → (q == 0) ≡ false → q < 2 ^ 62 → is_from_one q ≡ true
some_request q t l = grind arith

call_of_sent : (at : Place) (n request : ℕ) (k : CallKind) (o : Moving) (e : Option Entry) → o.state.entry ≡ e → is_from_one request ≡ true → is_node n ≡ true → Sent at o → Sent at (on_call_of at n request k o e)
unfolding on_call_of is_asked is_of_node
call_of_sent at n request k o None is asked named h = h
call_of_sent at n request k o (Some e) is asked named h = cond_both (nat_eq e.holder n && nat_eq e.request request) _ _ (Sent at)
    (λ t. pass_again_sent at e o is (λ _. same_request e.holder n e.request request t asked) h)
    (λ _. if_sent at _ _ _
    (next_sent at _ (cond_both (e.request == 0) _ _ (Sent at) (λ _. h) (λ t. pass_again_sent at e o is (λ u. some_request e.request t (entry_of at o e is h u).1) h)))
    (enqueue_sent at (record { node = n; request = request; kind = k }) o o.state.queue refl asked named h))

call_sent : (at : Place) (n request : ℕ) (k : CallKind) (o : Moving) → is_from_one request ≡ true → is_node n ≡ true → Sent at o → Sent at (on_call at n request k o)
unfolding on_call called
call_sent at n request k o asked named h = if_sent at _ _ _ h (call_of_sent at n request k (end_vacuum (opened at o)) _ refl asked named (ended_sent at _ (opened_sent at o h)))

-- ---- Recall

one_more_recall : (p : RecallNote → Bool) (ws : List RecallNote) (w : RecallNote) → list_all p ws ≡ true → p w ≡ true → list_all p (ws ++ w ∷ []) ≡ true
one_more_recall p ws w all e = list_all-append p ws (w ∷ []) ∙ and_from _ _ all (and_from _ _ e refl)

wait_sent : (at : Place) (r : RecallNote) (o : Moving) → is_recalled r ≡ true → is_for_node r ≡ true → Sent at o → Sent at (wait r o)
unfolding wait
wait_sent at r o asked named h = (let w = waiting_of at o h in if_sent at _ _ _ h (waiting_sent at (o.state.waiting ++ r ∷ []) o (one_more_recall is_recalled o.state.waiting r w.0 asked) (one_more_recall is_for_node o.state.waiting r w.1 named) h))

handled_sent : (at : Place) (r : RecallNote) (o : Moving) → is_recalled r ≡ true → is_for_node r ≡ true → Sent at o → Sent at (handle at r o)
unfolding handle
handled_sent at r o asked named h = (let w = waiting_of at o h in if_sent at _ _ _ (granted_sent at r o asked named h) (yield_sent at _ (still_sent at (r ∷ o.state.waiting) o (and_from _ _ asked w.0) (and_from _ _ named w.1) h)))

recalled_sent : (at : Place) (r : RecallNote) (o : Moving) → is_recalled r ≡ true → is_for_node r ≡ true → Sent at o → Sent at (recalled at r o)
unfolding recalled
recalled_sent at r o asked named h = if_sent at (nat_lt r.least (rank o.state.copy)) _ _
    (if_sent at (is_mastered at.me o.state.copy) _ _
    (if_sent at (is_free at.me o.state) _ _ (handled_sent at r o asked named h) (wait_sent at r o asked named h))
    (if_sent at (is_given o.state.copy) _ _ (send_sent at at.lmaster (msg.Give at.db at.key (rsn_of o.state.copy) (value_of o.state.copy)) o (λ u. (rsn_sound at.me at.db _ at.key (value_of o.state.copy) (db_of at o h) (copy_of at o h u)).0) h) h))
    (wait_sent at r o asked named h)

recall_sent : (at : Place) (r : RecallNote) (o : Moving) → is_recalled r ≡ true → is_for_node r ≡ true → Sent at o → Sent at (on_recall at r o)
unfolding on_recall
recall_sent at r o asked named h = if_sent at _ _ _ h (recalled_sent at r o asked named h)

-- ---- Give, Pass and Refuse

handed_sent : (at : Place) (rsn : ℕ) (value : List ℕ) (o : Moving) (w : Waiter) (ws : List Waiter) → o.state.queue ≡ w ∷ ws → Sent at o → Sent at (reaches (rsn + 1) (keeps (record o.state { entry = Some (record { holder = w.node; least = rsn + 1; request = w.request; value = value }); queue = ws }) o))
unfolding Sent keeps reaches least_of sent_for is_asked
handed_sent at rsn value o w ws is h = grind arith

hand_on_sent : (at : Place) (rsn : ℕ) (value : List ℕ) (o : Moving) (ws : List Waiter) → o.state.queue ≡ ws → rsn < 2 ^ 62 → Sent at o → Sent at (hand_on at rsn value o ws)
unfolding hand_on
hand_on_sent at rsn value o [] is below h = keep_sent at (rsn + 1) value o h
hand_on_sent at rsn value o (w ∷ ws) is below h = if_sent at _ _ _ (keep_sent at (rsn + 1) value o h) (next_sent at _ (send_sent at _ _ _ (λ _. (request_sound at.me at.db w.request rsn at.key value kind.Lock (db_of at o h) (head_of at o w ws is h).0 below).0) (handed_sent at rsn value o w ws is h)))

give_of_sent : (at : Place) (x rsn : ℕ) (value : List ℕ) (o : Moving) (e : Option Entry) → rsn < 2 ^ 62 → Sent at o → Sent at (on_give_of at x rsn value o e)
unfolding on_give_of
give_of_sent at x rsn value o None below h = h
give_of_sent at x rsn value o (Some e) below h = if_sent at _ _ _ (hand_on_sent at rsn value o o.state.queue refl below h) h

refuse_of_sent : (at : Place) (n request rsn : ℕ) (o : Moving) (e : Option Entry) → Sent at o → Sent at (on_refuse_of at n request rsn o e)
unfolding on_refuse_of
refuse_of_sent at n request rsn o None h = h
refuse_of_sent at n request rsn o (Some e) h = if_sent at _ _ _ (keep_sent at (rsn + 2) e.value o h) h

becomes_sent : (at : Place) (rsn : ℕ) (value : List ℕ) (o : Moving) → Sent at o → Sent at (becomes at rsn value o)
unfolding Sent becomes keeps reaches rsn_of revoked_rsn
becomes_sent at rsn value o h = grind arith

pass_sent : (at : Place) (rules : Rules) (request rsn : ℕ) (value : List ℕ) (o : Moving) → is_from_one request ≡ true → rsn < 2 ^ 62 → Sent at o → Sent at (on_pass at rules request rsn value o)
unfolding on_pass accept refuse
pass_sent at rules request rsn value o asked below h = if_sent at _ _ _ h (if_sent at _ _ _
    (drained_sent at _ (satisfy_wish_sent at rules _ _ (becomes_sent at (rsn + 1) value o h)))
    (send_sent at _ _ _ (λ _. (request_sound at.me at.db request rsn at.key [] kind.Lock (db_of at o h) asked below).2) (waiting_sent at [] o refl refl h)))

-- ---- Grant, Done, Revoke and RevokeAck

copied_sent : (at : Place) (rsn master flags : ℕ) (value : List ℕ) (o : Moving) → rsn < 2 ^ 62 → Sent at o → Sent at (keeps (record o.state { copy = Some (a_copy rsn master flags value) }) o)
unfolding Sent keeps rsn_of
copied_sent at rsn master flags value o below h = grind arith

read_granted_sent : (at : Place) (request : ℕ) (o : Moving) (w : Option Wish) (value : List ℕ) → Sent at o → Sent at (read_granted request o w value)
unfolding read_granted
read_granted_sent at request o None value h = h
read_granted_sent at request o (Some w) value h = reply_sent at _ _ _ (unwished_sent at o h)

on_grant_sent : (at : Place) (n request rsn : ℕ) (value : List ℕ) (o : Moving) → rsn < 2 ^ 62 → Sent at o → Sent at (on_grant at n request rsn value o)
unfolding on_grant
on_grant_sent at n request rsn value o below h = if_sent at _ _ _ (read_granted_sent at request _ o.state.wish value (copied_sent at rsn n for_reading value o below h)) h

served_sent : (at : Place) (o : Moving) (w : Waiter) (ws : List Waiter) → o.state.queue ≡ w ∷ ws → Sent at o → Sent at (keeps (record o.state { queue = ws }) o)
unfolding Sent keeps
served_sent at o w ws is h = grind arith

done_of_sent : (at : Place) (n request : ℕ) (o : Moving) (ws : List Waiter) → o.state.queue ≡ ws → Sent at o → Sent at (on_done_of at n request o ws)
unfolding on_done_of
done_of_sent at n request o [] is h = h
done_of_sent at n request o (w ∷ ws) is h = if_sent at _ _ _ (next_sent at _ (served_sent at o w ws is h)) h

called_in_sent : (at : Place) (rsn : ℕ) (o : Moving) → Sent at o → Sent at (keeps (record o.state { copy = called_in rsn o.state.copy }) o)
unfolding Sent keeps called_in rsn_of
called_in_sent at rsn o h = grind arith

acknowledge_sent : (at : Place) (n rsn : ℕ) (o : Moving) → rsn < 2 ^ 62 → Sent at o → Sent at (acknowledge at n rsn o)
unfolding acknowledge
acknowledge_sent at n rsn o below h = send_sent at _ _ _ (λ _. (rsn_sound at.me at.db rsn at.key [] (db_of at o h) below).2) (called_in_sent at rsn o h)

renewed_sent : (at : Place) (call : ℕ) (asked : ClientOp) (o : Moving) → Sent at o → Sent at (reaches (o.next + 1) (record o { state = record o.state { wish = Some (record { call = call; request = o.next; op = asked }) }; next = o.next + 1 }))
unfolding Sent reaches wished_as
renewed_sent at call asked o h = grind arith

-- the number that is drawn
drawn : (at : Place) (o : Moving) → Sent at o → (o.spent || nat_le (2 ^ 62) (o.next + 1)) ≡ false → is_from_one o.next ≡ true
unfolding Sent
drawn at o h u = grind arith

call_sound : (me db request : ℕ) (key : List ℕ) (k : CallKind) → is_db db ≡ true → is_from_one request ≡ true → is_message me (msg.Call db key request k) ≡ true
call_sound me db request key k d q = grind arith

acknowledged_spent : (at : Place) (h rsn : ℕ) (o : Moving) → (acknowledge at h rsn o).spent ≡ o.spent
unfolding acknowledge send performs keeps
acknowledged_spent at h rsn o = refl

made_spent : (n : ℕ) (o : Moving) → (reaches n o).spent ≡ (o.spent || nat_le (2 ^ 62) n)
unfolding reaches
made_spent n o = refl

revoke_of_sent : (at : Place) (n rsn : ℕ) (o : Moving) (w : Option Wish) → rsn < 2 ^ 62 → Sent at o → Sent at (on_revoke_of at n rsn o w)
unfolding renew on_revoke_of
revoke_of_sent at n rsn o None below h = acknowledge_sent at n rsn o below h
revoke_of_sent at n rsn o (Some w) below h = if_sent at _ _ _
    (send_sent at _ _ _ (λ u. call_sound at.me at.db o.next at.key kind.Read (db_of at o h) (drawn at o h (sym (acknowledged_spent at n rsn _ ∙ made_spent (o.next + 1) _) ∙ u))) (acknowledge_sent at n rsn _ below (renewed_sent at w.call w.op o h)))
    (acknowledge_sent at n rsn o below h)

acked_sent : (at : Place) (n rsn : ℕ) (o : Moving) → Sent at o → Sent at (acknowledged n rsn o)
unfolding Sent acknowledged keeps revoked_rsn
acked_sent at n rsn o h = grind arith

on_revokeack_sent : (at : Place) (rules : Rules) (n rsn : ℕ) (o : Moving) → Sent at o → Sent at (on_revokeack at rules n rsn o)
unfolding on_revokeack
on_revokeack_sent at rules n rsn o h = if_sent at _ _ _ (end_revocation_sent at rules _ (acked_sent at n rsn o h)) (acked_sent at n rsn o h)

-- ---- the two phases of a vacuum

stored_sent : (at : Place) (n rsn : ℕ) (o : Moving) → rsn < 2 ^ 62 → Sent at o → Sent at (keeps (record o.state { copy = stored_copy at.me n rsn (is_none o.state.locked) o.state.copy }) o)
unfolding Sent keeps stored_copy rsn_of
stored_sent at n rsn o below h = grind arith

on_vstore_sent : (at : Place) (n rsn : ℕ) (o : Moving) → rsn < 2 ^ 62 → Sent at o → Sent at (on_vstore at n rsn o)
unfolding on_vstore
on_vstore_sent at n rsn o below h = send_sent at _ _ _ (λ _. (rsn_sound at.me at.db rsn at.key [] (db_of at o h) below).4) (stored_sent at n rsn o below h)

deleted_sent : (at : Place) (rsn : ℕ) (o : Moving) → Sent at o → Sent at (keeps (record o.state { copy = deleted_copy at.me rsn (is_none o.state.locked) o.state.copy }) o)
unfolding Sent keeps deleted_copy rsn_of
deleted_sent at rsn o h = grind arith

on_vdelete_sent : (at : Place) (n rsn : ℕ) (o : Moving) → rsn < 2 ^ 62 → Sent at o → Sent at (on_vdelete at n rsn o)
unfolding on_vdelete
on_vdelete_sent at n rsn o below h = send_sent at _ _ _ (λ _. (rsn_sound at.me at.db rsn at.key [] (db_of at o h) below).6) (deleted_sent at rsn o h)

finished_sent : (at : Place) (rsn : ℕ) (o : Moving) → Sent at o → Sent at (reaches (rsn + 2) (record o { state = record o.state { copy = None; entry = None; vacuum = None }; floor = greater o.floor (rsn + 2) }))
unfolding Sent reaches greater rsn_of least_of sent_for vacuumed_rsn
finished_sent at rsn o h = grind arith

finish_sent : (at : Place) (rsn : ℕ) (o : Moving) → Sent at o → Sent at (finish rsn o)
unfolding finish is_well_formed
finish_sent at rsn o h = performs_sent at _ _ (λ _. refl) (finished_sent at rsn o h)

vacuuming_sent : (at : Place) (v w : Vacuuming) (o : Moving) → o.state.vacuum ≡ Some v → w.rsn ≡ v.rsn → Sent at o → Sent at (keeps (record o.state { vacuum = Some w }) o)
unfolding Sent keeps vacuumed_rsn
vacuuming_sent at v w o running same h = grind arith

vstored_of_sent : (at : Place) (n rsn : ℕ) (o : Moving) (v : Option Vacuuming) → o.state.vacuum ≡ v → rsn < 2 ^ 62 → Sent at o → Sent at (on_vstored_of at n rsn o v)
unfolding on_vstored_of
vstored_of_sent at n rsn o None is below h = h
vstored_of_sent at n rsn o (Some v) is below h = (let k = vacuuming_sent at v (stored n rsn v) o is (stored_rsn n rsn v) h in if_sent at _ _ _ (send_all_sent at _ _ _ (λ _. (rsn_sound at.me at.db rsn at.key [] (db_of at o h) below).5) k) k)

vdeleted_of_sent : (at : Place) (n rsn : ℕ) (o : Moving) (v : Option Vacuuming) → o.state.vacuum ≡ v → Sent at o → Sent at (on_vdeleted_of n rsn o v)
unfolding on_vdeleted_of
vdeleted_of_sent at n rsn o None is h = h
vdeleted_of_sent at n rsn o (Some v) is h = if_sent at _ _ _ (finish_sent at rsn o h) (vacuuming_sent at v (deleted n rsn v) o is (deleted_rsn n rsn v) h)

-- ---- what clients and the node itself do

call_for_sent : (at : Place) (call : ℕ) (asked : ClientOp) (o : Moving) → Sent at o → Sent at (call_for at call asked o)
unfolding call_for
call_for_sent at call asked o h = send_sent at _ _ _ (λ u. call_sound at.me at.db o.next at.key (kind_of at.readonly asked) (db_of at o h) (drawn at o h (sym (made_spent (o.next + 1) _) ∙ u))) (renewed_sent at call asked o h)

own_wish_sent : (at : Place) (call : ℕ) (asked : ClientOp) (o : Moving) → Sent at o → Sent at (keeps (record o.state { wish = Some (record { call = call; request = 0; op = asked }) }) o)
unfolding Sent keeps wished_as
own_wish_sent at call asked o h = grind arith

wait_for_sent : (at : Place) (call : ℕ) (asked : ClientOp) (o : Moving) → Sent at o → Sent at (wait_for_copies at call asked o)
unfolding wait_for_copies
wait_for_sent at call asked o h = (let k = own_wish_sent at call asked o h in if_sent at _ _ _ (revoke_sent at _ k) k)

want_of_sent : (at : Place) (rules : Rules) (call : ℕ) (asked : ClientOp) (o : Moving) → Sent at o → Sent at (want_of at rules call asked o)
unfolding want_of
want_of_sent at rules call asked o h = if_sent at (is_read asked && (is_mastered at.me o.state.copy || is_for_reading o.state.copy)) _ _
    (reply_sent at call (answer.Read (value_of o.state.copy)) o h)
    (if_sent at (is_mastered at.me o.state.copy) _ _
    (if_sent at (is_nil o.state.tracking.tracked) _ _ (satisfy_sent at rules call asked o h) (wait_for_sent at call asked o h))
    (call_for_sent at call asked o h))

pub want_sent : (at : Place) (rules : Rules) (call : ℕ) (asked : ClientOp) (o : Moving) → Sent at o → Sent at (want at rules call asked o)
unfolding want opened_at_home
want_sent at rules call asked o h = want_of_sent at rules call asked _ (if_sent at _ _ _ (ended_sent at _ (opened_sent at o h)) h)

begun_sent : (at : Place) (ns : List ℕ) (o : Moving) → Sent at o → Sent at (reaches (rsn_of o.state.copy + 1) (keeps (record o.state { copy = risen o.state.copy; vacuum = Some (vacuum_begun (rsn_of o.state.copy) ns) }) o))
unfolding Sent reaches keeps risen rsn_of vacuumed_rsn
begun_sent at ns o h = grind arith

unspent_before : (n : ℕ) (s : RecState) (o : Moving) → (reaches n (keeps s o)).spent ≡ false → o.spent ≡ false
unfolding reaches keeps
unspent_before n s o u = grind arith

begin_sent : (at : Place) (o : Moving) (others : List ℕ) → Sent at o → Sent at (begin_vacuum at o others)
unfolding begin_vacuum
begin_sent at o [] h = finish_sent at (rsn_of o.state.copy) o h
begin_sent at o (n ∷ ns) h = send_all_sent at _ _ _ (λ u. (rsn_sound at.me at.db _ at.key [] (db_of at o h) (copy_of at o h (unspent_before (rsn_of o.state.copy + 1) _ o u))).3) (begun_sent at (n ∷ ns) o h)

vacuum_of : (at : Place) (o : Moving) (v : Vacuuming) → o.state.vacuum ≡ Some v → Sent at o → o.spent ≡ false → v.rsn < 2 ^ 62
unfolding Sent vacuumed_rsn
vacuum_of at o v is h u = grind arith

phase_sound : (at : Place) (rsn : ℕ) (p : VacuumPhase) → is_db at.db ≡ true → rsn < 2 ^ 62 → is_message at.me (phase_message at rsn p) ≡ true
unfolding phase_message
phase_sound at rsn Storing d l = (rsn_sound at.me at.db rsn at.key [] d l).3
phase_sound at rsn Deleting d l = (rsn_sound at.me at.db rsn at.key [] d l).5

home_sent : (at : Place) (others : List ℕ) (o : Moving) (v : Option Vacuuming) → o.state.vacuum ≡ v → Sent at o → Sent at (vacuum_at_home at others o v)
unfolding vacuum_at_home
home_sent at others o None is h = begin_sent at o others h
home_sent at others o (Some v) is h = send_all_sent at _ _ o (λ u. phase_sound at v.rsn v.phase (db_of at o h) (vacuum_of at o v is h u)) h

pub vacuum_sent : (at : Place) (others : List ℕ) (o : Moving) → Sent at o → Sent at (vacuum at others o)
unfolding vacuum
vacuum_sent at others o h = if_sent at _ _ _ (if_sent at _ _ _ (home_sent at others o o.state.vacuum refl h) (give_sent at o h)) h

wish_of : (at : Place) (o : Moving) (w : Wish) → o.state.wish ≡ Some w → Sent at o → o.spent ≡ false → w.request < 2 ^ 62
unfolding Sent wished_as
wish_of at o w is h u = grind arith

pub call_again_sent : (at : Place) (o : Moving) (w : Option Wish) → o.state.wish ≡ w → Sent at o → Sent at (call_again_of at o w)
unfolding call_again_of
call_again_sent at o None is h = h
call_again_sent at o (Some w) is h = cond_both (w.request == 0) _ _ (Sent at) (λ _. h) (λ t. send_sent at _ _ o (λ u. call_sound at.me at.db w.request at.key (kind_of at.readonly w.op) (db_of at o h) (some_request w.request t (wish_of at o w is h u))) h)

revoking_of : (at : Place) (o : Moving) (r : Revocation) → o.state.tracking.revoking ≡ Some r → Sent at o → o.spent ≡ false → r.rsn < 2 ^ 62
unfolding Sent revoked_rsn
revoking_of at o r is h u = grind arith

pub revoke_again_sent : (at : Place) (o : Moving) (r : Option Revocation) → o.state.tracking.revoking ≡ r → Sent at o → Sent at (revoke_again_of at o r)
unfolding revoke_again_of
revoke_again_sent at o None is h = h
revoke_again_sent at o (Some r) is h = send_all_sent at _ _ o (λ u. (rsn_sound at.me at.db r.rsn at.key [] (db_of at o h) (revoking_of at o r is h u)).1) h

-- ---- every event

home_only : (at : Place) (o p : Moving) → Sent at o → Sent at p → Sent at (at_home at p o)
unfolding at_home
home_only at o p h k = if_sent at _ _ _ k h

from_only : (at : Place) (n : ℕ) (o p : Moving) → Sent at o → Sent at p → Sent at (from_home at n p o)
unfolding from_home
from_only at n o p h k = if_sent at _ _ _ k h

pub arrive_sent : (at : Place) (rules : Rules) (n : ℕ) (m : Msg) (o : Moving) → is_message n m ≡ true → is_node n ≡ true → Sent at o → Sent at (arrive at rules n m o)
unfolding arrive on_give on_refuse on_done on_revoke on_vstored on_vdeleted is_recalled is_for_node
arrive_sent at rules n (msg.Call db key request k) o keeps node h = home_only at o _ h (call_sent at n request k o (grind arith) node h)
arrive_sent at rules n (msg.Recall db key least for request k) o keeps node h = from_only at n o _ h (recall_sent at (record { least = least; node = for; request = request; kind = k }) o (grind arith) (grind arith) h)
arrive_sent at rules n (msg.Give db key rsn value) o keeps node h = home_only at o _ h (give_of_sent at n rsn value o o.state.entry (grind arith) h)
arrive_sent at rules n (msg.Pass db key request rsn value) o keeps node h = from_only at n o _ h (pass_sent at rules request rsn value o (grind arith) (grind arith) h)
arrive_sent at rules n (msg.Refuse db key request rsn) o keeps node h = home_only at o _ h (refuse_of_sent at n request rsn o o.state.entry h)
arrive_sent at rules n (msg.Grant db key request rsn value) o keeps node h = on_grant_sent at n request rsn value o (grind arith) h
arrive_sent at rules n (msg.Done db key from request) o keeps node h = home_only at o _ h (done_of_sent at from request o o.state.queue refl h)
arrive_sent at rules n (msg.Revoke db key rsn) o keeps node h = revoke_of_sent at n rsn o o.state.wish (grind arith) h
arrive_sent at rules n (msg.RevokeAck db key rsn) o keeps node h = on_revokeack_sent at rules n rsn o h
arrive_sent at rules n (msg.VStore db key rsn) o keeps node h = from_only at n o _ h (on_vstore_sent at n rsn o (grind arith) h)
arrive_sent at rules n (msg.VStored db key rsn) o keeps node h = home_only at o _ h (vstored_of_sent at n rsn o o.state.vacuum refl (grind arith) h)
arrive_sent at rules n (msg.VDelete db key rsn) o keeps node h = from_only at n o _ h (on_vdelete_sent at n rsn o (grind arith) h)
arrive_sent at rules n (msg.VDeleted db key rsn) o keeps node h = home_only at o _ h (vdeleted_of_sent at n rsn o o.state.vacuum refl h)
arrive_sent at rules n _ o keeps node h = h

pub resend_sent : (at : Place) (o : Moving) → Sent at o → Sent at (revoke_again at (call_again at o))
unfolding revoke_again call_again
resend_sent at o h = revoke_again_sent at (call_again_of at o o.state.wish) _ refl (call_again_sent at o o.state.wish refl h)

pub move_sent : (at : Place) (rules : Rules) (e : MoveEvent) (o : Moving) → MayCome o.state e → is_from_node e ≡ true → Sent at o → Sent at (move at rules e o)
unfolding store unlock release
move_sent at rules (event.Want call asked) o may node h = want_sent at rules call asked o h
move_sent at rules (event.Store call v) o may node h = reply_sent at _ _ _ (valued_sent at v o h)
move_sent at rules (event.Unlock call) o may node h = drained_sent at _ (reply_sent at _ _ _ (locked_sent at None o h))
move_sent at rules (event.Arrive sender m) o may node h = arrive_sent at rules sender m o may.1 node h
move_sent at rules (event.Vacuum others) o may node h = vacuum_sent at others o h
move_sent at rules event.Resend o may node h = resend_sent at o h

pub begins_sent : (at : Place) (s : RecState) (next : ℕ) → is_db at.db ≡ true → IsInForm at next s → waits_for_nodes s ≡ true → Sent at (begins s next at.floor)
unfolding Sent
begins_sent at s next d f nodes = (let p = and_parts (list_all is_of_node s.queue) (list_all is_for_node s.waiting) nodes in record {
  db = d;
  sound = λ _. refl;
  queue_asked = f.shape.queue_asked;
  queue_nodes = p.0;
  waiting_recalled = f.shape.waiting_recalled;
  waiting_nodes = p.1;
  from_one = f.counters.from_one;
  copy_limit = λ _. f.numbers.copy_limit;
  least_limit = λ _. f.numbers.least_limit;
  request_limit = λ _. f.numbers.request_limit;
  revocation_limit = λ _. f.numbers.revocation_limit;
  vacuum_limit = λ _. f.numbers.vacuum_limit;
  wish_limit = λ _. f.numbers.wish_limit;
  next_limit = λ _. f.counters.next_limit;
  floor_limit = λ _. f.counters.floor_limit;
})

pub sent_sound : (at : Place) (o : Moving) → o.spent ≡ false → Sent at o → (list_all (is_well_formed at.me) o.acts ≡ true) × (waits_for_nodes o.state ≡ true)
unfolding Sent
sent_sound at o u h = (h.sound u, and_from _ _ h.queue_nodes h.waiting_nodes)

pub what_is_sent : SendsSound
what_is_sent at rules e s next o d f nodes may node whole = (let u = unspent_same (move at rules e (begins s next at.floor)) o whole in
    subst (λ (x : Moving). (list_all (is_well_formed at.me) x.acts ≡ true) × (waits_for_nodes x.state ≡ true)) u.1 (sent_sound at (move at rules e (begins s next at.floor)) u.0 (move_sent at rules e (begins s next at.floor) may node (begins_sent at s next d f nodes))))
