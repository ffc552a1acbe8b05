-- Each part keeps the form of a state, and the numbers below 2^62 unless one is spent.
use Rattle.std.proofs.Common.{◌≡◌, ℕ, ◌<◌, Bool, true, false, cond, List, [], ◌∷◌, Option, Some, None, refl, arith, ◌^◌, Ok, Err}
use Rattle.std.proofs.lemmas.Bool.{cond_both, and_parts}
use Rattle.std.specs.Prelude.{is_none, Result}
use Rattle.std.specs.List.{list_all}
use Rattle.ct_values.specs.Words.{is_nil}
use Rattle.ct_call.specs.Rules.{Rules}
use Rattle.ct_call.specs.declared.fault.CallFault.{CallFault}
use Rattle.ct_call.specs.declared.fault.CallFault.TheVariants as fault
use Rattle.ct_frame.specs.declared.frame.Msg.{Msg}
use Rattle.ct_values.specs.declared.client.Answer.{Answer}
use Rattle.ct_values.specs.declared.client.ClientOp.{ClientOp}
use Rattle.ct_values.specs.declared.client.ClientOp.TheVariants as op
use Rattle.ct_rules.specs.State.{rsn_of, is_mastered, is_quiet, is_free, given, with_flags, with_value, risen}
use Rattle.ct_rules.specs.Parts.{Moving, performs, send, send_all, reply, keeps, reaches, opened, open_of, end_vacuum, give, applies, satisfy, revoke, read_here, delegate, grant, yield_record, drain, drained, satisfy_own, raise, end_revocation, next, next_of}
use Rattle.ct_rules.specs.Messages.{pass_again}
use Rattle.ct_law_rules.specs.Form.{HasShape, least_of, sent_for, revoked_rsn, vacuumed_rsn, wished_as, wishes_record, is_recalled}
use Rattle.ct_frame.specs.declared.header.RecCopy.{RecCopy}
use Rattle.ct_tracking.specs.Tracked.{Tracked}
use Rattle.ct_tracking.specs.Vacuum.{Vacuuming}
use Rattle.ct_rules.specs.declared.event.Place.{Place}
use Rattle.ct_rules.specs.declared.state.RecallNote.{RecallNote}
use Rattle.ct_rules.specs.declared.state.RecState.{RecState}
use Rattle.ct_rules.specs.declared.state.Entry.{Entry}
use Rattle.ct_rules.specs.declared.state.Waiter.{Waiter}
use Rattle.ct_rules.specs.declared.state.Wish.{Wish}

-- the middle of a step: the state has its shape, and unless a number was spent all numbers are below 2^62
pub record Facts (at : Place) (copy : Option RecCopy) (entry : Option Entry) (queue : List Waiter) (waiting : List RecallNote) (tracking : Tracked) (vacuum : Option Vacuuming) (locked : Option ℕ) (wish : Option Wish) (next floor : ℕ) (spent : Bool) : Type 0 where
  pub shape : HasShape at copy entry queue waiting tracking vacuum locked wish
  pub copy_limit : spent ≡ false → rsn_of copy < 2 ^ 62
  pub least_limit : spent ≡ false → least_of entry < 2 ^ 62
  pub request_limit : spent ≡ false → sent_for entry < 2 ^ 62
  pub revocation_limit : spent ≡ false → revoked_rsn tracking.revoking < 2 ^ 62
  pub vacuum_limit : spent ≡ false → vacuumed_rsn vacuum < 2 ^ 62
  pub wish_limit : spent ≡ false → wished_as wish < 2 ^ 62
  pub next_limit : spent ≡ false → next < 2 ^ 62
  pub floor_limit : spent ≡ false → floor < 2 ^ 62

unfoldable pub Formed : Place → Moving → Type 0
Formed at o = Facts at o.state.copy o.state.entry o.state.queue o.state.waiting o.state.tracking o.state.vacuum o.state.locked o.state.wish o.next o.floor o.spent

-- ---- sending, answering and making numbers leave the state

pub send_formed : (at : Place) (n : ℕ) (m : Msg) (o : Moving) → Formed at o → Formed at (send n m o)
unfolding Formed send performs rsn_of least_of sent_for revoked_rsn vacuumed_rsn wished_as
send_formed at n m o h = h

pub reply_formed : (at : Place) (call : ℕ) (a : Answer) (o : Moving) → Formed at o → Formed at (reply call a o)
unfolding Formed reply performs rsn_of least_of sent_for revoked_rsn vacuumed_rsn wished_as
reply_formed at call a o h = h

pub reaches_formed : (at : Place) (n : ℕ) (o : Moving) → Formed at o → Formed at (reaches n o)
unfolding Formed reaches
reaches_formed at n o h = grind arith

-- sending to several changes what is done alone
pub send_all_rest : (ns : List ℕ) (m : Msg) (o : Moving) → ((send_all ns m o).state ≡ o.state) × ((send_all ns m o).next ≡ o.next) × ((send_all ns m o).floor ≡ o.floor) × ((send_all ns m o).spent ≡ o.spent)
unfolding send_all send performs
send_all_rest [] m o = (refl, refl, refl, refl)
send_all_rest (n ∷ ns) m o = send_all_rest ns m (send n m o)

pub send_all_formed : (at : Place) (ns : List ℕ) (m : Msg) (o : Moving) → Formed at o → Formed at (send_all ns m o)
unfolding send_all
send_all_formed at [] m o h = h
send_all_formed at (n ∷ ns) m o h = send_all_formed at ns m (send n m o) (send_formed at n m o h)

pub next_formed : (at : Place) (o : Moving) → Formed at o → Formed at (next at o)
unfolding Formed next next_of send performs
next_formed at o h = grind arith

pub pass_again_formed : (at : Place) (e : Entry) (o : Moving) → Formed at o → Formed at (pass_again at e o)
unfolding Formed pass_again send performs rsn_of least_of sent_for revoked_rsn vacuumed_rsn wished_as
pass_again_formed at e o h = h

-- ---- changes of the state

pub opened_formed : (at : Place) (o : Moving) → at.me ≡ at.lmaster → Formed at o → Formed at (opened at o)
unfolding Formed opened open_of keeps is_mastered least_of sent_for rsn_of revoked_rsn vacuumed_rsn wished_as
opened_formed at o home h = grind arith

pub end_vacuum_formed : (at : Place) (o : Moving) → Formed at o → Formed at (end_vacuum o)
unfolding Formed end_vacuum keeps rsn_of least_of sent_for revoked_rsn vacuumed_rsn wished_as
end_vacuum_formed at o h = grind arith

pub unwished_formed : (at : Place) (o : Moving) → Formed at o → Formed at (keeps (record o.state { wish = None }) o)
unfolding Formed keeps wishes_record rsn_of least_of sent_for revoked_rsn vacuumed_rsn wished_as
unwished_formed at o h = grind arith

pub waiting_formed : (at : Place) (ws : List RecallNote) (o : Moving) → list_all is_recalled ws ≡ true → Formed at o → Formed at (keeps (record o.state { waiting = ws }) o)
unfolding Formed keeps rsn_of least_of sent_for revoked_rsn vacuumed_rsn wished_as
waiting_formed at ws o all h = grind arith

pub waiting_still_formed : (at : Place) (ws : List RecallNote) (o : Moving) → list_all is_recalled ws ≡ true → Formed at o → Formed at (keeps (record o.state { waiting = ws; vacuum = None }) o)
unfolding Formed keeps rsn_of least_of sent_for revoked_rsn vacuumed_rsn wished_as
waiting_still_formed at ws o all h = grind arith

pub give_formed : (at : Place) (o : Moving) → is_free at.me o.state ≡ true → Formed at o → Formed at (give at o)
unfolding Formed give send performs keeps is_free given rsn_of least_of sent_for revoked_rsn vacuumed_rsn wished_as
give_formed at o free h = grind arith

-- the copies that are called in: something is tracked, and a vacuum has ended
pub revoke_formed : (at : Place) (o : Moving) → is_mastered at.me o.state.copy ≡ true → is_none o.state.locked ≡ true → is_none o.state.vacuum ≡ true → is_nil o.state.tracking.tracked ≡ false → Formed at o → Formed at (revoke at o)
unfolding Formed revoke keeps is_mastered with_flags is_quiet rsn_of least_of sent_for revoked_rsn vacuumed_rsn wished_as
revoke_formed at o held unlocked still tracked h = grind (arith, send_all_rest)

pub yield_formed : (at : Place) (o : Moving) → is_free at.me o.state ≡ true → is_none o.state.vacuum ≡ true → Formed at o → Formed at (yield_record at o)
unfolding yield_record is_free
yield_formed at o free still h = grind (arith, give_formed, revoke_formed)

read_here_formed : (at : Place) (request : ℕ) (o : Moving) (w : Option Wish) → Formed at o → Formed at (read_here at request o w)
unfolding Formed read_here keeps reply performs wishes_record wished_as
read_here_formed at request o None h = h
read_here_formed at request o (Some w) h = grind arith

delegate_formed : (at : Place) (node request : ℕ) (o : Moving) → is_quiet o.state.tracking ≡ true → Formed at o → Formed at (delegate at node request o)
unfolding Formed delegate send performs keeps is_mastered with_flags is_quiet rsn_of
delegate_formed at node request o quiet h = grind arith

-- what holds of both choices
pub if_formed : (at : Place) (b : Bool) (x y : Moving) → Formed at x → Formed at y → Formed at (cond b x y)
if_formed at true x y p q = p
if_formed at false x y p q = q

quiet_of : (me : ℕ) (s : RecState) → is_free me s ≡ true → is_quiet s.tracking ≡ true
unfolding is_free
quiet_of me s free = grind arith

pub grant_formed : (at : Place) (node request : ℕ) (o : Moving) → is_free at.me o.state ≡ true → Formed at o → Formed at (grant at node request o)
unfolding grant
grant_formed at node request o free h = send_formed at _ _ _ (if_formed at _ _ _ (read_here_formed at request o o.state.wish h) (delegate_formed at node request o (quiet_of at.me o.state free) h))

-- an operation at the holder, with no wish, vacuum or revocation beside it
applies_formed : (at : Place) (call : ℕ) (o : Moving) (r : Result (List ℕ) CallFault) → Formed at o → Formed at (applies call o r)
unfolding Formed applies reply performs keeps is_mastered with_value rsn_of
applies_formed at call o (Ok v) h = grind arith
applies_formed at call o (Err (fault.TooLong n)) h = h
applies_formed at call o (Err fault.NoSuchCall) h = h
applies_formed at call o (Err fault.NoMemory) h = h

pub satisfy_formed : (at : Place) (rules : Rules) (call : ℕ) (asked : ClientOp) (o : Moving) → is_mastered at.me o.state.copy ≡ true → is_none o.state.wish ≡ true → is_none o.state.vacuum ≡ true → is_quiet o.state.tracking ≡ true → Formed at o → Formed at (satisfy rules call asked o)
unfolding Formed satisfy reply performs keeps is_mastered with_value rsn_of
satisfy_formed at rules call (op.Lock db key) o held unwished still quiet h = grind arith
satisfy_formed at rules call (op.Read db key) o held unwished still quiet h = h
satisfy_formed at rules call (op.Write db key v) o held unwished still quiet h = grind arith
satisfy_formed at rules call (op.Apply db key f arg) o held unwished still quiet h = applies_formed at call o _ h
satisfy_formed at rules call (op.Store db key v) o held unwished still quiet h = h
satisfy_formed at rules call (op.Unlock db key) o held unwished still quiet h = h
satisfy_formed at rules call (op.Commit db writes) o held unwished still quiet h = h

-- ---- DRAIN

pub handle_formed : (at : Place) (r : RecallNote) (rs : List RecallNote) (o : Moving) → is_free at.me o.state ≡ true → list_all is_recalled (r ∷ rs) ≡ true → Formed at o → Formed at (yield_record at (keeps (record o.state { waiting = r ∷ rs; vacuum = None }) o))
unfolding keeps is_free
handle_formed at r rs o free all h = yield_formed at (keeps (record o.state { waiting = r ∷ rs; vacuum = None }) o) free refl (waiting_still_formed at (r ∷ rs) o all h)

pub granted_formed : (at : Place) (r : RecallNote) (o : Moving) → is_free at.me o.state ≡ true → Formed at o → Formed at (grant at r.node r.request (end_vacuum o))
unfolding keeps is_free end_vacuum
granted_formed at r o free h = grant_formed at r.node r.request (end_vacuum o) free (end_vacuum_formed at o h)

pub drain_formed : (at : Place) (ws : List RecallNote) (o : Moving) → list_all is_recalled ws ≡ true → Formed at o → Formed at (drain at ws o)
unfolding drain
drain_formed at [] o all h = waiting_formed at [] o refl h
drain_formed at (r ∷ rs) o all h = cond_both (is_free at.me o.state) _ _ (Formed at)
    (λ free. if_formed at _ _ _
    (drain_formed at rs (grant at r.node r.request (end_vacuum o)) (and_parts (is_recalled r) (list_all is_recalled rs) all).1 (granted_formed at r o free h))
    (handle_formed at r rs o free all h))
    (λ _. waiting_formed at (r ∷ rs) o all h)

pub waiting_of : (at : Place) (o : Moving) → Formed at o → list_all is_recalled o.state.waiting ≡ true
unfolding Formed rsn_of least_of sent_for revoked_rsn vacuumed_rsn wished_as
waiting_of at o h = h.shape.waiting_recalled

pub drained_formed : (at : Place) (o : Moving) → Formed at o → Formed at (drained at o)
unfolding drained
drained_formed at o h = drain_formed at o.state.waiting o (waiting_of at o h) h

still_of : (at : Place) (o : Moving) (w : Wish) → o.state.wish ≡ Some w → Formed at o → is_none o.state.vacuum ≡ true
unfolding Formed rsn_of least_of sent_for revoked_rsn vacuumed_rsn wished_as
still_of at o w is h = grind arith

-- the wish of a holder is satisfied
pub satisfied_formed : (at : Place) (rules : Rules) (o : Moving) (w : Wish) → o.state.wish ≡ Some w → is_mastered at.me o.state.copy ≡ true → is_quiet o.state.tracking ≡ true → Formed at o → Formed at (satisfy rules w.call w.op (keeps (record o.state { wish = None }) o))
unfolding keeps
satisfied_formed at rules o w is held quiet h = satisfy_formed at rules w.call w.op (keeps (record o.state { wish = None }) o) held refl (still_of at o w is h) quiet (unwished_formed at o h)

-- END OF REVOCATION, at a node that was holder of it
raise_formed : (at : Place) (o : Moving) → Formed at o → Formed at (raise o)
unfolding Formed raise keeps reaches is_mastered risen with_flags is_quiet rsn_of least_of sent_for revoked_rsn vacuumed_rsn wished_as
raise_formed at o h = grind arith

raise_held : (at : Place) (o : Moving) → is_mastered at.me o.state.copy ≡ true → is_mastered at.me (raise o).state.copy ≡ true
unfolding raise keeps reaches is_mastered risen with_flags
raise_held at o held = grind arith

raise_quiet : (o : Moving) → is_quiet (raise o).state.tracking ≡ true
unfolding raise keeps reaches is_quiet
raise_quiet o = refl

own_formed : (at : Place) (rules : Rules) (o : Moving) (w : Option Wish) → o.state.wish ≡ w → is_mastered at.me o.state.copy ≡ true → is_quiet o.state.tracking ≡ true → Formed at o → Formed at (satisfy_own rules o w)
unfolding satisfy_own
own_formed at rules o None is held quiet h = h
own_formed at rules o (Some w) is held quiet h = if_formed at _ _ _ (satisfied_formed at rules o w is held quiet h) h

raise_wish : (o : Moving) → (raise o).state.wish ≡ o.state.wish
unfolding raise keeps reaches
raise_wish o = refl

pub end_revocation_formed : (at : Place) (rules : Rules) (o : Moving) → is_mastered at.me o.state.copy ≡ true → Formed at o → Formed at (end_revocation at rules o)
unfolding end_revocation
end_revocation_formed at rules o held h = drained_formed at _ (own_formed at rules (raise o) o.state.wish (raise_wish o) (raise_held at o held) (raise_quiet o) (raise_formed at o h))
