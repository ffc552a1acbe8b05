-- Each part of the rules of one record names and speaks to the same kind of nodes.
use Rattle.std.proofs.Common.{◌≡◌, ℕ, Bool, true, false, cond, List, [], ◌∷◌, ◌++◌, Option, Some, None, refl, Ok, Err, ◌∙◌}
use Rattle.std.proofs.lemmas.Bool.{and_parts, and_from}
use Rattle.std.proofs.lemmas.List.Folds.{list_all-append}
use Rattle.std.specs.List.{list_all}
use Rattle.std.specs.Prelude.{Result, nat_lt, nat_eq}
use Rattle.ct_frame.specs.Header.{being_revoked, delegated}
use Rattle.ct_call.specs.Rules.{Rules}
use Rattle.ct_call.specs.declared.fault.CallFault.{CallFault}
use Rattle.ct_call.specs.declared.fault.CallFault.TheVariants as fault
use Rattle.ct_tracking.specs.Awaited.{including}
use Rattle.ct_tracking.specs.Tracked.{Tracked, missing_of}
use Rattle.ct_tracking.specs.Tracked as tracked
use Rattle.ct_frame.specs.declared.frame.Msg.{Msg}
use Rattle.ct_frame.specs.declared.header.RecCopy.{RecCopy}
use Rattle.ct_values.specs.declared.client.Answer.{Answer}
use Rattle.ct_values.specs.declared.client.ClientOp.{ClientOp}
use Rattle.ct_values.specs.declared.client.ClientOp.TheVariants as op
use Rattle.ct_tracking.specs.Vacuum.{Vacuuming}
use Rattle.ct_rules.specs.State.{rsn_of, given, with_flags}
use Rattle.ct_rules.specs.Parts.{Moving, performs, send, send_all, reply, keeps, reaches, end_vacuum, give, applies, satisfy, revoke, read_here, delegate, grant, yield_record, drain, drained, satisfy_own, raise, end_revocation}
use Rattle.ct_rules.specs.Messages.{satisfy_wish}
use Rattle.ct_rules.specs.declared.event.Act.{Act}
use Rattle.ct_rules.specs.declared.event.Act.TheVariants as act
use Rattle.ct_rules.specs.declared.event.Place.{Place}
use Rattle.ct_rules.specs.declared.state.Entry.{Entry}
use Rattle.ct_rules.specs.declared.state.RecallNote.{RecallNote}
use Rattle.ct_rules.specs.declared.state.Waiter.{Waiter}
use Rattle.ct_rules.specs.declared.state.Wish.{Wish}
use Rattle.ct_law_rules_node.specs.Named.{holders_of, waits_among, is_recalled_among, vacuumed_by, goes_among}

-- the middle of a step: what was done goes to such nodes, and what is kept names such nodes alone
pub record NamedFacts (is : ℕ → Bool) (acts : List Act) (entry : Option Entry) (queue : List Waiter) (waiting : List RecallNote) (tracking : Tracked) (vacuum : Option Vacuuming) : Type 0 where
  pub goes : list_all (goes_among is) acts ≡ true
  pub holder_is : list_all is (holders_of entry) ≡ true
  pub queue_are : list_all (waits_among is) queue ≡ true
  pub waiting_are : list_all (is_recalled_among is) waiting ≡ true
  pub tracked_are : list_all is tracking.tracked ≡ true
  pub missing_are : list_all is (missing_of tracking.revoking) ≡ true
  pub vacuumed_are : list_all is (vacuumed_by vacuum) ≡ true

unfoldable pub Named : (ℕ → Bool) → Moving → Type 0
Named is o = NamedFacts is o.acts o.state.entry o.state.queue o.state.waiting o.state.tracking o.state.vacuum

pub all_one_more : {X : Type 0} (p : X → Bool) (xs : List X) (x : X) → list_all p xs ≡ true → p x ≡ true → list_all p (xs ++ x ∷ []) ≡ true
all_one_more p xs x all e = list_all-append p xs (x ∷ []) ∙ and_from _ _ all (and_from _ _ e refl)

pub if_named : (is : ℕ → Bool) (b : Bool) (x y : Moving) → Named is x → Named is y → Named is (cond b x y)
if_named is true x y p q = p
if_named is false x y p q = q

pub performs_named : (is : ℕ → Bool) (a : Act) (o : Moving) → goes_among is a ≡ true → Named is o → Named is (performs a o)
unfolding Named performs
performs_named is a o k h = record { goes = all_one_more (goes_among is) o.acts a h.goes k; holder_is = h.holder_is; queue_are = h.queue_are; waiting_are = h.waiting_are; tracked_are = h.tracked_are; missing_are = h.missing_are; vacuumed_are = h.vacuumed_are }

pub send_named : (is : ℕ → Bool) (n : ℕ) (m : Msg) (o : Moving) → is n ≡ true → Named is o → Named is (send n m o)
unfolding send goes_among
send_named is n m o k h = performs_named is (act.Send n m) o k h

pub reply_named : (is : ℕ → Bool) (call : ℕ) (a : Answer) (o : Moving) → Named is o → Named is (reply call a o)
unfolding reply goes_among
reply_named is call a o h = performs_named is (act.Answer call a) o refl h

pub send_all_named : (is : ℕ → Bool) (ns : List ℕ) (m : Msg) (o : Moving) → list_all is ns ≡ true → Named is o → Named is (send_all ns m o)
unfolding send_all
send_all_named is [] m o k h = h
send_all_named is (n ∷ ns) m o k h = (let p = and_parts (is n) (list_all is ns) k in send_all_named is ns m (send n m o) p.1 (send_named is n m o p.0 h))

-- ---- what of the state names no node

pub copy_named : (is : ℕ → Bool) (copy : Option RecCopy) (o : Moving) → Named is o → Named is (keeps (record o.state { copy = copy }) o)
unfolding Named keeps
copy_named is copy o h = h

pub locked_named : (is : ℕ → Bool) (l : Option ℕ) (o : Moving) → Named is o → Named is (keeps (record o.state { locked = l }) o)
unfolding Named keeps
locked_named is l o h = h

pub wish_named : (is : ℕ → Bool) (w : Option Wish) (o : Moving) → Named is o → Named is (keeps (record o.state { wish = w }) o)
unfolding Named keeps
wish_named is w o h = h

pub reaches_named : (is : ℕ → Bool) (n : ℕ) (o : Moving) → Named is o → Named is (reaches n o)
unfolding Named reaches
reaches_named is n o h = h

-- ---- the parts

pub tracked_of : (is : ℕ → Bool) (o : Moving) → Named is o → list_all is o.state.tracking.tracked ≡ true
unfolding Named
tracked_of is o h = h.tracked_are

pub waiting_of : (is : ℕ → Bool) (o : Moving) → Named is o → list_all (is_recalled_among is) o.state.waiting ≡ true
unfolding Named
waiting_of is o h = h.waiting_are

pub waiting_named : (is : ℕ → Bool) (ws : List RecallNote) (o : Moving) → list_all (is_recalled_among is) ws ≡ true → Named is o → Named is (keeps (record o.state { waiting = ws }) o)
unfolding Named keeps
waiting_named is ws o all h = record { goes = h.goes; holder_is = h.holder_is; queue_are = h.queue_are; waiting_are = all; tracked_are = h.tracked_are; missing_are = h.missing_are; vacuumed_are = h.vacuumed_are }

pub still_named : (is : ℕ → Bool) (ws : List RecallNote) (o : Moving) → list_all (is_recalled_among is) ws ≡ true → Named is o → Named is (keeps (record o.state { waiting = ws; vacuum = None }) o)
unfolding Named keeps vacuumed_by
still_named is ws o all h = record { goes = h.goes; holder_is = h.holder_is; queue_are = h.queue_are; waiting_are = all; tracked_are = h.tracked_are; missing_are = h.missing_are; vacuumed_are = refl }

pub ended_named : (is : ℕ → Bool) (o : Moving) → Named is o → Named is (end_vacuum o)
unfolding Named end_vacuum keeps vacuumed_by
ended_named is o h = record { goes = h.goes; holder_is = h.holder_is; queue_are = h.queue_are; waiting_are = h.waiting_are; tracked_are = h.tracked_are; missing_are = h.missing_are; vacuumed_are = refl }

gave_named : (is : ℕ → Bool) (o : Moving) → Named is o → Named is (keeps (record o.state { copy = given o.state.copy; waiting = [] }) o)
unfolding Named keeps
gave_named is o h = record { goes = h.goes; holder_is = h.holder_is; queue_are = h.queue_are; waiting_are = refl; tracked_are = h.tracked_are; missing_are = h.missing_are; vacuumed_are = h.vacuumed_are }

pub give_named : (is : ℕ → Bool) (at : Place) (o : Moving) → is at.lmaster ≡ true → Named is o → Named is (give at o)
unfolding give
give_named is at o home h = send_named is at.lmaster _ _ home (gave_named is o h)

called_named : (is : ℕ → Bool) (o : Moving) → Named is o → Named is (keeps (record o.state { copy = with_flags being_revoked o.state.copy; tracking = tracked.revocation_begun (rsn_of o.state.copy) o.state.tracking }) o)
unfolding Named keeps
called_named is o h = record { goes = h.goes; holder_is = h.holder_is; queue_are = h.queue_are; waiting_are = h.waiting_are; tracked_are = h.tracked_are; missing_are = h.tracked_are; vacuumed_are = h.vacuumed_are }

pub revoke_named : (is : ℕ → Bool) (at : Place) (o : Moving) → Named is o → Named is (revoke at o)
unfolding revoke
revoke_named is at o h = send_all_named is o.state.tracking.tracked _ _ (tracked_of is o h) (called_named is o h)

pub yield_named : (is : ℕ → Bool) (at : Place) (o : Moving) → is at.lmaster ≡ true → Named is o → Named is (yield_record at o)
unfolding yield_record
yield_named is at o home h = if_named is _ _ _ (give_named is at o home h) (revoke_named is at o h)

read_here_named : (is : ℕ → Bool) (at : Place) (request : ℕ) (o : Moving) (w : Option Wish) → Named is o → Named is (read_here at request o w)
unfolding read_here
read_here_named is at request o None h = h
read_here_named is at request o (Some w) h = if_named is _ _ _ (reply_named is _ _ _ (wish_named is None o h)) h

pub including_all : (is : ℕ → Bool) (n : ℕ) (ns : List ℕ) → is n ≡ true → list_all is ns ≡ true → list_all is (including n ns) ≡ true
including_all is n [] e all = and_from _ _ e refl
including_all is n (m ∷ ns) e all =
    let p = and_parts (is m) (list_all is ns) all in
    cond_keeps (nat_lt m n) (m ∷ including n ns) (cond (nat_eq m n) (m ∷ ns) (n ∷ m ∷ ns)) (and_from (is m) _ p.0 (including_all is n ns e p.1)) (cond_keeps (nat_eq m n) (m ∷ ns) (n ∷ m ∷ ns) all (and_from (is n) _ e all))
  where
    cond_keeps : (b : Bool) (xs ys : List ℕ) → list_all is xs ≡ true → list_all is ys ≡ true → list_all is (cond b xs ys) ≡ true
    cond_keeps true xs ys p q = p
    cond_keeps false xs ys p q = q

tracked_named : (is : ℕ → Bool) (node : ℕ) (o : Moving) → is node ≡ true → Named is o → Named is (keeps (record o.state { copy = with_flags delegated o.state.copy; tracking = tracked.added node o.state.tracking }) o)
unfolding Named keeps
tracked_named is node o e h = record { goes = h.goes; holder_is = h.holder_is; queue_are = h.queue_are; waiting_are = h.waiting_are; tracked_are = including_all is node o.state.tracking.tracked e h.tracked_are; missing_are = h.missing_are; vacuumed_are = h.vacuumed_are }

delegate_named : (is : ℕ → Bool) (at : Place) (node request : ℕ) (o : Moving) → is node ≡ true → Named is o → Named is (delegate at node request o)
unfolding delegate
delegate_named is at node request o e h = send_named is node _ _ e (tracked_named is node o e h)

pub grant_named : (is : ℕ → Bool) (at : Place) (node request : ℕ) (o : Moving) → is at.lmaster ≡ true → is node ≡ true → Named is o → Named is (grant at node request o)
unfolding grant
grant_named is at node request o home e h = send_named is at.lmaster _ _ home (if_named is _ _ _ (read_here_named is at request o o.state.wish h) (delegate_named is at node request o e h))

recalled_is : (is : ℕ → Bool) (r : RecallNote) → is_recalled_among is r ≡ true → is r.node ≡ true
unfolding is_recalled_among
recalled_is is r e = e

pub granted_named : (is : ℕ → Bool) (at : Place) (r : RecallNote) (o : Moving) → is at.lmaster ≡ true → is_recalled_among is r ≡ true → Named is o → Named is (grant at r.node r.request (end_vacuum o))
granted_named is at r o home e h = grant_named is at r.node r.request (end_vacuum o) home (recalled_is is r e) (ended_named is o h)

drain_named : (is : ℕ → Bool) (at : Place) (ws : List RecallNote) (o : Moving) → is at.lmaster ≡ true → list_all (is_recalled_among is) ws ≡ true → Named is o → Named is (drain at ws o)
unfolding drain
drain_named is at [] o home all h = waiting_named is [] o refl h
drain_named is at (r ∷ rs) o home all h = (let p = and_parts (is_recalled_among is r) (list_all (is_recalled_among is) rs) all in
    if_named is _ _ _
    (if_named is _ _ _ (drain_named is at rs _ home p.1 (granted_named is at r o home p.0 h)) (yield_named is at _ home (still_named is (r ∷ rs) o all h)))
    (waiting_named is (r ∷ rs) o all h))

pub drained_named : (is : ℕ → Bool) (at : Place) (o : Moving) → is at.lmaster ≡ true → Named is o → Named is (drained at o)
unfolding drained
drained_named is at o home h = drain_named is at o.state.waiting o home (waiting_of is o h) h

applies_named : (is : ℕ → Bool) (call : ℕ) (o : Moving) (r : Result (List ℕ) CallFault) → Named is o → Named is (applies call o r)
unfolding applies
applies_named is call o (Ok v) h = reply_named is _ _ _ (copy_named is _ o h)
applies_named is call o (Err (fault.TooLong n)) h = reply_named is _ _ o h
applies_named is call o (Err fault.NoSuchCall) h = reply_named is _ _ o h
applies_named is call o (Err fault.NoMemory) h = h

pub satisfy_named : (is : ℕ → Bool) (rules : Rules) (call : ℕ) (asked : ClientOp) (o : Moving) → Named is o → Named is (satisfy rules call asked o)
unfolding satisfy
satisfy_named is rules call (op.Lock db key) o h = reply_named is _ _ _ (locked_named is (Some call) o h)
satisfy_named is rules call (op.Read db key) o h = reply_named is _ _ o h
satisfy_named is rules call (op.Write db key v) o h = reply_named is _ _ _ (copy_named is _ o h)
satisfy_named is rules call (op.Apply db key f arg) o h = applies_named is call o _ h
satisfy_named is rules call (op.Store db key v) o h = h
satisfy_named is rules call (op.Unlock db key) o h = h
satisfy_named is rules call (op.Commit db writes) o h = h

own_named : (is : ℕ → Bool) (rules : Rules) (o : Moving) (w : Option Wish) → Named is o → Named is (satisfy_own rules o w)
unfolding satisfy_own
own_named is rules o None h = h
own_named is rules o (Some w) h = if_named is _ _ _ (satisfy_named is rules w.call w.op _ (wish_named is None o h)) h

pub satisfy_wish_named : (is : ℕ → Bool) (rules : Rules) (o : Moving) (w : Option Wish) → Named is o → Named is (satisfy_wish rules o w)
unfolding satisfy_wish
satisfy_wish_named is rules o None h = h
satisfy_wish_named is rules o (Some w) h = satisfy_named is rules w.call w.op _ (wish_named is None o h)

-- nothing is tracked any more
pub untracked_named : (is : ℕ → Bool) (copy : Option RecCopy) (o : Moving) → Named is o → Named is (keeps (record o.state { copy = copy; tracking = tracked.untracked }) o)
unfolding Named keeps
untracked_named is copy o h = record { goes = h.goes; holder_is = h.holder_is; queue_are = h.queue_are; waiting_are = h.waiting_are; tracked_are = refl; missing_are = refl; vacuumed_are = h.vacuumed_are }

raise_named : (is : ℕ → Bool) (o : Moving) → Named is o → Named is (raise o)
unfolding raise
raise_named is o h = reaches_named is _ _ (untracked_named is _ o h)

pub end_revocation_named : (is : ℕ → Bool) (at : Place) (rules : Rules) (o : Moving) → is at.lmaster ≡ true → Named is o → Named is (end_revocation at rules o)
unfolding end_revocation
end_revocation_named is at rules o home h = drained_named is at _ home (own_named is rules (raise o) o.state.wish (raise_named is o h))
