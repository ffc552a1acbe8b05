-- What is sent keeps the rules of its fields.
use Rattle.std.proofs.Common.{◌≡◌, ℕ, Bool, true, false, cond, List, [], ◌∷◌, Option, Some, None, refl, arith, Ok, Err, ◌<◌, ◌≤◌, ◌^◌}
use Rattle.std.proofs.lemmas.Bool.{and_parts}
use Rattle.std.proofs.lemmas.List.Folds.{list_all-append}
use Rattle.std.specs.List.{list_all}
use Rattle.std.specs.Prelude.{Result}
use Rattle.ct_frame.specs.Header.{being_revoked, delegated}
use Rattle.ct_call.specs.Rules.{Rules}
use Rattle.ct_call.specs.declared.fault.CallFault.{CallFault}
use Rattle.ct_call.specs.declared.fault.CallFault.TheVariants as fault
use Rattle.ct_tracking.specs.Tracked.{Revocation}
use Rattle.ct_tracking.specs.Tracked as tracked
use Rattle.ct_frame.specs.declared.frame.CallKind.{CallKind}
use Rattle.ct_frame.specs.declared.frame.CallKind.TheVariants as kind
use Rattle.ct_frame.specs.declared.frame.Msg.{Msg}
use Rattle.ct_frame.specs.declared.frame.Msg.TheVariants as msg
use Rattle.ct_values.specs.declared.client.Answer.{Answer}
use Rattle.ct_values.specs.declared.client.ClientOp.{ClientOp}
use Rattle.ct_values.specs.declared.client.ClientOp.TheVariants as op
use Rattle.ct_tracking.specs.Vacuum.{Vacuuming}
use Rattle.ct_rules.specs.State.{rsn_of, given, with_flags, with_value, risen, value_of}
use Rattle.ct_rules.specs.Parts.{Moving, performs, send, send_all, reply, keeps, reaches, end_vacuum, give, applies, satisfy, revoke, read_here, delegate, grant, yield_record, drain, drained, satisfy_own, raise, end_revocation}
use Rattle.ct_rules.specs.Messages.{satisfy_wish}
use Rattle.ct_law_rules.specs.Form.{least_of, sent_for, revoked_rsn, vacuumed_rsn, wished_as, is_asked, is_recalled}
use Rattle.ct_law_rules.specs.Sent.{is_well_formed, is_of_node, is_for_node}
use Rattle.ct_frame.specs.Fields.{is_db, is_node, is_message, is_from_one}
use Rattle.ct_frame.specs.declared.header.RecCopy.{RecCopy}
use Rattle.ct_tracking.specs.Tracked.{Tracked}
use Rattle.ct_rules.specs.declared.event.Act.{Act}
use Rattle.ct_rules.specs.declared.event.Act.TheVariants as act
use Rattle.ct_rules.specs.declared.event.Place.{Place}
use Rattle.ct_rules.specs.declared.state.Entry.{Entry}
use Rattle.ct_rules.specs.declared.state.RecallNote.{RecallNote}
use Rattle.ct_rules.specs.declared.state.RecState.{RecState}
use Rattle.ct_rules.specs.declared.state.Waiter.{Waiter}
use Rattle.ct_rules.specs.declared.state.Wish.{Wish}

-- the middle of a step: what was sent so far keeps the rules of its fields, and so will what is kept
pub record SentFacts (at : Place) (acts : List Act) (copy : Option RecCopy) (entry : Option Entry) (queue : List Waiter) (waiting : List RecallNote) (tracking : Tracked) (vacuum : Option Vacuuming) (wish : Option Wish) (next floor : ℕ) (spent : Bool) : Type 0 where
  pub db : is_db at.db ≡ true
  pub sound : spent ≡ false → list_all (is_well_formed at.me) acts ≡ true
  pub queue_asked : list_all is_asked queue ≡ true
  pub queue_nodes : list_all is_of_node queue ≡ true
  pub waiting_recalled : list_all is_recalled waiting ≡ true
  pub waiting_nodes : list_all is_for_node waiting ≡ true
  pub from_one : 1 ≤ next
  pub copy_limit : spent ≡ false → rsn_of copy < 2 ^ 62
  pub least_limit : spent ≡ false → least_of entry < 2 ^ 62
  pub request_limit : spent ≡ false → sent_for entry < 2 ^ 62
  pub revocation_limit : spent ≡ false → revoked_rsn tracking.revoking < 2 ^ 62
  pub vacuum_limit : spent ≡ false → vacuumed_rsn vacuum < 2 ^ 62
  pub wish_limit : spent ≡ false → wished_as wish < 2 ^ 62
  pub next_limit : spent ≡ false → next < 2 ^ 62
  pub floor_limit : spent ≡ false → floor < 2 ^ 62

unfoldable pub Sent : Place → Moving → Type 0
Sent at o = SentFacts at o.acts o.state.copy o.state.entry o.state.queue o.state.waiting o.state.tracking o.state.vacuum o.state.wish o.next o.floor o.spent

-- ---- messages

pub rsn_sound : (me db rsn : ℕ) (key value : List ℕ) → is_db db ≡ true → rsn < 2 ^ 62 → (is_message me (msg.Give db key rsn value) ≡ true) × (is_message me (msg.Revoke db key rsn) ≡ true) × (is_message me (msg.RevokeAck db key rsn) ≡ true) × (is_message me (msg.VStore db key rsn) ≡ true) × (is_message me (msg.VStored db key rsn) ≡ true) × (is_message me (msg.VDelete db key rsn) ≡ true) × (is_message me (msg.VDeleted db key rsn) ≡ true)
rsn_sound me db rsn key value d l = (grind arith, grind arith, grind arith, grind arith, grind arith, grind arith, grind arith)

pub request_sound : (me db request rsn : ℕ) (key value : List ℕ) (k : CallKind) → is_db db ≡ true → is_from_one request ≡ true → rsn < 2 ^ 62 → (is_message me (msg.Pass db key request rsn value) ≡ true) × (is_message me (msg.Grant db key request rsn value) ≡ true) × (is_message me (msg.Refuse db key request rsn) ≡ true) × (is_message me (msg.Call db key request k) ≡ true)
request_sound me db request rsn key value k d q l = (grind arith, grind arith, grind arith, grind arith)

-- ---- the parts

pub if_sent : (at : Place) (b : Bool) (x y : Moving) → Sent at x → Sent at y → Sent at (cond b x y)
if_sent at true x y p q = p
if_sent at false x y p q = q

pub performs_sent : (at : Place) (a : Act) (o : Moving) → (o.spent ≡ false → is_well_formed at.me a ≡ true) → Sent at o → Sent at (performs a o)
unfolding Sent performs
performs_sent at a o k h = grind (arith, list_all-append (is_well_formed at.me) o.acts (a ∷ []))

pub send_sent : (at : Place) (n : ℕ) (m : Msg) (o : Moving) → (o.spent ≡ false → is_message at.me m ≡ true) → Sent at o → Sent at (send n m o)
unfolding send is_well_formed
send_sent at n m o k h = performs_sent at (act.Send n m) o k h

pub reply_sent : (at : Place) (call : ℕ) (a : Answer) (o : Moving) → Sent at o → Sent at (reply call a o)
unfolding reply is_well_formed
reply_sent at call a o h = performs_sent at (act.Answer call a) o (λ _. refl) h

pub sends_on : (n : ℕ) (m : Msg) (o : Moving) {P : Type 0} → (o.spent ≡ false → P) → (send n m o).spent ≡ false → P
unfolding send performs
sends_on n m o k = k

pub send_all_sent : (at : Place) (ns : List ℕ) (m : Msg) (o : Moving) → (o.spent ≡ false → is_message at.me m ≡ true) → Sent at o → Sent at (send_all ns m o)
unfolding send_all
send_all_sent at [] m o k h = h
send_all_sent at (n ∷ ns) m o k h = send_all_sent at ns m (send n m o) (sends_on n m o k) (send_sent at n m o k h)

pub db_of : (at : Place) (o : Moving) → Sent at o → is_db at.db ≡ true
unfolding Sent
db_of at o h = h.db

pub copy_of : (at : Place) (o : Moving) → Sent at o → o.spent ≡ false → rsn_of o.state.copy < 2 ^ 62
unfolding Sent
copy_of at o h = h.copy_limit

pub waiting_of : (at : Place) (o : Moving) → Sent at o → (list_all is_recalled o.state.waiting ≡ true) × (list_all is_for_node o.state.waiting ≡ true)
unfolding Sent
waiting_of at o h = (h.waiting_recalled, h.waiting_nodes)

pub waiting_sent : (at : Place) (ws : List RecallNote) (o : Moving) → list_all is_recalled ws ≡ true → list_all is_for_node ws ≡ true → Sent at o → Sent at (keeps (record o.state { waiting = ws }) o)
unfolding Sent keeps
waiting_sent at ws o all nodes h = grind arith

pub still_sent : (at : Place) (ws : List RecallNote) (o : Moving) → list_all is_recalled ws ≡ true → list_all is_for_node ws ≡ true → Sent at o → Sent at (keeps (record o.state { waiting = ws; vacuum = None }) o)
unfolding Sent keeps vacuumed_rsn
still_sent at ws o all nodes h = grind arith

pub ended_sent : (at : Place) (o : Moving) → Sent at o → Sent at (end_vacuum o)
unfolding Sent end_vacuum keeps vacuumed_rsn
ended_sent at o h = grind arith

gave_sent : (at : Place) (o : Moving) → Sent at o → Sent at (keeps (record o.state { copy = given o.state.copy; waiting = [] }) o)
unfolding Sent keeps given rsn_of
gave_sent at o h = grind arith

pub same_spent : (s : RecState) (o : Moving) {P : Type 0} → (o.spent ≡ false → P) → (keeps s o).spent ≡ false → P
unfolding keeps
same_spent s o k = k

pub give_sent : (at : Place) (o : Moving) → Sent at o → Sent at (give at o)
unfolding give
give_sent at o h = send_sent at _ _ _ (same_spent _ o (λ e. (rsn_sound at.me at.db _ at.key (value_of o.state.copy) (db_of at o h) (copy_of at o h e)).0)) (gave_sent at o h)

called_sent : (at : Place) (o : Moving) → Sent at o → Sent at (keeps (record o.state { copy = with_flags being_revoked o.state.copy; tracking = tracked.revocation_begun (rsn_of o.state.copy) o.state.tracking }) o)
unfolding Sent keeps with_flags rsn_of revoked_rsn
called_sent at o h = grind arith

pub revoke_sent : (at : Place) (o : Moving) → Sent at o → Sent at (revoke at o)
unfolding revoke
revoke_sent at o h = send_all_sent at _ _ _ (same_spent _ o (λ e. (rsn_sound at.me at.db _ at.key [] (db_of at o h) (copy_of at o h e)).1)) (called_sent at o h)

pub yield_sent : (at : Place) (o : Moving) → Sent at o → Sent at (yield_record at o)
unfolding yield_record
yield_sent at o h = if_sent at _ _ _ (give_sent at o h) (revoke_sent at o h)

pub unwished_sent : (at : Place) (o : Moving) → Sent at o → Sent at (keeps (record o.state { wish = None }) o)
unfolding Sent keeps wished_as
unwished_sent at o h = grind arith

read_here_sent : (at : Place) (request : ℕ) (o : Moving) (w : Option Wish) → Sent at o → Sent at (read_here at request o w)
unfolding read_here
read_here_sent at request o None h = h
read_here_sent at request o (Some w) h = if_sent at _ _ _ (reply_sent at _ _ _ (unwished_sent at o h)) h

tracked_sent : (at : Place) (node : ℕ) (o : Moving) → Sent at o → Sent at (keeps (record o.state { copy = with_flags delegated o.state.copy; tracking = tracked.added node o.state.tracking }) o)
unfolding Sent keeps with_flags rsn_of revoked_rsn
tracked_sent at node o h = grind arith

delegate_sent : (at : Place) (node request : ℕ) (o : Moving) → is_from_one request ≡ true → Sent at o → Sent at (delegate at node request o)
unfolding delegate
delegate_sent at node request o asked h = send_sent at _ _ _ (same_spent _ o (λ e. (request_sound at.me at.db request _ at.key (value_of o.state.copy) kind.Lock (db_of at o h) asked (copy_of at o h e)).1)) (tracked_sent at node o h)

done_sound : (me db node request : ℕ) (key : List ℕ) → is_db db ≡ true → is_node node ≡ true → is_from_one request ≡ true → is_message me (msg.Done db key node request) ≡ true
done_sound me db node request key d n q = grind arith

grant_sent : (at : Place) (node request : ℕ) (o : Moving) → is_node node ≡ true → is_from_one request ≡ true → Sent at o → Sent at (grant at node request o)
unfolding grant
grant_sent at node request o named asked h = send_sent at _ _ _ (λ _. done_sound at.me at.db node request at.key (db_of at o h) named asked) (if_sent at _ _ _ (read_here_sent at request o o.state.wish h) (delegate_sent at node request o asked h))

recall_parts : (r : RecallNote) → is_recalled r ≡ true → (is_from_one r.request ≡ true) × (r.least < 2 ^ 62)
unfolding is_recalled
recall_parts r all = (grind arith, grind arith)

node_of : (r : RecallNote) → is_for_node r ≡ true → is_node r.node ≡ true
unfolding is_for_node
node_of r e = e

pub granted_sent : (at : Place) (r : RecallNote) (o : Moving) → is_recalled r ≡ true → is_for_node r ≡ true → Sent at o → Sent at (grant at r.node r.request (end_vacuum o))
granted_sent at r o all nodes h = grant_sent at r.node r.request (end_vacuum o) (node_of r nodes) (recall_parts r all).0 (ended_sent at o h)

drain_sent : (at : Place) (ws : List RecallNote) (o : Moving) → list_all is_recalled ws ≡ true → list_all is_for_node ws ≡ true → Sent at o → Sent at (drain at ws o)
unfolding drain
drain_sent at [] o all nodes h = waiting_sent at [] o refl refl h
drain_sent at (r ∷ rs) o all nodes h = (let p = and_parts (is_recalled r) (list_all is_recalled rs) all in let q = and_parts (is_for_node r) (list_all is_for_node rs) nodes in
    if_sent at _ _ _
    (if_sent at _ _ _
    (drain_sent at rs (grant at r.node r.request (end_vacuum o)) p.1 q.1 (granted_sent at r o p.0 q.0 h))
    (yield_sent at _ (still_sent at (r ∷ rs) o all nodes h)))
    (waiting_sent at (r ∷ rs) o all nodes h))

pub drained_sent : (at : Place) (o : Moving) → Sent at o → Sent at (drained at o)
unfolding drained
drained_sent at o h = (let w = waiting_of at o h in drain_sent at o.state.waiting o w.0 w.1 h)

pub valued_sent : (at : Place) (v : List ℕ) (o : Moving) → Sent at o → Sent at (keeps (record o.state { copy = with_value v o.state.copy }) o)
unfolding Sent keeps with_value rsn_of
valued_sent at v o h = grind arith

applies_sent : (at : Place) (call : ℕ) (o : Moving) (r : Result (List ℕ) CallFault) → Sent at o → Sent at (applies call o r)
unfolding applies
applies_sent at call o (Ok v) h = reply_sent at _ _ _ (valued_sent at v o h)
applies_sent at call o (Err (fault.TooLong n)) h = reply_sent at _ _ o h
applies_sent at call o (Err fault.NoSuchCall) h = reply_sent at _ _ o h
applies_sent at call o (Err fault.NoMemory) h = h

pub locked_sent : (at : Place) (l : Option ℕ) (o : Moving) → Sent at o → Sent at (keeps (record o.state { locked = l }) o)
unfolding Sent keeps
locked_sent at l o h = h

pub satisfy_sent : (at : Place) (rules : Rules) (call : ℕ) (asked : ClientOp) (o : Moving) → Sent at o → Sent at (satisfy rules call asked o)
unfolding satisfy
satisfy_sent at rules call (op.Lock db key) o h = reply_sent at _ _ _ (locked_sent at (Some call) o h)
satisfy_sent at rules call (op.Read db key) o h = reply_sent at _ _ o h
satisfy_sent at rules call (op.Write db key v) o h = reply_sent at _ _ _ (valued_sent at v o h)
satisfy_sent at rules call (op.Apply db key f arg) o h = applies_sent at call o _ h
satisfy_sent at rules call (op.Store db key v) o h = h
satisfy_sent at rules call (op.Unlock db key) o h = h
satisfy_sent at rules call (op.Commit db writes) o h = h

pub own_sent : (at : Place) (rules : Rules) (o : Moving) (w : Option Wish) → Sent at o → Sent at (satisfy_own rules o w)
unfolding satisfy_own
own_sent at rules o None h = h
own_sent at rules o (Some w) h = if_sent at _ _ _ (satisfy_sent at rules w.call w.op _ (unwished_sent at o h)) h

pub satisfy_wish_sent : (at : Place) (rules : Rules) (o : Moving) (w : Option Wish) → Sent at o → Sent at (satisfy_wish rules o w)
unfolding satisfy_wish
satisfy_wish_sent at rules o None h = h
satisfy_wish_sent at rules o (Some w) h = satisfy_sent at rules w.call w.op _ (unwished_sent at o h)

raise_sent : (at : Place) (o : Moving) → Sent at o → Sent at (raise o)
unfolding Sent raise keeps reaches risen with_flags rsn_of revoked_rsn
raise_sent at o h = grind arith

pub end_revocation_sent : (at : Place) (rules : Rules) (o : Moving) → Sent at o → Sent at (end_revocation at rules o)
unfolding end_revocation
end_revocation_sent at rules o h = drained_sent at _ (own_sent at rules (raise o) o.state.wish (raise_sent at o h))
