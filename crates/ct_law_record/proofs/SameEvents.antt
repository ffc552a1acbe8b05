-- The rules of the other messages and events do the same to a node as the law sees it.
use Rattle.std.proofs.Common.{◌≡◌, ◌≢◌, ℕ, ◌+◌, Bool, true, false, cond, Option, Some, None, List, [], ◌∷◌, refl, sym, ap, ◌∙◌, arith, not, ◌&&◌, ◌==◌, nat_lt, nat_le, eqb-true}
use Rattle.std.proofs.lemmas.Bool.{ne_eqb}
use Rattle.std.specs.Prelude.{is_none, is_some, nat_eq}
use Rattle.ct_values.specs.Words.{others, is_nil}
use Rattle.ct_values.specs.declared.client.Answer.TheVariants as answer
use Rattle.ct_values.specs.declared.client.ClientOp.{ClientOp}
use Rattle.ct_values.specs.declared.client.ClientOp.TheVariants as op
use Rattle.ct_frame.specs.Header.{for_reading, nobody}
use Rattle.ct_frame.specs.declared.frame.CallKind.TheVariants as kind
use Rattle.ct_frame.specs.declared.frame.Msg.TheVariants as msg
use Rattle.ct_frame.specs.declared.header.RecCopy.{RecCopy}
use Rattle.ct_call.specs.Rules.{Rules}
use Rattle.ct_rules.specs.State
use Rattle.ct_rules.specs.State.{a_copy, is_read_kind, kind_of}
use Rattle.ct_rules.specs.Parts
use Rattle.ct_rules.specs.Parts.{Moving}
use Rattle.ct_rules.specs.declared.event.Place.{Place}
use Rattle.ct_rules.specs.declared.state.Entry.{Entry}
use Rattle.ct_rules.specs.declared.state.Waiter.{Waiter}
use Rattle.ct_rules.specs.declared.state.Wish.{Wish}
use Rattle.ct_law_record.specs.Labels.{Told, Vacuumed}
use Rattle.ct_law_record.proofs.Rule
use Rattle.ct_law_record.proofs.Rule.{Copy, Body, Out}
use Rattle.ct_tracking.specs.Tracked.{Tracked, untracked, Revocation, awaiting, called_back_in, ends_revocation}
use Rattle.ct_law_record.proofs.SeenNode.{kind_at, copy_of, wish_of, body_of, out_of, FineAt, like_send, like_send_all, like_reply, like_finished, rsn_like, rank_like, value_like, mastered_like, with_value_like, risen_like, own_like, free_like, wished_like}
use Rattle.ct_law_record.proofs.SameParts.{none_is_not_some, if_like, like_give, like_satisfy, like_drained}
use Rattle.ct_rules.specs.Messages
use Rattle.ct_law_record.proofs.SameRequests.{stale_like, read_like, even_own, unwished, fine_satisfy, like_end_revocation, like_next, like_keep}
use Rattle.ct_rules.specs.Moves
use Rattle.ct_tracking.specs.Vacuum.{Vacuuming, ends_phase, vacuum_begun}
use Rattle.ct_tracking.specs.declared.vacuum.VacuumPhase.{VacuumPhase}
use Rattle.ct_tracking.specs.declared.vacuum.VacuumPhase.TheVariants.{Storing, Deleting}

pub greater_like : (a b : ℕ) → Messages.greater a b ≡ Rule.greater a b
unfolding Messages.greater Rule.greater
greater_like a b = refl

stored_like : (me l rsn : ℕ) (locked : Option ℕ) (c : Option RecCopy) → l ≢ me → l ≢ nobody → Rule.is_odd (copy_of me c) ≡ false → copy_of me (Messages.stored_copy me l rsn (is_none locked) c) ≡ Rule.raise_copy rsn (is_some locked) (copy_of me c)
unfolding copy_of kind_at Messages.stored_copy Rule.raise_copy Rule.is_odd Rule.is_kind_odd Rule.is_kind_here
stored_like me l rsn locked None a b e = refl
stored_like me l rsn locked (Some c) a b e = grind (arith, ne_eqb, none_is_not_some locked)

deleted_like : (me rsn : ℕ) (locked : Option ℕ) (c : Option RecCopy) → Rule.is_odd (copy_of me c) ≡ false → copy_of me (Messages.deleted_copy me rsn (is_none locked) c) ≡ Rule.drop_copy rsn (is_some locked) (copy_of me c)
unfolding copy_of kind_at Messages.deleted_copy Rule.drop_copy Rule.is_odd Rule.is_kind_odd Rule.is_kind_here
deleted_like me rsn locked None e = refl
deleted_like me rsn locked (Some c) e = grind (arith, none_is_not_some locked)

phase_like : (at : Place) (rsn : ℕ) (p : VacuumPhase) → body_of (Moves.phase_message at rsn p) ≡ Rule.phase_frame rsn p
unfolding Moves.phase_message Rule.phase_frame body_of
phase_like at rsn Storing = refl
phase_like at rsn Deleting = refl

wish_none : (readonly : Bool) (w : Option Wish) → is_none w ≡ is_none (wish_of readonly w)
unfolding wish_of
wish_none readonly None = refl
wish_none readonly (Some w) = refl

module _ (at : Place) (asks : ℕ → Option ClientOp) (ne : at.me ≢ nobody) where
  -- Give
  like_hand_on : (rsn : ℕ) (value : List ℕ) (o : Moving) (ws : List Waiter) → at.me ≡ at.lmaster → out_of at asks (Messages.hand_on at rsn value o ws) ≡ Rule.give_to at.me rsn value (out_of at asks o) ws
  unfolding Messages.hand_on Parts.reaches Parts.keeps Rule.give_to Rule.with_node body_of
  like_hand_on rsn value o [] home = like_keep at asks ne (rsn + 1) value o home
  like_hand_on rsn value o (w ∷ ws) home = if_like at asks ne (is_read_kind w.kind) _ _ _ _ _ refl (λ _. like_keep at asks ne (rsn + 1) value o home)
      (λ _. like_next at asks ne _ ∙ ap (Rule.next at.me) (like_send at asks w.node (msg.Pass at.db at.key w.request rsn value) _))

  pub like_on_give_of : (x rsn : ℕ) (value : List ℕ) (o : Moving) (e : Option Entry) → at.me ≡ at.lmaster → out_of at asks (Messages.on_give_of at x rsn value o e) ≡ Rule.on_give_of at.me x rsn value (out_of at asks o) e
  unfolding Messages.on_give_of Rule.on_give_of
  like_on_give_of x rsn value o None home = refl
  like_on_give_of x rsn value o (Some e) home = if_like at asks ne (nat_eq e.holder x && nat_le e.least rsn) _ _ o _ (out_of at asks o) refl (λ _. like_hand_on rsn value o o.state.queue home) (λ _. refl)

  -- Pass
  like_satisfy_wish : (rules : Rules) (o : Moving) (w : Option Wish) → ((v : Wish) → w ≡ Some v → asks v.call ≡ Some v.op) → out_of at asks (Messages.satisfy_wish rules o w) ≡ Rule.satisfy_wish rules at.me (wish_of at.readonly w) (out_of at asks o)
  unfolding Messages.satisfy_wish Parts.keeps Rule.satisfy_wish Rule.with_node wish_of
  like_satisfy_wish rules o None waits = refl
  like_satisfy_wish rules o (Some w) waits = like_satisfy at asks ne rules w.call w.op (Parts.keeps (record o.state { wish = None }) o) (waits w refl)

  fine_satisfy_wish : (rules : Rules) (o : Moving) (w : Option Wish) → FineAt at asks o → FineAt at asks (Messages.satisfy_wish rules o w)
  unfolding Messages.satisfy_wish
  fine_satisfy_wish rules o None h = h
  fine_satisfy_wish rules o (Some w) h = fine_satisfy at asks ne rules w.call w.op _ (unwished at asks ne o h)

  like_becomes : (rsn : ℕ) (value : List ℕ) (o : Moving) → out_of at asks (Messages.becomes at rsn value o) ≡ Rule.becomes rsn value (out_of at asks o)
  unfolding Messages.becomes Parts.reaches Parts.keeps Rule.becomes Rule.with_node
  like_becomes rsn value o = λ i. record (out_of at asks o) { node = record (out_of at asks o).node { copy = own_like at.me at.me rsn value refl i; tracked = []; revoking = None } }

  fine_becomes : (rsn : ℕ) (value : List ℕ) (o : Moving) → FineAt at asks o → FineAt at asks (Messages.becomes at rsn value o)
  unfolding Messages.becomes Parts.reaches Parts.keeps
  fine_becomes rsn value o h = record { even = even_own at.me at.me rsn value refl; waits = h.waits }

  like_accept : (rules : Rules) (rsn : ℕ) (value : List ℕ) (o : Moving) → FineAt at asks o → out_of at asks (Messages.accept at rules rsn value o) ≡ Rule.accept rules at.me at.lmaster rsn value (out_of at asks o)
  unfolding Messages.accept Rule.accept
  like_accept rules rsn value o fine =
      let f = fine_becomes (rsn + 1) value o fine in
      like_drained at asks ne (Messages.satisfy_wish rules (Messages.becomes at (rsn + 1) value o) o.state.wish) (fine_satisfy_wish rules (Messages.becomes at (rsn + 1) value o) o.state.wish f)
      ∙ ap (λ (x : Out). Rule.drain at.me at.lmaster x.node.recalls x) (like_satisfy_wish rules (Messages.becomes at (rsn + 1) value o) o.state.wish fine.waits ∙ ap (Rule.satisfy_wish rules at.me (wish_of at.readonly o.state.wish)) (like_becomes (rsn + 1) value o))

  pub like_on_pass : (rules : Rules) (q rsn : ℕ) (value : List ℕ) (o : Moving) → FineAt at asks o → out_of at asks (Messages.on_pass at rules q rsn value o) ≡ Rule.on_pass rules at.me at.lmaster q rsn value (out_of at asks o)
  unfolding Messages.on_pass Messages.refuse Parts.keeps Rule.on_pass Rule.refuse Rule.with_node body_of is_read_kind
  like_on_pass rules q rsn value o fine = if_like at asks ne (nat_lt (rsn + 1) (State.rank o.state.copy)) _ o _ (out_of at asks o) _ (ap (nat_lt (rsn + 1)) (rank_like at.me o.state.copy)) (λ _. refl)
      (λ _. if_like at asks ne (State.is_wished at.readonly q kind.Lock o.state.wish) _ _ _ _ _ (wished_like at.readonly q kind.Lock o.state.wish) (λ _. like_accept rules rsn value o fine) (λ _. like_send at asks at.lmaster (msg.Refuse at.db at.key q rsn) _))

  -- Refuse
  pub like_on_refuse_of : (n q rsn : ℕ) (o : Moving) (e : Option Entry) → at.me ≡ at.lmaster → out_of at asks (Messages.on_refuse_of at n q rsn o e) ≡ Rule.on_refuse_of at.me n q rsn (out_of at asks o) e
  unfolding Messages.on_refuse_of Rule.on_refuse_of
  like_on_refuse_of n q rsn o None home = refl
  like_on_refuse_of n q rsn o (Some e) home = if_like at asks ne (nat_eq e.holder n && nat_eq e.least (rsn + 1) && nat_eq e.request q && not (q == 0)) _ _ o _ (out_of at asks o) refl (λ _. like_keep at asks ne (rsn + 2) e.value o home) (λ _. refl)

  -- Grant
  like_read_granted : (q : ℕ) (o : Moving) (w : Option Wish) (value : List ℕ) → ((v : Wish) → w ≡ Some v → asks v.call ≡ Some v.op) → out_of at asks (Messages.read_granted q o w value) ≡ Rule.read_granted at.me (out_of at asks o) (wish_of at.readonly w) value
  unfolding Messages.read_granted Parts.keeps Rule.read_granted Rule.with_node wish_of
  like_read_granted q o None value waits = refl
  like_read_granted q o (Some w) value waits = like_reply at asks w.call w.op (answer.Read value) _ (waits w refl)

  pub like_on_grant : (h q rsn : ℕ) (value : List ℕ) (o : Moving) → h ≢ at.me → h ≢ nobody → FineAt at asks o → out_of at asks (Messages.on_grant at h q rsn value o) ≡ Rule.on_grant at.me q rsn value (out_of at asks o)
  unfolding Messages.on_grant Parts.keeps Rule.on_grant Rule.with_node is_read_kind
  like_on_grant h q rsn value o a b fine = if_like at asks ne (State.is_wished at.readonly q kind.Read o.state.wish && not (State.is_mastered at.me o.state.copy) && nat_le (State.rank o.state.copy) (rsn + 1)) _ _ o _ (out_of at asks o)
      (λ i. wished_like at.readonly q kind.Read o.state.wish i && not (mastered_like at.me o.state.copy fine.even i) && nat_le (rank_like at.me o.state.copy i) (rsn + 1))
      (λ _. like_read_granted q (Parts.keeps (record o.state { copy = Some (a_copy rsn h for_reading value) }) o) o.state.wish value fine.waits
      ∙ ap (λ (c : Option Copy). Rule.read_granted at.me (Rule.with_node (record (out_of at asks o).node { copy = c }) (out_of at asks o)) (wish_of at.readonly o.state.wish) value) (read_like at.me h rsn value a b))
      (λ _. refl)

  -- Done
  pub like_on_done_of : (n q : ℕ) (o : Moving) (ws : List Waiter) → out_of at asks (Messages.on_done_of at n q o ws) ≡ Rule.on_done at.me n q (out_of at asks o) ws
  unfolding Messages.on_done_of Parts.keeps Rule.on_done Rule.with_node
  like_on_done_of n q o [] = refl
  like_on_done_of n q o (w ∷ ws) = if_like at asks ne (Messages.is_request n q w) _ _ o _ (out_of at asks o) refl (λ _. like_next at asks ne _) (λ _. refl)

  -- Revoke
  pub like_on_revoke_of : (h rsn : ℕ) (o : Moving) (w : Option Wish) → Rule.is_odd (copy_of at.me o.state.copy) ≡ false → out_of at asks (Messages.on_revoke_of at h rsn o w) ≡ Rule.on_revoke at.me at.lmaster h rsn (out_of at asks o) (wish_of at.readonly w)
  unfolding Messages.renew Messages.on_revoke_of Messages.acknowledge Parts.reaches Parts.keeps Rule.on_revoke Rule.reads_op Rule.with_node wish_of body_of
  like_on_revoke_of h rsn o None even = like_send at asks h (msg.RevokeAck at.db at.key rsn) _ ∙ ap (λ (c : Option Copy). Rule.send at.me h (Rule.RevokeAck rsn) (Rule.with_node (record (out_of at asks o).node { copy = c }) (out_of at asks o))) (stale_like at.me rsn o.state.copy even)
  like_on_revoke_of h rsn o (Some w) even = if_like at asks ne (is_read_kind (kind_of at.readonly w.op)) _ _ _ _ _ refl
      (λ _. like_send at asks at.lmaster (msg.Call at.db at.key o.next kind.Read) _
      ∙ ap (Rule.send at.me at.lmaster (Rule.Call o.next kind.Read)) (like_send at asks h (msg.RevokeAck at.db at.key rsn) _
      ∙ ap (λ (c : Option Copy). Rule.send at.me h (Rule.RevokeAck rsn) (Rule.with_node (record (out_of at asks o).node { copy = c; wish = Some (record { request = o.next; op = record { real = w.op; readonly = at.readonly } }); next = o.next + 1 }) (out_of at asks o))) (stale_like at.me rsn o.state.copy even)))
      (λ _. like_send at asks h (msg.RevokeAck at.db at.key rsn) _ ∙ ap (λ (c : Option Copy). Rule.send at.me h (Rule.RevokeAck rsn) (Rule.with_node (record (out_of at asks o).node { copy = c }) (out_of at asks o))) (stale_like at.me rsn o.state.copy even))

  -- RevokeAck
  like_ended : (rules : Rules) (o : Moving) (t : Tracked) → State.is_mastered at.me o.state.copy ≡ true → FineAt at asks o → out_of at asks (Parts.end_revocation at rules (Parts.keeps (record o.state { tracking = t }) o)) ≡ Rule.end_revocation rules at.me at.lmaster (out_of at asks o)
  unfolding Parts.keeps Rule.end_revocation Rule.with_node
  like_ended rules o t held fine = like_end_revocation at asks ne rules (Parts.keeps (record o.state { tracking = t }) o) held fine

  ack_cases : (rules : Rules) (n rsn : ℕ) (o : Moving) (v : Revocation) (b : Bool) (l : List ℕ) → nat_eq v.rsn rsn ≡ b → State.is_mastered at.me o.state.copy ≡ true → FineAt at asks o →
      out_of at asks (cond (b && is_nil l) (Parts.end_revocation at rules (Parts.keeps (record o.state { tracking = cond b (awaiting rsn l o.state.tracking) o.state.tracking }) o)) (Parts.keeps (record o.state { tracking = cond b (awaiting rsn l o.state.tracking) o.state.tracking }) o)) ≡
      cond b (cond (is_nil l) (Rule.end_revocation rules at.me at.lmaster (out_of at asks o)) (Rule.with_node (record (out_of at asks o).node { revoking = Some (record v { missing = l }) }) (out_of at asks o))) (out_of at asks o)
  unfolding Parts.keeps Rule.with_node
  ack_cases rules n rsn o v false l is held fine = refl
  ack_cases rules n rsn o v true [] is held fine = like_ended rules o untracked held fine
  ack_cases rules n rsn o v true (x ∷ xs) is held fine = λ i. record (out_of at asks o) { node = record (out_of at asks o).node { revoking = Some (record { rsn = sym (eqb-true v.rsn rsn is) i; missing = x ∷ xs }) } }

  like_ack_of : (rules : Rules) (n rsn : ℕ) (o : Moving) (r : Option Revocation) → ((v : Revocation) → r ≡ Some v → State.is_mastered at.me o.state.copy ≡ true) → FineAt at asks o →
      out_of at asks (cond (ends_revocation r n rsn) (Parts.end_revocation at rules (Parts.keeps (record o.state { tracking = called_back_in r n rsn o.state.tracking }) o)) (Parts.keeps (record o.state { tracking = called_back_in r n rsn o.state.tracking }) o)) ≡ Rule.on_ack rules at.me at.lmaster n rsn (out_of at asks o) r
  unfolding Rule.on_ack Parts.keeps
  like_ack_of rules n rsn o None held fine = refl
  like_ack_of rules n rsn o (Some v) held fine = ack_cases rules n rsn o v (nat_eq v.rsn rsn) (others n v.missing) refl (held v refl) fine

  pub like_on_revokeack : (rules : Rules) (n rsn : ℕ) (o : Moving) → ((v : Revocation) → o.state.tracking.revoking ≡ Some v → State.is_mastered at.me o.state.copy ≡ true) → FineAt at asks o →
      out_of at asks (Messages.on_revokeack at rules n rsn o) ≡ Rule.on_ack rules at.me at.lmaster n rsn (out_of at asks o) o.state.tracking.revoking
  unfolding Messages.on_revokeack Messages.acknowledged
  like_on_revokeack rules n rsn o held fine = like_ack_of rules n rsn o o.state.tracking.revoking held fine

  -- the vacuum
  pub like_on_vstore : (l rsn : ℕ) (o : Moving) → l ≢ at.me → l ≢ nobody → Rule.is_odd (copy_of at.me o.state.copy) ≡ false → out_of at asks (Messages.on_vstore at l rsn o) ≡ Rule.on_vstore at.me l rsn (out_of at asks o)
  unfolding Messages.on_vstore Parts.keeps Rule.on_vstore Rule.with_node body_of
  like_on_vstore l rsn o a b even = like_send at asks l (msg.VStored at.db at.key rsn) _ ∙ ap (λ (c : Option Copy). Rule.send at.me l (Rule.VStored rsn) (Rule.with_node (record (out_of at asks o).node { copy = c }) (out_of at asks o))) (stored_like at.me l rsn o.state.locked o.state.copy a b even)

  pub like_on_vdelete : (l rsn : ℕ) (o : Moving) → Rule.is_odd (copy_of at.me o.state.copy) ≡ false → out_of at asks (Messages.on_vdelete at l rsn o) ≡ Rule.on_vdelete at.me l rsn (out_of at asks o)
  unfolding Messages.on_vdelete Parts.keeps Rule.on_vdelete Rule.with_node body_of
  like_on_vdelete l rsn o even = like_send at asks l (msg.VDeleted at.db at.key rsn) _ ∙ ap (λ (c : Option Copy). Rule.send at.me l (Rule.VDeleted rsn) (Rule.with_node (record (out_of at asks o).node { copy = c }) (out_of at asks o))) (deleted_like at.me rsn o.state.locked o.state.copy even)

  like_finish : (rsn : ℕ) (o : Moving) → out_of at asks (Messages.finish rsn o) ≡ Rule.finish at.me rsn (out_of at asks o)
  unfolding Messages.finish Parts.reaches Rule.finish Rule.with_node copy_of
  like_finish rsn o = like_finished at asks (Messages.greater o.floor (rsn + 2)) _ ∙ ap (λ (f : ℕ). Rule.tell (Vacuumed at.me) (Rule.with_node (record (out_of at asks o).node { copy = None; entry = None; vacuum = None; floor = f }) (out_of at asks o))) (greater_like o.floor (rsn + 2))

  pub like_on_vstored_of : (n rsn : ℕ) (o : Moving) (v : Option Vacuuming) → out_of at asks (Messages.on_vstored_of at n rsn o v) ≡ Rule.on_vstored at.me n rsn (out_of at asks o) v
  unfolding Messages.on_vstored_of Parts.keeps Rule.on_vstored Rule.set_vacuum Rule.with_node body_of
  like_on_vstored_of n rsn o None = refl
  like_on_vstored_of n rsn o (Some v) = if_like at asks ne (ends_phase Storing n rsn v) _ _ _ _ _ refl (λ _. like_send_all at asks v.others (msg.VDelete at.db at.key rsn) _) (λ _. refl)

  pub like_on_vdeleted_of : (n rsn : ℕ) (o : Moving) (v : Option Vacuuming) → out_of at asks (Messages.on_vdeleted_of n rsn o v) ≡ Rule.on_vdeleted at.me n rsn (out_of at asks o) v
  unfolding Messages.on_vdeleted_of Parts.keeps Rule.on_vdeleted Rule.set_vacuum Rule.with_node
  like_on_vdeleted_of n rsn o None = refl
  like_on_vdeleted_of n rsn o (Some v) = if_like at asks ne (ends_phase Deleting n rsn v) _ _ _ _ _ refl (λ _. like_finish rsn o) (λ _. refl)

  like_begin : (o : Moving) (ns : List ℕ) → out_of at asks (Moves.begin_vacuum at o ns) ≡ Rule.begin_vacuum at.me (out_of at asks o) ns
  unfolding Moves.begin_vacuum Parts.reaches Parts.keeps Rule.begin_vacuum Rule.with_node body_of
  like_begin o [] = like_finish (State.rsn_of o.state.copy) o ∙ ap (λ (r : ℕ). Rule.finish at.me r (out_of at asks o)) (rsn_like at.me o.state.copy)
  like_begin o (n ∷ ns) = like_send_all at asks (n ∷ ns) (msg.VStore at.db at.key (State.rsn_of o.state.copy)) _
      ∙ (λ i. Rule.send_all at.me (n ∷ ns) (Rule.VStore (rsn_like at.me o.state.copy i)) (Rule.with_node (record (out_of at asks o).node { copy = risen_like at.me o.state.copy i; vacuum = Some (vacuum_begun (rsn_like at.me o.state.copy i) (n ∷ ns)) }) (out_of at asks o)))

  like_at_home : (ns : List ℕ) (o : Moving) (v : Option Vacuuming) → out_of at asks (Moves.vacuum_at_home at ns o v) ≡ Rule.vacuum_of at.me ns (out_of at asks o) v
  unfolding Moves.vacuum_at_home Rule.vacuum_of
  like_at_home ns o None = like_begin o ns
  like_at_home ns o (Some v) = like_send_all at asks v.missing _ o ∙ ap (λ (b : Body). Rule.send_all at.me v.missing b (out_of at asks o)) (phase_like at v.rsn v.phase)

  pub like_vacuum : (ns : List ℕ) (o : Moving) → Rule.is_odd (copy_of at.me o.state.copy) ≡ false → out_of at asks (Moves.vacuum at ns o) ≡ Rule.vacuum_event at.me at.lmaster ns (out_of at asks o)
  unfolding Moves.vacuum Moves.is_vacuumed Rule.vacuum_event Rule.is_vacuumed
  like_vacuum ns o even = if_like at asks ne (Moves.is_vacuumed at.me o.state) _ _ o _ (out_of at asks o)
      (λ i. free_like at.me at.readonly o.state o.next o.floor even i && is_nil (value_like at.me o.state.copy i) && is_nil o.state.tracking.tracked && is_nil o.state.waiting && is_nil o.state.queue && wish_none at.readonly o.state.wish i)
      (λ _. if_like at asks ne (nat_eq at.me at.lmaster) _ _ _ _ _ refl (λ _. like_at_home ns o o.state.vacuum) (λ _. like_give at asks ne o))
      (λ _. refl)

  -- under the lock
  pub like_store : (call : ℕ) (v : List ℕ) (o : Moving) → asks call ≡ Some (op.Store at.db at.key v) → out_of at asks (Moves.store call v o) ≡ Rule.store at.me at.db at.key v (out_of at asks o)
  unfolding Moves.store Parts.keeps Rule.store Rule.with_node
  like_store call v o is = like_reply at asks call (op.Store at.db at.key v) answer.Stored _ is ∙ ap (λ (c : Option Copy). Rule.tell (Told at.me (op.Store at.db at.key v) answer.Stored) (Rule.with_node (record (out_of at asks o).node { copy = c }) (out_of at asks o))) (with_value_like at.me v o.state.copy)

  fine_release : (call : ℕ) (o : Moving) → FineAt at asks o → FineAt at asks (Moves.release call o)
  unfolding Moves.release Parts.keeps Parts.reply Parts.performs
  fine_release call o h = record { even = h.even; waits = h.waits }

  pub like_release : (call : ℕ) (o : Moving) → asks call ≡ Some (op.Unlock at.db at.key) → out_of at asks (Moves.release call o) ≡ Rule.release at.me at.db at.key (out_of at asks o)
  unfolding Moves.release Parts.keeps Rule.release Rule.with_node
  like_release call o is = like_reply at asks call (op.Unlock at.db at.key) answer.Unlocked _ is

  pub like_unlock : (call : ℕ) (o : Moving) → asks call ≡ Some (op.Unlock at.db at.key) → FineAt at asks o → out_of at asks (Moves.unlock at call o) ≡ Rule.unlock at.me at.lmaster at.db at.key (out_of at asks o)
  unfolding Moves.unlock Rule.unlock Rule.release Rule.tell Rule.with_node
  like_unlock call o is fine = like_drained at asks ne (Moves.release call o) (fine_release call o fine) ∙ ap (λ (x : Out). Rule.drain at.me at.lmaster x.node.recalls x) (like_release call o is)

  -- sending again
  pub like_call_again : (o : Moving) (w : Option Wish) → out_of at asks (Moves.call_again_of at o w) ≡ Rule.retry at.me at.lmaster (out_of at asks o) (wish_of at.readonly w)
  unfolding Moves.call_again_of Rule.retry wish_of body_of
  like_call_again o None = refl
  like_call_again o (Some w) = if_like at asks ne (w.request == 0) _ o _ (out_of at asks o) _ refl (λ _. refl) (λ _. like_send at asks at.lmaster _ o)

  pub like_revoke_again : (o : Moving) (r : Option Revocation) → out_of at asks (Moves.revoke_again_of at o r) ≡ Rule.revoke_again at.me (out_of at asks o) r
  unfolding Moves.revoke_again_of Rule.revoke_again body_of
  like_revoke_again o None = refl
  like_revoke_again o (Some r) = like_send_all at asks r.missing (msg.Revoke at.db at.key r.rsn) o
