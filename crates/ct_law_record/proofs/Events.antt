-- Each event at a node keeps the invariant.
use Rattle.std.proofs.Common.{◌≡◌, ◌≢◌, ℕ, Bool, true, false, Option, Some, None, List, refl, sym, ap, ◌∙◌, arith, ◌&&◌, ◌||◌, eqb-true, ◌≤◌, subst, eq-eqb}
use Rattle.std.proofs.lemmas.Bool.{cond_both, false_from_ne_true}
use Rattle.std.specs.Prelude.{is_none, is_some, nat_eq}
use Rattle.ct_values.specs.Client.{is_read}
use Rattle.ct_values.specs.declared.client.ClientOp.{ClientOp}
use Rattle.ct_values.specs.declared.client.ClientOp.TheVariants as op
use Rattle.ct_frame.specs.Header.{nobody}
use Rattle.ct_frame.specs.declared.frame.CallKind.{CallKind}
use Rattle.ct_frame.specs.declared.frame.Msg.{Msg}
use Rattle.ct_frame.specs.declared.frame.Msg.TheVariants as msg
use Rattle.ct_call.specs.Rules.{Rules}
use Rattle.ct_rules.specs.Parts
use Rattle.ct_rules.specs.Parts.{Moving}
use Rattle.ct_rules.specs.declared.event.Place.{Place}
use Rattle.ct_rules.specs.declared.state.RecState.{RecState}
use Rattle.ct_rules.specs.declared.state.Wish.{Wish}
use Rattle.ct_law_record.specs.World.{sent, own_call, waiting_call, may_want}
use Rattle.ct_law_record.proofs.Rule
use Rattle.ct_law_record.proofs.Rule.{Copy, Node, Frame, Body, Out}
use Rattle.ct_law_record.proofs.SeenNode.{wish_of, body_of, out_of, mastered_like}
use Rattle.ct_rules.specs.Messages
use Rattle.ct_law_record.proofs.SameRequests.{like_called, like_recalled, like_want}
use Rattle.ct_rules.specs.Moves
use Rattle.ct_rules_node.specs.Rounds
use Rattle.ct_law_record.proofs.SameEvents.{greater_like, like_on_give_of, like_on_pass, like_on_refuse_of, like_on_grant, like_on_done_of, like_on_revoke_of, like_on_revokeack, like_on_vstore, like_on_vdelete, like_on_vstored_of, like_on_vdeleted_of, like_vacuum, like_store, like_release, like_unlock, like_call_again, like_revoke_again}
use Rattle.ct_law_record.proofs.Invariant.{Start, Recalled, Sent, Ghost, Says, NodeInv, Holds, Kept}
use Rattle.ct_law_record.specs.Marked.{is_removed}
use Rattle.ct_law_record.proofs.Acts.{node_holds, revoke_again_holds}
use Rattle.ct_law_record.proofs.Revoking.{Came, on_ack_holds, on_revoke_holds, on_grant_holds}
use Rattle.ct_law_record.proofs.Messages.{on_call_holds, on_recall_holds, on_give_holds, on_pass_holds, on_refuse_holds, on_done_holds, want_holds, store_holds, release_holds, unlock_holds, retry_holds}
use Rattle.ct_law_record.proofs.Nodes.{NodeInv-nowish}
use Rattle.ct_law_record.proofs.Floor.{raise_floor_holds}
use Rattle.ct_law_record.proofs.Vacuuming.{Apart, on_vstore_holds, on_vstored_holds, on_vdelete_holds, on_vdeleted_holds, vacuum_event_holds}
use Rattle.ct_law_record.proofs.WishedCalls.{own_self}

pub none_none : {X : Type 0} → (x : Option X) → is_none x ≡ true → x ≡ None
none_none None h = refl
none_none (Some x) h = absurd (cc)

pub none_unlocked : {X : Type 0} → (x : Option X) → is_none x ≡ true → is_some x ≡ false
none_unlocked None h = refl
none_unlocked (Some x) h = absurd (cc)

wish_some : (readonly : Bool) (w : Option Wish) (v : Wish) → w ≡ Some v → wish_of readonly w ≡ None → ⊥
unfolding wish_of
wish_some readonly None v e n = absurd (cc)
wish_some readonly (Some w) v e n = absurd (cc)

pub waiting_is : (wish : Option Wish) (w : Wish) → wish ≡ Some w → waiting_call wish w.call ≡ Some w.op
unfolding waiting_call
waiting_is None w e = absurd (cc)
waiting_is (Some v) w e = (let k : v ≡ w = cc in subst (λ (x : Wish). own_call v.call v.op x.call ≡ Some x.op) k (own_self v.call v.op))

-- a request number that rises
says_drawn : (g : Ghost) (n : ℕ) (copy : Option Copy) (next more : ℕ) (wish : Option Rule.Wish) → next ≤ more → (from to : ℕ) (b : Body) → Says g n copy next wish from to b → Says g n copy more wish from to b
unfolding Says
says_drawn g n copy next more wish le from to (Rule.Call q k) h = λ p. (let r = h p in (omega arith, r.1))
says_drawn g n copy next more wish le from to (Rule.Recalls q) h = λ p. (let r = h p in (omega arith, r.1))
says_drawn g n copy next more wish le from to (Rule.Pass q rsn value) h = λ p. (let r = h p in let low = r.low in record { low = omega arith; asked = r.asked; below = r.below; current = r.current })
says_drawn g n copy next more wish le from to (Rule.Refuse q rsn) h = λ p. (let r = h p in let low = r.low in record { low = omega arith; asked = r.asked; below = r.below; gone = r.gone; stale = r.stale })
says_drawn g n copy next more wish le from to (Rule.Grant q rsn value) h = λ p. (let r = h p in let low = r.low in record { low = omega arith; apart = r.apart; below = r.below; current = r.current })
says_drawn g n copy next more wish le from to _ h = h

NodeInv-drawn : (g : Ghost) (n : ℕ) (node : Node) (more : ℕ) → node.next ≤ more → NodeInv g n node → NodeInv g n (record node { next = more })
NodeInv-drawn g n node more le h = grind (arith, says_drawn)

greater_up : (a b : ℕ) → a ≤ Messages.greater a b
unfolding Messages.greater
greater_up a b = grind arith

pub may_parts : (s : RecState) (asked : ClientOp) → may_want s asked ≡ true → (is_none s.wish ≡ true) × (is_read asked ≡ false → is_none s.locked ≡ true)
unfolding may_want
may_parts s asked t = (grind arith, λ e. grind arith)

recalled : (n to least node q : ℕ) (k : CallKind) (g : Ghost) → Sent (record { from = n; to = to; body = Rule.Recalls (record { least = least; node = node; request = q; kind = k }) }) g.frames → Recalled (record { least = least; node = node; request = q; kind = k }) g.frames
unfolding Recalled
recalled n to least node q k g s = (_, s, refl)

module _ (at : Place) (asks : ℕ → Option ClientOp) (ne : at.me ≢ nobody) (rules : Rules) (ps : List ℕ) (nodes : ℕ → Node) (frames : List Frame) (r : Start) where
  abbrev pub Goes : Moving → Type 0
  Goes o = Kept rules ps at.lmaster at.me nodes frames r (out_of at asks o)

  abbrev pub Stands : Ghost → Moving → Type 0
  Stands g o = Holds rules ps at.lmaster at.me nodes frames r g (out_of at asks o)

  abbrev pub CameTo : Ghost → Moving → ℕ → Msg → Type 0
  CameTo g o n m = Came rules ps at.lmaster at.me nodes frames r g (out_of at asks o) n (body_of m)

  -- what is alike goes as well
  goes : (o : Moving) (x : Out) → out_of at asks o ≡ x → Kept rules ps at.lmaster at.me nodes frames r x → Goes o
  goes o x e k = subst (λ (y : Out). Kept rules ps at.lmaster at.me nodes frames r y) (sym e) k

  home_goes : (o p : Moving) → Goes o → (at.me ≡ at.lmaster → Goes p) → Goes (Moves.at_home at p o)
  unfolding Moves.at_home
  home_goes o p h k = cond_both (nat_eq at.me at.lmaster) p o Goes (λ t. k (eqb-true at.me at.lmaster t)) (λ _. h)

  from_goes : (n : ℕ) (o p : Moving) → Goes o → (n ≡ at.lmaster → Goes p) → Goes (Moves.from_home at n p o)
  unfolding Moves.from_home
  from_goes n o p h k = cond_both (nat_eq n at.lmaster) p o Goes (λ t. k (eqb-true n at.lmaster t)) (λ _. h)

  -- a message comes
  pub arrive_holds : (n : ℕ) (m : Msg) (g : Ghost) (o : Moving) → n ≢ nobody → ((w : Wish) → o.state.wish ≡ Some w → asks w.call ≡ Some w.op) → (at.me ≡ at.lmaster → Apart rules ps at.lmaster at.me nodes frames r) →
      Sent (record { from = n; to = at.me; body = body_of m }) g.frames → CameTo g o n m → is_removed (out_of at asks o).labels ≡ false → Stands g o → Goes (Moves.arrive at rules n m o)
  unfolding Moves.arrive body_of Says Messages.on_call Messages.on_recall Messages.on_give Messages.on_refuse Messages.on_done Messages.on_revoke Messages.on_vstored Messages.on_vdeleted
  arrive_holds n (msg.Call db key q k) g o real waits apart sent came kept h = home_goes o _ (g, h) (λ home. cond_both (Messages.is_misplaced at k) _ _ Goes (λ _. (g, h))
      (λ _. goes (Messages.called at n q k (Parts.end_vacuum (Parts.opened at o))) _ (like_called at asks ne n q k o home) (on_call_holds rules ps at.lmaster at.me nodes frames r n q k g (out_of at asks o) home came kept h)))
  arrive_holds n (msg.Recall db key least node q k) g o real waits apart sent came kept h = from_goes n o _ (g, h) (λ home. cond_both (Messages.is_misplaced at k || (nat_eq at.me at.lmaster && is_none o.state.entry)) _ _ Goes (λ _. (g, h))
      (λ _. goes (Messages.recalled at (record { least = least; node = node; request = q; kind = k }) o) _ (like_recalled at asks ne (record { least = least; node = node; request = q; kind = k }) o (record { even = h.good.mine.even; waits = waits })) (on_recall_holds rules ps at.lmaster at.me nodes frames r (record { least = least; node = node; request = q; kind = k }) g (out_of at asks o) (recalled n at.me least node q k g sent) h)))
  arrive_holds n (msg.Give db key rsn value) g o real waits apart sent came kept h = home_goes o _ (g, h) (λ home. goes (Messages.on_give_of at n rsn value o o.state.entry) _ (like_on_give_of at asks ne n rsn value o o.state.entry home) (on_give_holds rules ps at.lmaster at.me nodes frames r n rsn value g (out_of at asks o) o.state.entry refl home came kept h))
  arrive_holds n (msg.Pass db key q rsn value) g o real waits apart sent came kept h = from_goes n o _ (g, h) (λ _. goes (Messages.on_pass at rules q rsn value o) _ (like_on_pass at asks ne rules q rsn value o (record { even = h.good.mine.even; waits = waits })) (on_pass_holds rules ps at.lmaster at.me nodes frames r q rsn value g (out_of at asks o) (came.0 refl) kept h))
  arrive_holds n (msg.Refuse db key q rsn) g o real waits apart sent came kept h = home_goes o _ (g, h) (λ home. goes (Messages.on_refuse_of at n q rsn o o.state.entry) _ (like_on_refuse_of at asks ne n q rsn o o.state.entry home) (on_refuse_holds rules ps at.lmaster at.me nodes frames r n q rsn g (out_of at asks o) o.state.entry refl home came kept h))
  arrive_holds n (msg.Grant db key q rsn value) g o real waits apart sent came kept h = goes (Messages.on_grant at n q rsn value o) _ (like_on_grant at asks ne n q rsn value o (came.0 refl).apart real (record { even = h.good.mine.even; waits = waits })) (on_grant_holds rules ps at.lmaster at.me nodes frames r n q rsn value g (out_of at asks o) sent came.0 h)
  arrive_holds n (msg.Done db key node q) g o real waits apart sent came kept h = home_goes o _ (g, h) (λ home. goes (Messages.on_done_of at node q o o.state.queue) _ (like_on_done_of at asks ne node q o o.state.queue) (on_done_holds rules ps at.lmaster at.me nodes frames r node q g (out_of at asks o) o.state.queue refl home h))
  arrive_holds n (msg.Revoke db key rsn) g o real waits apart sent came kept h = goes (Messages.on_revoke_of at n rsn o o.state.wish) _ (like_on_revoke_of at asks ne n rsn o o.state.wish h.good.mine.even) (on_revoke_holds rules ps at.lmaster at.me nodes frames r n rsn g (out_of at asks o) (wish_of at.readonly o.state.wish) refl came.0 h)
  arrive_holds n (msg.RevokeAck db key rsn) g o real waits apart sent came kept h = goes (Messages.on_revokeack at rules n rsn o) _ (like_on_revokeack at asks ne rules n rsn o (λ v is. mastered_like at.me o.state.copy h.good.mine.even ∙ (h.good.mine.runs v is).0) (record { even = h.good.mine.even; waits = waits }))
      (on_ack_holds rules ps at.lmaster at.me nodes frames r n rsn g (out_of at asks o) o.state.tracking.revoking refl came h)
  arrive_holds n (msg.VStore db key rsn) g o real waits apart sent came kept h = from_goes n o _ (g, h) (λ _. goes (Messages.on_vstore at n rsn o) _ (like_on_vstore at asks ne n rsn o came.0.apart real h.good.mine.even) (on_vstore_holds rules ps at.lmaster at.me nodes frames r n rsn g (out_of at asks o) came.0 h))
  arrive_holds n (msg.VStored db key rsn) g o real waits apart sent came kept h = home_goes o _ (g, h) (λ home. goes (Messages.on_vstored_of at n rsn o o.state.vacuum) _ (like_on_vstored_of at asks ne n rsn o o.state.vacuum) (on_vstored_holds rules ps at.lmaster at.me nodes frames r n rsn g (out_of at asks o) o.state.vacuum refl home (apart home) came h))
  arrive_holds n (msg.VDelete db key rsn) g o real waits apart sent came kept h = from_goes n o _ (g, h) (λ _. goes (Messages.on_vdelete at n rsn o) _ (like_on_vdelete at asks ne n rsn o h.good.mine.even) (on_vdelete_holds rules ps at.lmaster at.me nodes frames r n rsn g (out_of at asks o) came.0 h))
  arrive_holds n (msg.VDeleted db key rsn) g o real waits apart sent came kept h = home_goes o _ (g, h) (λ home. goes (Messages.on_vdeleted_of n rsn o o.state.vacuum) _ (like_on_vdeleted_of at asks ne n rsn o o.state.vacuum) (on_vdeleted_holds rules ps at.lmaster at.me nodes frames r n rsn g (out_of at asks o) o.state.vacuum refl home came h))
  arrive_holds n _ g o real waits apart sent came kept h = (g, h)

  -- the client calls
  pub wants_holds : (call : ℕ) (asked : ClientOp) (g : Ghost) (o : Moving) → asks call ≡ Some asked → o.state.wish ≡ None → (is_read asked ≡ false → is_some o.state.locked ≡ false) → is_removed (out_of at asks o).labels ≡ false → Stands g o → Goes (Parts.want at rules call asked o)
  unfolding wish_of
  wants_holds call asked g o is none free kept h = goes (Parts.want at rules call asked o) _ (like_want at asks ne rules call asked o is h.good.mine.even)
      (want_holds rules ps at.lmaster at.me nodes frames r (record { real = asked; readonly = at.readonly }) g (out_of at asks o) (ap (wish_of at.readonly) none) free kept h)

  pub stores_holds : (call : ℕ) (v : List ℕ) (g : Ghost) (o : Moving) → asks call ≡ Some (op.Store at.db at.key v) → is_some o.state.locked ≡ true → Stands g o → Goes (Moves.store call v o)
  stores_holds call v g o is locked h = goes (Moves.store call v o) _ (like_store at asks ne call v o is) (store_holds rules ps at.lmaster at.me nodes frames r at.db at.key v g (out_of at asks o) locked h)

  pub unlocks_holds : (call : ℕ) (g : Ghost) (o : Moving) → asks call ≡ Some (op.Unlock at.db at.key) → is_some o.state.locked ≡ true → Stands g o → Goes (Moves.unlock at call o)
  unlocks_holds call g o is locked h = goes (Moves.unlock at call o) _ (like_unlock at asks ne call o is (record { even = h.good.mine.even; waits = λ w e. absurd (wish_some at.readonly o.state.wish w e (h.good.mine.unwished locked)) }))
      (unlock_holds rules ps at.lmaster at.me nodes frames r at.db at.key g (out_of at asks o) locked h)

  pub releases_holds : (call : ℕ) (g : Ghost) (o : Moving) → asks call ≡ Some (op.Unlock at.db at.key) → is_some o.state.locked ≡ true → Stands g o → Goes (Moves.release call o)
  releases_holds call g o is locked h = goes (Moves.release call o) _ (like_release at asks ne call o is) (release_holds rules ps at.lmaster at.me nodes frames r at.db at.key g (out_of at asks o) locked h)

  pub vacuums_holds : (all : List ℕ) (g : Ghost) (o : Moving) → Rule.has_node at.lmaster ps ≡ false → (at.me ≡ at.lmaster → all ≡ ps) → (at.me ≡ at.lmaster → Apart rules ps at.lmaster at.me nodes frames r) → Stands g o → Goes (Moves.vacuum at all o)
  vacuums_holds all g o none is apart h = goes (Moves.vacuum at all o) _ (like_vacuum at asks ne all o h.good.mine.even) (vacuum_event_holds rules ps at.lmaster at.me nodes frames r all g (out_of at asks o) none is apart h)

  pub resends_holds : (g : Ghost) (o : Moving) → Stands g o → Goes (Moves.revoke_again at (Moves.call_again at o))
  unfolding Moves.revoke_again Moves.call_again
  resends_holds g o h =
      let p = goes (Moves.call_again_of at o o.state.wish) _ (like_call_again at asks ne o o.state.wish) (retry_holds rules ps at.lmaster at.me nodes frames r (wish_of at.readonly o.state.wish) g (out_of at asks o) refl h) in
      let o' = Moves.call_again_of at o o.state.wish in
      goes (Moves.revoke_again_of at o' o'.state.tracking.revoking) _ (like_revoke_again at asks ne o' o'.state.tracking.revoking) (revoke_again_holds rules ps at.lmaster at.me nodes frames r o'.state.tracking.revoking p.0 (out_of at asks o') refl p.1)

  pub thaws_holds : (g : Ghost) (o : Moving) (wish : Option Wish) → o.state.wish ≡ wish → ((w : Wish) → o.state.wish ≡ Some w → asks w.call ≡ Some w.op) → is_removed (out_of at asks o).labels ≡ false → Stands g o → Goes (Rounds.want_again_of at rules o wish)
  unfolding Rounds.want_again_of Parts.keeps Rule.with_node wish_of
  thaws_holds g o None is waits kept h = (g, h)
  thaws_holds g o (Some w) is waits kept h = wants_holds w.call w.op g (Parts.keeps (record o.state { wish = None }) o) (waits w is) refl (λ _. false_from_ne_true _ (λ t. wish_some at.readonly o.state.wish w is (h.good.mine.unwished t))) kept
      (node_holds rules ps at.lmaster at.me nodes frames r (record (out_of at asks o).node { wish = None }) g (out_of at asks o) refl h (NodeInv-nowish g at.me (out_of at asks o).node h.good.mine) h.good.master)

  -- other records raise the numbers
  pub rises_holds : (next floor : ℕ) (g : Ghost) (o : Moving) → Stands g o → Goes (record o { next = Messages.greater o.next next; floor = Messages.greater o.floor floor })
  unfolding Rule.raise_floor Rule.with_node
  rises_holds next floor g o h =
      let node : Node = record (out_of at asks o).node { next = Messages.greater o.next next } in
      let k = node_holds rules ps at.lmaster at.me nodes frames r node g (out_of at asks o) refl h (NodeInv-drawn g at.me (out_of at asks o).node (Messages.greater o.next next) (greater_up o.next next) h.good.mine) h.good.master in
      goes (record o { next = Messages.greater o.next next; floor = Messages.greater o.floor floor }) _ (λ i. record (out_of at asks o) { node = record node { floor = greater_like o.floor floor i } }) (raise_floor_holds rules ps at.lmaster at.me nodes frames r floor g (Rule.with_node node (out_of at asks o)) k)
