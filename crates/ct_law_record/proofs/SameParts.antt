-- The parts of the rules of one record do the same to a node as the law sees it.
use Rattle.std.proofs.Common.{◌≡◌, ◌≢◌, ℕ, Bool, true, false, cond, Option, Some, None, List, [], ◌∷◌, refl, sym, ap, ◌∙◌, arith, not}
use Rattle.std.proofs.lemmas.Bool.{cond_both}
use Rattle.std.specs.Prelude.{is_none, is_some, nat_eq, Result, Ok, Err}
use Rattle.ct_values.specs.Words.{is_nil}
use Rattle.ct_frame.specs.Header.{being_revoked, delegated, nobody}
use Rattle.ct_tracking.specs.Awaited.{including}
use Rattle.ct_values.specs.declared.client.Answer.TheVariants as answer
use Rattle.ct_values.specs.declared.client.ClientOp.{ClientOp}
use Rattle.ct_values.specs.declared.client.ClientOp.TheVariants as op
use Rattle.ct_frame.specs.declared.frame.CallKind.TheVariants as kind
use Rattle.ct_frame.specs.declared.frame.Msg.TheVariants as msg
use Rattle.ct_call.specs.Rules.{Rules}
use Rattle.ct_call.specs.Table.{applied}
use Rattle.ct_call.specs.declared.fault.CallFault.{CallFault}
use Rattle.ct_call.specs.declared.fault.CallFault.TheVariants as fault
use Rattle.ct_rules.specs.State
use Rattle.ct_rules.specs.State.{is_read_kind}
use Rattle.ct_rules.specs.Parts
use Rattle.ct_rules.specs.Parts.{Moving}
use Rattle.ct_rules.specs.declared.event.Place.{Place}
use Rattle.ct_rules.specs.declared.state.Entry.{Entry}
use Rattle.ct_rules.specs.declared.state.RecallNote.{RecallNote}
use Rattle.ct_rules.specs.declared.state.RecState.{RecState}
use Rattle.ct_rules.specs.declared.state.Wish.{Wish}
use Rattle.ct_law_record.specs.Labels.{Told}
use Rattle.ct_law_record.proofs.Rule
use Rattle.ct_law_record.proofs.Rule.{Out}
use Rattle.ct_tracking.specs.Tracked.{Tracked, added, revocation_begun}
use Rattle.ct_law_record.proofs.SeenNode.{copy_of, wish_of, body_of, out_of, FineAt, like_send, like_send_all, like_reply, rsn_like, value_like, with_value_like, gives_like, flags_like, own_like, free_like, wished_like}

pub none_is_not_some : {X : Type 0} → (x : Option X) → is_none x ≡ not (is_some x)
none_is_not_some None = refl
none_is_not_some (Some x) = refl

pub idle_like : (t : Tracked) → State.is_quiet t ≡ Rule.is_idle t.revoking
unfolding State.is_quiet Rule.is_idle
idle_like t = grind arith

pub mastered_free : (me : ℕ) (s : RecState) → State.is_free me s ≡ true → State.is_mastered me s.copy ≡ true
unfolding State.is_free
mastered_free me s t = grind arith

turned : (me : ℕ) (x : Out) (e : Option Entry) → Rule.end_vacuum (Rule.open_of me x e) ≡ Rule.open_of me (Rule.end_vacuum x) e
unfolding Rule.end_vacuum Rule.open_of Rule.become Rule.with_node
turned me x None = refl
turned me x (Some e) = refl

module _ (at : Place) (asks : ℕ → Option ClientOp) (ne : at.me ≢ nobody) where
  pub if_like : (b b' : Bool) (x y : Moving) (x' y' : Out) → b ≡ b' → (b ≡ true → out_of at asks x ≡ x') → (b ≡ false → out_of at asks y ≡ y') → out_of at asks (cond b x y) ≡ cond b' x' y'
  if_like true true x y x' y' e p q = p refl
  if_like true false x y x' y' e p q = absurd (cc)
  if_like false true x y x' y' e p q = absurd (cc)
  if_like false false x y x' y' e p q = q refl

  pub like_give : (o : Moving) → out_of at asks (Parts.give at o) ≡ Rule.give at.me at.lmaster (out_of at asks o)
  unfolding Parts.give Parts.keeps Rule.give Rule.with_node body_of
  like_give o = like_send at asks at.lmaster (msg.Give at.db at.key (State.rsn_of o.state.copy) (State.value_of o.state.copy)) (Parts.keeps (record o.state { copy = State.given o.state.copy; waiting = [] }) o)
      ∙ (λ i. Rule.send at.me at.lmaster (Rule.Give (rsn_like at.me o.state.copy i) (value_like at.me o.state.copy i)) (Rule.with_node (record (out_of at asks o).node { copy = gives_like at.me o.state.copy ne i; recalls = [] }) (out_of at asks o)))

  pub like_end_vacuum : (o : Moving) → out_of at asks (Parts.end_vacuum o) ≡ Rule.end_vacuum (out_of at asks o)
  unfolding Parts.end_vacuum Parts.keeps Rule.end_vacuum Rule.with_node
  like_end_vacuum o = refl

  pub like_open_of : (o : Moving) (e : Option Entry) → at.me ≡ at.lmaster → out_of at asks (Parts.open_of at o e) ≡ Rule.open_of at.me (out_of at asks o) e
  unfolding Parts.open_of Parts.keeps Rule.open_of Rule.become Rule.with_node
  like_open_of o (Some e) home = refl
  like_open_of o None home = λ i. Rule.with_node (record (out_of at asks o).node { entry = Some (record { holder = sym home i; least = o.floor; request = 0; value = [] }); copy = own_like at.me at.lmaster o.floor [] home i }) (out_of at asks o)

  pub like_opened : (o : Moving) → at.me ≡ at.lmaster → out_of at asks (Parts.opened at o) ≡ Rule.opened at.me (out_of at asks o)
  unfolding Parts.opened Rule.opened
  like_opened o home = like_open_of o o.state.entry home

  -- a vacuum ends, and then Open, or the other way round
  pub like_opened_quiet : (o : Moving) → at.me ≡ at.lmaster → out_of at asks (Parts.end_vacuum (Parts.opened at o)) ≡ Rule.opened at.me (Rule.end_vacuum (out_of at asks o))
  unfolding Rule.opened Rule.end_vacuum Rule.with_node
  like_opened_quiet o home = like_end_vacuum (Parts.opened at o) ∙ ap Rule.end_vacuum (like_opened o home) ∙ turned at.me (out_of at asks o) o.state.entry

  like_applies : (call : ℕ) (asked : ClientOp) (o : Moving) (r : Result (List ℕ) CallFault) → asks call ≡ Some asked → out_of at asks (Parts.applies call o r) ≡ Rule.applies at.me asked (out_of at asks o) r
  unfolding Parts.applies Parts.keeps Rule.applies Rule.with_node
  like_applies call asked o (Ok v) is = like_reply at asks call asked (answer.Applied v) _ is ∙ (λ i. Rule.tell (Told at.me asked (answer.Applied v)) (Rule.with_node (record (out_of at asks o).node { copy = with_value_like at.me v o.state.copy i }) (out_of at asks o)))
  like_applies call asked o (Err (fault.TooLong n)) is = like_reply at asks call asked _ o is
  like_applies call asked o (Err fault.NoSuchCall) is = like_reply at asks call asked _ o is
  like_applies call asked o (Err fault.NoMemory) is = refl

  pub like_satisfy : (rules : Rules) (call : ℕ) (asked : ClientOp) (o : Moving) → asks call ≡ Some asked → out_of at asks (Parts.satisfy rules call asked o) ≡ Rule.satisfy rules at.me asked (out_of at asks o)
  unfolding Parts.satisfy Parts.keeps Rule.satisfy Rule.with_node
  like_satisfy rules call (op.Lock db key) o is = like_reply at asks call (op.Lock db key) (answer.Locked (State.value_of o.state.copy)) (Parts.keeps (record o.state { locked = Some call }) o) is
      ∙ (λ i. Rule.tell (Told at.me (op.Lock db key) (answer.Locked (value_like at.me o.state.copy i))) (Rule.with_node (record (out_of at asks o).node { locked = true }) (out_of at asks o)))
  like_satisfy rules call (op.Read db key) o is = like_reply at asks call (op.Read db key) (answer.Read (State.value_of o.state.copy)) o is ∙ ap (λ v. Rule.tell (Told at.me (op.Read db key) (answer.Read v)) (out_of at asks o)) (value_like at.me o.state.copy)
  like_satisfy rules call (op.Write db key v) o is = like_reply at asks call (op.Write db key v) answer.Written (Parts.keeps (record o.state { copy = State.with_value v o.state.copy }) o) is
      ∙ (λ i. Rule.tell (Told at.me (op.Write db key v) answer.Written) (Rule.with_node (record (out_of at asks o).node { copy = with_value_like at.me v o.state.copy i }) (out_of at asks o)))
  like_satisfy rules call (op.Apply db key f arg) o is = like_applies call (op.Apply db key f arg) o (applied f (State.value_of o.state.copy) arg rules) is ∙ ap (λ v. Rule.applies at.me (op.Apply db key f arg) (out_of at asks o) (applied f v arg rules)) (value_like at.me o.state.copy)
  like_satisfy rules call (op.Store db key v) o is = refl
  like_satisfy rules call (op.Unlock db key) o is = refl
  like_satisfy rules call (op.Commit db writes) o is = refl

  pub like_revoke : (o : Moving) → State.is_mastered at.me o.state.copy ≡ true → Rule.is_odd (copy_of at.me o.state.copy) ≡ false → out_of at asks (Parts.revoke at o) ≡ Rule.revoke at.me (out_of at asks o)
  unfolding Parts.revoke Parts.keeps Rule.revoke Rule.with_node body_of
  like_revoke o held even = like_send_all at asks o.state.tracking.tracked (msg.Revoke at.db at.key (State.rsn_of o.state.copy)) (Parts.keeps (record o.state { copy = State.with_flags being_revoked o.state.copy; tracking = revocation_begun (State.rsn_of o.state.copy) o.state.tracking }) o)
      ∙ (λ i. Rule.send_all at.me o.state.tracking.tracked (Rule.Revoke (rsn_like at.me o.state.copy i)) (Rule.with_node (record (out_of at asks o).node { copy = flags_like at.me being_revoked o.state.copy (λ e. absurd (cc)) held even i; revoking = Some (record { rsn = rsn_like at.me o.state.copy i; missing = o.state.tracking.tracked }) }) (out_of at asks o)))

  like_read_here : (q : ℕ) (o : Moving) (w : Option Wish) → ((v : Wish) → w ≡ Some v → asks v.call ≡ Some v.op) → out_of at asks (Parts.read_here at q o w) ≡ Rule.read_here at.me q (out_of at asks o) (wish_of at.readonly w)
  unfolding Parts.read_here Parts.keeps Rule.read_here Rule.with_node wish_of is_read_kind
  like_read_here q o None waits = refl
  like_read_here q o (Some w) waits = if_like _ _ _ o _ (out_of at asks o) (wished_like at.readonly q kind.Read (Some w))
      (λ _. like_reply at asks w.call w.op (answer.Read (State.value_of o.state.copy)) (Parts.keeps (record o.state { wish = None }) o) (waits w refl)
      ∙ (λ i. Rule.tell (Told at.me w.op (answer.Read (value_like at.me o.state.copy i))) (Rule.with_node (record (out_of at asks o).node { wish = None }) (out_of at asks o))))
      (λ _. refl)

  like_delegate : (node q : ℕ) (o : Moving) → State.is_mastered at.me o.state.copy ≡ true → Rule.is_odd (copy_of at.me o.state.copy) ≡ false →
      out_of at asks (Parts.delegate at node q o) ≡ Rule.send at.me node (Rule.Grant q (Rule.rsn_of (copy_of at.me o.state.copy)) (Rule.value_of (copy_of at.me o.state.copy))) (Rule.with_node (record (out_of at asks o).node { tracked = including node o.state.tracking.tracked }) (out_of at asks o))
  unfolding Parts.delegate Parts.keeps Rule.with_node body_of
  like_delegate node q o held even = like_send at asks node (msg.Grant at.db at.key q (State.rsn_of o.state.copy) (State.value_of o.state.copy)) (Parts.keeps (record o.state { copy = State.with_flags delegated o.state.copy; tracking = added node o.state.tracking }) o)
      ∙ (λ i. Rule.send at.me node (Rule.Grant q (rsn_like at.me o.state.copy i) (value_like at.me o.state.copy i)) (Rule.with_node (record (out_of at asks o).node { copy = flags_like at.me delegated o.state.copy (λ e. absurd (cc)) held even i; tracked = including node o.state.tracking.tracked }) (out_of at asks o)))

  pub like_grant : (r : RecallNote) (o : Moving) → State.is_mastered at.me o.state.copy ≡ true → FineAt at asks o → out_of at asks (Parts.grant at r.node r.request o) ≡ Rule.grant at.me at.lmaster r (out_of at asks o)
  unfolding Parts.grant Rule.grant body_of
  like_grant r o held fine = like_send at asks at.lmaster (msg.Done at.db at.key r.node r.request) _
      ∙ ap (Rule.send at.me at.lmaster (Rule.Done r.node r.request)) (if_like (nat_eq r.node at.me) (nat_eq r.node at.me) _ _ _ _ refl (λ _. like_read_here r.request o o.state.wish fine.waits) (λ _. like_delegate r.node r.request o held fine.even))

  -- what stays fine
  fine_read_here : (q : ℕ) (o : Moving) (w : Option Wish) → FineAt at asks o → FineAt at asks (Parts.read_here at q o w)
  unfolding Parts.read_here Parts.keeps Parts.reply Parts.performs
  fine_read_here q o None h = h
  fine_read_here q o (Some w) h = cond_both (State.is_wished at.readonly q kind.Read (Some w)) _ _ (FineAt at asks) (λ _. record { even = h.even; waits = λ v e. absurd (cc) }) (λ _. h)

  fine_delegate : (node q : ℕ) (o : Moving) → State.is_mastered at.me o.state.copy ≡ true → FineAt at asks o → FineAt at asks (Parts.delegate at node q o)
  unfolding Parts.delegate Parts.keeps Parts.send Parts.performs
  fine_delegate node q o held h = record { even = ap Rule.is_odd (flags_like at.me delegated o.state.copy (λ e. absurd (cc)) held h.even) ∙ h.even; waits = h.waits }

  pub fine_grant : (node q : ℕ) (o : Moving) → State.is_mastered at.me o.state.copy ≡ true → FineAt at asks o → FineAt at asks (Parts.grant at node q o)
  unfolding Parts.grant Parts.send Parts.performs
  fine_grant node q o held h = cond_both (nat_eq node at.me) (Parts.read_here at q o o.state.wish) (Parts.delegate at node q o) (FineAt at asks) (λ _. fine_read_here q o o.state.wish h) (λ _. fine_delegate node q o held h)

  pub like_yield : (o : Moving) → State.is_mastered at.me o.state.copy ≡ true → Rule.is_odd (copy_of at.me o.state.copy) ≡ false → out_of at asks (Parts.yield_record at o) ≡ Rule.yield_record at.me at.lmaster (out_of at asks o)
  unfolding Parts.yield_record Rule.yield_record
  like_yield o held even = if_like (is_nil o.state.tracking.tracked) _ _ _ _ _ refl (λ _. like_give o) (λ _. like_revoke o held even)

  pub like_drain : (rs : List RecallNote) (o : Moving) → FineAt at asks o → out_of at asks (Parts.drain at rs o) ≡ Rule.drain at.me at.lmaster rs (out_of at asks o)
  unfolding Parts.drain Parts.keeps Parts.end_vacuum Rule.drain Rule.end_vacuum Rule.with_node
  like_drain [] o fine = refl
  like_drain (r ∷ rs) o fine = if_like (State.is_free at.me o.state) _ _ _ _ _ (free_like at.me at.readonly o.state o.next o.floor fine.even)
      (λ t. (let held = mastered_free at.me o.state t in if_like (is_read_kind r.kind) _ _ _ _ _ refl
      (λ _. like_drain rs (Parts.grant at r.node r.request (Parts.end_vacuum o)) (fine_grant r.node r.request (Parts.end_vacuum o) held fine)
      ∙ ap (Rule.drain at.me at.lmaster rs) (like_grant r (Parts.end_vacuum o) held fine))
      (λ _. like_yield (Parts.keeps (record o.state { waiting = r ∷ rs; vacuum = None }) o) held fine.even)))
      (λ _. refl)

  pub like_drained : (o : Moving) → FineAt at asks o → out_of at asks (Parts.drained at o) ≡ Rule.drain at.me at.lmaster o.state.waiting (out_of at asks o)
  unfolding Parts.drained
  like_drained o fine = like_drain o.state.waiting o fine
