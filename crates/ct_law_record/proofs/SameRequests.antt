-- The rules of Want and of each message do the same to a node as the law sees it.
use Rattle.std.proofs.Common.{◌≡◌, ◌≢◌, ℕ, true, false, Option, Some, None, List, [], ◌∷◌, refl, sym, ap, ◌∙◌, arith, ◌&&◌, ◌||◌, ◌==◌, nat_lt, eqb-true}
use Rattle.std.proofs.lemmas.Bool.{cond_both, and_parts, ne_eqb}
use Rattle.std.specs.Prelude.{is_none, nat_eq, Result, Ok, Err}
use Rattle.ct_values.specs.Words.{is_nil}
use Rattle.ct_values.specs.Client.{is_read}
use Rattle.ct_values.specs.declared.client.Answer.TheVariants as answer
use Rattle.ct_values.specs.declared.client.ClientOp.{ClientOp}
use Rattle.ct_values.specs.declared.client.ClientOp.TheVariants as op
use Rattle.ct_frame.specs.Header.{for_reading, nobody, plain}
use Rattle.ct_frame.specs.declared.frame.CallKind.{CallKind}
use Rattle.ct_frame.specs.declared.frame.Msg.TheVariants as msg
use Rattle.ct_frame.specs.declared.header.RecCopy.{RecCopy}
use Rattle.ct_call.specs.Rules.{Rules}
use Rattle.ct_call.specs.Table.{applied}
use Rattle.ct_call.specs.declared.fault.CallFault.{CallFault}
use Rattle.ct_call.specs.declared.fault.CallFault.TheVariants as fault
use Rattle.ct_rules.specs.State
use Rattle.ct_rules.specs.State.{a_copy, is_read_kind}
use Rattle.ct_rules.specs.Parts
use Rattle.ct_rules.specs.Parts.{Moving}
use Rattle.ct_rules.specs.declared.event.Place.{Place}
use Rattle.ct_rules.specs.declared.state.Entry.{Entry}
use Rattle.ct_rules.specs.declared.state.RecallNote.{RecallNote}
use Rattle.ct_rules.specs.declared.state.Waiter.{Waiter}
use Rattle.ct_rules.specs.declared.state.Wish.{Wish}
use Rattle.ct_law_record.specs.Labels.{Told}
use Rattle.ct_law_record.proofs.Rule
use Rattle.ct_law_record.proofs.Rule.{Copy, Out}
use Rattle.ct_law_record.proofs.SeenNode.{kind_at, copy_of, wish_of, body_of, out_of, FineAt, like_send, like_reply, rsn_like, rank_like, value_like, mastered_like, for_reading_like, with_value_like, given_like, raised_like, own_like, free_like}
use Rattle.ct_law_record.proofs.SameParts.{none_is_not_some, idle_like, if_like, like_opened_quiet, like_satisfy, like_revoke, like_grant, like_yield, like_drained}
use Rattle.ct_rules.specs.Messages
use Rattle.std.specs.List.{list_any}

even-value : (v : List ℕ) (c : Option Copy) → Rule.is_odd (Rule.with_value v c) ≡ Rule.is_odd c
unfolding Rule.is_odd Rule.with_value
even-value v None = refl
even-value v (Some c) = refl

even-risen : (c : Option Copy) → Rule.is_odd (Rule.risen c) ≡ Rule.is_odd c
unfolding Rule.is_odd Rule.risen
even-risen None = refl
even-risen (Some c) = refl

pub even_own : (me l rsn : ℕ) (value : List ℕ) → me ≡ l → Rule.is_odd (copy_of me (Some (a_copy rsn l plain value))) ≡ false
unfolding Rule.is_odd Rule.is_kind_odd
even_own me l rsn value e = ap Rule.is_odd (own_like me l rsn value e)

-- what Revoke leaves of a copy
pub stale_like : (me rsn : ℕ) (c : Option RecCopy) → Rule.is_odd (copy_of me c) ≡ false → copy_of me (Messages.called_in rsn c) ≡ Rule.stale rsn (copy_of me c)
unfolding copy_of kind_at Messages.called_in Rule.stale Rule.is_odd Rule.is_kind_odd Rule.is_kind_reading
stale_like me rsn None e = refl
stale_like me rsn (Some c) e = grind arith

pub read_like : (me h rsn : ℕ) (value : List ℕ) → h ≢ me → h ≢ nobody → copy_of me (Some (a_copy rsn h for_reading value)) ≡ Some (record { rsn = rsn; kind = Rule.For_reading; value = value })
unfolding copy_of kind_at
read_like me h rsn value a b = grind (arith, ne_eqb)

like_next_of : (at : Place) (asks : ℕ → Option ClientOp) (o : Moving) (e : Option Entry) (ws : List Waiter) → out_of at asks (Parts.next_of at o e ws) ≡ Rule.next_of at.me (out_of at asks o) e ws
unfolding Parts.next_of Rule.next_of body_of
like_next_of at asks o None ws = refl
like_next_of at asks o (Some e) [] = refl
like_next_of at asks o (Some e) (w ∷ ws) = like_send at asks e.holder _ o

even_open_of : (at : Place) (o : Moving) (e : Option Entry) → at.me ≡ at.lmaster → Rule.is_odd (copy_of at.me o.state.copy) ≡ false → Rule.is_odd (copy_of at.me (Parts.open_of at o e).state.copy) ≡ false
unfolding Parts.open_of Parts.keeps
even_open_of at o (Some e) home even = even
even_open_of at o None home even = even_own at.me at.lmaster o.floor [] home

module _ (at : Place) (asks : ℕ → Option ClientOp) (ne : at.me ≢ nobody) where
  fine_applies : (call : ℕ) (o : Moving) → FineAt at asks o → (r : Result (List ℕ) CallFault) → FineAt at asks (Parts.applies call o r)
  unfolding Parts.applies Parts.keeps Parts.reply Parts.performs
  fine_applies call o h (Ok v) = record { even = ap Rule.is_odd (with_value_like at.me v o.state.copy) ∙ even-value v (copy_of at.me o.state.copy) ∙ h.even; waits = h.waits }
  fine_applies call o h (Err (fault.TooLong n)) = record { even = h.even; waits = h.waits }
  fine_applies call o h (Err fault.NoSuchCall) = record { even = h.even; waits = h.waits }
  fine_applies call o h (Err fault.NoMemory) = h

  pub fine_satisfy : (rules : Rules) (call : ℕ) (asked : ClientOp) (o : Moving) → FineAt at asks o → FineAt at asks (Parts.satisfy rules call asked o)
  unfolding Parts.satisfy Parts.keeps Parts.reply Parts.performs
  fine_satisfy rules call (op.Lock db key) o h = record { even = h.even; waits = h.waits }
  fine_satisfy rules call (op.Read db key) o h = record { even = h.even; waits = h.waits }
  fine_satisfy rules call (op.Write db key v) o h = record { even = ap Rule.is_odd (with_value_like at.me v o.state.copy) ∙ even-value v (copy_of at.me o.state.copy) ∙ h.even; waits = h.waits }
  fine_satisfy rules call (op.Apply db key f arg) o h = fine_applies call o h (applied f (State.value_of o.state.copy) arg rules)
  fine_satisfy rules call (op.Store db key v) o h = h
  fine_satisfy rules call (op.Unlock db key) o h = h
  fine_satisfy rules call (op.Commit db writes) o h = h

  pub unwished : (o : Moving) → FineAt at asks o → FineAt at asks (Parts.keeps (record o.state { wish = None }) o)
  unfolding Parts.keeps
  unwished o h = record { even = h.even; waits = λ w e. absurd (cc) }

  -- End of revocation
  like_own : (rules : Rules) (o : Moving) (w : Option Wish) → ((v : Wish) → w ≡ Some v → asks v.call ≡ Some v.op) → out_of at asks (Parts.satisfy_own rules o w) ≡ Rule.end_wish rules at.me (wish_of at.readonly w) (out_of at asks o)
  unfolding Parts.satisfy_own Parts.keeps Rule.end_wish Rule.with_node wish_of
  like_own rules o None waits = refl
  like_own rules o (Some w) waits = if_like at asks ne (w.request == 0) _ _ o _ (out_of at asks o) refl (λ _. like_satisfy at asks ne rules w.call w.op (Parts.keeps (record o.state { wish = None }) o) (waits w refl)) (λ _. refl)

  fine_own : (rules : Rules) (o : Moving) (w : Option Wish) → FineAt at asks o → FineAt at asks (Parts.satisfy_own rules o w)
  unfolding Parts.satisfy_own
  fine_own rules o None h = h
  fine_own rules o (Some w) h = cond_both (w.request == 0) _ _ (FineAt at asks) (λ _. fine_satisfy rules w.call w.op _ (unwished o h)) (λ _. h)

  like_raise : (o : Moving) → State.is_mastered at.me o.state.copy ≡ true → Rule.is_odd (copy_of at.me o.state.copy) ≡ false → out_of at asks (Parts.raise o) ≡ Rule.with_node (record (out_of at asks o).node { copy = Rule.risen (copy_of at.me o.state.copy); tracked = []; revoking = None }) (out_of at asks o)
  unfolding Parts.raise Parts.reaches Parts.keeps Rule.with_node
  like_raise o held even = λ i. record (out_of at asks o) { node = record (out_of at asks o).node { copy = raised_like at.me o.state.copy held even i; tracked = []; revoking = None } }

  fine_raise : (o : Moving) → State.is_mastered at.me o.state.copy ≡ true → FineAt at asks o → FineAt at asks (Parts.raise o)
  unfolding Parts.raise Parts.reaches Parts.keeps
  fine_raise o held h = record { even = ap Rule.is_odd (raised_like at.me o.state.copy held h.even) ∙ even-risen (copy_of at.me o.state.copy) ∙ h.even; waits = h.waits }

  raise_wish : (o : Moving) → (Parts.raise o).state.wish ≡ o.state.wish
  unfolding Parts.raise Parts.reaches Parts.keeps
  raise_wish o = refl

  pub like_end_revocation : (rules : Rules) (o : Moving) → State.is_mastered at.me o.state.copy ≡ true → FineAt at asks o → out_of at asks (Parts.end_revocation at rules o) ≡ Rule.end_revocation rules at.me at.lmaster (out_of at asks o)
  unfolding Parts.end_revocation Rule.end_revocation
  like_end_revocation rules o held fine =
      let f = fine_raise o held fine in
      like_drained at asks ne (Parts.satisfy_own rules (Parts.raise o) o.state.wish) (fine_own rules (Parts.raise o) o.state.wish f)
      ∙ ap (λ (x : Out). Rule.drain at.me at.lmaster x.node.recalls x) (like_own rules (Parts.raise o) o.state.wish fine.waits ∙ ap (Rule.end_wish rules at.me (wish_of at.readonly o.state.wish)) (like_raise o held fine.even))

  -- Next and Keep
  pub like_next : (o : Moving) → out_of at asks (Parts.next at o) ≡ Rule.next at.me (out_of at asks o)
  unfolding Parts.next Rule.next
  like_next o = like_next_of at asks o o.state.entry o.state.queue

  pub like_keep : (rsn : ℕ) (value : List ℕ) (o : Moving) → at.me ≡ at.lmaster → out_of at asks (Parts.keep at rsn value o) ≡ Rule.keep at.me rsn value (out_of at asks o)
  unfolding Parts.keep Parts.reaches Parts.keeps Rule.keep Rule.become Rule.with_node
  like_keep rsn value o home = like_next _
      ∙ ap (Rule.next at.me) (λ i. record (out_of at asks o) { node = record (out_of at asks o).node { entry = Some (record { holder = sym home i; least = rsn; request = 0; value = value }); copy = own_like at.me at.lmaster rsn value home i } })

  -- Want
  like_call_for : (call : ℕ) (asked : ClientOp) (o : Moving) → out_of at asks (Parts.call_for at call asked o) ≡ Rule.call at.me at.lmaster (record { real = asked; readonly = at.readonly }) (out_of at asks o)
  unfolding Parts.call_for Parts.reaches Rule.call Rule.with_node body_of wish_of
  like_call_for call asked o = like_send at asks at.lmaster _ _

  kept_like : (call : ℕ) (asked : ClientOp) (o : Moving) → out_of at asks (Parts.keeps (record o.state { wish = Some (record { call = call; request = 0; op = asked }) }) o) ≡ Rule.wish_kept (record { real = asked; readonly = at.readonly }) (out_of at asks o)
  unfolding Parts.keeps Rule.wish_kept Rule.with_node wish_of
  kept_like call asked o = refl

  like_wait_for_copies : (call : ℕ) (asked : ClientOp) (o : Moving) → State.is_mastered at.me o.state.copy ≡ true → Rule.is_odd (copy_of at.me o.state.copy) ≡ false → out_of at asks (Parts.wait_for_copies at call asked o) ≡ Rule.wait_for_copies at.me (record { real = asked; readonly = at.readonly }) (out_of at asks o)
  unfolding Parts.wait_for_copies Rule.wait_for_copies Parts.keeps
  like_wait_for_copies call asked o held even =
      let o' = Parts.keeps (record o.state { wish = Some (record { call = call; request = 0; op = asked }) }) o in
      if_like at asks ne (State.is_quiet o.state.tracking) _ _ _ _ _ (idle_like o.state.tracking)
      (λ _. like_revoke at asks ne o' held even ∙ ap (Rule.revoke at.me) (kept_like call asked o))
      (λ _. kept_like call asked o)

  like_want_of : (rules : Rules) (call : ℕ) (asked : ClientOp) (o : Moving) → asks call ≡ Some asked → Rule.is_odd (copy_of at.me o.state.copy) ≡ false → out_of at asks (Parts.want_of at rules call asked o) ≡ Rule.want_of rules at.me at.lmaster (record { real = asked; readonly = at.readonly }) (out_of at asks o)
  unfolding Parts.want_of Rule.want_of
  like_want_of rules call asked o is even = if_like at asks ne (is_read asked && (State.is_mastered at.me o.state.copy || State.is_for_reading o.state.copy)) _ _ _ _ _
      (λ i. is_read asked && (mastered_like at.me o.state.copy even i || for_reading_like at.me o.state.copy even i))
      (λ _. like_reply at asks call asked _ o is ∙ ap (λ v. Rule.tell (Told at.me asked (answer.Read v)) (out_of at asks o)) (value_like at.me o.state.copy))
      (λ _. if_like at asks ne (State.is_mastered at.me o.state.copy) _ _ _ _ _ (mastered_like at.me o.state.copy even)
      (λ held. if_like at asks ne (is_nil o.state.tracking.tracked) _ _ _ _ _ refl (λ _. like_satisfy at asks ne rules call asked o is) (λ _. like_wait_for_copies call asked o held even))
      (λ _. like_call_for call asked o))

  even_opened : (o : Moving) → at.me ≡ at.lmaster → Rule.is_odd (copy_of at.me o.state.copy) ≡ false → Rule.is_odd (copy_of at.me (Parts.end_vacuum (Parts.opened at o)).state.copy) ≡ false
  unfolding Parts.end_vacuum Parts.opened Parts.keeps
  even_opened o home even = even_open_of at o o.state.entry home even

  pub like_want : (rules : Rules) (call : ℕ) (asked : ClientOp) (o : Moving) → asks call ≡ Some asked → Rule.is_odd (copy_of at.me o.state.copy) ≡ false → out_of at asks (Parts.want at rules call asked o) ≡ Rule.want rules at.me at.lmaster (record { real = asked; readonly = at.readonly }) (out_of at asks o)
  unfolding Parts.want Parts.opened_at_home Rule.want
  like_want rules call asked o is even =
      let home = λ (t : (nat_eq at.me at.lmaster && is_none o.state.locked) ≡ true). eqb-true at.me at.lmaster (and_parts (nat_eq at.me at.lmaster) (is_none o.state.locked) t).0 in
      like_want_of rules call asked _ is (cond_both (nat_eq at.me at.lmaster && is_none o.state.locked) (Parts.end_vacuum (Parts.opened at o)) o (λ (x : Moving). Rule.is_odd (copy_of at.me x.state.copy) ≡ false) (λ t. even_opened o (home t) even) (λ _. even))
      ∙ ap (Rule.want_of rules at.me at.lmaster (record { real = asked; readonly = at.readonly })) (if_like at asks ne (nat_eq at.me at.lmaster && is_none o.state.locked) _ _ _ _ _ (λ i. nat_eq at.me at.lmaster && none_is_not_some o.state.locked i) (λ t. like_opened_quiet at asks ne o (home t)) (λ _. refl))

  -- Call
  like_pass_again : (e : Entry) (o : Moving) → out_of at asks (Messages.pass_again at e o) ≡ Rule.pass_again at.me e (out_of at asks o)
  unfolding Messages.pass_again Rule.pass_again body_of
  like_pass_again e o = like_send at asks e.holder _ o

  like_enqueue : (w : Waiter) (o : Moving) (ws : List Waiter) → out_of at asks (Messages.enqueue at w o ws) ≡ Rule.enqueue at.me w (out_of at asks o) ws
  unfolding Messages.enqueue Rule.enqueue Parts.keeps Rule.with_node
  like_enqueue w o [] = like_next (record o { state = record o.state { queue = w ∷ [] } })
  like_enqueue w o (v ∷ vs) = refl

  like_on_call_of : (n q : ℕ) (k : CallKind) (o : Moving) (e : Option Entry) → out_of at asks (Messages.on_call_of at n q k o e) ≡ Rule.on_call_of at.me n q k (out_of at asks o) e
  unfolding Messages.on_call_of Rule.on_call_of
  like_on_call_of n q k o None = refl
  like_on_call_of n q k o (Some e) = if_like at asks ne (nat_eq e.holder n && nat_eq e.request q) _ _ _ _ _ refl (λ _. like_pass_again e o)
      (λ _. if_like at asks ne (list_any (Messages.is_request n q) o.state.queue) _ _ _ _ _ refl
      (λ _. like_next _ ∙ ap (Rule.next at.me) (if_like at asks ne (e.request == 0) _ _ _ _ _ refl (λ _. refl) (λ _. like_pass_again e o)))
      (λ _. like_enqueue (record { node = n; request = q; kind = k }) o o.state.queue))

  pub like_called : (n q : ℕ) (k : CallKind) (o : Moving) → at.me ≡ at.lmaster → out_of at asks (Messages.called at n q k (Parts.end_vacuum (Parts.opened at o))) ≡ Rule.on_call at.me n q k (out_of at asks o)
  unfolding Messages.called Rule.on_call
  like_called n q k o home = like_on_call_of n q k (Parts.end_vacuum (Parts.opened at o)) (Parts.end_vacuum (Parts.opened at o)).state.entry ∙ ap (λ (x : Out). Rule.on_call_of at.me n q k x x.node.entry) (like_opened_quiet at asks ne o home)

  -- Recall
  like_wait : (r : RecallNote) (o : Moving) → out_of at asks (Messages.wait r o) ≡ Rule.add_recall r (out_of at asks o)
  unfolding Messages.wait Rule.add_recall Parts.keeps Rule.with_node
  like_wait r o = if_like at asks ne (list_any (Messages.same_recall r) o.state.waiting) _ o _ (out_of at asks o) _ refl (λ _. refl) (λ _. refl)

  like_handle : (r : RecallNote) (o : Moving) → State.is_mastered at.me o.state.copy ≡ true → FineAt at asks o → out_of at asks (Messages.handle at r o) ≡ Rule.handle at.me at.lmaster r (out_of at asks o)
  unfolding Messages.handle Rule.handle Parts.end_vacuum Rule.end_vacuum Parts.keeps Rule.with_node
  like_handle r o held fine = if_like at asks ne (is_read_kind r.kind) _ _ _ _ _ refl (λ _. like_grant at asks ne r (Parts.end_vacuum o) held fine) (λ _. like_yield at asks ne (Parts.keeps (record o.state { waiting = r ∷ o.state.waiting; vacuum = None }) o) held fine.even)

  pub like_recalled : (r : RecallNote) (o : Moving) → FineAt at asks o → out_of at asks (Messages.recalled at r o) ≡ Rule.on_recall at.me at.lmaster r (out_of at asks o)
  unfolding Messages.recalled Rule.on_recall body_of
  like_recalled r o fine = if_like at asks ne (nat_lt r.least (State.rank o.state.copy)) _ _ _ _ _ (ap (nat_lt r.least) (rank_like at.me o.state.copy))
      (λ _. if_like at asks ne (State.is_mastered at.me o.state.copy) _ _ _ _ _ (mastered_like at.me o.state.copy fine.even)
      (λ held. if_like at asks ne (State.is_free at.me o.state) _ _ _ _ _ (free_like at.me at.readonly o.state o.next o.floor fine.even) (λ _. like_handle r o held fine) (λ _. like_wait r o))
      (λ _. if_like at asks ne (State.is_given o.state.copy) _ _ _ _ _ (given_like at.me o.state.copy ne fine.even)
      (λ _. like_send at asks at.lmaster (msg.Give at.db at.key (State.rsn_of o.state.copy) (State.value_of o.state.copy)) o ∙ (λ i. Rule.send at.me at.lmaster (Rule.Give (rsn_like at.me o.state.copy i) (value_like at.me o.state.copy i)) (out_of at asks o)))
      (λ _. refl)))
      (λ _. like_wait r o)
