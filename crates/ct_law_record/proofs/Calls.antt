-- Each client call, and what the location master does, keeps the invariant.
use Rattle.std.proofs.Common.{◌≡◌, ◌≢◌, ℕ, ◌+◌, ◌<◌, ◌≤◌, Bool, true, false, Option, Some, None, List, [], ◌∷◌, refl, sym, ap, ◌∙◌, inl, inr, ⊎_elim, arith, subst, ◌&&◌, ◌||◌, cond}
use Rattle.std.proofs.lemmas.Bool.{and_parts, cond_both, false_from_ne_true, or_cases}
use Rattle.ct_values.proofs.Words.{nil_is}
use Rattle.ct_values.specs.Words.{is_nil}
use Rattle.ct_values.specs.Client.{is_read}
use Rattle.ct_law_record.proofs.Invariant.{span_of, Start, Asked, readers_of, is_revoking, Ghost, RefuseAt, Says, Holds, Kept}
use Rattle.ct_law_record.proofs.Nodes.{NodeInv-called, called}
use Rattle.ct_law_record.proofs.Holder.{NodeInv-shift, NodeInv-holding, held, holding}
use Rattle.ct_law_record.specs.Marked.{is_removed}
use Rattle.ct_law_record.proofs.Markings.{grows_top, goes_on, marking_top}
use Rattle.ct_law_record.proofs.Parts.{idle_none, tracks, change_tracks, global_tracks, granted_to, granted_end, shift_to, nobody_has}
use Rattle.ct_law_record.proofs.Acts.{send_holds, node_holds, own_holds, Others, owner_me, see_holds, satisfy_holds, revoke_holds}
use Rattle.ct_law_record.proofs.Small.{reads_is_read}
use Rattle.ct_law_record.proofs.Revoking.{owned_none}
use Rattle.std.specs.Prelude.{List}
use Rattle.ct_values.specs.declared.client.Answer.TheVariants as answer
use Rattle.ct_call.specs.Rules.{Rules}
use Rattle.ct_tracking.specs.Tracked.{Revocation}
use Rattle.ct_rules.specs.State.{kind_of}
use Rattle.ct_rules.specs.declared.state.Entry.{Entry}
use Rattle.ct_rules.specs.declared.state.Waiter.{Waiter}
use Rattle.ct_law_record.specs.Labels.{Told}
use Rattle.ct_law_record.proofs.Rule
use Rattle.ct_law_record.proofs.Rule.{wait_for_copies, Call, Frame, Here, Node, Op, Out, Wish, become, has_node, is_here, is_idle, is_reading, rank, reads_op, satisfy, tell, value_of, with_node}

module _ (rules : Rules) (ps : List ℕ) (m me : ℕ) (nodes : ℕ → Node) (frames : List Frame) (r : Start) where
  pub call_holds : (op : Op) (g : Ghost) (o : Out) → is_here o.node.copy ≡ false → Holds rules ps m me nodes frames r g o → Kept rules ps m me nodes frames r (Rule.call me m op o)
  unfolding Rule.call with_node Says
  call_holds op g o away h = (
    _,
    send_holds rules ps m me nodes frames r m (Call o.node.next (kind_of op.readonly op.real)) g (with_node (called op o.node) o) (λ q s v is. absurd (cc))
        (node_holds rules ps m me nodes frames r (called op o.node) g o refl h (NodeInv-called g me o.node op (false_from_ne_true _ (λ t. (let z = (h.good.mine.locked t).0 in cc))) h.good.mine) h.good.master)
        (λ _. (omega arith, (let n = h.good.mine.next in omega arith)))
        (λ n ne e. absurd (ne (sym e))),
  )

  -- a holder that revokes keeps a wish
  wait_holds : (op : Op) (g : Ghost) (o : Out) → reads_op op ≡ false → o.node.locked ≡ false → is_here o.node.copy ≡ true → g.vacuum ≡ None → Holds rules ps m me nodes frames r g o → Kept rules ps m me nodes frames r (Rule.wish_kept op o)
  unfolding Rule.wish_kept Others
  wait_holds op g o writes unlocked here calm h =
      let node : Node = record o.node { wish = Some (record { request = 0; op = op }) } in
      let at = h.good.mine.here here in
      let top = h.good.mine.holds at.0 at.1 in
      let mirror = h.good.mine.mirror here in
      let rs = readers_of o.node.tracked o.node.revoking in
      let b = is_revoking o.node.revoking in
      let stays = λ (k : ℕ) (c : has_node k g.readers ≡ true). subst (λ l. has_node k l ≡ true) mirror.0 c in (
        _,
        own_holds rules ps m me nodes frames r g (tracks rs b g.top g) o node here (global_tracks ps m g rs b g.top calm (omega arith) h.good.all) (change_tracks g rs b g.top (inr (refl, λ a. sym mirror.1 ∙ a)))
            (record {
              here = here;
              up = omega arith;
              top = top.0;
              value = top.1;
              locked = λ a. absurd (cc);
              owner = h.good.mine.owner;
              unwished = λ a. absurd (cc);
              next = refl;
              fresh = refl;
              recalls = refl;
              wishes = λ w e. (let k : record { request = 0; op = op } ≡ w = cc in inr (ap (λ (x : Wish). x.request) (sym k), ap (λ (x : Wish). reads_op x.op) (sym k) ∙ writes));
              runs = λ v e. (let k = h.good.mine.runs v e in (k.1, k.2));
              quiet = h.good.mine.quiet;
              readers = refl;
              revoking = refl;
              granted = granted_to g rs b me o.node.copy o.node.wish (inl (stays me));
              seen = h.good.mine.seen;
            })
            (λ n ne. shift_to g rs b n (nodes n) (λ c. subst (λ (x : List ℕ × Bool). (has_node n x.0 || x.1) ≡ true) (λ i. (mirror.0 i, mirror.1 i)) c) (inl (stays n)) (h.good.others n ne))
            h.good.master (λ _. refl) refl h,
      )

  -- a holder wants the lock, or to write
  hold_want : (op : Op) (g : Ghost) (o : Out) → o.node.wish ≡ None → reads_op op ≡ false → o.node.locked ≡ false → is_here o.node.copy ≡ true → g.vacuum ≡ None → Holds rules ps m me nodes frames r g o →
      Kept rules ps m me nodes frames r (cond (is_nil o.node.tracked) (satisfy rules me op.real o) (wait_for_copies me op o))
  unfolding Rule.wish_kept wait_for_copies
  hold_want op g o none_now writes unlocked here calm h = cond_both (is_nil o.node.tracked) _ _ (Kept rules ps m me nodes frames r)
      (λ t. (let none = nil_is _ t in satisfy_holds rules ps m me nodes frames r op.real g o none_now here unlocked none (h.good.mine.quiet none) calm h))
      (λ some. cond_both (is_idle o.node.revoking) _ _ (Kept rules ps m me nodes frames r)
      (λ i. revoke_holds rules ps m me nodes frames r (Some (record { request = 0; op = op })) g o some here unlocked (idle_none _ i) calm
      (λ w e. inr ((let k : record { request = 0; op = op } ≡ w = cc in ap (λ (x : Wish). x.request) (sym k)), (let k : record { request = 0; op = op } ≡ w = cc in ap (λ (x : Wish). reads_op x.op) (sym k) ∙ writes))) h)
      (λ i. wait_holds op g o writes unlocked here calm h))

  -- who has a copy that may be read, reads it
  read_holds : (op : Op) (g : Ghost) (o : Out) → is_read op.real ≡ true → (is_here o.node.copy || is_reading o.node.copy) ≡ true → Holds rules ps m me nodes frames r g o → Kept rules ps m me nodes frames r (tell (Told me op.real (answer.Read (value_of o.node.copy))) o)
  read_holds op g o read t h = ⊎_elim
      (λ (here : is_here o.node.copy ≡ true). (let at = h.good.mine.here here in let k = h.good.mine.holds at.0 at.1 in
      let y : Kept rules ps m me nodes frames r (tell (Told me op.real (answer.Read (value_of o.node.copy))) o) = (_, see_holds rules ps m me nodes frames r g o k.0 (owner_me rules ps m me nodes frames r g o.node h.good here) op.real read (value_of o.node.copy) k.1 h) in y))
      (λ (reader : is_reading o.node.copy ≡ true). (let k = h.good.mine.reader reader in
      (_, see_holds rules ps m me nodes frames r g o k.2 (λ n own. absurd (nobody_has me g.readers (owned_none rules ps m me nodes frames r g o n own h) k.0)) op.real read (value_of o.node.copy) k.1 h)))
      (or_cases _ _ t)

  writes_else : (op : Op) (g : Ghost) (o : Out) → (is_read op.real && (is_here o.node.copy || is_reading o.node.copy)) ≡ false → is_here o.node.copy ≡ true → (is_read op.real ≡ false) × (reads_op op ≡ false)
  writes_else op g o t here =
      let r : is_read op.real ≡ false = false_from_ne_true _ (λ a. (let z : (is_read op.real && (is_here o.node.copy || is_reading o.node.copy)) ≡ true = rw (a, here) refl in cc)) in
      (r, false_from_ne_true _ (λ a. (let z = reads_is_read op a in cc)))

  pub want_of_holds : (op : Op) (g : Ghost) (o : Out) → o.node.wish ≡ None → (is_read op.real ≡ false → o.node.locked ≡ false) → (is_here o.node.copy ≡ true → g.vacuum ≡ None) → Holds rules ps m me nodes frames r g o → Kept rules ps m me nodes frames r (Rule.want_of rules me m op o)
  unfolding Rule.want_of
  want_of_holds op g o none_now unlocked calm h = cond_both (is_read op.real && (is_here o.node.copy || is_reading o.node.copy)) _ _ (Kept rules ps m me nodes frames r)
      (λ t. (let p = and_parts (is_read op.real) (is_here o.node.copy || is_reading o.node.copy) t in read_holds op g o p.0 p.1 h))
      (λ f. cond_both (is_here o.node.copy) _ _ (Kept rules ps m me nodes frames r)
      (λ here. (let w = writes_else op g o f here in hold_want op g o none_now w.1 (unlocked w.0) here (calm here) h))
      (λ away. call_holds op g o away h))

  next_of_holds : (entry : Option Entry) (asks : List Waiter) (g : Ghost) (o : Out) → ((a : Waiter) → Asked a asks → Asked a g.queue) → Holds rules ps m me nodes frames r g o → Kept rules ps m me nodes frames r (Rule.next_of me o entry asks)
  unfolding Rule.next_of Says Asked
  next_of_holds None asks g o sub h = (g, h)
  next_of_holds (Some e) [] g o sub h = (g, h)
  next_of_holds (Some e) (a ∷ as') g o sub h = (_, send_holds rules ps m me nodes frames r e.holder _ g o (λ q s v is. absurd (cc)) h (λ b. h.good.mine.asked a (sub a (inl refl)) b) (λ n ne b. (h.good.others n ne).asked a (sub a (inl refl)) b))

  pub next_holds : (g : Ghost) (o : Out) → me ≡ m → Holds rules ps m me nodes frames r g o → Kept rules ps m me nodes frames r (Rule.next me o)
  unfolding Rule.next
  next_holds g o at h = next_of_holds o.node.entry o.node.queue g o (λ a s. subst (λ q. Asked a q) (h.good.master at).queue s) h

  -- the node that the entry names becomes holder, where the location master may have made this entry just now
  pub become_holds : (entry_now : Option Entry) (wish : Option Wish) (g : Ghost) (o : Out) → me ≡ g.entry.holder → rank o.node.copy ≤ g.entry.least →
      ((w : Wish) → wish ≡ Some w → (o.node.wish ≡ Some w) × (w.request ≡ g.entry.request → w.request ≢ 0 → reads_op w.op ≡ false → ⊥)) →
      ((q rsn : ℕ) → RefuseAt g.entry me o.node.next o.node.wish (rank o.node.copy) q rsn → g.entry.request ≢ q) → (me ≡ m → entry_now ≡ Some g.entry) → is_removed o.labels ≡ false →
      Holds rules ps m me nodes frames r g o → Holds rules ps m me nodes frames r (held g) (with_node (record (holding g.entry wish o.node) { entry = entry_now }) o)
  unfolding with_node
  become_holds entry_now wish g o is small wishes unasked entry kept h =
      let away : is_here o.node.copy ≡ false = false_from_ne_true _ (λ t. (let up = (h.good.mine.here t).1 in omega arith)) in
      let none = h.good.mine.nobody is away in
      let pass = h.good.mine.passing is small in
      let top = pass.0 in
      let marked : g.base < g.entry.least + 1 = (let f = h.good.all.marks.first in omega arith) in record {
        sent = h.sent;
        told = h.told;
        went = goes_on (is_removed o.labels) r.span (span_of g) (span_of (held g)) (λ e. absurd (let z = kept in cc)) (grows_top g.base g.top (g.entry.least + 1) g.mark g.entry (omega arith)) h.went;
        good = record {
          all = (let k = h.good.all in record { rises = k.rises; whole = λ a l. k.whole a (omega arith); within = k.within; absent = k.absent; vacuum = λ v e. absurd (let z = none.2 in cc); marks = marking_top g.base g.joint g.top g.entry.least g.mark g.place g.register.versions g.entry.value (g.entry.least + 1) (omega arith) k.marks });
          mine = NodeInv-holding ps m g me o.node wish h.good.joined h.good.all is small wishes unasked h.good.mine;
          others = λ n ne. NodeInv-shift g (held g) n (nodes n) (λ e. ne (e ∙ sym is))
              (record { entry = refl; queue = refl; sent = refl; birth = refl; top = inl (omega arith); empty = λ a b c. c; joined = λ a b c. c; span = grows_top g.base g.top (g.entry.least + 1) g.mark g.entry (omega arith) })
              (let f = h.good.others n ne in record {
                owner = λ a. a;
                reader = λ _ a. absurd (nobody_has n g.readers none.0 a);
                granted = granted_end g (held g) n (nodes n).copy (nodes n).wish (inl (nobody_has n g.readers none.0));
                other = λ e _. absurd (let l : g.top ≡ g.entry.least + 1 = e in omega arith);
                value = f.value;
                seen = f.seen;
                kept = omega arith;
                vacuum = f.vacuum;
                marked = f.marked;
              }) (h.good.others n ne);
          master = λ e. (let k = h.good.master e in record { entry = inl (entry e, marked); queue = k.queue; vacuum = k.vacuum });
          joined = h.good.joined;
          master_other = λ ne. (let k = h.good.master_other ne in record {
            entry = ⊎_elim (λ (e : ((nodes m).entry ≡ Some g.entry) × (g.base < g.top)). inl (e.0, marked)) (λ p. absurd (ne (is ∙ ap (λ (x : Entry). x.holder) p.1))) k.entry;
            queue = k.queue;
            vacuum = k.vacuum;
          });
        };
      }

  -- Open and Keep: who was no holder tracked nobody
  pub keeps_holds : (entry_now : Option Entry) (g : Ghost) (o : Out) → me ≡ g.entry.holder → rank o.node.copy ≤ g.entry.least →
      ((w : Wish) → o.node.wish ≡ Some w → w.request ≡ g.entry.request → w.request ≢ 0 → reads_op w.op ≡ false → ⊥) →
      ((q rsn : ℕ) → RefuseAt g.entry me o.node.next o.node.wish (rank o.node.copy) q rsn → g.entry.request ≢ q) → (me ≡ m → entry_now ≡ Some g.entry) → is_removed o.labels ≡ false →
      Holds rules ps m me nodes frames r g o → Holds rules ps m me nodes frames r (held g) (Rule.become g.entry.least g.entry.value (with_node (record o.node { entry = entry_now }) o))
  unfolding Rule.become with_node
  keeps_holds entry_now g o is small unmet unasked entry kept h =
      let away : is_here o.node.copy ≡ false = false_from_ne_true _ (λ t. (let up = (h.good.mine.here t).1 in omega arith)) in
      let none = h.good.mine.away away in
      let idle = h.good.mine.quiet none in
      subst (λ (x : List ℕ × Option Revocation). Holds rules ps m me nodes frames r (held g) (with_node (record o.node { copy = Some (record { rsn = g.entry.least; kind = Here; value = g.entry.value }); tracked = x.0; revoking = x.1; entry = entry_now }) o))
      (λ i. (sym none i, sym idle i)) (become_holds entry_now o.node.wish g o is small (λ w e. (e, unmet w e)) unasked entry kept h)
