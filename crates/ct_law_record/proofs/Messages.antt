-- Each frame that comes keeps the invariant, but for those of the vacuum.
use Rattle.std.proofs.Common.{◌≡◌, ◌≢◌, ◌⊎◌, ℕ, ◌+◌, ◌-◌, ◌<◌, ◌≤◌, Bool, true, false, Option, Some, None, List, [], ◌∷◌, ◌++◌, refl, sym, ap, ◌∙◌, inl, inr, ⊎_elim, arith, subst, not, ◌&&◌, ◌==◌, nat_lt, nat_le, eqb-true, ltb-false, leb-true}
use Rattle.std.proofs.lemmas.Bool.{and_parts, cond_both, cases_eq, eq-eqb, eqb-false, false_from_ne_true}
use Rattle.ct_values.specs.Client.{is_read}
use Rattle.ct_law_record.proofs.Invariant.{span_of, Start, Asked, Waits, Recalled, Ghost, PassAt, GiveAt, RefuseAt, Says, NodeInv, Holds, Kept, default_entry}
use Rattle.ct_law_record.proofs.Nodes.{NodeInv-queue, each_asked, asked_rest, asked_first}
use Rattle.ct_law_record.proofs.Copies.{NodeInv-moved, moved}
use Rattle.ct_law_record.proofs.Holder.{held}
use Rattle.ct_law_record.specs.Marked.{is_removal, is_removed}
use Rattle.ct_law_record.proofs.Markings.{goes_moved, marking_moved}
use Rattle.ct_law_record.proofs.Parts.{quiet}
use Rattle.ct_law_record.proofs.Acts.{send_holds, node_holds, quiet_holds, calm_other, handle_lock_holds, handle_read_holds, drain_holds, satisfy_holds, grow_holds, lock_holds, recalls_holds}
use Rattle.ct_law_record.proofs.Revoking.{Came, is_wish_some, is_wish_not}
use Rattle.ct_law_record.proofs.Calls.{keeps_holds, want_of_holds, next_holds, become_holds}
use Rattle.std.specs.List.{list_any}
use Rattle.ct_rules.specs.Messages.{is_request, same_recall}
use Rattle.std.specs.Prelude.{List}
use Rattle.ct_values.specs.declared.client.Answer.TheVariants as answer
use Rattle.ct_values.specs.declared.client.ClientOp.TheVariants as op
use Rattle.ct_frame.specs.declared.frame.CallKind.{CallKind}
use Rattle.ct_call.specs.Rules.{Rules}
use Rattle.ct_rules.specs.State.{is_read_kind, kind_of}
use Rattle.ct_rules.specs.declared.state.Entry.{Entry}
use Rattle.ct_rules.specs.declared.state.RecallNote.{RecallNote}
use Rattle.ct_rules.specs.declared.state.Waiter.{Waiter}
use Rattle.ct_register.specs.Register.{reading}
use Rattle.ct_law_record.specs.Labels.{Told}
use Rattle.ct_law_record.proofs.Rule
use Rattle.ct_law_record.proofs.Rule.{Call, Copy, Frame, Give, Given, Here, Kind, Node, Op, Out, Pass, Refuse, Wish, become, end_vacuum, is_free, is_given, is_here, is_kind_given, is_kind_here, is_wish, rank, reads_op, rsn_of, satisfy_wish, tell, value_of, with_node}

-- what is known of every node where the entry may move on to this least
pub record Calm (g : Ghost) (least n : ℕ) (copy : Option Copy) (now : Option Wish) : Type 0 where
  pub small : rank copy ≤ least
  pub nobody : is_here copy ≡ false
  pub unmet : (w : Wish) → now ≡ Some w → reads_op w.op ≡ false → n ≡ g.entry.holder → w.request ≢ 0 → w.request ≢ g.entry.request

calm_give : (g : Ghost) (x rsn : ℕ) (value : List ℕ) (n : ℕ) (node : Node) → g.entry.holder ≡ x → g.entry.least ≤ rsn → g.top ≤ rsn + 1 → (x ≡ n → GiveAt g.entry g.top n node.copy rsn value) → NodeInv g n node → Calm g (rsn + 1) n node.copy node.wish
unfolding rank is_here is_kind_here
calm_give g x rsn value n node holder le top gives h = record {
  small = (let u = h.under in omega arith);
  nobody = ⊎_elim
      (λ (e : n ≡ x). ap is_here ((gives (sym e)).held (e ∙ sym holder) le))
      (λ (ne : n ≢ x). false_from_ne_true _ (λ t. ne ((h.here t).0 ∙ holder)))
      (cases_eq n x);
  unmet = λ w wished k a nz same. (let is = (gives (sym holder ∙ sym a)).held a le in let up : rank node.copy ≡ rsn + 1 = ap rank is in let m = h.own w wished a nz same k in omega arith);
}

calm_refuse : (g : Ghost) (x q rsn n : ℕ) (node : Node) → g.entry.holder ≡ x → g.entry.least ≡ rsn + 1 → g.entry.request ≡ q → g.top ≤ g.entry.least → (x ≡ n → RefuseAt g.entry n node.next node.wish (rank node.copy) q rsn) → NodeInv g n node → Calm g (rsn + 2) n node.copy node.wish
calm_refuse g x q rsn n node holder least request top refuses h = record {
  small = (let u = h.under in omega arith);
  nobody = false_from_ne_true _ (λ t. (let k = h.here t in let s = (refuses (sym holder ∙ sym k.0)).stale (sym k.0) least request in let up = k.1 in omega arith));
  unmet = λ w wished k a nz same. (refuses (sym holder ∙ sym a)).gone w wished k (same ∙ request);
}

module _ (rules : Rules) (ps : List ℕ) (m me : ℕ) (nodes : ℕ → Node) (frames : List Frame) (r : Start) where
  -- the entry moves on, and perhaps the queue
  move_holds : (e : Entry) (g : Ghost) (o : Out) → me ≡ m → g.base < g.top → g.entry.least < e.least → g.top ≤ e.least → g.readers ≡ [] → g.revoking ≡ false → g.vacuum ≡ None → e.value ≡ reading g.register.versions →
      (e.holder ≡ me → e.request ≢ 0 → e.request < o.node.next) → ((n : ℕ) → n ≢ me → e.holder ≡ n → e.request ≢ 0 → e.request < (nodes n).next) →
      Calm g e.least me o.node.copy o.node.wish → ((n : ℕ) → n ≢ me → Calm g e.least n (nodes n).copy (nodes n).wish) →
      Holds rules ps m me nodes frames r g o → Holds rules ps m me nodes frames r (moved e g) (with_node (record o.node { entry = Some e }) o)
  unfolding with_node
  move_holds e g o at marked up top readers revoking none value mine_low low mine_calm calm h = record {
    sent = h.sent;
    told = h.told;
    went = goes_moved (is_removed o.labels) r.span (span_of g) e top h.went;
    good = record {
      all = (let k = h.good.all in record { rises = k.rises; whole = k.whole; within = k.within; absent = k.absent; vacuum = λ v e. absurd (cc); marks = marking_moved g.base g.joint g.top g.entry.least g.mark g.place g.register.versions g.entry.value e.least e.value up top value k.marks });
      mine = NodeInv-moved g e me o.node up mine_calm.small top mine_calm.nobody readers revoking none mine_calm.unmet value (λ a. mine_low (sym a)) h.good.mine;
      others = λ n ne. (let c = calm n ne in NodeInv-moved g e n (nodes n) up c.small top c.nobody readers revoking none c.unmet value (λ a. low n ne (sym a)) (h.good.others n ne));
      master = λ _. record { entry = inl (refl, marked); queue = (h.good.master at).queue; vacuum = (h.good.master at).vacuum };
      joined = h.good.joined;
      master_other = λ ne. absurd (ne at);
    };
  }

  queue_holds : (asks : List Waiter) (g : Ghost) (o : Out) → me ≡ m → NodeInv (record g { queue = asks }) me o.node → ((n : ℕ) → n ≢ me → NodeInv (record g { queue = asks }) n (nodes n)) →
      Holds rules ps m me nodes frames r g o → Holds rules ps m me nodes frames r (record g { queue = asks }) (with_node (record o.node { queue = asks }) o)
  unfolding with_node
  queue_holds asks g o at mine others h = record {
    sent = h.sent;
    told = h.told;
    went = h.went;
    good = record { all = h.good.all; mine = mine; others = others; master = λ e. record { entry = (h.good.master e).entry; queue = refl; vacuum = (h.good.master e).vacuum }; joined = h.good.joined; master_other = λ ne. absurd (ne at) };
  }

  keep_holds : (rsn : ℕ) (value : List ℕ) (g : Ghost) (o : Out) → me ≡ m → g.base < g.top → g.entry.least < rsn → g.top ≤ rsn → g.readers ≡ [] → g.revoking ≡ false → g.vacuum ≡ None → value ≡ reading g.register.versions →
      Calm g rsn me o.node.copy o.node.wish → ((n : ℕ) → n ≢ me → Calm g rsn n (nodes n).copy (nodes n).wish) → is_removed o.labels ≡ false →
      Holds rules ps m me nodes frames r g o → Kept rules ps m me nodes frames r (Rule.keep me rsn value o)
  unfolding Rule.keep with_node
  keep_holds rsn value g o at marked up top readers revoking none new mine_calm calm kept h =
      let e : Entry = record { holder = me; least = rsn; request = 0; value = value } in
      let p = move_holds e g o at marked up top readers revoking none new (λ _ k. absurd (k refl)) (λ n ne _ k. absurd (k refl)) mine_calm calm h in
      next_holds rules ps m me nodes frames r _ _ at
      (keeps_holds rules ps m me nodes frames r (Some e) (moved e g) _ refl mine_calm.small (λ w is z nz _. nz z) (λ q x k z. k.asked (sym z)) (λ _. refl) kept p)

  entry_is : (e : Entry) (g : Ghost) (o : Out) → o.node.entry ≡ Some e → me ≡ m → Holds rules ps m me nodes frames r g o → e ≡ g.entry
  entry_is e g o is at h = ⊎_elim (λ (k : (o.node.entry ≡ Some g.entry) × (g.base < g.top)). (let j = k.0 in cc)) (λ k. absurd (let n = k.0 in cc)) (h.good.master at).entry

  -- where the location master has an entry there are marks
  entry_marked : (e : Entry) (g : Ghost) (o : Out) → o.node.entry ≡ Some e → me ≡ m → Holds rules ps m me nodes frames r g o → g.base < g.top
  entry_marked e g o is at h = ⊎_elim (λ (k : (o.node.entry ≡ Some g.entry) × (g.base < g.top)). k.1) (λ k. absurd (let n = k.0 in cc)) (h.good.master at).entry

  -- what was given: the holder is at rest, its value is the newest and its rank the greatest
  gave : (g : Ghost) (x rsn : ℕ) (value : List ℕ) (n : ℕ) (node : Node) → g.entry.holder ≡ x → g.entry.least ≤ rsn → x ≡ n → GiveAt g.entry g.top n node.copy rsn value → NodeInv g n node → (value ≡ reading g.register.versions) × (g.top ≡ rsn + 1) × (g.readers ≡ []) × (g.revoking ≡ false) × (g.vacuum ≡ None)
  unfolding rank value_of is_here is_kind_here
  gave g x rsn value n node holder le same gives h =
      let at = sym same ∙ sym holder in
      let is = gives.held at le in
      let up : rank node.copy ≡ rsn + 1 = ap rank is in
      let k = h.holds at (omega arith) in
      let none = h.nobody at (ap is_here is) in
      (sym (ap value_of is) ∙ k.1, sym k.0 ∙ up, none.0, none.1, none.2)

  taken : (g : Ghost) (n : ℕ) (node : Node) (a : Waiter) (as' : List Waiter) → g.queue ≡ a ∷ as' → NodeInv g n node → NodeInv (record g { queue = as' }) n node
  taken g n node a as' queue h = NodeInv-queue g n node as' (λ b s. h.asked b (subst (λ x. Asked b x) (sym queue) (asked_rest b a as' s))) h

  give_to_holds : (x rsn : ℕ) (value : List ℕ) (g : Ghost) (o : Out) (asks : List Waiter) → o.node.queue ≡ asks → me ≡ m → g.base < g.top → g.entry.holder ≡ x → g.entry.least ≤ rsn → Came rules ps m me nodes frames r g o x (Give rsn value) → is_removed o.labels ≡ false →
      Holds rules ps m me nodes frames r g o → Kept rules ps m me nodes frames r (Rule.give_to me rsn value o asks)
  unfolding Rule.give_to with_node Says
  give_to_holds x rsn value g o asks is at marked holder le came unremoved h = go asks is
    where
      known : (value ≡ reading g.register.versions) × (g.top ≡ rsn + 1) × (g.readers ≡ []) × (g.revoking ≡ false) × (g.vacuum ≡ None)
      known = ⊎_elim
          (λ (e : x ≡ me). gave g x rsn value me o.node holder le e (came.0 e) h.good.mine)
          (λ (ne : x ≢ me). gave g x rsn value x (nodes x) holder le refl (came.1 x ne refl) (h.good.others x ne))
          (cases_eq x me)

      mine_calm : Calm g (rsn + 1) me o.node.copy o.node.wish
      mine_calm = (let t = known.1 in calm_give g x rsn value me o.node holder le (omega arith) came.0 h.good.mine)

      calm : (n : ℕ) → n ≢ me → Calm g (rsn + 1) n (nodes n).copy (nodes n).wish
      calm n ne = (let t = known.1 in calm_give g x rsn value n (nodes n) holder le (omega arith) (came.1 n ne) (h.good.others n ne))

      kept : Kept rules ps m me nodes frames r (Rule.keep me (rsn + 1) value o)
      kept = keep_holds (rsn + 1) value g o at marked (omega arith) (let t = known.1 in omega arith) known.2 known.3 known.4 known.0 mine_calm calm unremoved h

      go : (asks : List Waiter) → o.node.queue ≡ asks → Kept rules ps m me nodes frames r (Rule.give_to me rsn value o asks)
      go [] is = kept
      go (a ∷ as') is = cond_both (is_read_kind a.kind) _ _ (Kept rules ps m me nodes frames r)
          (λ _. kept)
          (λ _.
          let e : Entry = record { holder = a.node; least = rsn + 1; request = a.request; value = value } in
          let queue = sym (h.good.master at).queue ∙ is in
          let first = subst (λ q. Asked a q) (sym queue) (asked_first a as') in
          let mine_asked = h.good.mine.asked a first in
          let asked = λ (n : ℕ) (ne : n ≢ me). (h.good.others n ne).asked a first in
          let p = queue_holds as' g o at (taken g me o.node a as' queue h.good.mine) (λ n ne. taken g n (nodes n) a as' queue (h.good.others n ne)) h in
          let q = move_holds e (record g { queue = as' }) _ at marked (omega arith) (let t = known.1 in omega arith) known.2 known.3 known.4 known.0 (λ b _. (mine_asked b).0) (λ n ne b _. (asked n ne b).0)
          (record { small = mine_calm.small; nobody = mine_calm.nobody; unmet = mine_calm.unmet })
          (λ n ne. (let c = calm n ne in record { small = c.small; nobody = c.nobody; unmet = c.unmet })) p in
          let s = send_holds rules ps m me nodes frames r a.node (Pass a.request rsn value) _ _ (λ q s v is. absurd (cc)) q
          (λ b. record { low = (mine_asked b).0; asked = (mine_asked b).1; below = omega arith; current = λ w _ same _. (b, refl, refl, refl) })
          (λ n ne b. record { low = (asked n ne b).0; asked = (asked n ne b).1; below = omega arith; current = λ w _ same _. (b, refl, refl, refl) }) in
          next_holds rules ps m me nodes frames r _ _ at s)

  pub on_give_holds : (x rsn : ℕ) (value : List ℕ) (g : Ghost) (o : Out) (entry : Option Entry) → o.node.entry ≡ entry → me ≡ m → Came rules ps m me nodes frames r g o x (Give rsn value) → is_removed o.labels ≡ false →
      Holds rules ps m me nodes frames r g o → Kept rules ps m me nodes frames r (Rule.on_give_of me x rsn value o entry)
  unfolding Rule.on_give_of
  on_give_holds x rsn value g o None is at came kept h = (g, h)
  on_give_holds x rsn value g o (Some e) is at came kept h = cond_both _ _ _ (Kept rules ps m me nodes frames r)
      (λ t.
      let p = and_parts (e.holder == x) (nat_le e.least rsn) t in
      let same : e ≡ g.entry = entry_is e g o is at h in
      give_to_holds x rsn value g o o.node.queue refl at (entry_marked e g o is at h) (ap (λ (k : Entry). k.holder) (sym same) ∙ eqb-true e.holder x p.0)
      (subst (λ (k : Entry). k.least ≤ rsn) same (leb-true e.least rsn p.1)) came kept h)
      (λ _. (g, h))

  pub on_refuse_holds : (x q rsn : ℕ) (g : Ghost) (o : Out) (entry : Option Entry) → o.node.entry ≡ entry → me ≡ m → Came rules ps m me nodes frames r g o x (Refuse q rsn) → is_removed o.labels ≡ false →
      Holds rules ps m me nodes frames r g o → Kept rules ps m me nodes frames r (Rule.on_refuse_of me x q rsn o entry)
  unfolding Rule.on_refuse_of Says
  on_refuse_holds x q rsn g o None is at came kept h = (g, h)
  on_refuse_holds x q rsn g o (Some e) is at came kept h = cond_both _ _ _ (Kept rules ps m me nodes frames r)
      (λ t.
      let p = and_parts (e.holder == x && e.least == rsn + 1 && e.request == q) (not (q == 0)) t in
      let p1 = and_parts (e.holder == x && e.least == rsn + 1) (e.request == q) p.0 in
      let p2 = and_parts (e.holder == x) (e.least == rsn + 1) p1.0 in
      let same : e ≡ g.entry = entry_is e g o is at h in
      let holder : g.entry.holder ≡ x = ap (λ (k : Entry). k.holder) (sym same) ∙ eqb-true e.holder x p2.0 in
      let least : g.entry.least ≡ rsn + 1 = ap (λ (k : Entry). k.least) (sym same) ∙ eqb-true e.least (rsn + 1) p2.1 in
      let request : g.entry.request ≡ q = ap (λ (k : Entry). k.request) (sym same) ∙ eqb-true e.request q p1.1 in
      let value : e.value ≡ g.entry.value = ap (λ (k : Entry). k.value) same in
      let known = ⊎_elim
      (λ (b : x ≡ me). refused q x me o.node g rsn holder b least request (came.0 b) h.good.mine)
      (λ (ne : x ≢ me). refused q x x (nodes x) g rsn holder refl least request (came.1 x ne refl) (h.good.others x ne))
      (cases_eq x me) in
      let t = known.0 in
      keep_holds (rsn + 2) e.value g o at (entry_marked e g o is at h) (omega arith) (omega arith) known.2 known.3 known.4 (value ∙ known.1)
      (calm_refuse g x q rsn me o.node holder least request known.0 came.0 h.good.mine)
      (λ n ne. calm_refuse g x q rsn n (nodes n) holder least request known.0 (came.1 n ne) (h.good.others n ne)) kept h)
      (λ _. (g, h))
    where
      refused : (q x n : ℕ) (node : Node) (g : Ghost) (rsn : ℕ) → g.entry.holder ≡ x → x ≡ n → g.entry.least ≡ rsn + 1 → g.entry.request ≡ q → RefuseAt g.entry n node.next node.wish (rank node.copy) q rsn → NodeInv g n node →
          (g.top ≤ g.entry.least) × (g.entry.value ≡ reading g.register.versions) × (g.readers ≡ []) × (g.revoking ≡ false) × (g.vacuum ≡ None)
      refused q x n node g rsn holder b least request k f =
          let small = k.stale (holder ∙ b) least request in
          let at = sym b ∙ sym holder in
          let p = f.passing at small in
          let none = f.nobody at (false_from_ne_true _ (λ t. (let up = (f.here t).1 in omega arith))) in
          (p.0, p.1, none.0, none.1, none.2)

  pass_again_holds : (e : Entry) (g : Ghost) (o : Out) → e ≡ g.entry → e.request ≢ 0 →
      Holds rules ps m me nodes frames r g o → Kept rules ps m me nodes frames r (Rule.pass_again me e o)
  unfolding Rule.pass_again Says
  pass_again_holds e g o same asked h = (
    _,
    send_holds rules ps m me nodes frames r e.holder (Pass e.request (e.least - 1) e.value) g o (λ q s v is. absurd (cc)) h
        (λ b. again me o.node b h.good.mine)
        (λ n ne b. again n (nodes n) b (h.good.others n ne)),
  )
    where
      again : (n : ℕ) (node : Node) → e.holder ≡ n → NodeInv g n node → PassAt g.entry n node.next node.wish e.request (e.least - 1) e.value
      again n node b f =
          let holder = ap (λ (k : Entry). k.holder) same in
          let least = ap (λ (k : Entry). k.least) same in
          let request = ap (λ (k : Entry). k.request) same in
          let value = ap (λ (k : Entry). k.value) same in
          let k = f.request (sym b ∙ holder) (λ z. asked (request ∙ z)) in record {
            low = omega arith;
            asked = asked;
            below = omega arith;
            current = λ w _ _ _. (sym holder ∙ b, omega arith, sym request, sym value);
          }

  waits_add : (s x : RecallNote) (l : List RecallNote) → Waits s (l ++ (x ∷ [])) → Waits s l ⊎ (x ≡ s)
  unfolding Waits
  waits_add s x [] (inl e) = inr e
  waits_add s x [] (inr w) = elim w [ ]
  waits_add s x (y ∷ ys) (inl e) = inl (inl e)
  waits_add s x (y ∷ ys) (inr w) = ⊎_elim (λ (k : Waits s ys). inl (inr k)) (λ (k : x ≡ s). inr k) (waits_add s x ys w)

  waits_cons : (s x : RecallNote) (l : List RecallNote) → Waits s (x ∷ l) → Waits s l ⊎ (x ≡ s)
  unfolding Waits
  waits_cons s x l (inl e) = inr e
  waits_cons s x l (inr w) = inl w

  add_recall_holds : (x : RecallNote) (g : Ghost) (o : Out) → Recalled x g.frames → Holds rules ps m me nodes frames r g o → Kept rules ps m me nodes frames r (Rule.add_recall x o)
  unfolding Rule.add_recall
  add_recall_holds x g o sent h = cond_both (list_any (same_recall x) o.node.recalls) o _ (Kept rules ps m me nodes frames r)
      (λ _. (g, h))
      (λ _. (
        g,
        recalls_holds rules ps m me nodes frames r (o.node.recalls ++ (x ∷ [])) g o
            (λ s w. ⊎_elim (λ (k : Waits s o.node.recalls). h.good.mine.waits s k) (λ (k : x ≡ s). subst (λ y. Recalled y g.frames) k sent) (waits_add s x o.node.recalls w)) h,
      ))

  handle_holds : (x : RecallNote) (g : Ghost) (o : Out) → is_free o.node ≡ true → Recalled x g.frames → Holds rules ps m me nodes frames r g o → Kept rules ps m me nodes frames r (Rule.handle me m x o)
  unfolding Rule.handle
  handle_holds x g o free sent h = cond_both (is_read_kind x.kind) _ _ (Kept rules ps m me nodes frames r)
      (λ _. handle_read_holds rules ps m me nodes frames r x g o free sent h)
      (λ _. handle_lock_holds rules ps m me nodes frames r (x ∷ o.node.recalls) g o free
      (λ s w. ⊎_elim (λ (k : Waits s o.node.recalls). h.good.mine.waits s k) (λ (k : x ≡ s). subst (λ y. Recalled y g.frames) k sent) (waits_cons s x o.node.recalls w)) h)

  given_is : (c : Option Copy) → is_given c ≡ true → (c ≡ Some (record { rsn = rsn_of c; kind = Given; value = value_of c })) × (rank c ≡ rsn_of c + 1)
  unfolding is_given is_kind_given rsn_of value_of rank
  given_is None h = absurd (cc)
  given_is (Some c) h = (go c.kind refl h, refl)
    where
      go : (k : Kind) → c.kind ≡ k → is_kind_given k ≡ true → Some c ≡ Some (record { rsn = c.rsn; kind = Given; value = c.value })
      go Given e h = ap (λ k. Some (record c { kind = k })) e
      go Rule.Odd e h = absurd (cc)
      go Here e h = absurd (cc)
      go Kind.For_reading e h = absurd (cc)
      go Kind.Stale e h = absurd (cc)

  again : (g : Ghost) (o : Out) → o.node.copy ≡ Some (record { rsn = rsn_of o.node.copy; kind = Given; value = value_of o.node.copy }) → rank o.node.copy ≡ rsn_of o.node.copy + 1 → NodeInv g me o.node → GiveAt g.entry g.top me o.node.copy (rsn_of o.node.copy) (value_of o.node.copy)
  again g o is up h = record { below = (let u = h.under in omega arith); held = λ _ _. is }

  pub on_recall_holds : (x : RecallNote) (g : Ghost) (o : Out) → Recalled x g.frames → Holds rules ps m me nodes frames r g o → Kept rules ps m me nodes frames r (Rule.on_recall me m x o)
  unfolding Rule.on_recall Says
  on_recall_holds x g o sent h = cond_both (nat_lt x.least (rank o.node.copy)) _ (Rule.add_recall x o) (Kept rules ps m me nodes frames r)
      (λ _. cond_both (is_here o.node.copy) _ _ (Kept rules ps m me nodes frames r)
      (λ here. cond_both _ _ _ (Kept rules ps m me nodes frames r)
      (λ free. handle_holds x g o free sent h)
      (λ _. add_recall_holds x g o sent h))
      (λ away. cond_both _ _ _ (Kept rules ps m me nodes frames r)
      (λ gone. (let k = given_is o.node.copy gone in (
        _,
        send_holds rules ps m me nodes frames r m (Give (rsn_of o.node.copy) (value_of o.node.copy)) g o (λ q s v is. absurd (cc)) h
            (λ _. again g o k.0 k.1 h.good.mine)
            (λ n ne b. absurd (ne (sym b))),
      )))
      (λ _. (g, h))))
      (λ _. add_recall_holds x g o sent h)

  accept_holds : (q rsn : ℕ) (value : List ℕ) (g : Ghost) (o : Out) → PassAt g.entry me o.node.next o.node.wish q rsn value → rank o.node.copy ≤ rsn + 1 → is_wish q false o.node.wish ≡ true → is_removed o.labels ≡ false →
      Holds rules ps m me nodes frames r g o → Kept rules ps m me nodes frames r (Rule.accept rules me m rsn value o)
  unfolding Rule.accept Rule.becomes satisfy_wish with_node is_here is_kind_here
  accept_holds q rsn value g o came small wished kept h =
      let w = is_wish_some rules ps m me nodes frames r q false o.node.wish wished in
      let at = came.current w.0 w.1 w.2 w.3 in
      let unlocked : o.node.locked ≡ false = false_from_ne_true _ (λ t. (let up = (h.good.mine.here (h.good.mine.locked t).0).1 in omega arith)) in
      let p = become_holds rules ps m me nodes frames r o.node.entry None g o (sym at.0) (omega arith) (λ v is. absurd (cc)) (λ p s k e. k.gone w.0 w.1 w.3 (w.2 ∙ sym at.2 ∙ e))
      (λ e. ⊎_elim (λ (k : (o.node.entry ≡ Some g.entry) × (g.base < g.top)). k.0) (λ k. absurd (came.asked (sym at.2 ∙ ap (λ (x : Entry). x.request) k.1))) (h.good.master e).entry) kept h in
      let p2 = subst (λ (x : ℕ × List ℕ). Holds rules ps m me nodes frames r (held g) (with_node (record o.node { copy = Some (record { rsn = x.0; kind = Here; value = x.1 }); wish = None; tracked = []; revoking = None }) o)) (λ i. (at.1 i, at.3 i)) p in
      let away : is_here o.node.copy ≡ false = false_from_ne_true _ (λ t. (let up = (h.good.mine.here t).1 in omega arith)) in
      let s = satisfy_holds rules ps m me nodes frames r w.0.op.real (held g) (with_node (record o.node { copy = Some (record { rsn = rsn + 1; kind = Here; value = value }); wish = None; tracked = []; revoking = None }) o) refl refl unlocked refl refl (h.good.mine.nobody (sym at.0) away).2 p2 in
      let j : Kept rules ps m me nodes frames r (satisfy_wish rules me o.node.wish (Rule.becomes (rsn + 1) value o)) = subst (λ (x : Option Wish). Kept rules ps m me nodes frames r (satisfy_wish rules me x (Rule.becomes (rsn + 1) value o))) (sym w.1) s in
      drain_holds rules ps m me nodes frames r _ j.0 _ (λ s w. w) j.1

  refuse_holds : (q rsn : ℕ) (value : List ℕ) (g : Ghost) (o : Out) → PassAt g.entry me o.node.next o.node.wish q rsn value → rank o.node.copy ≤ rsn + 1 → is_wish q false o.node.wish ≡ false →
      Holds rules ps m me nodes frames r g o → Kept rules ps m me nodes frames r (Rule.refuse me m q rsn o)
  unfolding Rule.refuse with_node Says Waits
  refuse_holds q rsn value g o came small unwished h = (
    _,
    send_holds rules ps m me nodes frames r m (Refuse q rsn) g _ (λ q s v is. absurd (cc))
        (recalls_holds rules ps m me nodes frames r [] g o (λ s w. elim w [ ]) h)
        (λ _. record { low = came.low; asked = came.asked; below = came.below; gone = is_wish_not rules ps m me nodes frames r q false o.node.wish unwished; stale = λ _ least _. omega arith })
        (λ n ne b. absurd (ne (sym b))),
  )

  pub on_pass_holds : (q rsn : ℕ) (value : List ℕ) (g : Ghost) (o : Out) → PassAt g.entry me o.node.next o.node.wish q rsn value → is_removed o.labels ≡ false →
      Holds rules ps m me nodes frames r g o → Kept rules ps m me nodes frames r (Rule.on_pass rules me m q rsn value o)
  unfolding Rule.on_pass
  on_pass_holds q rsn value g o came kept h = cond_both _ _ _ (Kept rules ps m me nodes frames r)
      (λ _. (g, h))
      (λ low. (let small = ltb-false _ _ low in cond_both _ _ _ (Kept rules ps m me nodes frames r)
      (λ wished. accept_holds q rsn value g o came small wished kept h)
      (λ unwished. refuse_holds q rsn value g o came small unwished h)))

  pub on_done_holds : (n q : ℕ) (g : Ghost) (o : Out) (asks : List Waiter) → o.node.queue ≡ asks → me ≡ m → Holds rules ps m me nodes frames r g o → Kept rules ps m me nodes frames r (Rule.on_done me n q o asks)
  unfolding Rule.on_done
  on_done_holds n q g o [] is at h = (g, h)
  on_done_holds n q g o (a ∷ as') is at h = cond_both _ _ _ (Kept rules ps m me nodes frames r)
      (λ _. (let queue = sym (h.good.master at).queue ∙ is in next_holds rules ps m me nodes frames r _ _ at
      (queue_holds as' g o at (taken g me o.node a as' queue h.good.mine) (λ k ne. taken g k (nodes k) a as' queue (h.good.others k ne)) h)))
      (λ _. (g, h))

  append_ask_holds : (x q : ℕ) (k : CallKind) (g : Ghost) (o : Out) (asks : List Waiter) → o.node.queue ≡ asks → me ≡ m → Came rules ps m me nodes frames r g o x (Call q k) →
      Holds rules ps m me nodes frames r g o → Kept rules ps m me nodes frames r (Rule.enqueue me (record { node = x; request = q; kind = k }) o asks)
  unfolding Rule.enqueue Says
  append_ask_holds x q k g o asks is at came h = go asks is
    where
      b : Waiter
      b = record { node = x; request = q; kind = k }

      more : (new : List Waiter) → new ≡ o.node.queue ++ (b ∷ []) → Holds rules ps m me nodes frames r (record g { queue = new }) (with_node (record o.node { queue = new }) o)
      more new e = (let same : new ≡ g.queue ++ (b ∷ []) = e ∙ ap (λ l. l ++ (b ∷ [])) (h.good.master at).queue in
          queue_holds new g o at
          (subst (λ l. NodeInv (record g { queue = l }) me o.node) (sym same) (NodeInv-queue g me o.node (g.queue ++ (b ∷ [])) (each_asked (λ a. a.node ≡ me → (a.request < o.node.next) × (a.request ≢ 0)) b g.queue h.good.mine.asked came.0) h.good.mine))
          (λ n ne. subst (λ l. NodeInv (record g { queue = l }) n (nodes n)) (sym same) (NodeInv-queue g n (nodes n) (g.queue ++ (b ∷ [])) (each_asked (λ a. a.node ≡ n → (a.request < (nodes n).next) × (a.request ≢ 0)) b g.queue (h.good.others n ne).asked (came.1 n ne)) (h.good.others n ne))) h)

      go : (asks : List Waiter) → o.node.queue ≡ asks → Kept rules ps m me nodes frames r (Rule.enqueue me (record { node = x; request = q; kind = k }) o asks)
      go [] e = next_holds rules ps m me nodes frames r _ _ at (more _ (ap (λ l. l ++ (b ∷ [])) (sym e)))
      go (a ∷ as') e = (_, more _ (ap (λ l. l ++ (b ∷ [])) (sym e)))

  on_call_of_holds : (x q : ℕ) (k : CallKind) (g : Ghost) (o : Out) (entry : Option Entry) → o.node.entry ≡ entry → me ≡ m → q ≢ 0 → Came rules ps m me nodes frames r g o x (Call q k) →
      Holds rules ps m me nodes frames r g o → Kept rules ps m me nodes frames r (Rule.on_call_of me x q k o entry)
  unfolding Rule.on_call_of
  on_call_of_holds x q k g o None is at asked came h = (g, h)
  on_call_of_holds x q k g o (Some e) is at asked came h = let same : e ≡ g.entry = entry_is e g o is at h in
      cond_both (e.holder == x && e.request == q) _ _ (Kept rules ps m me nodes frames r)
      (λ t. (let p = and_parts (e.holder == x) (e.request == q) t in pass_again_holds e g o same (λ z. asked (sym (eqb-true e.request q p.1) ∙ z)) h))
      (λ _. cond_both (list_any (is_request x q) o.node.queue) _ _ (Kept rules ps m me nodes frames r)
      (λ _. cond_both (e.request == 0) o (Rule.pass_again me e o) (λ y. Kept rules ps m me nodes frames r (Rule.next me y))
      (λ _. next_holds rules ps m me nodes frames r g o at h)
      (λ f. (let p = pass_again_holds e g o same (eqb-false e.request 0 f) h in next_holds rules ps m me nodes frames r p.0 _ at p.1)))
      (λ _. append_ask_holds x q k g o o.node.queue refl at came h))

  -- OPEN, where no vacuum runs: it takes away no wish and draws no number
  abbrev Opened : Out → Out → Type 0
  Opened o p = (g : Ghost) × Holds rules ps m me nodes frames r g p × (g.vacuum ≡ None) × (p.node.locked ≡ o.node.locked) × (p.node.next ≡ o.node.next) × (p.node.wish ≡ o.node.wish)

  open_of_holds : (g : Ghost) (o : Out) (e : Option Entry) → o.node.entry ≡ e → me ≡ m → g.vacuum ≡ None → is_removed o.labels ≡ false → Holds rules ps m me nodes frames r g o → Opened o (Rule.open_of me o e)
  unfolding Rule.open_of with_node rank become
  open_of_holds g o (Some e) is at calm kept h = (g, h, calm, refl, refl, refl)
  open_of_holds g o None is at calm kept h = ⊎_elim
      (λ (e : (o.node.entry ≡ Some g.entry) × (g.base < g.top)). absurd (let k = e.0 in cc))
      (λ (p : (o.node.entry ≡ None) × (g.entry ≡ default_entry m o.node.floor) × (o.node.copy ≡ None) × (g.top ≤ g.base)).
      let holder : g.entry.holder ≡ m = ap (λ (x : Entry). x.holder) p.1 in
      let request : g.entry.request ≡ 0 = ap (λ (x : Entry). x.request) p.1 in
      let absent : rank o.node.copy ≡ 0 = ap rank p.2 in
      let new : Entry = default_entry me o.node.floor in
      let entry_is : g.entry ≡ new = p.1 ∙ ap (λ (x : ℕ). default_entry x o.node.floor) (sym at) in
      let o' = with_node (record o.node { entry = Some new }) o in
      let b = keeps_holds rules ps m me nodes frames r (Some new) g o (at ∙ sym holder) (omega arith)
      (λ w is z nz _. nz (z ∙ request)) (λ q x k z. k.asked (sym z ∙ request)) (λ _. ap Some (sym entry_is)) kept h in
      (held g, subst (λ (x : Entry). Holds rules ps m me nodes frames r (held g) (become x.least x.value o')) entry_is b, calm, refl, refl, refl))
      (h.good.master at).entry

  -- OPEN, and a vacuum ends
  opened_holds : (g : Ghost) (o : Out) → me ≡ m → is_removed o.labels ≡ false → Holds rules ps m me nodes frames r g o → Opened o (Rule.opened me (end_vacuum o))
  unfolding Rule.opened end_vacuum with_node
  opened_holds g o at kept h = open_of_holds (quiet g) (end_vacuum o) o.node.entry refl at refl kept (quiet_holds rules ps m me nodes frames r g o (λ ne. absurd (ne at)) h)

  pub on_call_holds : (x q : ℕ) (k : CallKind) (g : Ghost) (o : Out) → me ≡ m → Came rules ps m me nodes frames r g o x (Call q k) → is_removed o.labels ≡ false →
      Holds rules ps m me nodes frames r g o → Kept rules ps m me nodes frames r (Rule.on_call me x q k o)
  unfolding Rule.on_call Says
  on_call_holds x q k g o at came kept h =
      let p = opened_holds g o at kept h in
      let asked : q ≢ 0 = ⊎_elim (λ (e : x ≡ me). (came.0 e).1) (λ (ne : x ≢ me). (came.1 x ne refl).1) (cases_eq x me) in
      on_call_of_holds x q k p.0 (Rule.opened me (end_vacuum o)) (Rule.opened me (end_vacuum o)).node.entry refl at asked ((λ e. (let j = came.0 e in (rw p.4 j.0, j.1))), came.1) p.1

  pub want_holds : (op : Op) (g : Ghost) (o : Out) → o.node.wish ≡ None → (is_read op.real ≡ false → o.node.locked ≡ false) → is_removed o.labels ≡ false → Holds rules ps m me nodes frames r g o → Kept rules ps m me nodes frames r (Rule.want rules me m op o)
  unfolding Rule.want
  want_holds op g o none_now free kept h = cond_both (me == m && not o.node.locked) (Rule.opened me (end_vacuum o)) o (λ x. Kept rules ps m me nodes frames r (Rule.want_of rules me m op x))
      (λ t. (let q = and_parts (me == m) (not o.node.locked) t in let p = opened_holds g o (eqb-true me m q.0) kept h in want_of_holds rules ps m me nodes frames r op p.0 (Rule.opened me (end_vacuum o)) (p.5 ∙ none_now) (λ w. p.3 ∙ free w) (λ _. p.2) p.1))
      (λ f. want_of_holds rules ps m me nodes frames r op g o none_now free (λ here. ⊎_elim
      (λ (e : me ≡ m). (h.good.mine.locked (shut e f)).4)
      (λ (ne : me ≢ m). calm_other rules ps m me nodes frames r g o.node h.good here ne)
      (cases_eq me m)) h)
    where
      shut : me ≡ m → (me == m && not o.node.locked) ≡ false → o.node.locked ≡ true
      shut e f = go o.node.locked (subst (λ b. (b && not o.node.locked) ≡ false) (eq-eqb me m e) f)
        where
          go : (l : Bool) → (true && not l) ≡ false → l ≡ true
          go true e = refl
          go false e = absurd (cc)

  pub store_holds : (db : ℕ) (key v : List ℕ) (g : Ghost) (o : Out) → o.node.locked ≡ true → Holds rules ps m me nodes frames r g o → Kept rules ps m me nodes frames r (Rule.store me db key v o)
  unfolding Rule.store is_removal
  store_holds db key v g o t h = (let k = h.good.mine.locked t in
      (_, grow_holds rules ps m me nodes frames r v (Told me (op.Store db key v) answer.Stored) g.register.owner g o k.0 k.2 k.3 k.4 refl (k.1, refl) (λ _. k.1) (λ _. t) (λ n ne e. absurd (ne (let j : Some n ≡ Some me = sym e ∙ k.1 in cc))) h))

  pub release_holds : (db : ℕ) (key : List ℕ) (g : Ghost) (o : Out) → o.node.locked ≡ true → Holds rules ps m me nodes frames r g o → Kept rules ps m me nodes frames r (Rule.release me db key o)
  unfolding Rule.release is_removal
  release_holds db key g o t h =
      let k = h.good.mine.locked t in
      let s = h.good.mine.seen in
      let w = h.good.all.within (rank o.node.copy) in
      (_, lock_holds rules ps m me nodes frames r false (Told me (op.Unlock db key) answer.Unlocked) None g.register.seen g o k.0 k.2 k.3 k.4 refl (k.1, refl) (λ a. absurd (cc)) (λ a. absurd (cc)) (λ n ne e. absurd (cc)) (λ a. absurd (cc)) (omega arith) (λ n ne. refl) h)

  pub unlock_holds : (db : ℕ) (key : List ℕ) (g : Ghost) (o : Out) → o.node.locked ≡ true → Holds rules ps m me nodes frames r g o → Kept rules ps m me nodes frames r (Rule.unlock me m db key o)
  unfolding Rule.unlock Rule.release tell with_node
  unlock_holds db key g o t h = (let k = release_holds db key g o t h in drain_holds rules ps m me nodes frames r o.node.recalls _ _ (λ s w. w) k.1)

  pub retry_holds : (wish : Option Wish) (g : Ghost) (o : Out) → o.node.wish ≡ wish → Holds rules ps m me nodes frames r g o → Kept rules ps m me nodes frames r (Rule.retry me m o wish)
  unfolding Rule.retry Says
  retry_holds None g o is h = (g, h)
  retry_holds (Some w) g o is h = cond_both (w.request == 0) _ _ (Kept rules ps m me nodes frames r)
      (λ _. (g, h))
      (λ f. (_, send_holds rules ps m me nodes frames r m (Call w.request (kind_of w.op.readonly w.op.real)) g o (λ q s v is. absurd (cc)) h (λ _. (h.good.mine.wish w is, eqb-false w.request 0 f)) (λ n ne e. absurd (ne (sym e)))))
