-- Revocations and copies for reading.
use Rattle.std.proofs.Common.{◌≡◌, ◌≢◌, ◌⊎◌, ℕ, ◌+◌, ◌<◌, Bool, true, false, Option, Some, None, List, [], ◌∷◌, refl, sym, ap, ◌∙◌, inl, inr, ⊎_elim, arith, subst, not, ◌&&◌, ◌||◌, ◌==◌, nat_le, eqb-true, eq-eqb}
use Rattle.std.proofs.lemmas.Bool.{and_parts, not-true, cond_both, cases_eq, false_from_ne_true}
use Rattle.ct_values.proofs.Words.{nil_is}
use Rattle.ct_values.specs.Words.{others, is_nil}
use Rattle.ct_law_record.proofs.Invariant.{Start, Sent, readers_of, is_revoking, Ghost, Ungranted, RevokeAt, AckAt, Says, BodyAt, NodeInv, Holds, Kept}
use Rattle.ct_law_record.proofs.Nodes.{and_frame, NodeInv-called, called, rank_of, ungranted_new, NodeInv-stale, reading-stale, rank-stale}
use Rattle.ct_law_record.proofs.Copies.{NodeInv-granted, granted}
use Rattle.ct_law_record.proofs.Parts.{tracks, change_tracks, global_tracks, Done_with, granted_to, granted_end, shift_to, shift_end, nobody_has}
use Rattle.ct_law_record.proofs.Acts.{send_holds, node_holds, own_holds, Others, master_copy, see_holds, satisfy_holds, drain_holds}
use Rattle.ct_law_record.proofs.Small.{reads_is_read}
use Rattle.std.specs.Prelude.{List}
use Rattle.ct_frame.specs.declared.frame.CallKind.TheVariants as kind
use Rattle.ct_call.specs.Rules.{Rules}
use Rattle.ct_tracking.specs.Tracked.{Revocation}
use Rattle.ct_rules.specs.declared.state.Entry.{Entry}
use Rattle.ct_law_record.proofs.Rule.{risen, read_granted, is_kind_here, Body, Call, Copy, For_reading, Frame, Grant, Here, Node, Out, Revoke, RevokeAck, Wish, end_revocation, end_wish, has_node, is_here, is_reading, is_wish, on_ack, on_grant, on_revoke, rank, reads_op, rsn_of, send, stale, value_of, with_node}

pub has-without : (k n : ℕ) (ns : List ℕ) → k ≢ n → has_node k ns ≡ true → has_node k (others n ns) ≡ true
unfolding has_node
has-without k n [] ne h = absurd (cc)
has-without k n (m ∷ ms) ne h = grind (arith, has-without k n ms ne)

pub risen_is : (c : Option Copy) → is_here c ≡ true → risen c ≡ Some (record { rsn = rsn_of c + 1; kind = Here; value = value_of c })
unfolding risen is_here rsn_of value_of is_kind_here
risen_is None h = absurd (cc)
risen_is (Some c) h = grind arith

module _ (rules : Rules) (ps : List ℕ) (m me : ℕ) (nodes : ℕ → Node) (frames : List Frame) (r : Start) where
  -- the frame was sent: what it says of each node
  abbrev pub Came : Ghost → Out → ℕ → Body → Type 0
  Came g o from b = BodyAt g me o.node from me b × ((n : ℕ) → n ≢ me → BodyAt g n (nodes n) from me b)

  abbrev Gone : Ghost → ℕ → Node → Type 0
  Gone g k node = (has_node k g.readers ≡ true → ⊥) ⊎ Done_with g k node.copy node.wish

  -- the last acknowledgement: what the node is once its own wish is cleared, where that has request 0
  ended : Option Wish → Node → Node
  ended wish node = record node { copy = Some (record { rsn = rsn_of node.copy + 1; kind = Here; value = value_of node.copy }); wish = wish; tracked = []; revoking = None }

  ended_holds : (wish : Option Wish) (g : Ghost) (o : Out) → is_here o.node.copy ≡ true → o.node.locked ≡ false → g.vacuum ≡ None → ((w : Wish) → wish ≡ Some w → o.node.wish ≡ Some w) →
      Gone g me o.node → ((n : ℕ) → n ≢ me → Gone g n (nodes n)) →
      Holds rules ps m me nodes frames r g o → Holds rules ps m me nodes frames r (tracks [] false (g.top + 1) g) (with_node (ended wish o.node) o)
  unfolding ended rank is_here is_kind_here value_of readers_of is_revoking Others
  ended_holds wish g o here unlocked calm wishes mine_gone gone h =
      let same = rank_of o.node.copy here in
      let holds = h.good.mine.holds (h.good.mine.here here).0 (h.good.mine.here here).1 in
      let top = holds.0 in
      own_holds rules ps m me nodes frames r g (tracks [] false (g.top + 1) g) o (ended wish o.node) here (global_tracks ps m g [] false (g.top + 1) calm (omega arith) h.good.all) (change_tracks g [] false (g.top + 1) (inl (omega arith)))
      (record {
        here = refl;
        up = omega arith;
        top = omega arith;
        value = holds.1;
        locked = λ a. absurd (cc);
        owner = h.good.mine.owner;
        unwished = λ a. absurd (cc);
        next = refl;
        fresh = refl;
        recalls = refl;
        wishes = λ w e. inl (wishes w e);
        runs = λ v e. absurd (cc);
        quiet = λ _. refl;
        readers = refl;
        revoking = refl;
        granted = granted_end g (tracks [] false (g.top + 1) g) me o.node.copy o.node.wish mine_gone;
        seen = (let s = h.good.mine.seen in let u = h.good.all.rises (rank o.node.copy) (rsn_of o.node.copy + 1 + 1) (omega arith) in omega arith);
      })
      (λ n ne. shift_end g [] false (g.top + 1) n (nodes n) (omega arith) (gone n ne) (h.good.others n ne))
      (λ e. (let k = master_copy rules ps m me nodes frames r g o (ended wish o.node).copy (g.top + 1) (omega arith) here h e in record { entry = k.entry; queue = k.queue; vacuum = k.vacuum })) (λ _. refl) refl h

  end_wish_holds : (wish : Option Wish) (g : Ghost) (o : Out) → o.node.wish ≡ wish → is_here o.node.copy ≡ true → o.node.locked ≡ false → g.vacuum ≡ None →
      Gone g me o.node → ((n : ℕ) → n ≢ me → Gone g n (nodes n)) →
      Holds rules ps m me nodes frames r g o →
      Kept rules ps m me nodes frames r (end_wish rules me wish (with_node (record o.node { copy = Some (record { rsn = rsn_of o.node.copy + 1; kind = Here; value = value_of o.node.copy }); tracked = []; revoking = None }) o))
  unfolding end_wish with_node ended is_here is_kind_here
  end_wish_holds None g o is here unlocked calm mine_gone gone h = (_, ended_holds o.node.wish g o here unlocked calm (λ w e. absurd (cc)) mine_gone gone h)
  end_wish_holds (Some w) g o is here unlocked calm mine_gone gone h = cond_both (w.request == 0) _ _ (Kept rules ps m me nodes frames r)
      (λ _. satisfy_holds rules ps m me nodes frames r w.op.real _ (with_node (ended None o.node) o) refl refl unlocked refl refl calm (ended_holds None g o here unlocked calm (λ v e. absurd (cc)) mine_gone gone h))
      (λ f. (_, ended_holds o.node.wish g o here unlocked calm (λ v e. e) mine_gone gone h))

  pub end_holds : (g : Ghost) (o : Out) → is_here o.node.copy ≡ true → o.node.locked ≡ false → g.vacuum ≡ None →
      Gone g me o.node → ((n : ℕ) → n ≢ me → Gone g n (nodes n)) →
      Holds rules ps m me nodes frames r g o → Kept rules ps m me nodes frames r (end_revocation rules me m o)
  unfolding end_revocation
  end_holds g o here unlocked calm mine_gone gone h =
      let k = end_wish_holds o.node.wish g o refl here unlocked calm mine_gone gone h in
      let j : Kept rules ps m me nodes frames r (end_wish rules me o.node.wish (with_node (record o.node { copy = risen o.node.copy; tracked = []; revoking = None }) o)) =
      subst (λ (c : Option Copy). Kept rules ps m me nodes frames r (end_wish rules me o.node.wish (with_node (record o.node { copy = c; tracked = []; revoking = None }) o))) (sym (risen_is o.node.copy here)) k in
      drain_holds rules ps m me nodes frames r _ j.0 _ (λ s w. w) j.1

  unlocked_if : (g : Ghost) (node : Node) (v : Revocation) → node.revoking ≡ Some v → NodeInv g me node → node.locked ≡ false
  unlocked_if g node v is h = false_from_ne_true _ (λ t. (let k = (h.locked t).3 in cc))

  gone_of : (k : ℕ) (g : Ghost) (l : List ℕ) (node : Node) → l ≡ [] → (has_node k g.readers ≡ true → has_node k l ≡ true) ⊎ Done_with g k node.copy node.wish → Gone g k node
  gone_of k g l node e s = ⊎_elim (λ (x : has_node k g.readers ≡ true → has_node k l ≡ true). inl (λ a. nobody_has k l e (x a))) (λ (x : Done_with g k node.copy node.wish). inr x) s

  covered : (k : ℕ) (rs : List ℕ) → (has_node k rs || true) ≡ true
  covered k rs = grind arith

  pub on_ack_holds : (n rsn : ℕ) (g : Ghost) (o : Out) (revoking : Option Revocation) → o.node.revoking ≡ revoking → Came g o n (RevokeAck rsn) → Holds rules ps m me nodes frames r g o → Kept rules ps m me nodes frames r (on_ack rules me m n rsn o revoking)
  unfolding on_ack Says readers_of is_revoking Others
  on_ack_holds n rsn g o None is came h = (g, h)
  on_ack_holds n rsn g o (Some v) is came h = cond_both (v.rsn == rsn) _ _ (Kept rules ps m me nodes frames r)
      (λ t.
      let runs = h.good.mine.runs v is in
      let here = runs.0 in
      let calm = runs.2 in
      let unlocked = unlocked_if g o.node v is h.good.mine in
      let holds = h.good.mine.holds (h.good.mine.here here).0 (h.good.mine.here here).1 in
      let top : rsn + 1 ≡ g.top = ap (λ x. x + 1) (sym (eqb-true v.rsn rsn t)) ∙ runs.1 ∙ holds.0 in
      let readers : g.readers ≡ v.missing = (h.good.mine.mirror here).0 ∙ ap (readers_of o.node.tracked) is in
      let revoking : g.revoking ≡ true = (h.good.mine.mirror here).1 ∙ ap is_revoking is in
      let stays = λ (k : ℕ) (copy : Option Copy) (wish : Option Wish) (ack : n ≡ k → AckAt g.top g.revoking g.frames k copy wish rsn). ⊎_elim
      (λ (e : k ≡ n). (let a = ack (sym e) in let y : (has_node k g.readers ≡ true → has_node k (others n v.missing) ≡ true) ⊎ Done_with g k copy wish = inr (a.none top, a.ungranted top) in y))
      (λ (ne : k ≢ n). inl (λ c. has-without k n v.missing ne (subst (λ l. has_node k l ≡ true) readers c)))
      (cases_eq k n) in
      let mine = stays me o.node.copy o.node.wish came.0 in
      let apart = λ (k : ℕ) (ne : k ≢ me). stays k (nodes k).copy (nodes k).wish (came.1 k ne) in
      let rest = others n v.missing in
      cond_both (is_nil (others n v.missing)) _ _ (Kept rules ps m me nodes frames r)
      (λ nil. (let none = nil_is _ nil in end_holds g o here unlocked calm (gone_of me g rest o.node none mine) (λ k ne. gone_of k g rest (nodes k) none (apart k ne)) h))
      (λ _. (
        _,
        own_holds rules ps m me nodes frames r g (tracks rest true g.top g) o (record o.node { revoking = Some (record v { missing = rest }) }) here (global_tracks ps m g rest true g.top calm (omega arith) h.good.all) (change_tracks g rest true g.top (inr (refl, λ _. refl)))
            (record {
              here = here;
              up = omega arith;
              top = holds.0;
              value = holds.1;
              locked = λ a. absurd (cc);
              owner = h.good.mine.owner;
              unwished = λ a. absurd (cc);
              next = refl;
              fresh = refl;
              recalls = refl;
              wishes = λ w e. inl e;
              runs = λ u e. (let k : record v { missing = rest } ≡ u = cc in (rw (ap (λ (x : Revocation). x.rsn) (sym k)) runs.1, calm));
              quiet = λ a. absurd (let z = h.good.mine.quiet a in cc);
              readers = refl;
              revoking = refl;
              granted = granted_to g rest true me o.node.copy o.node.wish mine;
              seen = h.good.mine.seen;
            })
            (λ k ne. shift_to g rest true k (nodes k) (λ _. covered k rest) (apart k ne) (h.good.others k ne))
            h.good.master (λ _. refl) refl h,
      )))
      (λ _. (g, h))

  -- a revoked reader acknowledges, under its new wish
  ack_sent : (h rsn : ℕ) (g : Ghost) (o : Out) → RevokeAt g.top g.revoking rsn → (is_reading o.node.copy ≡ true → rsn + 1 < rank o.node.copy) → Ungranted g.frames me o.node.wish →
      Holds rules ps m me nodes frames r g o → Holds rules ps m me nodes frames r (and_frame (record { from = me; to = h; body = RevokeAck rsn }) g) (send me h (RevokeAck rsn) o)
  unfolding Says
  ack_sent h rsn g o k past un hold = send_holds rules ps m me nodes frames r h (RevokeAck rsn) g o (λ q s v is. absurd (cc)) hold
      (λ _. record { below = k.below; running = k.running; none = λ e. false_from_ne_true _ (λ a. (let p = past a in let u = hold.good.mine.under in omega arith)); ungranted = λ _. un })
      (λ n ne p. absurd (ne (sym p)))

  stale_holds : (rsn : ℕ) (g : Ghost) (o : Out) → Holds rules ps m me nodes frames r g o → Holds rules ps m me nodes frames r g (with_node (record o.node { copy = stale rsn o.node.copy }) o)
  unfolding stale
  stale_holds rsn g o h = node_holds rules ps m me nodes frames r (record o.node { copy = stale rsn o.node.copy }) g o refl h (NodeInv-stale g me o.node rsn h.good.mine)
      (λ e. record { entry = ⊎_elim (λ (k : (o.node.entry ≡ Some g.entry) × (g.base < g.top)). inl k) (λ k. inr (k.0, k.1, ap (stale rsn) k.2, k.3)) (h.good.master e).entry; queue = (h.good.master e).queue; vacuum = (h.good.master e).vacuum })

  unread_ungranted : (g : Ghost) (wish : Option Wish) → ((w : Wish) → wish ≡ Some w → reads_op w.op ≡ false) → Ungranted g.frames me wish
  unfolding Ungranted
  unread_ungranted g wish none f s to q rsn value is w e reads = absurd (let k = none w e in cc)

  pub on_revoke_holds : (x rsn : ℕ) (g : Ghost) (o : Out) (wish : Option Wish) → o.node.wish ≡ wish → BodyAt g me o.node x me (Revoke rsn) → Holds rules ps m me nodes frames r g o → Kept rules ps m me nodes frames r (on_revoke me m x rsn o wish)
  unfolding on_revoke with_node send Says
  on_revoke_holds x rsn g o None is k h =
      (_, ack_sent x rsn g (with_node (record o.node { copy = stale rsn o.node.copy }) o) k (λ a. rw rank-stale (reading-stale rsn o.node.copy a).1) (unread_ungranted g o.node.wish (λ w e. absurd (cc))) (stale_holds rsn g o h))
  on_revoke_holds x rsn g o (Some w) is k h = cond_both (reads_op w.op) _ _ (Kept rules ps m me nodes frames r)
      (λ t.
      let s = stale_holds rsn g o h in
      let node : Node = record o.node { copy = stale rsn o.node.copy } in
      let new : Node = called w.op node in
      let c = node_holds rules ps m me nodes frames r new g (with_node node o) refl s (NodeInv-called g me node w.op (false_from_ne_true _ (λ t. (let z = h.good.mine.unwished t in cc))) s.good.mine) s.good.master in
      let a = ack_sent x rsn g (with_node new o) k (λ a. rw rank-stale (reading-stale rsn o.node.copy a).1) (ungranted_new g me node w.op s.good.mine) c in
      (_, send_holds rules ps m me nodes frames r m (Call o.node.next kind.Read) _ _ (λ q s v is. absurd (cc)) a (λ _. (omega arith, (let n = h.good.mine.next in omega arith))) (λ n ne e. absurd (ne (sym e)))))
      (λ f. (
        _,
        ack_sent x rsn g (with_node (record o.node { copy = stale rsn o.node.copy }) o) k (λ a. rw rank-stale (reading-stale rsn o.node.copy a).1)
            (unread_ungranted g o.node.wish (λ v e. (let j : w ≡ v = cc in ap (λ (y : Wish). reads_op y.op) (sym j) ∙ f))) (stale_holds rsn g o h),
      ))

  pub is_wish_some : (q : ℕ) (reads : Bool) (wish : Option Wish) → is_wish q reads wish ≡ true → (w : Wish) × (wish ≡ Some w) × (w.request ≡ q) × (reads_op w.op ≡ reads)
  unfolding is_wish
  is_wish_some q reads None t = absurd (cc)
  is_wish_some q true (Some w) t = (let p = and_parts (w.request == q) (reads_op w.op) t in (w, refl, eqb-true w.request q p.0, p.1))
  is_wish_some q false (Some w) t = (let p = and_parts (w.request == q) (not (reads_op w.op)) t in (w, refl, eqb-true w.request q p.0, not-true (reads_op w.op) p.1))

  pub is_wish_not : (q : ℕ) (reads : Bool) (wish : Option Wish) → is_wish q reads wish ≡ false → (w : Wish) → wish ≡ Some w → reads_op w.op ≡ reads → w.request ≢ q
  unfolding is_wish
  is_wish_not q reads None t w is k e = absurd (let j : None ≡ Some w = is in cc)
  is_wish_not q true (Some w) t v is k e = (let j : w ≡ v = cc in let a : reads_op w.op ≡ true = ap (λ (x : Wish). reads_op x.op) j ∙ k in let b : w.request ≡ q = ap (λ (x : Wish). x.request) j ∙ e in grind (arith, eq-eqb))
  is_wish_not q false (Some w) t v is k e = (let j : w ≡ v = cc in let a : reads_op w.op ≡ false = ap (λ (x : Wish). reads_op x.op) j ∙ k in let b : w.request ≡ q = ap (λ (x : Wish). x.request) j ∙ e in grind (arith, eq-eqb))

  pub owned_none : (g : Ghost) (o : Out) (n : ℕ) → g.register.owner ≡ Some n → Holds rules ps m me nodes frames r g o → g.readers ≡ []
  unfolding readers_of
  owned_none g o n own h = ⊎_elim
      (λ (e : n ≡ me). owned me o.node (own ∙ ap Some e) h.good.mine)
      (λ (a : n ≢ me). owned n (nodes n) own (h.good.others n a)) (cases_eq n me)
    where
      owned : (n : ℕ) (node : Node) → g.register.owner ≡ Some n → NodeInv g n node → g.readers ≡ []
      owned n node own f = (let l = f.locked (f.owner own) in (f.mirror l.0).0 ∙ ap (readers_of node.tracked) l.3 ∙ l.2)

  -- where a node reads there are marks
  read_marks : (g : Ghost) (o : Out) (k : ℕ) → has_node k g.readers ≡ true → Holds rules ps m me nodes frames r g o → g.base < g.top
  read_marks g o k reads h = ⊎_elim
      (λ (e : g.entry.holder ≡ me). holder me o.node (sym e) h.good.mine)
      (λ (ne : g.entry.holder ≢ me). holder g.entry.holder (nodes g.entry.holder) refl (h.good.others g.entry.holder ne))
      (cases_eq g.entry.holder me)
    where
      holder : (n : ℕ) (node : Node) → n ≡ g.entry.holder → NodeInv g n node → g.base < g.top
      holder n node is f = go (is_here node.copy) refl
        where
          go : (b : Bool) → is_here node.copy ≡ b → g.base < g.top
          go true e = (let low = (f.here e).1 in let under = f.under in let first = h.good.all.marks.first in omega arith)
          go false e = absurd (nobody_has k g.readers (f.nobody is e).0 reads)

  pub on_grant_holds : (x q rsn : ℕ) (value : List ℕ) (g : Ghost) (o : Out) → Sent (record { from = x; to = me; body = Grant q rsn value }) g.frames → BodyAt g me o.node x me (Grant q rsn value) → Holds rules ps m me nodes frames r g o → Kept rules ps m me nodes frames r (on_grant me q rsn value o)
  unfolding on_grant read_granted Says readers_of Ungranted rank with_node
  on_grant_holds x q rsn value g o sent came h = cond_both (is_wish q true o.node.wish && not (is_here o.node.copy) && nat_le (rank o.node.copy) (rsn + 1)) _ _ (Kept rules ps m me nodes frames r)
      (λ t.
      let p = and_parts (is_wish q true o.node.wish && not (is_here o.node.copy)) (nat_le (rank o.node.copy) (rsn + 1)) t in
      let p1 = and_parts (is_wish q true o.node.wish) (not (is_here o.node.copy)) p.0 in
      let w = is_wish_some q true o.node.wish p1.0 in
      let away = not-true (is_here o.node.copy) p1.1 in
      let k = came refl in
      let c = k.current w.0 w.1 w.2 w.3 in
      let ne : me ≢ g.entry.holder = λ e. nobody_has me g.readers (h.good.mine.nobody e away).0 c.0 in
      subst (λ (x : Option Wish). Kept rules ps m me nodes frames r (read_granted me (with_node (record o.node { copy = Some (record { rsn = rsn; kind = For_reading; value = value }) }) o) x value)) (sym w.1) (
        _,
        see_holds rules ps m me nodes frames r g (with_node (granted rsn value o.node) o) c.2 (λ n own. absurd (nobody_has me g.readers (owned_none g o n own h) c.0)) w.0.op.real (reads_is_read w.0.op w.3) value c.1
            (node_holds rules ps m me nodes frames r (granted rsn value o.node) g o refl h
            (NodeInv-granted ps m g me o.node rsn value h.good.joined h.good.all ne c.2 (read_marks g o me c.0 h) away c.0 c.1 (met w.0 w.1 w.2 w.3) h.good.mine) (λ e. record { entry = ⊎_elim (λ (j : (o.node.entry ≡ Some g.entry) × (g.base < g.top)). inl j) (λ j. absurd (ne (e ∙ sym (ap (λ (x : Entry). x.holder) j.1)))) (h.good.master e).entry; queue = (h.good.master e).queue; vacuum = (h.good.master e).vacuum })),
      ))
      (λ _. (g, h))
    where
      met : (w : Wish) → o.node.wish ≡ Some w → w.request ≡ q → reads_op w.op ≡ true → Ungranted g.frames me o.node.wish → ⊥
      met w is at reads un = un (record { from = x; to = me; body = Grant q rsn value }) sent refl q rsn value refl w is reads at
