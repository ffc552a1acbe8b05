-- A lock that ends without its client, and a node that stops.
use Rattle.std.proofs.Common.{◌≡◌, ◌≢◌, ℕ, ◌≤◌, Bool, true, false, Option, Some, None, List, refl, sym, ap, ◌∙◌, arith, subst}
use Rattle.std.proofs.lemmas.Bool.{eq-eqb, ne_eqb}
use Rattle.ct_law_record.proofs.Invariant.{span_of, Start, Ghost, Holds, Kept}
use Rattle.ct_law_record.proofs.Acts.{lock_holds}
use Rattle.ct_law_record.proofs.Small.{changed_me, changed_other}
use Rattle.std.specs.Prelude.{List}
use Rattle.ct_call.specs.Rules.{Rules}
use Rattle.ct_register.specs.Register.{left_by, owner_without}
use Rattle.ct_law_record.proofs.Rule.{Frame, Node, Out, rank, tell, with_node}
use Rattle.ct_register.specs.Words.{at as changed}
use Rattle.ct_law_record.specs.Labels.{Ended, Left}
use Rattle.ct_law_record.proofs.Nodes.{seeing, NodeInv-seeing}
use Rattle.ct_law_record.specs.Marked.{is_removal}
use Rattle.ct_law_record.proofs.Markings.{goes_told}
use Rattle.ct_law_record.proofs.Parts.{accepts_one_more}

same_owner : (n : ℕ) (owner : Option ℕ) → owner ≢ Some n → owner_without n owner ≡ owner
unfolding owner_without
same_owner n None ne = refl
same_owner n (Some k) ne = rw (ne_eqb k n (λ e. ne (ap Some e))) refl

no_owner_left : (n : ℕ) → owner_without n (Some n) ≡ None
unfolding owner_without
no_owner_left n = rw (eq-eqb n n refl) refl

seen_none : (n : ℕ) (f : ℕ → ℕ) → changed n 0 f n ≤ 0
seen_none n f = changed_me n 0 f

left_locked : (g : Ghost) (n : ℕ) → g.register.owner ≡ Some n → record g.register { owner = None; seen = changed n 0 g.register.seen } ≡ left_by n g.register
left_locked g n own = ap (λ (x : Option ℕ). record g.register { owner = x; seen = changed n 0 g.register.seen }) (sym (ap (owner_without n) own ∙ no_owner_left n))

left_free : (g : Ghost) (n : ℕ) → g.register.owner ≢ Some n → record g.register { seen = changed n 0 g.register.seen } ≡ left_by n g.register
left_free g n ne = ap (λ (x : Option ℕ). record g.register { owner = x; seen = changed n 0 g.register.seen }) (sym (same_owner n g.register.owner ne))

module _ (rules : Rules) (ps : List ℕ) (m me : ℕ) (nodes : ℕ → Node) (frames : List Frame) (r : Start) where
  pub end_holds : (g : Ghost) (o : Out) → o.node.locked ≡ true → Holds rules ps m me nodes frames r g o → Kept rules ps m me nodes frames r (tell (Ended me) (with_node (record o.node { locked = false }) o))
  unfolding is_removal
  end_holds g o t h =
      let k = h.good.mine.locked t in
      let s = h.good.mine.seen in
      let w = h.good.all.within (rank o.node.copy) in
      (_, lock_holds rules ps m me nodes frames r false (Ended me) None g.register.seen g o k.0 k.2 k.3 k.4 refl (k.1, refl) (λ a. absurd (cc)) (λ a. absurd (cc)) (λ n ne e. absurd (cc)) (λ a. absurd (cc)) (omega arith) (λ n ne. refl) h)

  left_unlocked : (g : Ghost) (o : Out) → o.node.locked ≡ false → Holds rules ps m me nodes frames r g o → Kept rules ps m me nodes frames r (tell (Left me) (with_node (record o.node { locked = false }) o))
  unfolding tell with_node is_removal
  left_unlocked g o f h = subst (λ (b : Bool). Kept rules ps m me nodes frames r (tell (Left me) (with_node (record o.node { locked = b }) o))) f (
    seeing (changed me 0 g.register.seen) g,
    record {
      sent = h.sent;
      told = accepts_one_more rules r.register g.register _ o.labels (Left me) h.told (left_free g me (λ e. (let t = h.good.mine.owner e in cc)));
      went = goes_told o.labels (Left me) r.span (span_of g) refl h.went;
      good = record {
        all = h.good.all;
        mine = NodeInv-seeing g me o.node _ (let z = seen_none me g.register.seen in omega arith) h.good.mine;
        others = λ n ne. NodeInv-seeing g n (nodes n) _ (let s = (h.good.others n ne).seen in let e = changed_other me n 0 g.register.seen ne in omega arith) (h.good.others n ne);
        master = h.good.master;
        joined = h.good.joined;
        master_other = h.good.master_other;
      };
    },
  )

  pub leave_holds : (g : Ghost) (o : Out) → Holds rules ps m me nodes frames r g o → Kept rules ps m me nodes frames r (tell (Left me) (with_node (record o.node { locked = false }) o))
  unfolding is_removal
  leave_holds g o h = go o.node.locked refl
    where
      none : ℕ → ℕ
      none = changed me 0 g.register.seen

      go : (l : Bool) → o.node.locked ≡ l → Kept rules ps m me nodes frames r (tell (Left me) (with_node (record o.node { locked = false }) o))
      go true t =
          let k = h.good.mine.locked t in
          let z = seen_none me g.register.seen in
          (_, lock_holds rules ps m me nodes frames r false (Left me) None none g o k.0 k.2 k.3 k.4 refl (left_locked g me k.1) (λ a. absurd (cc)) (λ a. absurd (cc)) (λ n ne e. absurd (cc)) (λ a. absurd (cc)) (omega arith) (λ n ne. changed_other me n 0 g.register.seen ne) h)
      go false f = left_unlocked g o f h
