-- The frames of a vacuum, and the vacuum event.
use Rattle.std.proofs.Common.{◌≡◌, ◌≢◌, ℕ, ◌+◌, ◌<◌, ◌≤◌, true, false, Option, Some, None, List, [], ◌∷◌, take, refl, sym, ap, ◌∙◌, inl, inr, ⊎_elim, arith, subst, ◌&&◌, ◌==◌, eqb-true}
use Rattle.std.proofs.lemmas.Bool.{and_parts, cond_both, cases_eq, eq-eqb, eqb-false, false_from_ne_true, true_from_ne_false, cases_lt}
use Rattle.ct_values.proofs.Words.{nil_is}
use Rattle.ct_values.specs.Words.{others, is_nil}
use Rattle.ct_law_record.proofs.Invariant.{span_of, Start, readers_of, Ghost, Past, Emptied, Joined, VStoreAt, VDeleteAt, Says, VacuumAt, NodeInv, Emptying, GlobalInv, Holds, Kept}
use Rattle.ct_law_record.proofs.Nodes.{rank_of, past_none}
use Rattle.ct_law_record.proofs.Copies.{touched, NodeInv-raised, NodeInv-dropped, raised_past, dropped_past, whole_reading}
use Rattle.ct_law_record.proofs.Holder.{Change, Shift, Own}
use Rattle.ct_law_record.proofs.Markings.{grows_none, grows_top, marking_top, marking_deleting}
use Rattle.ct_law_record.proofs.Parts.{nobody_has, readers_idle, granted_end}
use Rattle.ct_law_record.proofs.Acts.{send_holds, node_holds, own_holds, Others, master_copy, calm_other, below_top, give_holds, free_parts}
use Rattle.ct_law_record.proofs.Revoking.{risen_is, Came}
use Rattle.ct_law_record.proofs.Finish.{finish_holds}
use Rattle.ct_law_record.proofs.Phases.{fewer_has, not_has, rank_none, none_rank, value_none, past_is, phase_storing, phase_deleting, in_parts, last_parts}
use Rattle.std.specs.Prelude.{is_none, List}
use Rattle.ct_call.specs.Rules.{Rules}
use Rattle.ct_tracking.specs.Tracked.{Revocation}
use Rattle.ct_tracking.specs.Vacuum.{Vacuuming, vacuum_begun, is_in, done_by, ends_phase, stored, deleting as in_deleting}
use Rattle.ct_tracking.specs.declared.vacuum.VacuumPhase.{VacuumPhase}
use Rattle.ct_tracking.specs.declared.vacuum.VacuumPhase.TheVariants.{Storing, Deleting}
use Rattle.ct_register.specs.Register.{Register, reading}
use Rattle.ct_law_record.proofs.Rule
use Rattle.ct_law_record.proofs.Rule.{is_storing, risen, Copy, Frame, Here, Node, Out, VDelete, VDeleted, VStore, VStored, drop_copy, greater, has_node, is_free, is_here, raise_copy, rank, rsn_of, send_all, value_of, with_node}
use Rattle.ct_law_record.proofs.Floor.{greater_left}

-- absent copies come to stand for what copies of this rank do
abbrev pub raised : ℕ → (ℕ → ℕ) → ℕ → ℕ
raised low place a = place (greater a low)

greater_low : (a low : ℕ) → a ≤ low → greater a low ≡ low
unfolding greater
greater_low a low le = grind arith

greater_high : (a low : ℕ) → low ≤ a → greater a low ≡ a
unfolding greater
greater_high a low le = grind arith

greater_rises : (a b low : ℕ) → a ≤ b → greater a low ≤ greater b low
unfolding greater
greater_rises a b low le = grind arith

past_joint : (a b : ℕ) (c : Option Copy) → Past a c → Past b c → Past (greater a b) c
unfolding Past greater
past_joint a b c h k = λ e. (let x = h e in let y = k e in grind arith)

-- the ghost where the phase Deleting begins
abbrev pub deleting : Vacuuming → Ghost → Ghost
deleting v g = record g { place = raised (v.rsn + 1) g.place; vacuum = Some (in_deleting v); joint = greater g.joint (v.rsn + 1) }

raised_empty : (low : ℕ) (place : ℕ → ℕ) (versions : List (List ℕ)) (a : ℕ) → Emptied place versions low → Emptied place versions a → Emptied (raised low place) versions a
unfolding Emptied
raised_empty low place versions a lo e = ⊎_elim
    (λ (l : a < low). rw (greater_low a low (omega arith)) lo)
    (λ (l : low ≤ a). rw (greater_high a low l) e)
    (cases_lt a low)

raised_joined : (low : ℕ) (place : ℕ → ℕ) (a : ℕ) → ((x y : ℕ) → x ≤ y → place x ≤ place y) → Joined place a → Joined (raised low place) a
unfolding Joined
raised_joined low place a rises e = rw (greater_low 0 low (omega arith)) (⊎_elim
    (λ (l : a < low). rw (greater_low a low (omega arith)) (omega arith))
    (λ (l : low ≤ a). rw (greater_high a low l) (let u = rises 0 low (omega arith) in omega arith))
    (cases_lt a low))

change_deleting : (ps : List ℕ) (m : ℕ) (g : Ghost) (v : Vacuuming) → GlobalInv ps m g → Emptied g.place g.register.versions (v.rsn + 1) → Change g (deleting v g)
change_deleting ps m g v all empty = record {
  entry = refl;
  queue = refl;
  sent = refl;
  birth = refl;
  top = inr (refl, λ a. a);
  empty = λ a l e. raised_empty (v.rsn + 1) g.place g.register.versions a empty e;
  joined = λ a l e. raised_joined (v.rsn + 1) g.place a all.rises e;
  span = grows_none (span_of g);
}

global_deleting : (ps : List ℕ) (m : ℕ) (g : Ghost) (v : Vacuuming) → GlobalInv ps m g → g.vacuum ≡ Some v → GlobalInv ps m (deleting v g)
unfolding Emptied Joined
global_deleting ps m g v all is =
    let f = all.vacuum v is in
    let above = f.above in record {
      rises = λ a b le. all.rises (greater a (v.rsn + 1)) (greater b (v.rsn + 1)) (greater_rises a b (v.rsn + 1) le);
      whole = λ a l. rw (greater_high a (v.rsn + 1) (omega arith)) (all.whole a l);
      within = λ a. all.within (greater a (v.rsn + 1));
      absent = rw (greater_low 0 (v.rsn + 1) (omega arith)) f.past;
      vacuum = λ w e. (let k : in_deleting v ≡ w = cc in
          let same : v.rsn ≡ w.rsn = ap (λ (x : Vacuuming). x.rsn) k in
          record {
            at = f.at;
            others = sym (ap (λ (x : Vacuuming). x.others) k) ∙ f.others;
            peers = f.peers;
            home = ap (λ (x : Vacuuming). has_node m x.missing) (sym k) ∙ ap (has_node m) f.others ∙ f.peers;
            above = omega arith;
            empty = f.empty;
            past = subst (λ (x : ℕ). reading (take (g.place (greater (x + 1) (v.rsn + 1))) g.register.versions) ≡ []) same (rw (greater_low (v.rsn + 1) (v.rsn + 1) (omega arith)) f.past);
            joined = λ _. rw (greater_low 0 (v.rsn + 1) (omega arith), greater_low (w.rsn + 1) (v.rsn + 1) (omega arith)) (omega arith);
            nobody = f.nobody;
            idle = f.idle;
          });
      marks = marking_deleting g.base g.joint g.top g.entry.least g.mark g.place g.register.versions g.entry.value v.rsn above all.marks;
    }

shift_deleting : (ps : List ℕ) (m : ℕ) (g : Ghost) (v : Vacuuming) (k : ℕ) (node : Node) → GlobalInv ps m g → g.readers ≡ [] → Emptied g.place g.register.versions (v.rsn + 1) → Past (v.rsn + 1) node.copy → (has_node k v.others ≡ false → node.copy ≡ None) → NodeInv g k node → Shift g (deleting v g) k node.copy node.wish
unfolding Emptied is_storing
shift_deleting ps m g v k node all none empty past outside h = record {
  owner = λ a. a;
  reader = λ _ a. absurd (nobody_has k g.readers none a);
  granted = granted_end g (deleting v g) k node.copy node.wish (inl (nobody_has k g.readers none));
  other = λ _ a. a;
  value = ⊎_elim
      (λ (e : rank node.copy ≡ 0). rw (e, greater_low 0 (v.rsn + 1) (omega arith)) (value_none node.copy e ∙ sym empty))
      (λ (e : v.rsn + 1 ≤ rank node.copy). rw (greater_high (rank node.copy) (v.rsn + 1) e) h.value)
      (past_is (v.rsn + 1) node.copy past);
  seen = (let s = h.seen in let u = all.rises (rank node.copy) (greater (rank node.copy) (v.rsn + 1)) (greater_left _ _) in omega arith);
  kept = all.rises (rank node.copy) (greater (rank node.copy) (v.rsn + 1)) (greater_left _ _);
  marked = past_joint g.joint (v.rsn + 1) node.copy h.marked past;
  vacuum = λ w e. (let k' : in_deleting v ≡ w = cc in record {
    storing = λ a. absurd (let z : false ≡ is_storing w.phase = ap (λ (x : Vacuuming). is_storing x.phase) k' in cc);
    deleted = λ _ b. past_none (w.rsn + 2) node.copy (rank_none node.copy (outside (ap (λ (x : Vacuuming). has_node k x.missing) k' ∙ b)));
  });
}

module _ (rules : Rules) (ps : List ℕ) (m me : ℕ) (nodes : ℕ → Node) (frames : List Frame) (r : Start) where
  pub on_vstore_holds : (x rsn : ℕ) (g : Ghost) (o : Out) → VStoreAt x me g.top g.place g.register.versions rsn → Holds rules ps m me nodes frames r g o → Kept rules ps m me nodes frames r (Rule.on_vstore me x rsn o)
  unfolding Rule.on_vstore Says raise_copy with_node
  on_vstore_holds x rsn g o k h =
      let b = k.below in
      let p = node_holds rules ps m me nodes frames r (touched (raise_copy rsn o.node.locked o.node.copy) o.node) g o refl h (NodeInv-raised ps m g me rsn o.node o.node.locked h.good.joined h.good.all k.below k.empty h.good.mine)
      (λ e. (let j = h.good.master e in record { entry = ⊎_elim (λ (i : (o.node.entry ≡ Some g.entry) × (g.base < g.top)). inl i) (λ i. inr (i.0, i.1, ap (raise_copy rsn o.node.locked) i.2, i.3)) j.entry; queue = j.queue; vacuum = j.vacuum })) in (
        _,
        send_holds rules ps m me nodes frames r x (VStored rsn) g _ (λ q s v is. absurd (cc)) p
            (λ _. record { below = b; past = raised_past g me rsn o.node b h.good.mine })
            (λ n ne e. absurd (ne (sym e))),
      )

  pub on_vdelete_holds : (x rsn : ℕ) (g : Ghost) (o : Out) → VDeleteAt g.top g.place rsn → Holds rules ps m me nodes frames r g o → Kept rules ps m me nodes frames r (Rule.on_vdelete me x rsn o)
  unfolding Rule.on_vdelete Says drop_copy with_node
  on_vdelete_holds x rsn g o k h =
      let b = k.below in
      let p = node_holds rules ps m me nodes frames r (touched (drop_copy rsn o.node.locked o.node.copy) o.node) g o refl h (NodeInv-dropped ps m g me rsn o.node o.node.locked h.good.joined h.good.all k.below k.joined h.good.mine)
      (λ e. (let j = h.good.master e in record { entry = ⊎_elim (λ (i : (o.node.entry ≡ Some g.entry) × (g.base < g.top)). inl i) (λ i. inr (i.0, i.1, ap (drop_copy rsn o.node.locked) i.2, i.3)) j.entry; queue = j.queue; vacuum = j.vacuum })) in (
        _,
        send_holds rules ps m me nodes frames r x (VDeleted rsn) g _ (λ q s v is. absurd (cc)) p
            (λ _. record { below = b; past = dropped_past g me rsn o.node b h.good.mine })
            (λ n ne e. absurd (ne (sym e))),
      )

  -- a vacuum runs only at a location master that is holder, without lock, tracking and revocation
  abbrev Formed : Out → Type 0
  Formed o = (is_here o.node.copy ≡ true) × (o.node.locked ≡ false) × (o.node.tracked ≡ []) × (o.node.revoking ≡ None)

  formed : (g : Ghost) (o : Out) (v : Vacuuming) → g.vacuum ≡ Some v → me ≡ m → Holds rules ps m me nodes frames r g o → Formed o
  unfolding readers_of
  formed g o v is at h = (here, false_from_ne_true _ (λ t. (let k = (h.good.mine.locked t).4 in cc)), sym (ap (readers_of o.node.tracked) idle) ∙ sym (h.good.mine.mirror here).0 ∙ f.nobody, idle)
    where
      f : Emptying ps m g.entry.holder g.top g.register.versions g.place g.readers g.revoking v
      f = h.good.all.vacuum v is

      here : is_here o.node.copy ≡ true
      here = true_from_ne_false _ (λ a. (let k = (h.good.mine.nobody (at ∙ sym (h.good.all.vacuum v is).at) a).2 in cc))

      go : (w : Option Revocation) → o.node.revoking ≡ w → w ≡ None
      go None e = refl
      go (Some w) e = absurd (let k = (h.good.mine.runs w e).2 in cc)

      idle : o.node.revoking ≡ None
      idle = go o.node.revoking refl

  -- what the location master's own change of its vacuum owes
  own_vacuum : (g g' : Ghost) (o : Out) (copy : Option Copy) (v : Option Vacuuming) → Formed o → is_here copy ≡ true → rank o.node.copy ≤ rank copy → rank copy ≡ g'.top → value_of copy ≡ value_of o.node.copy → g'.register ≡ g.register → g'.readers ≡ g.readers → g'.revoking ≡ g.revoking → g.register.seen me ≤ g'.place (rank copy) →
      NodeInv g me o.node → Own g g' me o.node (record o.node { copy = copy; vacuum = v })
  own_vacuum g g' o copy v form here' up top value register readers revoking seen h = record {
    here = here';
    up = up;
    top = top;
    value = (let at = h.here form.0 in value ∙ (h.holds at.0 at.1).1 ∙ ap (λ (x : Register). reading x.versions) (sym register));
    locked = λ a. absurd (let k = form.1 in cc);
    owner = λ a. h.owner (sym (ap (λ (x : Register). x.owner) register) ∙ a);
    next = refl;
    fresh = refl;
    recalls = refl;
    wishes = λ w e. inl e;
    runs = λ w e. absurd (let k = form.3 in cc);
    readers = readers ∙ (h.mirror form.0).0;
    quiet = λ _. form.3;
    unwished = λ a. absurd (let k = form.1 in cc);
    revoking = revoking ∙ (h.mirror form.0).1;
    granted = granted_end g g' me o.node.copy o.node.wish (inl (nobody_has me g.readers ((readers_idle g me o.node form.0 form.3 h).0 ∙ form.2)));
    seen = subst (λ (x : Register). x.seen me ≤ g'.place (rank copy)) (sym register) seen;
  }

  apart_from : (n : ℕ) (ns : List ℕ) → has_node me (n ∷ ns) ≡ false → (me ≢ n) × (has_node me ns ≡ false)
  unfolding has_node
  apart_from n ns e = ((λ z. absurd (let y = eq-eqb n me (sym z) in grind arith)), grind arith)

  store_all : (ns : List ℕ) (rsn : ℕ) (g : Ghost) (o : Out) → has_node me ns ≡ false → rsn + 2 ≤ g.top → Emptied g.place g.register.versions (rsn + 1) → Holds rules ps m me nodes frames r g o → Kept rules ps m me nodes frames r (send_all me ns (VStore rsn) o)
  unfolding send_all Says
  store_all [] rsn g o away below empty h = (g, h)
  store_all (n ∷ ns) rsn g o away below empty h =
      let p = apart_from n ns away in
      let k : VStoreAt me n g.top g.place g.register.versions rsn = record { apart = p.0; below = below; empty = empty } in
      store_all ns rsn _ _ p.1 below empty (send_holds rules ps m me nodes frames r n (VStore rsn) g o (λ q s v is. absurd (cc)) h k (λ _ _. k))

  delete_all : (ns : List ℕ) (rsn : ℕ) (g : Ghost) (o : Out) → VDeleteAt g.top g.place rsn → Holds rules ps m me nodes frames r g o → Kept rules ps m me nodes frames r (send_all me ns (VDelete rsn) o)
  unfolding send_all Says
  delete_all [] rsn g o k h = (g, h)
  delete_all (n ∷ ns) rsn g o k h = delete_all ns rsn _ _ k (send_holds rules ps m me nodes frames r n (VDelete rsn) g o (λ q s v is. absurd (cc)) h k (λ _ _. k))

  -- who takes no part has no copy
  abbrev pub Apart : Type 0
  Apart = (n : ℕ) → n ≢ me → has_node n ps ≡ false → (nodes n).copy ≡ None

  -- the phase Deleting begins
  start_deleting_holds : (v : Vacuuming) (g : Ghost) (o : Out) → me ≡ m → g.vacuum ≡ Some v → Apart → ((n : ℕ) → n ≢ me → Past (v.rsn + 1) (nodes n).copy) → Holds rules ps m me nodes frames r g o →
      Kept rules ps m me nodes frames r (send_all me v.others (VDelete v.rsn) (Rule.set_vacuum (in_deleting v) o))
  unfolding Rule.set_vacuum Others Joined
  start_deleting_holds v g o at is outside past h =
      let f = h.good.all.vacuum v is in
      let above = f.above in
      let form = formed g o v is at h in
      let up = h.good.mine.here form.0 in
      let top = (h.good.mine.holds up.0 up.1).0 in
      let seen = h.good.mine.seen in
      delete_all v.others v.rsn (deleting v g) _
      (record { below = omega arith; joined = rw (greater_low 0 (v.rsn + 1) (omega arith), greater_low (v.rsn + 1) (v.rsn + 1) (omega arith)) (omega arith) })
      (own_holds rules ps m me nodes frames r g (deleting v g) o (record o.node { vacuum = Some (in_deleting v) }) form.0 (global_deleting ps m g v h.good.all is) (change_deleting ps m g v h.good.all f.past)
      (own_vacuum g (deleting v g) o o.node.copy _ form form.0 (omega arith) top refl refl refl refl (rw (greater_high (rank o.node.copy) (v.rsn + 1) (omega arith)) seen) h.good.mine)
      (λ n ne. shift_deleting ps m g v n (nodes n) h.good.all f.nobody f.past (past n ne) (λ e. outside n ne (ap (has_node n) (sym f.others) ∙ e)) (h.good.others n ne))
      (λ e. (let k = h.good.master e in record { entry = k.entry; queue = k.queue; vacuum = refl })) (λ ne. absurd (ne at)) refl h)

  -- one node less is missed
  missing_holds : (v : Vacuuming) (l : List ℕ) (g : Ghost) (o : Out) → me ≡ m → (has_node m v.missing ≡ false → has_node m l ≡ false) → g.vacuum ≡ Some v → ((n : ℕ) → n ≢ me → VacuumAt (record v { missing = l }) n (nodes n).copy) → Holds rules ps m me nodes frames r g o →
      Holds rules ps m me nodes frames r (record g { vacuum = Some (record v { missing = l }) }) (with_node (record o.node { vacuum = Some (record v { missing = l }) }) o)
  unfolding Others
  missing_holds v l g o at fewer is each h =
      let f = h.good.all.vacuum v is in
      let form = formed g o v is at h in
      let up = h.good.mine.here form.0 in
      let top = (h.good.mine.holds up.0 up.1).0 in
      let w : Vacuuming = record v { missing = l } in
      let g' = record g { vacuum = Some w } in
      let none = nobody_has in
      own_holds rules ps m me nodes frames r g g' o (record o.node { vacuum = Some w }) form.0
      (let k = h.good.all in record {
        rises = k.rises;
        whole = k.whole;
        within = k.within;
        absent = k.absent;
        marks = k.marks;
        vacuum = λ u e. subst (λ (x : Vacuuming). Emptying ps m g.entry.holder g.top g.register.versions g.place g.readers g.revoking x) (let k : w ≡ u = cc in k)
            (record { at = f.at; others = f.others; peers = f.peers; home = fewer f.home; above = f.above; empty = f.empty; past = f.past; joined = f.joined; nobody = f.nobody; idle = f.idle });
      })
      (record { entry = refl; queue = refl; sent = refl; birth = refl; top = inr (refl, λ a. a); empty = λ a b c. c; joined = λ a b c. c; span = grows_none (span_of g) })
      (own_vacuum g g' o o.node.copy (Some w) form form.0 (omega arith) top refl refl refl refl h.good.mine.seen h.good.mine)
      (λ n ne. (let k = h.good.others n ne in record {
        owner = λ a. a;
        reader = λ _ a. absurd (nobody_has n g.readers f.nobody a);
        granted = granted_end g g' n (nodes n).copy (nodes n).wish (inl (nobody_has n g.readers f.nobody));
        other = λ _ a. a;
        value = k.value;
        seen = k.seen;
        kept = omega arith;
        marked = k.marked;
        vacuum = λ u e. subst (λ (x : Vacuuming). VacuumAt x n (nodes n).copy) (let k : w ≡ u = cc in k) (each n ne);
      }))
      (λ e. (let k = h.good.master e in record { entry = k.entry; queue = k.queue; vacuum = refl })) (λ ne. absurd (ne at)) refl h

  -- the vacuum that runs is the node's
  runs_is : (g : Ghost) (o : Out) (v : Vacuuming) → me ≡ m → o.node.vacuum ≡ Some v → Holds rules ps m me nodes frames r g o → g.vacuum ≡ Some v
  runs_is g o v at is h = sym (h.good.master at).vacuum ∙ is

  -- the vacuum stays as it is
  same_holds : (v : Vacuuming) (g : Ghost) (o : Out) → o.node.vacuum ≡ Some v → Holds rules ps m me nodes frames r g o → Kept rules ps m me nodes frames r (Rule.set_vacuum v o)
  unfolding Rule.set_vacuum with_node
  same_holds v g o is h =
      let k : Kept rules ps m me nodes frames r (with_node (record o.node { vacuum = o.node.vacuum }) o) = (g, h) in
      subst (λ (x : Option Vacuuming). Kept rules ps m me nodes frames r (with_node (record o.node { vacuum = x }) o)) is k

  has_none : (n : ℕ) → has_node n [] ≡ false
  has_none n = false_from_ne_true _ (λ t. nobody_has n [] refl t)

  -- an acknowledgement of the running phase
  less_holds : (phase : VacuumPhase) (x rsn : ℕ) (g : Ghost) (o : Out) (v : Vacuuming) → o.node.vacuum ≡ Some v → me ≡ m →
      (is_in phase rsn v ≡ true → (n : ℕ) → n ≢ me → VacuumAt (record v { missing = others x v.missing }) n (nodes n).copy) → Holds rules ps m me nodes frames r g o →
      Kept rules ps m me nodes frames r (Rule.set_vacuum (done_by phase x rsn v) o)
  unfolding Rule.set_vacuum
  less_holds phase x rsn g o v is at each h = cond_both (is_in phase rsn v) (record v { missing = others x v.missing }) v (λ (y : Vacuuming). Kept rules ps m me nodes frames r (Rule.set_vacuum y o))
      (λ t. (_, missing_holds v (others x v.missing) g o at (fewer_has m x v.missing) (runs_is g o v at is h) (each t) h))
      (λ _. same_holds v g o is h)

  past_stored : (x rsn : ℕ) (g : Ghost) (o : Out) (v : Vacuuming) → g.vacuum ≡ Some v → v.rsn ≡ rsn → is_storing v.phase ≡ true → Came rules ps m me nodes frames r g o x (VStored rsn) → Holds rules ps m me nodes frames r g o →
      (n : ℕ) → n ≢ me → has_node n (others x v.missing) ≡ false → Past (v.rsn + 1) (nodes n).copy
  unfolding Says
  past_stored x rsn g o v running same phase came h n ne e = ⊎_elim
      (λ (j : n ≡ x). subst (λ (q : ℕ). Past (q + 1) (nodes n).copy) (sym same) (came.1 n ne (sym j)).past)
      (λ (j : n ≢ x). ((h.good.others n ne).vacuum v running).storing phase (not_has n x v.missing j e))
      (cases_eq n x)

  past_deleted : (x rsn : ℕ) (g : Ghost) (o : Out) (v : Vacuuming) → g.vacuum ≡ Some v → v.rsn ≡ rsn → is_storing v.phase ≡ false → Came rules ps m me nodes frames r g o x (VDeleted rsn) → Holds rules ps m me nodes frames r g o →
      (n : ℕ) → n ≢ me → has_node n (others x v.missing) ≡ false → Past (v.rsn + 2) (nodes n).copy
  unfolding Says
  past_deleted x rsn g o v running same phase came h n ne e = ⊎_elim
      (λ (j : n ≡ x). subst (λ (q : ℕ). Past (q + 2) (nodes n).copy) (sym same) (came.1 n ne (sym j)).past)
      (λ (j : n ≢ x). ((h.good.others n ne).vacuum v running).deleted phase (not_has n x v.missing j e))
      (cases_eq n x)

  pub on_vstored_holds : (x rsn : ℕ) (g : Ghost) (o : Out) (vac : Option Vacuuming) → o.node.vacuum ≡ vac → me ≡ m → Apart → Came rules ps m me nodes frames r g o x (VStored rsn) → Holds rules ps m me nodes frames r g o →
      Kept rules ps m me nodes frames r (Rule.on_vstored me x rsn o vac)
  unfolding Rule.on_vstored
  on_vstored_holds x rsn g o None is at outside came h = (g, h)
  on_vstored_holds x rsn g o (Some v) is at outside came h = cond_both (ends_phase Storing x rsn v) _ _ (Kept rules ps m me nodes frames r)
      (λ t.
      let p = last_parts Storing x rsn v t in
      let running = runs_is g o v at is h in
      let after : stored x rsn v ≡ in_deleting v = rw t refl in
      subst (λ (y : Vacuuming). Kept rules ps m me nodes frames r (send_all me v.others (VDelete rsn) (Rule.set_vacuum y o))) (sym after)
      (subst (λ (q : ℕ). Kept rules ps m me nodes frames r (send_all me v.others (VDelete q) (Rule.set_vacuum (in_deleting v) o))) p.1
      (start_deleting_holds v g o at running outside (λ n ne. past_stored x rsn g o v running p.1 (phase_storing v.phase p.0) came h n ne (ap (has_node n) p.2 ∙ has_none n)) h)))
      (λ f.
      let running = runs_is g o v at is h in
      let after : stored x rsn v ≡ done_by Storing x rsn v = rw f refl in
      subst (λ (y : Vacuuming). Kept rules ps m me nodes frames r (Rule.set_vacuum y o)) (sym after)
      (less_holds Storing x rsn g o v is at
      (λ t n ne. (let p = in_parts Storing rsn v t in let phase = phase_storing v.phase p.0 in record {
        storing = λ _ b. past_stored x rsn g o v running p.1 phase came h n ne b;
        deleted = λ a. absurd (let z : is_storing v.phase ≡ false = a in cc);
      })) h))

  pub on_vdeleted_holds : (x rsn : ℕ) (g : Ghost) (o : Out) (vac : Option Vacuuming) → o.node.vacuum ≡ vac → me ≡ m → Came rules ps m me nodes frames r g o x (VDeleted rsn) → Holds rules ps m me nodes frames r g o →
      Kept rules ps m me nodes frames r (Rule.on_vdeleted me x rsn o vac)
  unfolding Rule.on_vdeleted
  on_vdeleted_holds x rsn g o None is at came h = (g, h)
  on_vdeleted_holds x rsn g o (Some v) is at came h = cond_both (ends_phase Deleting x rsn v) _ _ (Kept rules ps m me nodes frames r)
      (λ t.
      let p = last_parts Deleting x rsn v t in
      let same = p.1 in
      let running = runs_is g o v at is h in
      let past = past_deleted x rsn g o v running p.1 (phase_deleting v.phase p.0) came h in
      let form = formed g o v running at h in
      let f = h.good.all.vacuum v running in
      let above = f.above in
      let up = h.good.mine.here form.0 in
      let value = (h.good.mine.holds up.0 up.1).1 in
      finish_holds rules ps m me nodes frames r rsn g o at form.0 form.1 form.2 form.3 (value ∙ f.empty) (omega arith)
      (λ n ne. (let low = below_top rules ps m me nodes frames r g o form.0 form.2 form.3 h n ne in none_rank (nodes n).copy (⊎_elim
      (λ (j : rank (nodes n).copy ≡ 0). j)
      (λ (j : v.rsn + 2 ≤ rank (nodes n).copy). absurd (omega arith))
      (past_is (v.rsn + 2) (nodes n).copy (past n ne (ap (has_node n) p.2 ∙ has_none n)))))) h)
      (λ _.
      let running = runs_is g o v at is h in
      less_holds Deleting x rsn g o v is at
      (λ t n ne. (let p = in_parts Deleting rsn v t in let phase = phase_deleting v.phase p.0 in record {
        storing = λ a. absurd (let z : is_storing v.phase ≡ true = a in cc);
        deleted = λ _ b. past_deleted x rsn g o v running p.1 phase came h n ne b;
      })) h)

  -- a vacuum begins
  start_storing_holds : (g : Ghost) (o : Out) → has_node m ps ≡ false → me ≡ m → g.vacuum ≡ None → Formed o → value_of o.node.copy ≡ [] → Apart → Holds rules ps m me nodes frames r g o →
      Kept rules ps m me nodes frames r (send_all me ps (VStore (rsn_of o.node.copy)) (with_node (record o.node { copy = risen o.node.copy; vacuum = Some (vacuum_begun (rsn_of o.node.copy) ps) }) o))
  unfolding Others is_storing Emptied rank is_here Rule.is_kind_here value_of
  start_storing_holds g o peers at calm form empty outside h =
      let rsn = rsn_of o.node.copy in
      let v : Vacuuming = vacuum_begun rsn ps in
      let copy : Option Copy = Some (record { rsn = rsn + 1; kind = Here; value = value_of o.node.copy }) in
      let same = rank_of o.node.copy form.0 in
      let up = h.good.mine.here form.0 in
      let holds = h.good.mine.holds up.0 up.1 in
      let top = holds.0 in
      let readers = readers_idle g me o.node form.0 form.3 h.good.mine in
      let none : g.readers ≡ [] = readers.0 ∙ form.2 in
      let all = h.good.all in
      let g' = record g { top = g.top + 1; vacuum = Some v } in
      let past : reading (take (g.place (rsn + 1)) g.register.versions) ≡ [] = sym (whole_reading ps m g (rsn + 1) all (omega arith)) ∙ sym holds.1 ∙ empty in
      subst (λ (c : Option Copy). Kept rules ps m me nodes frames r (send_all me ps (VStore rsn) (with_node (record o.node { copy = c; vacuum = Some (vacuum_begun rsn ps) }) o))) (sym (risen_is o.node.copy form.0))
      (store_all ps rsn g' _ (subst (λ (x : ℕ). has_node x ps ≡ false) (sym at) peers) (omega arith) past
      (own_holds rules ps m me nodes frames r g g' o (record o.node { copy = copy; vacuum = Some v }) form.0
      (record {
        rises = all.rises;
        whole = λ a l. all.whole a (omega arith);
        within = all.within;
        absent = all.absent;
        marks = marking_top g.base g.joint g.top g.entry.least g.mark g.place g.register.versions g.entry.value (g.top + 1) (omega arith) all.marks;
        vacuum = λ u e. subst (λ (x : Vacuuming). Emptying ps m g.entry.holder (g.top + 1) g.register.versions g.place g.readers g.revoking x) (let k : v ≡ u = cc in k)
            (record { at = sym up.0 ∙ at; others = refl; peers = peers; home = peers; above = omega arith; empty = sym holds.1 ∙ empty; past = past; joined = λ a. absurd (cc); nobody = none; idle = readers.1 });
      })
      (record { entry = refl; queue = refl; sent = refl; birth = refl; top = inl (omega arith); empty = λ a b c. c; joined = λ a b c. c; span = grows_top g.base g.top (g.top + 1) g.mark g.entry (omega arith) })
      (own_vacuum g g' o copy (Some v) form refl (omega arith) (omega arith) refl refl refl refl (let s = h.good.mine.seen in let u = all.rises (rank o.node.copy) (rsn + 1 + 1) (omega arith) in omega arith) h.good.mine)
      (λ n ne. (let k = h.good.others n ne in record {
        owner = λ a. a;
        reader = λ _ a. absurd (nobody_has n g.readers none a);
        granted = granted_end g g' n (nodes n).copy (nodes n).wish (inl (nobody_has n g.readers none));
        other = λ e _. absurd (let l : g.top ≡ g.top + 1 = e in omega arith);
        value = k.value;
        seen = k.seen;
        kept = omega arith;
        marked = k.marked;
        vacuum = λ u e. subst (λ (x : Vacuuming). VacuumAt x n (nodes n).copy) (let k : v ≡ u = cc in k)
            (record { storing = λ _ b. past_none (rsn + 1) (nodes n).copy (rank_none (nodes n).copy (outside n ne b)); deleted = λ a. absurd (cc) });
      }))
      (λ e. (let k = master_copy rules ps m me nodes frames r g o copy (g.top + 1) (omega arith) form.0 h e in record { entry = k.entry; queue = k.queue; vacuum = refl })) (λ ne. absurd (ne at)) refl h))

  -- the frame of the running phase may be sent again
  again_holds : (v : Vacuuming) (g : Ghost) (o : Out) → me ≡ m → g.vacuum ≡ Some v → Holds rules ps m me nodes frames r g o → Kept rules ps m me nodes frames r (send_all me v.missing (Rule.phase_frame v.rsn v.phase) o)
  unfolding Rule.phase_frame is_storing
  again_holds v g o at is h =
      let f = h.good.all.vacuum v is in
      let above = f.above in
      go v.phase refl above f.past f.joined f.home
    where
      go : (p : VacuumPhase) → v.phase ≡ p → g.top ≡ v.rsn + 2 → Emptied g.place g.register.versions (v.rsn + 1) → (is_storing v.phase ≡ false → Joined g.place (v.rsn + 1)) → has_node m v.missing ≡ false → Kept rules ps m me nodes frames r (send_all me v.missing (Rule.phase_frame v.rsn p) o)
      go Storing e above past joined home = store_all v.missing v.rsn g o (subst (λ (x : ℕ). has_node x v.missing ≡ false) (sym at) home) (omega arith) past h
      go Deleting e above past joined home = delete_all v.missing v.rsn g o (record { below = omega arith; joined = joined (ap is_storing e) }) h

  begin_holds : (l : List ℕ) (g : Ghost) (o : Out) → has_node m ps ≡ false → l ≡ ps → me ≡ m → g.vacuum ≡ None → Formed o → value_of o.node.copy ≡ [] → Apart → Holds rules ps m me nodes frames r g o → Kept rules ps m me nodes frames r (Rule.begin_vacuum me o l)
  unfolding Rule.begin_vacuum
  begin_holds [] g o peers is at calm form empty outside h =
      let up = h.good.mine.here form.0 in
      let top = (h.good.mine.holds up.0 up.1).0 in
      let same = rank_of o.node.copy form.0 in
      finish_holds rules ps m me nodes frames r (rsn_of o.node.copy) g o at form.0 form.1 form.2 form.3 empty (omega arith)
      (λ n ne. outside n ne (ap (has_node n) (sym is) ∙ has_none n)) h
  begin_holds (n ∷ ns) g o peers is at calm form empty outside h =
      subst (λ (l : List ℕ). Kept rules ps m me nodes frames r (send_all me l (VStore (rsn_of o.node.copy)) (with_node (record o.node { copy = risen o.node.copy; vacuum = Some (vacuum_begun (rsn_of o.node.copy) l) }) o))) (sym is)
      (start_storing_holds g o peers at calm form empty outside h)

  vacuum_of_holds : (g : Ghost) (o : Out) (vac : Option Vacuuming) → has_node m ps ≡ false → o.node.vacuum ≡ vac → me ≡ m → Formed o → value_of o.node.copy ≡ [] → Apart → Holds rules ps m me nodes frames r g o →
      Kept rules ps m me nodes frames r (Rule.vacuum_of me ps o vac)
  unfolding Rule.vacuum_of
  vacuum_of_holds g o (Some v) peers is at form empty outside h = again_holds v g o at (runs_is g o v at is h) h
  vacuum_of_holds g o None peers is at form empty outside h = begin_holds ps g o peers refl at (sym (h.good.master at).vacuum ∙ is) form empty outside h

  empty_value : (v : List ℕ) → is_nil v ≡ true → v ≡ []
  empty_value [] h = refl
  empty_value (x ∷ xs) h = absurd (cc)

  -- the vacuum event: the list has all who take part, where the node is the location master
  pub vacuum_event_holds : (all : List ℕ) (g : Ghost) (o : Out) → has_node m ps ≡ false → (me ≡ m → all ≡ ps) → (me ≡ m → Apart) → Holds rules ps m me nodes frames r g o → Kept rules ps m me nodes frames r (Rule.vacuum_event me m all o)
  unfolding Rule.vacuum_event Rule.is_vacuumed
  vacuum_event_holds all g o peers all_are outside h = cond_both (Rule.is_vacuumed o.node) _ _ (Kept rules ps m me nodes frames r)
      (λ t.
      let p1 = and_parts (is_free o.node && is_nil (value_of o.node.copy) && is_nil o.node.tracked && is_nil o.node.recalls && is_nil o.node.queue) (is_none o.node.wish) t in
      let p2 = and_parts (is_free o.node && is_nil (value_of o.node.copy) && is_nil o.node.tracked && is_nil o.node.recalls) (is_nil o.node.queue) p1.0 in
      let p3 = and_parts (is_free o.node && is_nil (value_of o.node.copy) && is_nil o.node.tracked) (is_nil o.node.recalls) p2.0 in
      let p4 = and_parts (is_free o.node && is_nil (value_of o.node.copy)) (is_nil o.node.tracked) p3.0 in
      let p5 = and_parts (is_free o.node) (is_nil (value_of o.node.copy)) p4.0 in
      let free = free_parts rules ps m me nodes frames r o.node p5.0 in
      let untracked = nil_is _ p4.1 in
      cond_both (me == m) _ _ (Kept rules ps m me nodes frames r)
      (λ at. (let is = eqb-true me m at in subst (λ (l : List ℕ). Kept rules ps m me nodes frames r (Rule.vacuum_of me l o o.node.vacuum)) (sym (all_are is)) (vacuum_of_holds g o o.node.vacuum peers refl is (free.0, free.1, untracked, free.2) (empty_value _ p5.1) (outside is) h)))
      (λ ne. give_holds rules ps m me nodes frames r g o free.0 free.1 untracked free.2 (calm_other rules ps m me nodes frames r g o.node h.good free.0 (eqb-false me m ne)) h))
      (λ _. (g, h))
