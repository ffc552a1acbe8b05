-- A reader takes what was granted; VStore raises a copy and VDelete takes it away; the entry moves on; the node that it names becomes holder.
use Rattle.std.proofs.Common.{ap, ◌≡◌, ◌≢◌, ◌⊎◌, ℕ, ◌+◌, ◌<◌, ◌≤◌, Bool, true, false, Option, Some, None, [], refl, sym, ◌∙◌, inl, ⊎_elim, arith, subst, take, le_of_eq}
use Rattle.std.proofs.lemmas.List.{take_all}
use Rattle.ct_law_record.proofs.Invariant.{Ghost, Ungranted, Past, Emptied, Joined, Says, VacuumAt, NodeInv, GlobalInv}
use Rattle.ct_law_record.proofs.Nodes.{past_top, vacuum_top}
use Rattle.std.specs.Prelude.{List}
use Rattle.std.proofs.lemmas.Bool.{cases_lt}
use Rattle.ct_tracking.specs.Vacuum.{Vacuuming}
use Rattle.ct_rules.specs.declared.state.Entry.{Entry}
use Rattle.ct_law_record.specs.Handed.{reading}
use Rattle.ct_law_record.proofs.Rule.{is_odd, is_kind_odd, Body, Copy, For_reading, Give, Given, Grant, Node, Pass, Refuse, RevokeAck, Stale, VDeleted, VStored, Wish, drop_copy, has_node, is_here, is_kind_here, is_kind_reading, is_reading, raise_copy, rank, reads_op, value_of}

-- who stands at the top stands for the whole list
pub whole_reading : (ps : List ℕ) (m : ℕ) (g : Ghost) (a : ℕ) → GlobalInv ps m g → g.top ≤ a → reading g.register.versions ≡ reading (take (g.place a) g.register.versions)
whole_reading ps m g a all le = (let w = all.whole a le in ap reading (sym (take_all (g.place a) g.register.versions (le_of_eq (sym w)))))

-- a reader takes what was granted
abbrev pub granted : ℕ → List ℕ → Node → Node
granted rsn value node = record node { copy = Some (record { rsn = rsn; kind = For_reading; value = value }); wish = None }

says_granted : (g : Ghost) (n : ℕ) (copy : Option Copy) (next : ℕ) (now : Option Wish) (rsn : ℕ) (value : List ℕ) → n ≢ g.entry.holder → rsn + 1 ≡ g.top → (Ungranted g.frames n now → ⊥) → (from to : ℕ) (b : Body) → Says g n copy next now from to b →
    Says g n (Some (record { rsn = rsn; kind = For_reading; value = value })) next None from to b
unfolding Says rank Ungranted
says_granted g n copy next now s v ne at met from to (Give rsn value) k = λ p. (let r = k p in record { below = r.below; held = λ a. absurd (ne a) })
says_granted g n copy next now s v ne at met from to (Pass q rsn value) k = λ p. (let r = k p in record { low = r.low; asked = r.asked; below = r.below; current = λ w e. absurd (cc) })
says_granted g n copy next now s v ne at met from to (Refuse q rsn) k = λ p. (let r = k p in record { low = r.low; asked = r.asked; below = r.below; gone = λ w e. absurd (cc); stale = λ a. absurd (ne (sym a)) })
says_granted g n copy next now s v ne at met from to (Grant q rsn value) k = λ p. (let r = k p in record { apart = r.apart; low = r.low; below = r.below; current = λ w e. absurd (cc) })
says_granted g n copy next now s v ne at met from to (RevokeAck rsn) k = λ p. (let r = k p in record { below = r.below; running = r.running; none = λ e. absurd (met (r.ungranted e)); ungranted = λ e f' s' to' q' r' v' is' w we. absurd (cc) })
says_granted g n copy next now s v ne at met from to (VStored rsn) k = λ p. (let r = k p in let b = r.below in record { below = r.below; past = past_top (rsn + 1) _ (omega arith) })
says_granted g n copy next now s v ne at met from to (VDeleted rsn) k = λ p. (let r = k p in let b = r.below in record { below = r.below; past = past_top (rsn + 2) _ (omega arith) })
says_granted g n copy next now s v ne at met from to _ k = k

pub NodeInv-granted : (ps : List ℕ) (m : ℕ) (g : Ghost) (n : ℕ) (node : Node) (rsn : ℕ) (value : List ℕ) → node.fresh ≡ false → GlobalInv ps m g → n ≢ g.entry.holder → rsn + 1 ≡ g.top → g.base < g.top → is_here node.copy ≡ false → has_node n g.readers ≡ true → value ≡ reading g.register.versions →
    (Ungranted g.frames n node.wish → ⊥) → NodeInv g n node → NodeInv g n (granted rsn value node)
unfolding rank is_here is_kind_here is_odd is_kind_odd value_of is_reading is_kind_reading
NodeInv-granted ps m g n node rsn value joined all ne at some away has new met h =
    let marked : Past g.joint (Some (record { rsn = rsn; kind = For_reading; value = value })) = past_top g.joint _ (let f = all.marks.fits some in omega arith) in
    let whole = whole_reading ps m g (rsn + 1) all (omega arith) in
    let seen : g.register.seen n ≤ g.place (rsn + 1) = (let s = h.seen in let a = all.within (rank node.copy) in let b = all.whole (rsn + 1) (omega arith) in omega arith) in
    let vac = λ (v : Vacuuming) (e : g.vacuum ≡ Some v). (let k = (all.vacuum v e).above in let y : VacuumAt v n (Some (record { rsn = rsn; kind = For_reading; value = value })) = vacuum_top v n _ (omega arith) in y) in
    grind (arith, says_granted g n node.copy node.next node.wish rsn value ne at met, whole, seen, vac, marked)

-- VStore and VDelete: a copy of a low rank, that is no data master's, becomes another such, which stands for at least as much
abbrev pub touched : Option Copy → Node → Node
touched d node = record node { copy = d }

pub record Touch (g : Ghost) (c d : Option Copy) : Type 0 where
  pub low : rank c + 1 ≤ g.top
  pub now : rank d + 1 ≤ g.top
  pub some : 1 ≤ rank d → (1 ≤ rank c) × (rank c ≤ rank d)
  pub away : is_here d ≡ false
  pub unread : is_reading d ≡ false
  pub even : is_odd d ≡ false
  pub value : value_of d ≡ reading (take (g.place (rank d)) g.register.versions)
  pub more : g.place (rank c) ≤ g.place (rank d)

touch_past : (g : Ghost) (c d : Option Copy) (low : ℕ) → Touch g c d → Past low c → Past low d
unfolding Past
touch_past g c d low t h = λ a. (let s = t.some a in let k = h s.0 in omega arith)

touch_vacuum : (g : Ghost) (c d : Option Copy) (v : Vacuuming) (n : ℕ) → Touch g c d → VacuumAt v n c → VacuumAt v n d
touch_vacuum g c d v n t h = record { storing = λ a b. touch_past g c d (v.rsn + 1) t (h.storing a b); deleted = λ a b. touch_past g c d (v.rsn + 2) t (h.deleted a b) }

says_touched : (g : Ghost) (n : ℕ) (c d : Option Copy) (next : ℕ) (now : Option Wish) → (n ≡ g.entry.holder → (rank c ≤ g.entry.least) × (g.top ≤ g.entry.least)) → Touch g c d → (from to : ℕ) (b : Body) → Says g n c next now from to b → Says g n d next now from to b
unfolding Says rank
says_touched g n c d next now under t from to (Give rsn value) k = λ p. (let r = k p in record {
  below = r.below;
  held = λ a b. absurd (let u = under a in let up = given_rank c rsn value (r.held a b) in omega arith);
})
  where
    given_rank : (c : Option Copy) (rsn : ℕ) (value : List ℕ) → c ≡ Some (record { rsn = rsn; kind = Given; value = value }) → rank c ≡ rsn + 1
    given_rank c rsn value e = ap rank e
says_touched g n c d next now under t from to (Refuse q rsn) k = λ p. (let r = k p in record { low = r.low; asked = r.asked; below = r.below; gone = r.gone; stale = λ a b e. (let u = under (sym a) in let w = t.now in omega arith) })
says_touched g n c d next now under t from to (RevokeAck rsn) k = λ p. (let r = k p in record { below = r.below; running = r.running; none = λ _. t.unread; ungranted = r.ungranted })
says_touched g n c d next now under t from to (VStored rsn) k = λ p. (let r = k p in record { below = r.below; past = touch_past g c d (rsn + 1) t r.past })
says_touched g n c d next now under t from to (VDeleted rsn) k = λ p. (let r = k p in record { below = r.below; past = touch_past g c d (rsn + 2) t r.past })
says_touched g n c d next now under t from to _ k = k

pub NodeInv-touched : (g : Ghost) (n : ℕ) (node : Node) (d : Option Copy) → node.fresh ≡ false → is_here node.copy ≡ false → Touch g node.copy d → NodeInv g n node → NodeInv g n (touched d node)
NodeInv-touched g n node d joined away t h =
    let under : n ≡ g.entry.holder → (rank node.copy ≤ g.entry.least) × (g.top ≤ g.entry.least) = λ e. ⊎_elim
    (λ (a : g.entry.least < rank node.copy). absurd (let k = (h.holds e a).0 in let l = t.low in omega arith))
    (λ (a : rank node.copy ≤ g.entry.least). (a, (h.passing e a).0))
    (cases_lt g.entry.least (rank node.copy)) in
    let low = t.now in
    let more = t.more in
    let seen = h.seen in record {
      under = omega arith;
      even = t.even;
      here = λ a. absurd (let b = t.away in cc);
      holds = λ a b. absurd (let u = under a in omega arith);
      passing = λ a b. h.passing a (under a).0;
      locked = λ a. absurd (let b = (h.locked a).0 in cc);
      owner = h.owner;
      unwished = h.unwished;
      wish = h.wish;
      own = λ w e a b c l. (let u = under a in omega arith);
      request = h.request;
      next = h.next;
      reader = λ a. absurd (let b = t.unread in cc);
      mirror = λ a. absurd (let b = t.away in cc);
      nobody = λ a b. h.nobody a away;
      away = λ _. h.away away;
      quiet = h.quiet;
      runs = λ v e. absurd (let b = (h.runs v e).0 in cc);
      other = λ a b c. absurd (omega arith);
      value = t.value;
      seen = omega arith;
      unjoined = λ e. absurd (cc);
      vacuum = λ v e. touch_vacuum g node.copy d v n t (h.vacuum v e);
      asked = h.asked;
      waits = h.waits;
      frames = λ f s. says_touched g n node.copy d node.next node.wish under t f.from f.to f.body (h.frames f s);
      marked = touch_past g node.copy d g.joint t h.marked;
    }

raise_is : (rsn : ℕ) (l : Bool) (c : Option Copy) → (raise_copy rsn l c ≡ c) ⊎ ((1 ≤ rank c) × (rank c ≤ rsn) × (is_here c ≡ false) × (raise_copy rsn l c ≡ Some (record { rsn = rsn; kind = Stale; value = [] })))
unfolding raise_copy rank is_here
raise_is rsn l None = inl refl
raise_is rsn l (Some c) = grind arith

drop_is : (rsn : ℕ) (l : Bool) (c : Option Copy) → (drop_copy rsn l c ≡ c) ⊎ ((1 ≤ rank c) × (rank c ≤ rsn + 1) × (is_here c ≡ false) × (drop_copy rsn l c ≡ None))
unfolding drop_copy rank is_here
drop_is rsn l None = inl refl
drop_is rsn l (Some c) = grind arith

pub NodeInv-raised : (ps : List ℕ) (m : ℕ) (g : Ghost) (n rsn : ℕ) (node : Node) (l : Bool) → node.fresh ≡ false → GlobalInv ps m g → rsn + 2 ≤ g.top → Emptied g.place g.register.versions (rsn + 1) → NodeInv g n node → NodeInv g n (touched (raise_copy rsn l node.copy) node)
unfolding rank is_here is_reading is_odd is_kind_odd is_kind_here is_kind_reading value_of Emptied
NodeInv-raised ps m g n rsn node l joined all below empty h = ⊎_elim
    (λ (e : raise_copy rsn l node.copy ≡ node.copy). subst (λ (d : Option Copy). NodeInv g n (touched d node)) (sym e) h)
    (λ (e : (1 ≤ rank node.copy) × (rank node.copy ≤ rsn) × (is_here node.copy ≡ false) × (raise_copy rsn l node.copy ≡ Some (record { rsn = rsn; kind = Stale; value = [] }))).
    subst (λ (d : Option Copy). NodeInv g n (touched d node)) (sym e.3)
    (let low = e.1 in NodeInv-touched g n node (Some (record { rsn = rsn; kind = Stale; value = [] })) joined e.2 (record {
      low = omega arith;
      now = omega arith;
      some = λ a. (e.0, omega arith);
      away = refl;
      unread = refl;
      even = refl;
      value = sym empty;
      more = all.rises _ _ (omega arith);
    }) h))
    (raise_is rsn l node.copy)

pub NodeInv-dropped : (ps : List ℕ) (m : ℕ) (g : Ghost) (n rsn : ℕ) (node : Node) (l : Bool) → node.fresh ≡ false → GlobalInv ps m g → rsn + 2 ≤ g.top → Joined g.place (rsn + 1) → NodeInv g n node → NodeInv g n (touched (drop_copy rsn l node.copy) node)
unfolding rank is_here is_reading is_odd is_kind_odd is_kind_here is_kind_reading value_of Emptied Joined
NodeInv-dropped ps m g n rsn node l started all below joined h = ⊎_elim
    (λ (e : drop_copy rsn l node.copy ≡ node.copy). subst (λ (d : Option Copy). NodeInv g n (touched d node)) (sym e) h)
    (λ (e : (1 ≤ rank node.copy) × (rank node.copy ≤ rsn + 1) × (is_here node.copy ≡ false) × (drop_copy rsn l node.copy ≡ None)).
    subst (λ (d : Option Copy). NodeInv g n (touched d node)) (sym e.3)
    (let low = e.1 in NodeInv-touched g n node None started e.2 (record {
      low = omega arith;
      now = omega arith;
      some = λ a. absurd (omega arith);
      away = refl;
      unread = refl;
      even = refl;
      value = sym all.absent;
      more = (let u = all.rises (rank node.copy) (rsn + 1) low in omega arith);
    }) h))
    (drop_is rsn l node.copy)

-- after VStore and VDelete the copy is as far as they say
past_raised : (rsn : ℕ) (l : Bool) (c : Option Copy) → (l ≡ true → rsn + 1 ≤ rank c) → (is_here c ≡ true → rsn + 1 ≤ rank c) → Past (rsn + 1) (raise_copy rsn l c)
unfolding Past raise_copy rank is_here
past_raised rsn l None lock here = λ a. absurd (omega arith)
past_raised rsn l (Some c) lock here = grind arith

past_dropped : (rsn : ℕ) (l : Bool) (c : Option Copy) → (l ≡ true → rsn + 2 ≤ rank c) → (is_here c ≡ true → rsn + 2 ≤ rank c) → Past (rsn + 2) (drop_copy rsn l c)
unfolding Past drop_copy rank is_here
past_dropped rsn l None lock here = λ a. absurd (omega arith)
past_dropped rsn l (Some c) lock here = grind arith

holder_top : (g : Ghost) (n : ℕ) (node : Node) (low : ℕ) → low ≤ g.top → NodeInv g n node → is_here node.copy ≡ true → low ≤ rank node.copy
holder_top g n node low le h t = (let k = h.here t in let u = (h.holds k.0 k.1).0 in omega arith)

pub raised_past : (g : Ghost) (n rsn : ℕ) (node : Node) → rsn + 2 ≤ g.top → NodeInv g n node → Past (rsn + 1) (raise_copy rsn node.locked node.copy)
raised_past g n rsn node below h = (let k = holder_top g n node (rsn + 1) (omega arith) h in past_raised rsn node.locked node.copy (λ t. k (h.locked t).0) k)

pub dropped_past : (g : Ghost) (n rsn : ℕ) (node : Node) → rsn + 2 ≤ g.top → NodeInv g n node → Past (rsn + 2) (drop_copy rsn node.locked node.copy)
dropped_past g n rsn node below h = (let k = holder_top g n node (rsn + 2) (omega arith) h in past_dropped rsn node.locked node.copy (λ t. k (h.locked t).0) k)

-- the entry moves on, while no node is holder
abbrev pub moved : Entry → Ghost → Ghost
moved e g = record g { entry = e }

says_moved : (g : Ghost) (e : Entry) (n : ℕ) (copy : Option Copy) (next : ℕ) (now : Option Wish) → g.entry.least < e.least → rank copy ≤ e.least → g.top ≤ e.least →
    ((w : Wish) → now ≡ Some w → reads_op w.op ≡ false → n ≡ g.entry.holder → w.request ≢ 0 → w.request ≢ g.entry.request) →
    (from to : ℕ) (b : Body) → Says g n copy next now from to b → Says (moved e g) n copy next now from to b
unfolding Says
says_moved g e n copy next now up small top unmet from to (Give rsn value) k = λ p. (let r = k p in let low = r.below in record { below = r.below; held = λ _ b. absurd (omega arith) })
says_moved g e n copy next now up small top unmet from to (Pass q rsn value) k = λ p. (let r = k p in record { low = r.low; asked = r.asked; below = (let below = r.below in omega arith); current = λ w is at l. (let c = r.current w is at l in absurd (unmet w is l (sym c.0) (λ z. r.asked (sym at ∙ z)) (at ∙ sym c.2))) })
says_moved g e n copy next now up small top unmet from to (Refuse q rsn) k = λ p. (let r = k p in record { low = r.low; asked = r.asked; below = (let below = r.below in omega arith); gone = r.gone; stale = λ _ at _. (let below = r.below in absurd (omega arith)) })
says_moved g e n copy next now up small top unmet from to _ k = k

pub NodeInv-moved : (g : Ghost) (e : Entry) (n : ℕ) (node : Node) → g.entry.least < e.least → rank node.copy ≤ e.least → g.top ≤ e.least → is_here node.copy ≡ false → g.readers ≡ [] → g.revoking ≡ false → g.vacuum ≡ None →
    ((w : Wish) → node.wish ≡ Some w → reads_op w.op ≡ false → n ≡ g.entry.holder → w.request ≢ 0 → w.request ≢ g.entry.request) →
    e.value ≡ reading g.register.versions →
    (n ≡ e.holder → e.request ≢ 0 → e.request < node.next) →
    NodeInv g n node → NodeInv (moved e g) n node
NodeInv-moved g e n node up small top nobody readers revoking calm unmet value request h = grind (arith, says_moved g e n node.copy node.next node.wish up small top unmet)
