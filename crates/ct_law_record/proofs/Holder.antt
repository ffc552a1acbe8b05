-- The node that the entry names becomes holder; and what the holder changes: for the other nodes, and for itself.
use Rattle.std.proofs.Common.{length, ap, ◌≡◌, ◌≢◌, ◌⊎◌, ℕ, ◌+◌, ◌<◌, ◌≤◌, true, false, ◌||◌, Option, Some, None, [], refl, sym, ◌∙◌, ⊎_elim, arith, subst, take}
use Rattle.std.proofs.lemmas.Bool.{false_from_ne_true}
use Rattle.ct_law_record.proofs.Invariant.{span_of, Grows, Past, Sent, Asked, Waits, Recalled, readers_of, is_revoking, Ghost, PassAt, GiveAt, RefuseAt, Ungranted, Emptied, Joined, VacuumAt, Says, NodeInv, GlobalInv}
use Rattle.ct_law_record.proofs.Nodes.{kind_eq, past_more, past_top, vacuum_top}
use Rattle.ct_law_record.proofs.Copies.{whole_reading}
use Rattle.std.specs.Prelude.{List}
use Rattle.ct_tracking.specs.Tracked.{Revocation}
use Rattle.ct_tracking.specs.Vacuum.{Vacuuming}
use Rattle.ct_rules.specs.declared.state.Entry.{Entry}
use Rattle.ct_register.specs.Register.{reading}
use Rattle.ct_law_record.proofs.Rule.{is_odd, is_kind_odd, Body, Call, Copy, Done, Frame, Give, Grant, Here, Node, Pass, Recalls, Refuse, Revoke, RevokeAck, VDelete, VDeleted, VStore, VStored, Wish, has_node, is_here, is_kind_here, is_kind_reading, is_reading, rank, reads_op, value_of}

here_even : (c : Option Copy) → is_here c ≡ true → is_odd c ≡ false
unfolding is_here is_odd is_kind_here is_kind_odd
here_even None h = absurd (cc)
here_even (Some c) h = grind arith

reading_not_here : (c : Option Copy) → is_here c ≡ true → is_reading c ≡ true → ⊥
unfolding is_here is_reading is_kind_here is_kind_reading
reading_not_here None h r = cc
reading_not_here (Some c) h r = grind arith

-- the node that the entry names becomes holder
abbrev pub holding : Entry → Option Wish → Node → Node
holding e wish node = record node { copy = Some (record { rsn = e.least; kind = Here; value = e.value }); wish = wish; tracked = []; revoking = None }

abbrev pub held : Ghost → Ghost
held g = record g { top = g.entry.least + 1 }

pub says_holding : (g : Ghost) (n : ℕ) (copy : Option Copy) (next : ℕ) (now wish : Option Wish) → n ≡ g.entry.holder → rank copy ≤ g.entry.least → g.top ≤ g.entry.least → g.readers ≡ [] →
    ((w : Wish) → wish ≡ Some w → (now ≡ Some w)) →
    ((q rsn : ℕ) → RefuseAt g.entry n next now (rank copy) q rsn → g.entry.request ≢ q) →
    (from to : ℕ) (b : Body) → Says g n copy next now from to b → Says (held g) n (Some (record { rsn = g.entry.least; kind = Here; value = g.entry.value })) next wish from to b
unfolding Says rank is_reading is_kind_reading has_node Ungranted
says_holding g n copy next now wish is small up none wishes unasked from to (Call q asks) k = k
says_holding g n copy next now wish is small up none wishes unasked from to (Recalls r) k = k
says_holding g n copy next now wish is small up none wishes unasked from to (Give rsn value) k = λ p. (let r = k p in let b = r.below in record { below = omega arith; held = λ _ a. absurd (omega arith) })
says_holding g n copy next now wish is small up none wishes unasked from to (Pass q rsn value) k = λ p. (let r = k p in record { low = r.low; asked = r.asked; below = r.below; current = λ w e. r.current w (wishes w e) })
says_holding g n copy next now wish is small up none wishes unasked from to (Refuse q rsn) k = λ p. (let r = k p in record { low = r.low; asked = r.asked; below = r.below; gone = λ w e. r.gone w (wishes w e); stale = λ a b c. absurd (unasked q rsn r c) })
says_holding g n copy next now wish is small up none wishes unasked from to (Grant q rsn value) k = λ p. (let r = k p in record { apart = r.apart; low = r.low; below = (let b = r.below in omega arith); current = λ w e a b. absurd (let c = (r.current w (wishes w e) a b).0 in let z : has_node n [] ≡ true = subst (λ l. has_node n l ≡ true) none c in cc) })
says_holding g n copy next now wish is small up none wishes unasked from to (Done m q) k = k
says_holding g n copy next now wish is small up none wishes unasked from to (Revoke rsn) k = record { below = (let b = k.below in omega arith); running = λ e. (let b = k.below in absurd (omega arith)) }
says_holding g n copy next now wish is small up none wishes unasked from to (RevokeAck rsn) k = λ p. (let r = k p in let b = r.below in record { below = omega arith; running = λ e. absurd (omega arith); none = λ _. refl; ungranted = λ e. absurd (omega arith) })
says_holding g n copy next now wish is small up none wishes unasked from to (VStore rsn) k = record { apart = k.apart; below = (let b = k.below in omega arith); empty = k.empty }
says_holding g n copy next now wish is small up none wishes unasked from to (VStored rsn) k = λ p. (let r = k p in let b = r.below in record { below = omega arith; past = past_top (rsn + 1) _ (omega arith) })
says_holding g n copy next now wish is small up none wishes unasked from to (VDelete rsn) k = record { below = (let b = k.below in omega arith); joined = k.joined }
says_holding g n copy next now wish is small up none wishes unasked from to (VDeleted rsn) k = λ p. (let r = k p in let b = r.below in record { below = omega arith; past = past_top (rsn + 2) _ (omega arith) })

pub NodeInv-holding : (ps : List ℕ) (m : ℕ) (g : Ghost) (n : ℕ) (node : Node) (wish : Option Wish) → node.fresh ≡ false → GlobalInv ps m g → n ≡ g.entry.holder → rank node.copy ≤ g.entry.least →
    ((w : Wish) → wish ≡ Some w → (node.wish ≡ Some w) × (w.request ≡ g.entry.request → w.request ≢ 0 → reads_op w.op ≡ false → ⊥)) →
    ((q rsn : ℕ) → RefuseAt g.entry n node.next node.wish (rank node.copy) q rsn → g.entry.request ≢ q) →
    NodeInv g n node → NodeInv (held g) n (holding g.entry wish node)
unfolding rank is_here is_kind_here is_odd is_kind_odd value_of is_reading is_kind_reading readers_of is_revoking
NodeInv-holding ps m g n node wish joined all is small wishes unasked h =
    let away : is_here node.copy ≡ false = false_from_ne_true _ (λ t. (let up = (h.here t).1 in omega arith)) in
    let none = h.nobody is away in
    let pass = h.passing is small in
    let top = pass.0 in
    record {
      under = omega arith;
      even = refl;
      here = λ _. (is, omega arith);
      holds = λ _ _. (refl, pass.1);
      passing = λ _ b. absurd (omega arith);
      locked = λ a. absurd (let k = (h.locked a).0 in cc);
      owner = h.owner;
      unwished = λ a. absurd (let k = (h.locked a).0 in cc);
      wish = λ w e. h.wish w (wishes w e).0;
      own = λ w e a b c d. absurd ((wishes w e).1 c b d);
      request = h.request;
      next = h.next;
      reader = λ a. absurd (cc);
      mirror = λ _. (none.0, none.1);
      nobody = λ _ a. absurd (cc);
      away = λ a. absurd (cc);
      quiet = λ _. refl;
      runs = λ v e. absurd (cc);
      other = λ ne. absurd (ne is);
      value = pass.1 ∙ whole_reading ps m g (g.entry.least + 1) all (omega arith);
      seen = (let s = h.seen in let b = all.within (rank node.copy) in let w = all.whole (g.entry.least + 1) (omega arith) in omega arith);
      unjoined = λ e. absurd (cc);
      vacuum = λ v e. absurd (let k = none.2 in cc);
      asked = h.asked;
      waits = h.waits;
      frames = λ f s. says_holding g n node.copy node.next node.wish wish is small pass.0 none.0 (λ w e. (wishes w e).0) unasked f.from f.to f.body (h.frames f s);
      marked = past_top g.joint _ (let n = all.marks.near in omega arith);
    }

-- the ghost changes by what the holder does, and the entry stays
pub record Change (g g' : Ghost) : Type 0 where
  pub entry : g'.entry ≡ g.entry
  pub queue : g'.queue ≡ g.queue
  pub sent : g'.frames ≡ g.frames
  pub birth : length g'.register.birth ≡ length g.register.birth
  pub top : (g.top < g'.top) ⊎ ((g.top ≡ g'.top) × (g.revoking ≡ true → g'.revoking ≡ true))
  pub empty : (a : ℕ) → a < g.top → Emptied g.place g.register.versions a → Emptied g'.place g'.register.versions a
  pub joined : (a : ℕ) → a < g.top → Joined g.place a → Joined g'.place a
  pub span : Grows (span_of g) (span_of g')

-- who reads or may read goes on, and nothing that it reads changed
abbrev pub Same : Ghost → Ghost → ℕ → Type 0
Same g g' k = (has_node k g'.readers ≡ true) × (reading g'.register.versions ≡ reading g.register.versions) × (g.top ≡ g'.top)

unfoldable pub Granted : Ghost → Ghost → ℕ → Option Wish → Type 0
Granted g g' k wish = (f : Frame) → Sent f g.frames → f.to ≡ k → (q rsn : ℕ) (value : List ℕ) → f.body ≡ Grant q rsn value → (w : Wish) → wish ≡ Some w → w.request ≡ q → reads_op w.op ≡ true → has_node k g.readers ≡ true → Same g g' k

-- for another node
pub record Shift (g g' : Ghost) (k : ℕ) (copy : Option Copy) (wish : Option Wish) : Type 0 where
  pub owner : g'.register.owner ≡ Some k → g.register.owner ≡ Some k
  pub reader : is_reading copy ≡ true → has_node k g.readers ≡ true → Same g g' k
  pub granted : Granted g g' k wish
  pub other : g.top ≡ g'.top → (has_node k g.readers || g.revoking) ≡ true → (has_node k g'.readers || g'.revoking) ≡ true
  pub value : value_of copy ≡ reading (take (g'.place (rank copy)) g'.register.versions)
  pub seen : g'.register.seen k ≤ g'.place (rank copy)
  pub kept : g.place (rank copy) ≤ g'.place (rank copy)
  pub vacuum : (v : Vacuuming) → g'.vacuum ≡ Some v → VacuumAt v k copy
  pub marked : Past g'.joint copy

-- what an old revocation says
running_to : (g g' : Ghost) (rsn : ℕ) → Change g g' → rsn + 1 ≤ g.top → (rsn + 1 ≡ g.top → g.revoking ≡ true) → rsn + 1 ≡ g'.top → (rsn + 1 ≡ g.top) × (g'.revoking ≡ true)
running_to g g' rsn d below running e = ⊎_elim
    (λ (x : g.top < g'.top). absurd (omega arith))
    (λ (x : (g.top ≡ g'.top) × (g.revoking ≡ true → g'.revoking ≡ true)). (e ∙ sym x.0, x.1 (running (e ∙ sym x.0)))) d.top

top_up : (g g' : Ghost) → Change g g' → g.top ≤ g'.top
top_up g g' d = (let t = d.top in omega arith)

pub says_shift : (g g' : Ghost) (k : ℕ) (copy : Option Copy) (next : ℕ) (wish : Option Wish) → Change g g' → Granted g g' k wish → (f : Frame) → Sent f g.frames → (from to : ℕ) → f.to ≡ to → (b : Body) → f.body ≡ b → Says g k copy next wish from to b → Says g' k copy next wish from to b
unfolding Says Granted
says_shift g g' k copy next wish d gr f s from to at (Call q asks) is h = h
says_shift g g' k copy next wish d gr f s from to at (Recalls r) is h = h
says_shift g g' k copy next wish d gr f s from to at (Give rsn value) is h = λ p. (let r = h p in let b = r.below in let u = top_up g g' d in subst (λ (e : Entry). GiveAt e g'.top k copy rsn value) (sym d.entry) (record { below = omega arith; held = r.held }))
says_shift g g' k copy next wish d gr f s from to at (Pass q rsn value) is h = λ p. subst (λ e. PassAt e k next wish q rsn value) (sym d.entry) (h p)
says_shift g g' k copy next wish d gr f s from to at (Refuse q rsn) is h = λ p. subst (λ e. RefuseAt e k next wish (rank copy) q rsn) (sym d.entry) (h p)
says_shift g g' k copy next wish d gr f s from to at (Grant q rsn value) is h = λ p. (let r = h p in record {
  apart = r.apart;
  low = r.low;
  below = (let b = r.below in let t = top_up g g' d in omega arith);
  current = λ w e same reads. (let c = r.current w e same reads in let n = gr f s (at ∙ p) q rsn value is w e same reads c.0 in (n.0, c.1 ∙ sym n.1, c.2 ∙ n.2));
})
says_shift g g' k copy next wish d gr f s from to at (Done node q) is h = tt
says_shift g g' k copy next wish d gr f s from to at (Revoke rsn) is h = (let b = h.below in let t = top_up g g' d in record { below = omega arith; running = λ e. (running_to g g' rsn d h.below h.running e).1 })
says_shift g g' k copy next wish d gr f s from to at (RevokeAck rsn) is h = λ p. (let r = h p in let b = r.below in let t = top_up g g' d in
    let same = running_to g g' rsn d r.below r.running in record {
      below = omega arith;
      running = λ e. (same e).1;
      none = λ e. r.none (same e).0;
      ungranted = λ e. subst (λ fs. Ungranted fs k wish) (sym d.sent) (r.ungranted (same e).0);
    })
says_shift g g' k copy next wish d gr f s from to at (VStore rsn) is h = (let b = h.below in let t = top_up g g' d in record { apart = h.apart; below = omega arith; empty = d.empty (rsn + 1) (omega arith) h.empty })
says_shift g g' k copy next wish d gr f s from to at (VStored rsn) is h = λ p. (let r = h p in let b = r.below in let t = top_up g g' d in record { below = omega arith; past = r.past })
says_shift g g' k copy next wish d gr f s from to at (VDelete rsn) is h = (let b = h.below in let t = top_up g g' d in record { below = omega arith; joined = d.joined (rsn + 1) (omega arith) h.joined })
says_shift g g' k copy next wish d gr f s from to at (VDeleted rsn) is h = λ p. (let r = h p in let b = r.below in let t = top_up g g' d in record { below = omega arith; past = r.past })

pub NodeInv-shift : (g g' : Ghost) (k : ℕ) (node : Node) → k ≢ g.entry.holder → Change g g' → Shift g g' k node.copy node.wish → NodeInv g k node → NodeInv g' k node
NodeInv-shift g g' k node ne c d h = record {
  under = (let u = h.under in let t = top_up g g' c in omega arith);
  even = h.even;
  here = λ a. absurd (ne (h.here a).0);
  holds = λ a. absurd (ne (a ∙ ap (λ (e : Entry). e.holder) c.entry));
  passing = λ a. absurd (ne (a ∙ ap (λ (e : Entry). e.holder) c.entry));
  locked = λ a. absurd (ne (h.here (h.locked a).0).0);
  owner = λ a. h.owner (d.owner a);
  unwished = h.unwished;
  wish = h.wish;
  own = λ w a b. absurd (ne (b ∙ ap (λ (e : Entry). e.holder) c.entry));
  request = λ a. absurd (ne (a ∙ ap (λ (e : Entry). e.holder) c.entry));
  next = h.next;
  reader = λ a. (let r = h.reader a in let n = d.reader a r.0 in (n.0, r.1 ∙ sym n.1, r.2 ∙ n.2));
  mirror = λ a. absurd (ne (h.here a).0);
  nobody = λ a. absurd (ne (a ∙ ap (λ (e : Entry). e.holder) c.entry));
  away = h.away;
  quiet = h.quiet;
  runs = λ v e. absurd (ne (h.here (h.runs v e).0).0);
  other = λ _ l e. (let least = ap (λ (x : Entry). x.least) c.entry in let u = h.under in let t = top_up g g' c in let same : g.top ≡ g'.top = omega arith in d.other same (h.other ne (omega arith) (omega arith)));
  value = d.value;
  seen = d.seen;
  unjoined = λ e. (let k = h.unjoined e in let b = c.birth in let u = d.kept in let x = k.0 in (omega arith, λ a. k.1 (omega arith)));
  vacuum = d.vacuum;
  asked = λ a s. h.asked a (subst (λ q. Asked a q) c.queue s);
  waits = λ r s. subst (λ fs. Recalled r fs) (sym c.sent) (h.waits r s);
  frames = λ f s. (let s' : Sent f g.frames = subst (λ fs. Sent f fs) c.sent s in says_shift g g' k node.copy node.next node.wish c d.granted f s' f.from f.to refl f.body refl (h.frames f s'));
  marked = d.marked;
}

-- for the holder itself
says_own : (g g' : Ghost) (n : ℕ) (copy copy' : Option Copy) (next : ℕ) (now now' : Option Wish) → is_here copy ≡ true → is_here copy' ≡ true → rank copy ≤ rank copy' → g.entry.least < rank copy → n ≡ g.entry.holder →
    ((w : Wish) → now' ≡ Some w → reads_op w.op ≡ false → w.request ≢ 0 → now ≡ Some w) → ((w : Wish) → now' ≡ Some w → reads_op w.op ≡ true → now ≡ Some w) →
    Change g g' → Granted g g' n now → (f : Frame) → Sent f g.frames → (from to : ℕ) → f.to ≡ to → (b : Body) → f.body ≡ b → Says g n copy next now from to b → Says g' n copy' next now' from to b
unfolding Says Ungranted Granted
says_own g g' n copy copy' next now now' here here' up lower holder locks reads d gr f s from to at (Call q r) is h = h
says_own g g' n copy copy' next now now' here here' up lower holder locks reads d gr f s from to at (Recalls r) is h = h
says_own g g' n copy copy' next now now' here here' up lower holder locks reads d gr f s from to at (Give rsn value) is h = λ p. (let r = h p in let b = r.below in let t = top_up g g' d in record { below = omega arith; held = λ b a. absurd (kind_eq copy _ (r.held holder (subst (λ (e : Entry). e.least ≤ rsn) d.entry a)) here refl) })
says_own g g' n copy copy' next now now' here here' up lower holder locks reads d gr f s from to at (Pass q rsn value) is h = λ p. (let r = h p in record {
  low = r.low;
  asked = r.asked;
  below = subst (λ (e : Entry). rsn + 1 ≤ e.least) (sym d.entry) r.below;
  current = λ w e same k. subst (λ (x : Entry). (x.holder ≡ n) × (x.least ≡ rsn + 1) × (x.request ≡ q) × (x.value ≡ value)) (sym d.entry) (r.current w (locks w e k (λ z. r.asked (sym same ∙ z))) same k);
})
says_own g g' n copy copy' next now now' here here' up lower holder locks reads d gr f s from to at (Refuse q rsn) is h = λ p. (let r = h p in record {
  low = r.low;
  asked = r.asked;
  below = subst (λ (e : Entry). rsn + 1 ≤ e.least) (sym d.entry) r.below;
  gone = λ w e k z. r.gone w (locks w e k (λ y. r.asked (sym z ∙ y))) k z;
  stale = λ a b c. absurd (let m = r.stale (ap (λ (e : Entry). e.holder) (sym d.entry) ∙ a) (ap (λ (e : Entry). e.least) (sym d.entry) ∙ b) (ap (λ (e : Entry). e.request) (sym d.entry) ∙ c) in omega arith);
})
says_own g g' n copy copy' next now now' here here' up lower holder locks reads d gr f s from to at (Grant q rsn value) is h = λ p. (let r = h p in record {
  apart = r.apart;
  low = r.low;
  below = (let b = r.below in let t = top_up g g' d in omega arith);
  current = λ w e same k. (let e' = reads w e k in let c = r.current w e' same k in let n' = gr f s (at ∙ p) q rsn value is w e' same k c.0 in (n'.0, c.1 ∙ sym n'.1, c.2 ∙ n'.2));
})
says_own g g' n copy copy' next now now' here here' up lower holder locks reads d gr f s from to at (Done m q) is h = tt
says_own g g' n copy copy' next now now' here here' up lower holder locks reads d gr f s from to at (Revoke rsn) is h = (let b = h.below in let t = top_up g g' d in record { below = omega arith; running = λ e. (running_to g g' rsn d h.below h.running e).1 })
says_own g g' n copy copy' next now now' here here' up lower holder locks reads d gr f s from to at (RevokeAck rsn) is h = λ p. (let r = h p in let b = r.below in let t = top_up g g' d in
    let same = running_to g g' rsn d r.below r.running in record {
      below = omega arith;
      running = λ e. (same e).1;
      none = λ _. false_from_ne_true _ (λ a. reading_not_here copy' here' a);
      ungranted = λ e. (let u = r.ungranted (same e).0 in λ f' s' to' q' r' v' is' w we k. u f' (subst (λ fs. Sent f' fs) d.sent s') to' q' r' v' is' w (reads w we k) k);
    })
says_own g g' n copy copy' next now now' here here' up lower holder locks reads d gr f s from to at (VStore rsn) is h = (let b = h.below in let t = top_up g g' d in record { apart = h.apart; below = omega arith; empty = d.empty (rsn + 1) (omega arith) h.empty })
says_own g g' n copy copy' next now now' here here' up lower holder locks reads d gr f s from to at (VStored rsn) is h = λ p. (let r = h p in let b = r.below in let t = top_up g g' d in record { below = omega arith; past = past_more (rsn + 1) copy copy' up (λ _. omega arith) r.past })
says_own g g' n copy copy' next now now' here here' up lower holder locks reads d gr f s from to at (VDelete rsn) is h = (let b = h.below in let t = top_up g g' d in record { below = omega arith; joined = d.joined (rsn + 1) (omega arith) h.joined })
says_own g g' n copy copy' next now now' here here' up lower holder locks reads d gr f s from to at (VDeleted rsn) is h = λ p. (let r = h p in let b = r.below in let t = top_up g g' d in record { below = omega arith; past = past_more (rsn + 2) copy copy' up (λ _. omega arith) r.past })

-- what the holder's wish may become
abbrev pub Wishes : Node → Node → Type 0
Wishes node node' = (w : Wish) → node'.wish ≡ Some w →
    (node.wish ≡ Some w) ⊎ ((w.request ≡ 0) × (reads_op w.op ≡ false))

-- what the holder may become
pub record Own (g g' : Ghost) (n : ℕ) (node node' : Node) : Type 0 where
  pub here : is_here node'.copy ≡ true
  pub up : rank node.copy ≤ rank node'.copy
  pub top : rank node'.copy ≡ g'.top
  pub value : value_of node'.copy ≡ reading g'.register.versions
  pub locked : node'.locked ≡ true → (g'.register.owner ≡ Some n) × (node'.tracked ≡ []) × (node'.revoking ≡ None) × (g'.vacuum ≡ None)
  pub owner : g'.register.owner ≡ Some n → node'.locked ≡ true
  pub unwished : node'.locked ≡ true → node'.wish ≡ None
  pub next : node'.next ≡ node.next
  pub fresh : node'.fresh ≡ node.fresh
  pub recalls : node'.recalls ≡ node.recalls
  pub wishes : Wishes node node'
  pub runs : (v : Revocation) → node'.revoking ≡ Some v → (v.rsn + 1 ≡ rank node'.copy) × (g'.vacuum ≡ None)
  pub quiet : node'.tracked ≡ [] → node'.revoking ≡ None
  pub readers : g'.readers ≡ readers_of node'.tracked node'.revoking
  pub revoking : g'.revoking ≡ is_revoking node'.revoking
  pub granted : Granted g g' n node.wish
  pub seen : g'.register.seen n ≤ g'.place (rank node'.copy)

pub NodeInv-own : (ps : List ℕ) (m : ℕ) (g g' : Ghost) (n : ℕ) (node node' : Node) → node.fresh ≡ false → GlobalInv ps m g' → is_here node.copy ≡ true → Change g g' → Own g g' n node node' → NodeInv g n node → NodeInv g' n node'
NodeInv-own ps m g g' n node node' joined all here c d h =
    let at = h.here here in
    let least = ap (λ (x : Entry). x.least) c.entry in
    let holder = ap (λ (x : Entry). x.holder) c.entry in
    let request = ap (λ (x : Entry). x.request) c.entry in
    let up = d.up in
    let top = d.top in record {
      under = omega arith;
      even = here_even node'.copy d.here;
      here = λ _. (at.0 ∙ sym holder, omega arith);
      holds = λ _ _. (top, d.value);
      passing = λ _ b. absurd (omega arith);
      locked = λ a. (let k = d.locked a in (d.here, k.0, k.1, k.2, k.3));
      owner = d.owner;
      unwished = d.unwished;
      wish = λ w e. ⊎_elim
          (λ (x : node.wish ≡ Some w). rw d.next (h.wish w x))
          (λ (x : (w.request ≡ 0) × (reads_op w.op ≡ false)). (let k = h.next in let e = d.next in let z = x.0 in omega arith))
          (d.wishes w e);
      own = λ w e b c' k l. absurd (⊎_elim
          (λ (x : node.wish ≡ Some w). (let m' = h.own w x (b ∙ holder) c' (k ∙ request) l in omega arith))
          (λ (x : (w.request ≡ 0) × (reads_op w.op ≡ false)). c' x.0)
          (d.wishes w e));
      request = λ a b. (let k = h.request (a ∙ holder) (λ z. b (request ∙ z)) in let e = d.next in (omega arith, omega arith));
      next = rw d.next h.next;
      reader = λ a. absurd (reading_not_here node'.copy d.here a);
      mirror = λ _. (d.readers, d.revoking);
      nobody = λ _ a. absurd (let b = d.here in cc);
      away = λ a. absurd (let b = d.here in cc);
      quiet = d.quiet;
      runs = λ v e. (let k = d.runs v e in (d.here, k.0, k.1));
      other = λ ne. absurd (ne (at.0 ∙ sym holder));
      value = d.value ∙ whole_reading ps m g' (rank node'.copy) all (omega arith);
      seen = d.seen;
      unjoined = λ e. absurd (let z = d.fresh in cc);
      vacuum = λ v e. (let k = (all.vacuum v e).above in vacuum_top v n node'.copy (omega arith));
      asked = λ a s e. (let k = h.asked a (subst (λ q. Asked a q) c.queue s) e in (rw d.next k.0, k.1));
      waits = λ r s. subst (λ fs. Recalled r fs) (sym c.sent) (h.waits r (subst (λ l. Waits r l) d.recalls s));
      frames = λ f s. (let s' : Sent f g.frames = subst (λ fs. Sent f fs) c.sent s in subst (λ x. Says g' n node'.copy x node'.wish f.from f.to f.body) (sym d.next)
          (says_own g g' n node.copy node'.copy node.next node.wish node'.wish here d.here up at.1 at.0
          (λ w e k z. ⊎_elim
          (λ (x : node.wish ≡ Some w). x)
          (λ (x : (w.request ≡ 0) × (reads_op w.op ≡ false)). absurd (z x.0)) (d.wishes w e))
          (λ w e k. ⊎_elim
          (λ (x : node.wish ≡ Some w). x)
          (λ (x : (w.request ≡ 0) × (reads_op w.op ≡ false)). absurd (let y = x.1 in cc)) (d.wishes w e))
          c d.granted f s' f.from f.to refl f.body refl (h.frames f s')));
      marked = past_top g'.joint node'.copy (let low = at.1 in let first = all.marks.first in let f = all.marks.fits (omega arith) in omega arith);
    }
