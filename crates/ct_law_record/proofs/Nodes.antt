-- What changes of one node, or of what was sent and asked, keep the invariant of a node.
use Rattle.std.proofs.Common.{◌≡◌, ◌≢◌, ℕ, ◌+◌, ◌<◌, ◌≤◌, true, false, Option, Some, None, List, [], ◌∷◌, ◌++◌, refl, ap, inl, inr, arith, subst}
use Rattle.std.proofs.lemmas.Bool.{false_from_ne_true}
use Rattle.ct_law_record.proofs.Invariant.{Sent, Asked, Waits, readers_of, is_revoking, Ghost, Ungranted, Past, Says, BodyAt, Recalled, VacuumAt, NodeInv}
use Rattle.std.specs.Prelude.{List}
use Rattle.ct_tracking.specs.Vacuum.{Vacuuming}
use Rattle.ct_rules.specs.declared.state.RecallNote.{RecallNote}
use Rattle.ct_rules.specs.declared.state.Waiter.{Waiter}
use Rattle.ct_law_record.proofs.Rule.{is_odd, is_kind_odd, Body, Call, Copy, Frame, Give, Given, Grant, Node, Op, Pass, Recalls, Refuse, RevokeAck, VDeleted, VStored, Wish, is_here, is_kind_here, is_kind_reading, is_reading, rank, reads_op, rsn_of, stale, value_of}

-- what holds of each frame sent, and of one more
pub each_sent : (P : Frame → Type 0) (g : Frame) (fs : List Frame) → ((f : Frame) → Sent f fs → P f) → P g → (f : Frame) → Sent f (fs ++ (g ∷ [])) → P f
unfolding Sent
each_sent P g [] all new f (inl e) = subst P e new
each_sent P g [] all new f (inr s) = elim s [ ]
each_sent P g (h ∷ fs) all new f (inl e) = all f (inl e)
each_sent P g (h ∷ fs) all new f (inr s) = each_sent P g fs (λ f' s'. all f' (inr s')) new f s

pub still_sent : (f g : Frame) (fs : List Frame) → Sent f fs → Sent f (fs ++ (g ∷ []))
unfolding Sent
still_sent f g [] s = elim s [ ]
still_sent f g (h ∷ fs) (inl e) = inl e
still_sent f g (h ∷ fs) (inr s) = inr (still_sent f g fs s)

pub still_recalled : (r : RecallNote) (g : Frame) (fs : List Frame) → Recalled r fs → Recalled r (fs ++ (g ∷ []))
unfolding Recalled
still_recalled r g fs h = (h.0, still_sent h.0 g fs h.1, h.2)

-- one frame more
abbrev pub and_frame : Frame → Ghost → Ghost
and_frame f g = record g { frames = g.frames ++ (f ∷ []) }

pub ungranted_frame : (f : Frame) (fs : List Frame) (n : ℕ) (wish : Option Wish) → ((q rsn : ℕ) (value : List ℕ) → f.body ≡ Grant q rsn value → ⊥) → Ungranted fs n wish → Ungranted (fs ++ (f ∷ [])) n wish
unfolding Ungranted
ungranted_frame f fs n wish quiet h = each_sent (λ f'. f'.to ≡ n → (q rsn : ℕ) (value : List ℕ) → f'.body ≡ Grant q rsn value → (w : Wish) → wish ≡ Some w → reads_op w.op ≡ true → w.request ≢ q) f fs h
    (λ _ q rsn value is. absurd (quiet q rsn value is))

-- a grant is sent only where no revocation runs
pub says_frame : (g : Ghost) (f : Frame) → ((q rsn : ℕ) (value : List ℕ) → f.body ≡ Grant q rsn value → g.revoking ≡ false) →
    (n : ℕ) (copy : Option Copy) (next : ℕ) (wish : Option Wish) (from to : ℕ) (b : Body) → Says g n copy next wish from to b → Says (and_frame f g) n copy next wish from to b
unfolding Says
says_frame g f quiet n copy next wish from to (RevokeAck rsn) k = λ p. (let r = k p in record {
  below = r.below;
  running = r.running;
  none = r.none;
  ungranted = λ e. ungranted_frame f g.frames n wish (λ q s v is. (let a = quiet q s v is in let b = r.running e in cc)) (r.ungranted e);
})
says_frame g f quiet n copy next wish from to _ k = k

pub NodeInv-frame : (g : Ghost) (n : ℕ) (node : Node) (f : Frame) → ((q rsn : ℕ) (value : List ℕ) → f.body ≡ Grant q rsn value → g.revoking ≡ false) → BodyAt g n node f.from f.to f.body → NodeInv g n node → NodeInv (and_frame f g) n node
NodeInv-frame g n node f quiet new h =
    let each = each_sent (λ f'. BodyAt (and_frame f g) n node f'.from f'.to f'.body) f g.frames
    (λ f' s. says_frame g f quiet n node.copy node.next node.wish f'.from f'.to f'.body (h.frames f' s))
    (says_frame g f quiet n node.copy node.next node.wish f.from f.to f.body new) in
    grind (arith, each, still_recalled)

-- GIVE
abbrev pub given : Node → Node
given node = record node { copy = Some (record { rsn = rsn_of node.copy; kind = Given; value = value_of node.copy }); recalls = [] }

pub rank_of : (c : Option Copy) → is_here c ≡ true → rank c ≡ rsn_of c + 1
unfolding rank is_here rsn_of
rank_of None h = absurd (cc)
rank_of (Some c) h = refl

pub kind_eq : (c : Option Copy) (d : Copy) → c ≡ Some d → is_here c ≡ true → d.kind ≡ Given → ⊥
unfolding is_here is_kind_here
kind_eq c d is h k = grind arith

-- a copy whose rank did not fall is as far as before
pub past_more : (low : ℕ) (c d : Option Copy) → rank c ≤ rank d → (1 ≤ rank d → 1 ≤ rank c) → Past low c → Past low d
unfolding Past
past_more low c d up some h = λ a. (let k = h (some a) in omega arith)

pub past_none : (low : ℕ) (c : Option Copy) → rank c ≡ 0 → Past low c
unfolding Past
past_none low c e = λ a. absurd (omega arith)

pub past_top : (low : ℕ) (c : Option Copy) → low ≤ rank c → Past low c
unfolding Past
past_top low c le = λ a. le

pub vacuum_more : (v : Vacuuming) (n : ℕ) (c d : Option Copy) → rank c ≤ rank d → (1 ≤ rank d → 1 ≤ rank c) → VacuumAt v n c → VacuumAt v n d
vacuum_more v n c d up some h = record {
  storing = λ a b. past_more (v.rsn + 1) c d up some (h.storing a b);
  deleted = λ a b. past_more (v.rsn + 2) c d up some (h.deleted a b);
}

pub vacuum_top : (v : Vacuuming) (n : ℕ) (c : Option Copy) → v.rsn + 2 ≤ rank c → VacuumAt v n c
vacuum_top v n c le = record {
  storing = λ a b. past_top (v.rsn + 1) c (omega arith);
  deleted = λ a b. past_top (v.rsn + 2) c le;
}

pub says_given : (g : Ghost) (n : ℕ) (copy : Option Copy) (next : ℕ) (wish : Option Wish) → is_here copy ≡ true → (from to : ℕ) (b : Body) → Says g n copy next wish from to b →
    Says g n (Some (record { rsn = rsn_of copy; kind = Given; value = value_of copy })) next wish from to b
unfolding Says rank is_reading is_kind_reading
says_given g n copy next wish here from to (Give rsn value) k = λ p. (let r = k p in record { below = r.below; held = λ a b. absurd (kind_eq copy _ (r.held a b) here refl) })
says_given g n copy next wish here from to (Refuse q rsn) k = λ p. (let r = k p in let same = rank_of copy here in record { low = r.low; asked = r.asked; below = r.below; gone = r.gone; stale = λ a b c. (let m = r.stale a b c in omega arith) })
says_given g n copy next wish here from to (RevokeAck rsn) k = λ p. (let r = k p in record { below = r.below; running = r.running; none = λ _. refl; ungranted = r.ungranted })
says_given g n copy next wish here from to (VStored rsn) k = λ p. (let r = k p in let same = rank_of copy here in record { below = r.below; past = past_more (rsn + 1) copy _ (omega arith) (λ _. omega arith) r.past })
says_given g n copy next wish here from to (VDeleted rsn) k = λ p. (let r = k p in let same = rank_of copy here in record { below = r.below; past = past_more (rsn + 2) copy _ (omega arith) (λ _. omega arith) r.past })
says_given g n copy next wish here from to _ k = k

past_given : (low : ℕ) (c : Option Copy) → is_here c ≡ true → Past low c → Past low (Some (record { rsn = rsn_of c; kind = Given; value = value_of c }))
unfolding rank
past_given low c here h = (let same = rank_of c here in past_more low c _ (omega arith) (λ _. omega arith) h)

pub waits_none : (r : RecallNote) → Waits r [] → ⊥
unfolding Waits
waits_none r w = elim w [ ]

pub NodeInv-given : (g : Ghost) (n : ℕ) (node : Node) → is_here node.copy ≡ true → node.locked ≡ false → node.tracked ≡ [] → node.revoking ≡ None → g.vacuum ≡ None →
    NodeInv g n node → NodeInv g n (given node)
unfolding rank is_here is_kind_here is_odd is_kind_odd value_of is_reading is_kind_reading readers_of is_revoking
NodeInv-given g n node here unlocked untracked idle calm h = grind (arith, says_given, rank_of, waits_none, past_given)

-- a wish is drawn the next number
abbrev pub called : Op → Node → Node
called op node = record node { wish = Some (record { request = node.next; op = op }); next = node.next + 1 }

-- every grant to the node has a number that was drawn
pub grants_low : (g : Ghost) (n : ℕ) (node : Node) → NodeInv g n node → (f : Frame) → Sent f g.frames → f.to ≡ n → (q rsn : ℕ) (value : List ℕ) → f.body ≡ Grant q rsn value → q < node.next
unfolding Says
grants_low g n node h f s to q rsn value is =
    let k : Says g n node.copy node.next node.wish f.from f.to (Grant q rsn value) = subst (λ b. Says g n node.copy node.next node.wish f.from f.to b) is (h.frames f s) in
    (k to).low

pub ungranted_new : (g : Ghost) (n : ℕ) (node : Node) (op : Op) → NodeInv g n node → Ungranted g.frames n (Some (record { request = node.next; op = op }))
unfolding Ungranted
ungranted_new g n node op h f s to q rsn value is w e reads same =
    let low = grants_low g n node h f s to q rsn value is in
    let k : node.next ≡ w.request = (let m : record { request = node.next; op = op } ≡ w = cc in ap (λ (x : Wish). x.request) m) in
    omega arith

pub says_called : (g : Ghost) (n : ℕ) (copy : Option Copy) (next : ℕ) (wish : Option Wish) (op : Op) → Ungranted g.frames n (Some (record { request = next; op = op })) → (from to : ℕ) (b : Body) → Says g n copy next wish from to b →
    Says g n copy (next + 1) (Some (record { request = next; op = op })) from to b
unfolding Says
says_called g n copy next wish op new from to (Call q asks) k = λ p. (let r = k p in (omega arith, r.1))
says_called g n copy next wish op new from to (Recalls q) k = λ p. (let r = k p in (omega arith, r.1))
says_called g n copy next wish op new from to (Pass q rsn value) k = λ p. (let r = k p in let low = r.low in record { low = omega arith; asked = r.asked; below = r.below; current = grind arith })
says_called g n copy next wish op new from to (Refuse q rsn) k = λ p. (let r = k p in let low = r.low in record { low = omega arith; asked = r.asked; below = r.below; gone = grind arith; stale = r.stale })
says_called g n copy next wish op new from to (Grant q rsn value) k = λ p. (let r = k p in let low = r.low in record { apart = r.apart; low = omega arith; below = r.below; current = grind arith })
says_called g n copy next wish op new from to (RevokeAck rsn) k = λ p. (let r = k p in record { below = r.below; running = r.running; none = r.none; ungranted = λ _. new })
says_called g n copy next wish op new from to _ k = k

pub NodeInv-called : (g : Ghost) (n : ℕ) (node : Node) (op : Op) → node.locked ≡ false → NodeInv g n node → NodeInv g n (called op node)
NodeInv-called g n node op unlocked h = grind (arith, says_called g n node.copy node.next node.wish op (ungranted_new g n node op h))

-- the wish ends
says_nowish : (g : Ghost) (n : ℕ) (copy : Option Copy) (next : ℕ) (now : Option Wish) → (from to : ℕ) (b : Body) → Says g n copy next now from to b → Says g n copy next None from to b
unfolding Says Ungranted
says_nowish g n copy next now from to (Pass q rsn value) k = λ p. (let r = k p in record { low = r.low; asked = r.asked; below = r.below; current = λ w e. absurd (cc) })
says_nowish g n copy next now from to (Refuse q rsn) k = λ p. (let r = k p in record { low = r.low; asked = r.asked; below = r.below; gone = λ w e. absurd (cc); stale = r.stale })
says_nowish g n copy next now from to (Grant q rsn value) k = λ p. (let r = k p in record { apart = r.apart; low = r.low; below = r.below; current = λ w e. absurd (cc) })
says_nowish g n copy next now from to (RevokeAck rsn) k = λ p. (let r = k p in record { below = r.below; running = r.running; none = r.none; ungranted = λ e f' s' to' q' r' v' is' w we. absurd (cc) })
says_nowish g n copy next now from to _ k = k

pub NodeInv-nowish : (g : Ghost) (n : ℕ) (node : Node) → NodeInv g n node → NodeInv g n (record node { wish = None })
NodeInv-nowish g n node h = grind (arith, says_nowish)

pub NodeInv-recalls : (g : Ghost) (n : ℕ) (node : Node) (l : List RecallNote) → ((s : RecallNote) → Waits s l → Recalled s g.frames) → NodeInv g n node → NodeInv g n (record node { recalls = l })
NodeInv-recalls g n node l all h = grind (arith, all)

-- a revoked reader
pub rank-stale : (rsn : ℕ) (c : Option Copy) → rank (stale rsn c) ≡ rank c
unfolding rank stale
rank-stale rsn None = refl
rank-stale rsn (Some c) = grind arith

pub here-stale : (rsn : ℕ) (c : Option Copy) → is_here (stale rsn c) ≡ is_here c
unfolding is_here stale is_kind_here is_kind_reading
here-stale rsn None = refl
here-stale rsn (Some c) = grind arith

even-stale : (rsn : ℕ) (c : Option Copy) → is_odd c ≡ false → is_odd (stale rsn c) ≡ false
unfolding is_odd stale is_kind_odd
even-stale rsn None h = refl
even-stale rsn (Some c) h = grind arith

pub value-stale : (rsn : ℕ) (c : Option Copy) → value_of (stale rsn c) ≡ value_of c
unfolding value_of stale
value-stale rsn None = refl
value-stale rsn (Some c) = grind arith

pub reading-stale : (rsn : ℕ) (c : Option Copy) → is_reading (stale rsn c) ≡ true → (is_reading c ≡ true) × (rsn + 1 < rank c)
unfolding is_reading stale is_kind_reading rank
reading-stale rsn None h = absurd (cc)
reading-stale rsn (Some c) h = grind arith

given-stale : (rsn : ℕ) (c : Option Copy) (a : ℕ) (v : List ℕ) → c ≡ Some (record { rsn = a; kind = Given; value = v }) → stale rsn c ≡ Some (record { rsn = a; kind = Given; value = v })
unfolding stale is_kind_reading
given-stale rsn None a v h = absurd (cc)
given-stale rsn (Some c) a v h = grind arith

past-stale : (low rsn : ℕ) (c : Option Copy) → Past low c → Past low (stale rsn c)
past-stale low rsn c h = (let same = rank-stale rsn c in past_more low c (stale rsn c) (omega arith) (λ a. omega arith) h)

says_stale : (g : Ghost) (n : ℕ) (copy : Option Copy) (next : ℕ) (now : Option Wish) (s : ℕ) → (from to : ℕ) (b : Body) → Says g n copy next now from to b → Says g n (stale s copy) next now from to b
unfolding Says
says_stale g n copy next now s from to (Give rsn value) k = λ p. (let r = k p in record { below = r.below; held = λ a b. given-stale s copy rsn value (r.held a b) })
says_stale g n copy next now s from to (Refuse q rsn) k = λ p. (let r = k p in record { low = r.low; asked = r.asked; below = r.below; gone = r.gone; stale = rw rank-stale r.stale })
says_stale g n copy next now s from to (RevokeAck rsn) k = λ p. (let r = k p in record { below = r.below; running = r.running; none = λ e. false_from_ne_true _ (λ a. (let x = (reading-stale s copy a).0 in let y = r.none e in cc)); ungranted = r.ungranted })
says_stale g n copy next now s from to (VStored rsn) k = λ p. (let r = k p in record { below = r.below; past = past-stale (rsn + 1) s copy r.past })
says_stale g n copy next now s from to (VDeleted rsn) k = λ p. (let r = k p in record { below = r.below; past = past-stale (rsn + 2) s copy r.past })
says_stale g n copy next now s from to _ k = k

vacuum-stale : (v : Vacuuming) (n s : ℕ) (c : Option Copy) → VacuumAt v n c → VacuumAt v n (stale s c)
vacuum-stale v n s c h = (let same = rank-stale s c in vacuum_more v n c (stale s c) (omega arith) (λ a. omega arith) h)

pub NodeInv-stale : (g : Ghost) (n : ℕ) (node : Node) (s : ℕ) → NodeInv g n node → NodeInv g n (record node { copy = stale s node.copy })
NodeInv-stale g n node s h = grind (arith, says_stale, rank-stale, here-stale, even-stale, value-stale, reading-stale s node.copy, vacuum-stale, past-stale)

-- one request more waits, or one less
pub each_asked : (P : Waiter → Type 0) (b : Waiter) (as' : List Waiter) → ((a : Waiter) → Asked a as' → P a) → P b → (a : Waiter) → Asked a (as' ++ (b ∷ [])) → P a
unfolding Asked
each_asked P b [] all new a (inl e) = subst P e new
each_asked P b [] all new a (inr s) = elim s [ ]
each_asked P b (x ∷ xs) all new a (inl e) = all a (inl e)
each_asked P b (x ∷ xs) all new a (inr s) = each_asked P b xs (λ a' s'. all a' (inr s')) new a s

says_queue : (g : Ghost) (q : List Waiter) (n : ℕ) (copy : Option Copy) (next : ℕ) (now : Option Wish) → (from to : ℕ) (b : Body) → Says g n copy next now from to b → Says (record g { queue = q }) n copy next now from to b
unfolding Says
says_queue g q n copy next now from to b k = k

pub NodeInv-queue : (g : Ghost) (n : ℕ) (node : Node) (q : List Waiter) → ((a : Waiter) → Asked a q → a.node ≡ n → (a.request < node.next) × (a.request ≢ 0)) → NodeInv g n node → NodeInv (record g { queue = q }) n node
NodeInv-queue g n node q all h = grind (arith, all, says_queue)

pub asked_rest : (a b : Waiter) (as' : List Waiter) → Asked a as' → Asked a (b ∷ as')
unfolding Asked
asked_rest a b as' s = inr s

pub asked_first : (b : Waiter) (as' : List Waiter) → Asked b (b ∷ as')
unfolding Asked
asked_first b as' = inl refl

-- what a node has seen
abbrev pub seeing : (ℕ → ℕ) → Ghost → Ghost
seeing seen g = record g { register = record g.register { seen = seen } }

says_seeing : (g : Ghost) (seen : ℕ → ℕ) (n : ℕ) (copy : Option Copy) (next : ℕ) (now : Option Wish) → (from to : ℕ) (b : Body) → Says g n copy next now from to b → Says (seeing seen g) n copy next now from to b
unfolding Says
says_seeing g seen n copy next now from to b k = k

pub NodeInv-seeing : (g : Ghost) (n : ℕ) (node : Node) (seen : ℕ → ℕ) → seen n ≤ g.place (rank node.copy) → NodeInv g n node → NodeInv (seeing seen g) n node
NodeInv-seeing g n node seen le h = grind (arith, says_seeing)
