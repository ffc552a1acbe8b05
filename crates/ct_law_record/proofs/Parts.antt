-- Each part of the rule keeps the invariant.
use Rattle.std.proofs.Common.{◌≡◌, ◌≢◌, ◌⊎◌, ℕ, ◌+◌, ◌<◌, ◌≤◌, Bool, true, false, Option, Some, None, List, [], ◌∷◌, ◌++◌, length, take, refl, sym, ap, ◌∙◌, inl, inr, ⊎_elim, arith, subst, ◌||◌, cond, leb, length-append}
use Rattle.std.proofs.lemmas.Bool.{lt-leb, le-leb}
use Rattle.std.proofs.lemmas.List.{take-append-le}
use Rattle.ct_values.specs.Words.{is_nil}
use Rattle.ct_tracking.specs.Awaited.{including}
use Rattle.ct_law_record.proofs.Invariant.{readers_of, is_revoking, Ghost, Ungranted, Emptied, Joined, Says, NodeInv, GlobalInv}
use Rattle.ct_law_record.proofs.Holder.{Change, Shift, Granted}
use Rattle.ct_law_record.proofs.Markings.{grows_top, grows_grown, marking_top, marking_grown}
use Rattle.std.specs.Prelude.{List}
use Rattle.ct_call.specs.Rules.{Rules}
use Rattle.ct_tracking.specs.Tracked.{Revocation}
use Rattle.ct_register.specs.Register.{Register, reading}
use Rattle.ct_register.specs.Words.{at as changed}
use Rattle.ct_law_record.specs.Labels.{Label, AcceptsLabel, AcceptsAll}
use Rattle.ct_law_record.proofs.Rule.{Body, Copy, Node, Wish, has_node, is_here, is_idle, is_reading, rank, value_of, with_value}

pub accepts_one_more : (rules : Rules) (r s t : Register) (labels : List Label) (l : Label) → AcceptsAll rules r labels s → AcceptsLabel rules s l t → AcceptsAll rules r (labels ++ (l ∷ [])) t
accepts_one_more rules r s t [] l h a = (t, subst (λ x. AcceptsLabel rules x l t) h a, refl)
accepts_one_more rules r s t (k ∷ ks) l h a = (h.0, h.1, accepts_one_more rules h.0 s t ks l h.2 a)

pub idle_none : (v : Option Revocation) → is_idle v ≡ true → v ≡ None
unfolding is_idle
idle_none None h = refl
idle_none (Some v) h = absurd (cc)

-- who tracks, still tracks
pub has-track : (k n : ℕ) (ns : List ℕ) → has_node k ns ≡ true → has_node k (including n ns) ≡ true
unfolding has_node
has-track k n [] h = absurd (cc)
has-track k n (m ∷ ms) h = grind (arith, has-track k n ms)

pub has-track_new : (n : ℕ) (ns : List ℕ) → has_node n (including n ns) ≡ true
unfolding has_node
has-track_new n [] = grind arith
has-track_new n (m ∷ ms) = grind (arith, has-track_new n ms)

pub rank-with_value : (v : List ℕ) (c : Option Copy) → rank (with_value v c) ≡ rank c
unfolding rank with_value
rank-with_value v None = refl
rank-with_value v (Some c) = refl

pub here-with_value : (v : List ℕ) (c : Option Copy) → is_here (with_value v c) ≡ is_here c
unfolding is_here with_value
here-with_value v None = refl
here-with_value v (Some c) = refl

pub value-with_value : (v : List ℕ) (c : Option Copy) → is_here c ≡ true → value_of (with_value v c) ≡ v
unfolding is_here with_value value_of
value-with_value v None h = absurd (cc)
value-with_value v (Some c) h = refl

pub reading-append : (vs : List (List ℕ)) (v : List ℕ) → reading (vs ++ (v ∷ [])) ≡ v
unfolding reading
reading-append [] v = refl
reading-append (x ∷ []) v = refl
reading-append (x ∷ y ∷ vs) v = reading-append (y ∷ vs) v

pub nobody_has : (n : ℕ) (l : List ℕ) → l ≡ [] → has_node n l ≡ true → ⊥
unfolding has_node
nobody_has n l e h = (let z : has_node n [] ≡ true = subst (λ x. has_node n x ≡ true) e h in cc)

-- a holder that revokes nothing has as readers those that it tracks
pub readers_idle : (g : Ghost) (n : ℕ) (node : Node) → is_here node.copy ≡ true → node.revoking ≡ None → NodeInv g n node → (g.readers ≡ node.tracked) × (g.revoking ≡ false)
unfolding readers_of is_revoking
readers_idle g n node here idle h = (let k = h.mirror here in (k.0 ∙ ap (readers_of node.tracked) idle, k.1 ∙ ap is_revoking idle))

-- the vacuum ends
abbrev pub quiet : Ghost → Ghost
quiet g = record g { vacuum = None }

says_quiet : (g : Ghost) (n : ℕ) (copy : Option Copy) (next : ℕ) (now : Option Wish) → (from to : ℕ) (b : Body) → Says g n copy next now from to b → Says (quiet g) n copy next now from to b
unfolding Says
says_quiet g n copy next now from to b k = k

pub NodeInv-quiet : (g : Ghost) (n : ℕ) (node : Node) → NodeInv g n node → NodeInv (quiet g) n node
NodeInv-quiet g n node h = grind (arith, says_quiet)

-- the holder changes what it tracks
abbrev pub tracks : List ℕ → Bool → ℕ → Ghost → Ghost
tracks rs b t g = record g { readers = rs; revoking = b; top = t }

pub change_tracks : (g : Ghost) (rs : List ℕ) (b : Bool) (t : ℕ) → (g.top < t) ⊎ ((g.top ≡ t) × (g.revoking ≡ true → b ≡ true)) → Change g (tracks rs b t g)
change_tracks g rs b t top = record { entry = refl; queue = refl; sent = refl; birth = refl; top = top; empty = λ a l e. e; joined = λ a l e. e; span = grows_top g.base g.top t g.mark g.entry (omega arith) }

pub global_tracks : (ps : List ℕ) (m : ℕ) (g : Ghost) (rs : List ℕ) (b : Bool) (t : ℕ) → g.vacuum ≡ None → g.top ≤ t → GlobalInv ps m g → GlobalInv ps m (tracks rs b t g)
global_tracks ps m g rs b t calm up all = record { rises = all.rises; whole = λ a l. all.whole a (omega arith); within = all.within; absent = all.absent; vacuum = λ v e. absurd (cc); marks = marking_top g.base g.joint g.top g.entry.least g.mark g.place g.register.versions g.entry.value t up all.marks }

-- who has acknowledged the revocation that runs, neither reads nor meets a grant
abbrev pub Done_with : Ghost → ℕ → Option Copy → Option Wish → Type 0
Done_with g n copy wish = (is_reading copy ≡ false) × Ungranted g.frames n wish

-- the readers become others, and those that go have acknowledged
pub granted_to : (g : Ghost) (rs : List ℕ) (b : Bool) (k : ℕ) (copy : Option Copy) (wish : Option Wish) → ((has_node k g.readers ≡ true → has_node k rs ≡ true) ⊎ Done_with g k copy wish) → Granted g (tracks rs b g.top g) k wish
unfolding Ungranted Granted
granted_to g rs b k copy wish stays f s to q rsn value is w e at reads c = ⊎_elim
    (λ (x : has_node k g.readers ≡ true → has_node k rs ≡ true). (x c, refl, refl))
    (λ (x : Done_with g k copy wish). absurd (x.1 f s to q rsn value is w e reads at)) stays

pub shift_to : (g : Ghost) (rs : List ℕ) (b : Bool) (k : ℕ) (node : Node) → ((has_node k g.readers || g.revoking) ≡ true → (has_node k rs || b) ≡ true) →
    ((has_node k g.readers ≡ true → has_node k rs ≡ true) ⊎ Done_with g k node.copy node.wish) → NodeInv g k node → Shift g (tracks rs b g.top g) k node.copy node.wish
shift_to g rs b k node covered stays h = record {
  owner = λ a. a;
  reader = λ a c. ⊎_elim (λ (x : has_node k g.readers ≡ true → has_node k rs ≡ true). (x c, refl, refl)) (λ (x : Done_with g k node.copy node.wish). absurd (let y = x.0 in cc)) stays;
  granted = granted_to g rs b k node.copy node.wish stays;
  other = λ _ a. covered a;
  value = h.value;
  seen = h.seen;
  kept = omega arith;
  vacuum = h.vacuum;
  marked = h.marked;
}

-- the top rises, where nobody reads any more
pub granted_end : (g g' : Ghost) (k : ℕ) (copy : Option Copy) (wish : Option Wish) → ((has_node k g.readers ≡ true → ⊥) ⊎ Done_with g k copy wish) → Granted g g' k wish
unfolding Ungranted Granted
granted_end g g' k copy wish gone f s to q rsn value is w e at reads c = absurd (⊎_elim
    (λ (x : has_node k g.readers ≡ true → ⊥). x c)
    (λ (x : Done_with g k copy wish). x.1 f s to q rsn value is w e reads at) gone)

pub shift_end : (g : Ghost) (rs : List ℕ) (b : Bool) (t : ℕ) (k : ℕ) (node : Node) → g.top < t → ((has_node k g.readers ≡ true → ⊥) ⊎ Done_with g k node.copy node.wish) → NodeInv g k node → Shift g (tracks rs b t g) k node.copy node.wish
shift_end g rs b t k node up gone h = record {
  owner = λ a. a;
  reader = λ a c. absurd (⊎_elim (λ (x : has_node k g.readers ≡ true → ⊥). x c) (λ (x : Done_with g k node.copy node.wish). (let y = x.0 in cc)) gone);
  granted = granted_end g (tracks rs b t g) k node.copy node.wish gone;
  other = λ e _. absurd (let l : g.top ≡ t = e in omega arith);
  value = h.value;
  seen = h.seen;
  kept = omega arith;
  vacuum = h.vacuum;
  marked = h.marked;
}

-- the register changes, and with it the places
abbrev pub registers : Register → (ℕ → ℕ) → (ℕ → ℕ) → Ghost → Ghost
registers t place mark g = record g { register = t; place = place; mark = mark }

pub shift_register : (g : Ghost) (t : Register) (place mark : ℕ → ℕ) (k : ℕ) (node : Node) → g.readers ≡ [] → t.owner ≢ Some k →
    value_of node.copy ≡ reading (take (place (rank node.copy)) t.versions) → t.seen k ≤ place (rank node.copy) → g.place (rank node.copy) ≤ place (rank node.copy) → NodeInv g k node → Shift g (registers t place mark g) k node.copy node.wish
shift_register g t place mark k node none owner value seen kept h = record {
  owner = λ a. absurd (owner a);
  reader = λ a c. absurd (nobody_has k g.readers none c);
  granted = granted_end g (registers t place mark g) k node.copy node.wish (inl (nobody_has k g.readers none));
  other = λ _ a. a;
  value = value;
  seen = seen;
  kept = kept;
  vacuum = h.vacuum;
  marked = h.marked;
}

-- the versions grow by one: from the top on, all copies stand for all of them
abbrev pub grown_place : ℕ → ℕ → (ℕ → ℕ) → ℕ → ℕ
grown_place top count place a = cond (leb top a) count (place a)

abbrev pub grown : List ℕ → Option ℕ → ℕ → Ghost → Ghost
grown v owner me g = registers (record g.register { versions = g.register.versions ++ (v ∷ []); owner = owner; seen = changed me (length (g.register.versions ++ (v ∷ []))) g.register.seen }) (grown_place g.top (length g.register.versions + 1) g.place) (grown_place g.top (length g.register.versions + 1) g.mark) g

pub grown_below : (ps : List ℕ) (m : ℕ) (g : Ghost) (v : List ℕ) (a : ℕ) → GlobalInv ps m g → a < g.top → reading (take (grown_place g.top (length g.register.versions + 1) g.place a) (g.register.versions ++ (v ∷ []))) ≡ reading (take (g.place a) g.register.versions)
grown_below ps m g v a all lt = rw (lt-leb g.top a lt) (ap reading (take-append-le (g.place a) g.register.versions (v ∷ []) (all.within a)))

pub change_grown : (ps : List ℕ) (m : ℕ) (g : Ghost) (v : List ℕ) (owner : Option ℕ) (me : ℕ) → GlobalInv ps m g → Change g (grown v owner me g)
unfolding Emptied Joined
change_grown ps m g v owner me all = record {
  entry = refl;
  queue = refl;
  sent = refl;
  birth = refl;
  top = inr (refl, λ a. a);
  empty = λ a l e. grown_below ps m g v a all l ∙ e;
  joined = λ a l e. rw (lt-leb g.top a l, lt-leb g.top 0 (omega arith)) e;
  span = grows_grown g.base g.top (length g.register.versions + 1) g.mark g.entry (let w = all.marks.whole g.top (omega arith) in omega arith);
}

pub global_grown : (ps : List ℕ) (m : ℕ) (g : Ghost) (v : List ℕ) (owner : Option ℕ) (me : ℕ) → g.vacuum ≡ None → g.entry.least < g.top → GlobalInv ps m g → GlobalInv ps m (grown v owner me g)
unfolding Emptied
global_grown ps m g v owner me calm some all =
    let more : length (g.register.versions ++ (v ∷ [])) ≡ length g.register.versions + 1 = length-append g.register.versions (v ∷ []) in record {
      rises = rises;
      whole = λ a l. rw (le-leb g.top a l) (sym more);
      within = within;
      absent = grown_below ps m g v 0 all (omega arith) ∙ all.absent;
      vacuum = λ w e. absurd (cc);
      marks = marking_grown g.base g.joint g.top g.entry.least g.mark g.place g.register.versions g.entry.value v some all.marks;
    }
  where
    rises : (a b : ℕ) → a ≤ b → grown_place g.top (length g.register.versions + 1) g.place a ≤ grown_place g.top (length g.register.versions + 1) g.place b
    rises a b le = (let u = all.rises a b le in let w = all.within a in grind arith)

    within : (a : ℕ) → grown_place g.top (length g.register.versions + 1) g.place a ≤ length (g.register.versions ++ (v ∷ []))
    within a = (let w = all.within a in let more : length (g.register.versions ++ (v ∷ [])) ≡ length g.register.versions + 1 = length-append g.register.versions (v ∷ []) in grind arith)
