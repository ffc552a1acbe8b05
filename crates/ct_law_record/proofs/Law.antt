-- The law of one record: from the opening, and from a generation that begins with calls that wait and with a row.
use Rattle.std.proofs.Common.{◌≡◌, ◌≢◌, ℕ, ◌+◌, Bool, true, false, Option, Some, None, List, [], refl, sym, ap, ◌∙◌, arith, ◌<◌, ◌≤◌, subst, inr, eq-eqb, take}
use Rattle.ct_frame.specs.Header.{for_reading, nobody}
use Rattle.ct_frame.specs.declared.header.RecCopy.{RecCopy}
use Rattle.ct_rules.specs.State
use Rattle.ct_rules.specs.declared.state.Wish.{Wish}
use Rattle.ct_law_record.proofs.Rule
use Rattle.ct_law_record.proofs.SeenNode.{copy_of, wish_of, mastered_like, for_reading_like, frames_of}
use Rattle.ct_register.specs.Register.{Register, reading, newborn}
use Rattle.ct_law_record.proofs.Invariant.{Sent, Ghost, GlobalInv, default_entry, Asked, Waits, Emptied, readers_of, is_revoking}
use Rattle.ct_law_record.specs.World.{Scene, World, Event, peers, last, HasCopy, Stands, StandsFor, NothingIsLost, Parent, LeadsTo, opening, bare, AreDrawn}
use Rattle.std.specs.List.{list_all}
use Rattle.ct_frame.specs.Fields.{is_node}
use Rattle.ct_law_record.proofs.Parts.{nobody_has}
use Rattle.ct_law_record.proofs.Nodes.{past_none}
use Rattle.ct_law_record.proofs.Worlds.{nodes_at, WorldInv, run_holds}

no_owner : (owner : Option ℕ) → ((n : ℕ) → owner ≢ Some n) → owner ≡ None
no_owner None h = refl
no_owner (Some n) h = absurd (h n refl)

-- who is data master of its own copy
here_own : (n : ℕ) (c : RecCopy) → Rule.is_odd (copy_of n (Some c)) ≡ false → c.header.dmaster ≡ n → Rule.is_here (copy_of n (Some c)) ≡ true
unfolding State.is_mastered
here_own n c even is = sym (mastered_like n (Some c) even) ∙ eq-eqb c.header.dmaster n is

here_at : (s : Scene) (w : World) (r : Register) (g : Ghost) (n : ℕ) (c : RecCopy) → WorldInv s w r g → HasCopy w n c → c.header.dmaster ≡ n → Rule.is_here (nodes_at s w n).copy ≡ true
here_at s w r g n c h has is = subst (λ (x : Option RecCopy). Rule.is_here (copy_of n x) ≡ true) (sym has) (here_own n c (subst (λ (x : Option RecCopy). Rule.is_odd (copy_of n x) ≡ false) has (h.nodes n).even) is)

reading_own : (n : ℕ) (c : RecCopy) → Rule.is_odd (copy_of n (Some c)) ≡ false → c.header.flags ≡ for_reading → Rule.is_reading (copy_of n (Some c)) ≡ true
unfolding State.is_for_reading
reading_own n c even is = sym (for_reading_like n (Some c) even) ∙ eq-eqb c.header.flags for_reading is

value_at : (s : Scene) (w : World) (n : ℕ) (c : RecCopy) → HasCopy w n c → Rule.value_of (nodes_at s w n).copy ≡ c.value
unfolding copy_of Rule.value_of
value_at s w n c has = ap (λ (x : Option RecCopy). Rule.value_of (copy_of n x)) has

unread : (s : Scene) (w : World) (r : Register) (g : Ghost) (j : ℕ) → WorldInv s w r g → g.register.owner ≡ Some j → g.readers ≡ []
unfolding readers_of
unread s w r g j h own = (let l = (h.nodes j).locked ((h.nodes j).owner own) in ((h.nodes j).mirror l.0).0 ∙ ap (readers_of (nodes_at s w j).tracked) l.3 ∙ l.2)

pub stands : (s : Scene) (w : World) (r : Register) (g : Ghost) → WorldInv s w r g → Stands w r
stands s w r g h = subst (λ (x : Register). Stands w x) h.register (record {
  locks = λ n. ((λ a. ((h.nodes n).locked a).1), (λ a. (h.nodes n).owner a));
  newest = λ n c has is. (let k = (h.nodes n).here (here_at s w r g n c h has is) in sym (value_at s w n c has) ∙ ((h.nodes n).holds k.0 k.1).1);
  only = λ n k c d has is has' is'. ((h.nodes n).here (here_at s w r g n c h has is)).0 ∙ sym ((h.nodes k).here (here_at s w r g k d h has' is')).0;
  readers = λ n c has is. (
      let even = subst (λ (x : Option RecCopy). Rule.is_odd (copy_of n x) ≡ false) has (h.nodes n).even in
      let k = (h.nodes n).reader (subst (λ (x : Option RecCopy). Rule.is_reading (copy_of n x) ≡ true) (sym has) (reading_own n c even is)) in
      (sym (value_at s w n c has) ∙ k.1, no_owner g.register.owner (λ j own. nobody_has n g.readers (unread s w r g j h own) k.0)));
})

stands_for : (ps : List ℕ) (m : ℕ) (g : Ghost) (n : ℕ) (c : Option RecCopy) → GlobalInv ps m g → Rule.value_of (copy_of n c) ≡ reading (take (g.place (Rule.rank (copy_of n c))) g.register.versions) → g.register.seen n ≤ g.place (Rule.rank (copy_of n c)) → StandsFor g.register (g.place 0) (λ a. g.place (a + 1)) n c
unfolding Rule.rank Rule.value_of copy_of
stands_for ps m g n None all v s = s
stands_for ps m g n (Some c) all v s = (v, s, all.rises 0 (c.header.rsn + 1) (omega arith))

pub kept_all : (s : Scene) (w : World) (r : Register) (g : Ghost) → WorldInv s w r g → NothingIsLost w r
unfolding Emptied
kept_all s w r g h = subst (λ (x : Register). NothingIsLost w x) h.register
    (g.place 0, (λ a. g.place (a + 1)), h.all.absent, (λ a b le. h.all.rises (a + 1) (b + 1) (omega arith)), (λ a. h.all.within (a + 1)), λ n. stands_for (peers s s.lmaster) s.lmaster g n (w.nodes n).state.copy h.all (h.nodes n).value (h.nodes n).seen)

pub parent : (w : World) (r : Register) → NothingIsLost w r → Parent w r
parent w r h who = ((λ n c is most. (h.1 c.header.rsn, (own n c is).0, λ k t. each k (h.1 c.header.rsn) (own n c is).2 (λ d e. h.3 d.header.rsn c.header.rsn (most k d t e)))), λ none. (h.0, h.2, λ k t. absent k (none k t)))
  where
    own : (n : ℕ) (c : RecCopy) → (w.nodes n).state.copy ≡ Some c → StandsFor r h.0 h.1 n (Some c)
    own n c is = subst (λ (x : Option RecCopy). StandsFor r h.0 h.1 n x) is (h.5 n)

    absent : (k : ℕ) → (w.nodes k).state.copy ≡ None → r.seen k ≤ h.0
    absent k is = subst (λ (x : Option RecCopy). StandsFor r h.0 h.1 k x) is (h.5 k)

    each : (k p : ℕ) → h.0 ≤ p → ((d : RecCopy) → (w.nodes k).state.copy ≡ Some d → h.1 d.header.rsn ≤ p) → r.seen k ≤ p
    each k p low up = go (w.nodes k).state.copy refl
      where
        go : (c : Option RecCopy) → (w.nodes k).state.copy ≡ c → r.seen k ≤ p
        go None e = (let a = absent k e in omega arith)
        go (Some d) e = (let a = (own k d e).1 in let b = up d e in omega arith)

pub leads : (s : Scene) (w : World) (r : Register) (g : Ghost) (events : List Event) → list_all is_node s.members ≡ true → WorldInv s w r g → LeadsTo s w r events
leads s w r g events real h =
    let k = run_holds s events w r g real h in
    let all = kept_all s (last s w events) k.0 k.1 k.3 in
    (k.0, k.2, stands s _ _ k.1 k.3, all, parent (last s w events) k.0 all)

abbrev pub bare_ghost : ℕ → Ghost
bare_ghost m = record { entry = default_entry m 0; queue = []; frames = []; register = newborn []; readers = []; revoking = false; top = 0; place = λ _. 0; vacuum = None; base = 0; joint = 1; mark = λ _. 0 }

wish_was : (readonly : Bool) (w : Option Wish) (v : Rule.Wish) → wish_of readonly w ≡ Some v → (u : Wish) × (w ≡ Some u) × (u.request ≡ v.request)
unfolding wish_of
wish_was readonly None v e = absurd (cc)
wish_was readonly (Some w) v e = (w, refl, (let k : record { request = w.request; op = record { real = w.op; readonly = readonly } } ≡ v = cc in ap (λ (x : Rule.Wish). x.request) k))

pub drawn_low : (readonly : Bool) (number : ℕ → ℕ) (wish : ℕ → Option Wish) (n : ℕ) → AreDrawn number wish → (v : Rule.Wish) → wish_of readonly (wish n) ≡ Some v → v.request < number n
drawn_low readonly number wish n drawn v e = (let k = wish_was readonly (wish n) v e in let l = drawn.above n k.0 k.1 in let same = k.2 in omega arith)

pub bare_holds : (s : Scene) (joined : ℕ → Bool) (number : ℕ → ℕ) (wish : ℕ → Option Wish) → AreDrawn number wish → WorldInv s (bare joined number wish) (newborn []) (bare_ghost s.lmaster)
unfolding Rule.rank Rule.is_here Rule.is_reading Rule.is_odd Rule.value_of copy_of frames_of Asked Sent Waits readers_of is_revoking reading Emptied
bare_holds s joined number wish drawn = record {
  frames = refl;
  register = refl;
  all = record {
    rises = λ a b l. omega arith;
    whole = λ a l. refl;
    within = λ a. omega arith;
    absent = refl;
    vacuum = λ v e. absurd (cc);
    marks = record { rises = λ a b l. omega arith; whole = λ a l. refl; agrees = λ a l. refl; low = omega arith; near = omega arith; fits = λ l. absurd (omega arith); under = omega arith; first = omega arith; entry = refl; none = λ l. refl };
  };
  nodes = λ n. record {
    under = omega arith;
    even = refl;
    here = λ a. absurd (cc);
    holds = λ _ a. absurd (omega arith);
    passing = λ _ _. (omega arith, refl);
    locked = λ a. absurd (cc);
    owner = λ a. absurd (cc);
    unwished = λ a. absurd (cc);
    wish = λ w a. drawn_low s.readonly number wish n drawn w a;
    own = λ w a b nz z l. absurd (nz z);
    request = λ _ a. absurd (a refl);
    next = drawn.some n;
    reader = λ a. absurd (cc);
    mirror = λ a. absurd (cc);
    nobody = λ _ _. (refl, refl, refl);
    away = λ _. refl;
    quiet = λ _. refl;
    runs = λ v a. absurd (cc);
    other = λ _ a. absurd (omega arith);
    value = refl;
    seen = omega arith;
    unjoined = λ _. (omega arith, λ a. absurd (omega arith));
    vacuum = λ v e. absurd (cc);
    asked = λ a s. elim s [ ];
    waits = λ x s. elim s [ ];
    frames = λ f s. elim s [ ];
    marked = past_none 1 None refl;
  };
  master = record { entry = inr (refl, refl, refl, omega arith); queue = refl; vacuum = refl };
  outside = λ n e. refl;
  senders = λ f h. elim h [ ];
}

-- what every schedule from the opening leads to
pub opening_leads : (s : Scene) (events : List Event) → list_all is_node s.members ≡ true → LeadsTo s opening (newborn []) events
opening_leads s events real = leads s opening (newborn []) (bare_ghost s.lmaster) events real (bare_holds s (λ _. true) (λ _. 1) (λ _. None) (record { some = λ n. omega arith; above = λ n w e. absurd (cc) }))
