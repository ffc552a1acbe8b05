-- FINISH: the versions, the copies and the entry are gone, and the floor is above all that was.
use Rattle.std.proofs.Common.{length, ◌≡◌, ◌≢◌, ℕ, ◌+◌, ◌<◌, ◌≤◌, true, false, Option, Some, None, List, [], take, refl, sym, ◌∙◌, inr, arith, subst}
use Rattle.std.proofs.lemmas.Bool.{false_from_ne_true}
use Rattle.ct_law_record.proofs.Invariant.{span_of, Start, Ghost, Emptied, Joined, Says, Facts, NodeInv, Holds, Kept, default_entry}
use Rattle.ct_law_record.proofs.Nodes.{past_none}
use Rattle.ct_law_record.specs.Marked.{is_removal, is_removed}
use Rattle.ct_law_record.proofs.Markings.{goes_removed, goes_top}
use Rattle.ct_law_record.proofs.Parts.{nobody_has, readers_idle, accepts_one_more}
use Rattle.ct_law_record.proofs.Acts.{owner_none}
use Rattle.std.specs.Prelude.{List}
use Rattle.ct_call.specs.Rules.{Rules}
use Rattle.ct_tracking.specs.Tracked.{Revocation}
use Rattle.ct_register.specs.Register.{reading, emptied}
use Rattle.ct_law_record.specs.Labels.{Vacuumed}
use Rattle.ct_law_record.proofs.Rule
use Rattle.ct_law_record.proofs.Rule.{is_odd, Body, Copy, Frame, Give, Grant, Node, Out, Pass, Refuse, Revoke, RevokeAck, VDelete, VDeleted, VStore, VStored, Wish, greater, is_here, is_reading, rank, reads_op, tell, value_of, with_node}
use Rattle.ct_law_record.proofs.Phases.{rank_none}

abbrev pub finished : ℕ → ℕ → Ghost → Ghost
finished m floor g = record { entry = default_entry m floor; queue = g.queue; frames = g.frames; register = emptied g.register; readers = []; revoking = false; top = g.top; place = λ _. 0; vacuum = None; base = g.top; joint = g.top + 1; mark = λ _. 0 }

empty_reading : reading (take 0 []) ≡ []
unfolding reading
empty_reading = refl

says_finished : (m floor : ℕ) (g : Ghost) (n : ℕ) (copy : Option Copy) (next : ℕ) (now : Option Wish) → g.entry.least < floor → g.top ≤ floor → g.readers ≡ [] → g.revoking ≡ false →
    ((w : Wish) → now ≡ Some w → reads_op w.op ≡ false → n ≡ g.entry.holder → w.request ≢ 0 → w.request ≢ g.entry.request) →
    (from to : ℕ) (b : Body) → Says g n copy next now from to b → Says (finished m floor g) n None next now from to b
unfolding Says rank is_reading Emptied Joined
says_finished m floor g n copy next now up top none idle unmet from to (Give rsn value) k = λ p. (let r = k p in let b = r.below in record { below = b; held = λ _ a. absurd (omega arith) })
says_finished m floor g n copy next now up top none idle unmet from to (Pass q rsn value) k = λ p. (let r = k p in record { low = r.low; asked = r.asked; below = (let b = r.below in omega arith); current = λ w is at l. (let c = r.current w is at l in absurd (unmet w is l (sym c.0) (λ z. r.asked (sym at ∙ z)) (at ∙ sym c.2))) })
says_finished m floor g n copy next now up top none idle unmet from to (Refuse q rsn) k = λ p. (let r = k p in let b = r.below in record { low = r.low; asked = r.asked; below = omega arith; gone = r.gone; stale = λ _ a _. absurd (omega arith) })
says_finished m floor g n copy next now up top none idle unmet from to (Grant q rsn value) k = λ p. (let r = k p in record { apart = r.apart; low = r.low; below = r.below; current = λ w a b c. absurd (nobody_has n g.readers none (r.current w a b c).0) })
says_finished m floor g n copy next now up top none idle unmet from to (Revoke rsn) k = record { below = k.below; running = λ e. absurd (let y = k.running e in cc) }
says_finished m floor g n copy next now up top none idle unmet from to (RevokeAck rsn) k = λ p. (let r = k p in record { below = r.below; running = λ e. absurd (let y = r.running e in cc); none = λ _. refl; ungranted = r.ungranted })
says_finished m floor g n copy next now up top none idle unmet from to (VStore rsn) k = record { apart = k.apart; below = k.below; empty = empty_reading }
says_finished m floor g n copy next now up top none idle unmet from to (VStored rsn) k = λ p. (let r = k p in record { below = r.below; past = past_none (rsn + 1) None refl })
says_finished m floor g n copy next now up top none idle unmet from to (VDelete rsn) k = record { below = k.below; joined = omega arith }
says_finished m floor g n copy next now up top none idle unmet from to (VDeleted rsn) k = λ p. (let r = k p in record { below = r.below; past = past_none (rsn + 2) None refl })
says_finished m floor g n copy next now up top none idle unmet from to _ k = k

few_or : (n : ℕ) → (1 ≤ n → ⊥) → n ≤ 0
few_or n h = grind arith

pub NodeInv-finished : (m floor : ℕ) (g : Ghost) (n : ℕ) (node : Node) → g.entry.least < floor → g.top ≤ floor → g.readers ≡ [] → g.revoking ≡ false → g.register.owner ≡ None → node.locked ≡ false → node.revoking ≡ None → node.tracked ≡ [] → (node.fresh ≡ true → rank node.copy ≡ 0) →
    ((w : Wish) → node.wish ≡ Some w → reads_op w.op ≡ false → n ≡ g.entry.holder → w.request ≢ 0 → w.request ≢ g.entry.request) →
    NodeInv g n node → Facts (finished m floor g) n None node.wish node.next node.locked node.recalls node.tracked node.revoking node.fresh
unfolding rank is_here is_odd is_reading value_of
NodeInv-finished m floor g n node up top none idle unowned unlocked unrevoked untracked new unmet h = record {
  under = omega arith;
  even = refl;
  here = λ a. absurd (cc);
  holds = λ _ a. absurd (omega arith);
  passing = λ _ _. (top, sym empty_reading);
  locked = λ a. absurd (cc);
  owner = λ a. absurd (cc);
  unwished = λ a. absurd (cc);
  wish = h.wish;
  own = λ w a b c d e. omega arith;
  request = λ _ a. absurd (a refl);
  next = h.next;
  reader = λ a. absurd (cc);
  mirror = λ a. absurd (cc);
  nobody = λ _ _. (refl, refl, refl);
  away = λ _. untracked;
  quiet = λ _. unrevoked;
  runs = λ v e. absurd (cc);
  other = λ _ a. absurd (omega arith);
  value = sym empty_reading;
  seen = omega arith;
  unjoined = λ e. (let k = (h.unjoined e).1 in let z = new e in let few : length g.register.birth ≤ 0 = few_or (length g.register.birth) (λ a. (let y = k a in omega arith)) in (omega arith, λ a. absurd (omega arith)));
  vacuum = λ v e. absurd (cc);
  asked = h.asked;
  waits = h.waits;
  marked = past_none (g.top + 1) None refl;
  frames = λ f s. says_finished m floor g n node.copy node.next node.wish up top none idle unmet f.from f.to f.body (h.frames f s);
}

greater_right : (a b : ℕ) → b ≤ greater a b
unfolding greater
greater_right a b = grind arith

absent_here : (c : Option Copy) → c ≡ None → is_here c ≡ true → ⊥
unfolding is_here
absent_here None e h = cc
absent_here (Some c) e h = cc

module _ (rules : Rules) (ps : List ℕ) (m me : ℕ) (nodes : ℕ → Node) (frames : List Frame) (r : Start) where
  -- no revocation runs where there is no copy
  still : (g : Ghost) (n : ℕ) (node : Node) → node.copy ≡ None → NodeInv g n node → (node.locked ≡ false) × (node.revoking ≡ None) × (node.tracked ≡ [])
  still g n node absent h = (false_from_ne_true _ (λ t. absent_here node.copy absent (h.locked t).0), go node.revoking refl, h.away (false_from_ne_true _ (λ t. absent_here node.copy absent t)))
    where
      go : (v : Option Revocation) → node.revoking ≡ v → v ≡ None
      go None e = refl
      go (Some v) e = absurd (absent_here node.copy absent (h.runs v e).0)

  pub finish_holds : (rsn : ℕ) (g : Ghost) (o : Out) → me ≡ m → is_here o.node.copy ≡ true → o.node.locked ≡ false → o.node.tracked ≡ [] → o.node.revoking ≡ None → value_of o.node.copy ≡ [] → g.top ≤ rsn + 2 →
      ((n : ℕ) → n ≢ me → (nodes n).copy ≡ None) → Holds rules ps m me nodes frames r g o → Kept rules ps m me nodes frames r (Rule.finish me rsn o)
  unfolding Rule.finish tell with_node Emptied is_removal
  finish_holds rsn g o at here unlocked untracked idle value top gone h =
      let floor = greater o.node.floor (rsn + 2) in
      let high = greater_right o.node.floor (rsn + 2) in
      let is = h.good.mine.here here in
      let low = is.1 in
      let holds = h.good.mine.holds is.0 is.1 in
      let is_top = holds.0 in
      let readers = readers_idle g me o.node here idle h.good.mine in
      let unowned = owner_none rules ps m me nodes frames r g o.node h.good here unlocked g.register.owner refl in
      let none = readers.0 ∙ untracked in (
        finished m floor g,
        record {
          sent = h.sent;
          told = accepts_one_more rules r.register g.register _ o.labels (Vacuumed me) h.told (unowned, sym holds.1 ∙ value, refl);
          went = goes_removed o.labels (Vacuumed me) r.span (span_of (finished m floor g)) refl (record { none = omega arith; top = goes_top (is_removed o.labels) r.span (span_of g) h.went });
          good = record {
            all = record {
              rises = λ a b l. omega arith;
              whole = λ a l. refl;
              within = λ a. omega arith;
              absent = empty_reading;
              vacuum = λ v e. absurd (cc);
              marks = record { rises = λ a b l. omega arith; whole = λ a l. refl; agrees = λ a l. refl; low = omega arith; near = omega arith; fits = λ l. absurd (omega arith); under = omega arith; first = omega arith; entry = sym empty_reading; none = λ l. refl };
            };
            mine = NodeInv-finished m floor g me o.node (omega arith) (omega arith) none readers.1 unowned unlocked idle untracked (λ e. absurd (let j = h.good.joined in cc))
                (λ w e l a nz same. (let k = h.good.mine.own w e a nz same l in omega arith)) h.good.mine;
            others = λ n ne. (let f = h.good.others n ne in let s = still g n (nodes n) (gone n ne) f in
                subst (λ (c : Option Copy). Facts (finished m floor g) n c (nodes n).wish (nodes n).next (nodes n).locked (nodes n).recalls (nodes n).tracked (nodes n).revoking (nodes n).fresh) (sym (gone n ne))
                (NodeInv-finished m floor g n (nodes n) (omega arith) (omega arith) none readers.1 unowned s.0 s.1 s.2 (λ _. rank_none (nodes n).copy (gone n ne)) (λ w e l a. absurd (ne (a ∙ sym is.0))) f));
            master = λ e. record { entry = inr (refl, refl, refl, omega arith); queue = (h.good.master e).queue; vacuum = refl };
            joined = h.good.joined;
            master_other = λ ne. absurd (ne at);
          };
        },
      )
