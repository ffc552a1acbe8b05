-- A vacuum of another key ends: the floor rises, and where this key has no entry, the next OPEN moves on.
use Rattle.std.proofs.Common.{◌≡◌, ◌≢◌, ℕ, ◌<◌, ◌≤◌, false, Option, Some, None, List, refl, sym, ap, ◌∙◌, inl, inr, ⊎_elim, arith}
use Rattle.std.proofs.lemmas.Bool.{cases_eq, false_from_ne_true}
use Rattle.ct_law_record.proofs.Invariant.{span_of, Start, Ghost, Holds, Kept, default_entry}
use Rattle.ct_law_record.proofs.Copies.{NodeInv-moved, moved}
use Rattle.ct_law_record.specs.Marked.{is_removed}
use Rattle.ct_law_record.proofs.Markings.{goes_moved, marking_moved}
use Rattle.ct_law_record.proofs.Acts.{node_holds}
use Rattle.std.specs.Prelude.{List, []}
use Rattle.ct_call.specs.Rules.{Rules}
use Rattle.ct_rules.specs.declared.state.Entry.{Entry}
use Rattle.ct_law_record.proofs.Rule
use Rattle.ct_law_record.proofs.Rule.{Copy, Frame, Node, Out, greater, is_here, with_node}
use Rattle.ct_law_record.proofs.Phases.{rank_none}

pub greater_left : (a b : ℕ) → a ≤ greater a b
unfolding greater
greater_left a b = grind arith

here_none : (c : Option Copy) → c ≡ None → is_here c ≡ false
unfolding is_here
here_none c e = ap is_here e

module _ (rules : Rules) (ps : List ℕ) (m me : ℕ) (nodes : ℕ → Node) (frames : List Frame) (r : Start) where
  rise_holds : (floor : ℕ) (g : Ghost) (o : Out) → me ≡ m → o.node.entry ≡ None → g.entry ≡ default_entry m o.node.floor → o.node.copy ≡ None → g.top ≤ g.base → o.node.floor < floor → Holds rules ps m me nodes frames r g o →
      Kept rules ps m me nodes frames r (with_node (record o.node { floor = floor }) o)
  unfolding with_node
  rise_holds floor g o at shut is absent unmarked up h =
      let e : Entry = default_entry m floor in
      let holder : g.entry.holder ≡ m = ap (λ (x : Entry). x.holder) is in
      let least : g.entry.least ≡ o.node.floor = ap (λ (x : Entry). x.least) is in
      let request : g.entry.request ≡ 0 = ap (λ (x : Entry). x.request) is in
      let value : g.entry.value ≡ [] = ap (λ (x : Entry). x.value) is in
      let mine = at ∙ sym holder in
      let away = here_none o.node.copy absent in
      let none = h.good.mine.nobody mine away in
      let low = rank_none o.node.copy absent in
      let pass = h.good.mine.passing mine (omega arith) in
      let top = pass.0 in (
        moved e g,
        record {
          sent = h.sent;
          told = h.told;
          went = goes_moved (is_removed o.labels) r.span (span_of g) e (omega arith) h.went;
          good = record {
            all = (let k = h.good.all in record { rises = k.rises; whole = k.whole; within = k.within; absent = k.absent; vacuum = λ v z. absurd (let y = none.2 in cc); marks = marking_moved g.base g.joint g.top g.entry.least g.mark g.place g.register.versions g.entry.value floor [] (omega arith) (omega arith) (sym value ∙ pass.1) k.marks });
            mine = NodeInv-moved g e me o.node (omega arith) (omega arith) (omega arith) away none.0 none.1 none.2 (λ w z l a nz same. nz (same ∙ request)) (sym value ∙ pass.1) (λ a nz. absurd (nz refl)) h.good.mine;
            others = λ n ne. (let f = h.good.others n ne in let u = f.under in
                NodeInv-moved g e n (nodes n) (omega arith) (omega arith) (omega arith) (false_from_ne_true _ (λ t. ne ((f.here t).0 ∙ sym mine))) none.0 none.1 none.2 (λ w z l a nz same. nz (same ∙ request)) (sym value ∙ pass.1) (λ a nz. absurd (nz refl)) f);
            master = λ z. (let k = h.good.master z in record { entry = inr (shut, refl, absent, unmarked); queue = k.queue; vacuum = k.vacuum });
            joined = h.good.joined;
            master_other = λ ne. absurd (ne at);
          };
        },
      )

  pub raise_floor_holds : (low : ℕ) (g : Ghost) (o : Out) → Holds rules ps m me nodes frames r g o → Kept rules ps m me nodes frames r (Rule.raise_floor low o)
  unfolding Rule.raise_floor
  raise_floor_holds low g o h = ⊎_elim
      (λ (at : me ≡ m). (let k = h.good.master at in ⊎_elim
      (λ (e : (o.node.entry ≡ Some g.entry) × (g.base < g.top)). (let y : Kept rules ps m me nodes frames r (with_node (record o.node { floor = floor }) o) = (g, node_holds rules ps m me nodes frames r (record o.node { floor = floor }) g o refl h h.good.mine (λ _. record { entry = inl e; queue = k.queue; vacuum = k.vacuum })) in y))
      (λ (p : (o.node.entry ≡ None) × (g.entry ≡ default_entry m o.node.floor) × (o.node.copy ≡ None) × (g.top ≤ g.base)). ⊎_elim
      (λ (e : floor ≡ o.node.floor). (let y : Kept rules ps m me nodes frames r (with_node (record o.node { floor = floor }) o) =
      (g, node_holds rules ps m me nodes frames r (record o.node { floor = floor }) g o refl h h.good.mine (λ _. record { entry = inr (p.0, p.1 ∙ ap (default_entry m) (sym e), p.2, p.3); queue = k.queue; vacuum = k.vacuum })) in y))
      (λ (ne : floor ≢ o.node.floor). (let u = greater_left o.node.floor low in rise_holds floor g o at p.0 p.1 p.2 p.3 (omega arith) h))
      (cases_eq floor o.node.floor))
      k.entry))
      (λ (ne : me ≢ m). (g, node_holds rules ps m me nodes frames r (record o.node { floor = floor }) g o refl h h.good.mine (λ at. absurd (ne at))))
      (cases_eq me m)
    where
      floor : ℕ
      floor = greater o.node.floor low
