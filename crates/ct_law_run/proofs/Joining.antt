-- All lines live on when a node installs one: each of its worlds has the event that the node joins.
use Rattle.std.proofs.Common.{◌≡◌, ◌≢◌, ℕ, ◌+◌, ◌<◌, ◌≤◌, ◌^◌, Bool, true, false, not, cond, ◌&&◌, ◌||◌, List, [], ◌∷◌, ⊎_elim, refl, sym, ap, ◌∙◌, subst, arith, eqb-true}
use Rattle.std.specs.Prelude.{nat_eq, nat_lt}
use Rattle.std.specs.List.{list_all}
use Rattle.std.proofs.lemmas.Bool.{cases_eq, cond_both, ne_eqb, eq-eqb}
use Rattle.ct_values.specs.declared.config.Config.{Config}
use Rattle.ct_frame.specs.Fields.{is_node}
use Rattle.ct_call.specs.Rules.{Rules}
use Rattle.ct_rules.specs.State.{rsn_of}
use Rattle.ct_rules_node.specs.Node.{is_among}
use Rattle.ct_rules_cluster.specs.Cluster.{Cluster}
use Rattle.ct_register.specs.Register.{Register, joined_by}
use Rattle.ct_register.specs.Lines.{Lines, joined}
use Rattle.ct_register.specs.Words.{at}
use Rattle.ct_register.specs.Marks.{MarksStep}
use Rattle.ct_register.proofs.Places.{at_same, at_other}
use Rattle.ct_law_record.specs.Labels.{AcceptsAll}
use Rattle.ct_law_record.specs.Labels as label
use Rattle.ct_law_record.specs.Marked.{is_removal, is_removed}
use Rattle.ct_law_record.specs.World.{Scene, World, Stepped, Joins, happens, joins}
use Rattle.ct_law_record.proofs.Invariant.{Ghost}
use Rattle.ct_law_record.proofs.Worlds.{WorldInv}
use Rattle.ct_law_record.proofs.MarkedRun.{marks_of, step_marks}
use Rattle.ct_law_generation.specs.Shown.{scene, mails}
use Rattle.ct_law_run.proofs.Ages.{Ages, era_of, LineLives, LinesLive}
use Rattle.ct_law_run.proofs.Begetting.{Same_line, same_lives}

-- the world in which the node has joined
abbrev pub with_joined : ℕ → World → World
with_joined n w = record { nodes = w.nodes; joined = λ k. cond (nat_eq k n) true (w.joined k); mail = w.mail }

joins_is : (s : Scene) (w : World) (n : ℕ) → is_among n s.members ≡ true → w.joined n ≡ false → happens s w (Joins n) ≡ record { world = with_joined n w; labels = label.Joined n ∷ [] }
joins_is s w n member out = ap (λ (b : Bool). cond b (record { world = with_joined n w; labels = label.Joined n ∷ [] }) (record { world = w; labels = [] })) (both (is_among n s.members) (w.joined n) member out)
  where
    both : (a b : Bool) → a ≡ true → b ≡ false → (a && not b) ≡ true
    both true false e k = refl
    both true true e k = absurd (cc)
    both false b e k = absurd (cc)

-- a world goes on so: its register is joined by the node, and its marks make a step
pub record Joins_world (s : Scene) (w : World) (r : Register) (g : Ghost) (n : ℕ) : Type 0 where
  pub ghost : Ghost
  pub world : WorldInv s (with_joined n w) (joined_by n r) ghost
  pub marks : MarksStep false (marks_of g) (marks_of ghost)

pub joins_world : (s : Scene) (w : World) (r : Register) (g : Ghost) (n : ℕ) → list_all is_node s.members ≡ true → is_among n s.members ≡ true → w.joined n ≡ false → WorldInv s w r g → Joins_world s w r g n
unfolding is_removed is_removal
joins_world s w r g n real member out h =
    let e = joins_is s w n member out in
    let k = step_marks s (Joins n) w r g real h in
    let told : AcceptsAll s.rules r (label.Joined n ∷ []) k.0 = subst (λ (x : Stepped). AcceptsAll s.rules r x.labels k.0) e k.2 in
    let is : k.0 ≡ joined_by n r = told.2 ∙ told.1 in record {
      ghost = k.1;
      world = subst (λ (t : Register). WorldInv s (with_joined n w) t k.1) is (subst (λ (x : Stepped). WorldInv s x.world k.0 k.1) e k.3);
      marks = subst (λ (x : Stepped). MarksStep (is_removed x.labels) (marks_of g) (marks_of k.1)) e k.4;
    }

module _ (c : Config) (rules : Rules) (w v : Cluster) (r : Lines) (a : Ages) (n g : ℕ) (live : LinesLive c rules w r a) (born : r.born g ≡ true) (member : is_among n (r.members g) ≡ true) (later : 2 ≤ g)
    (out : r.installed g n ≡ false) (low : (db : ℕ) (key : List ℕ) → rsn_of ((a.worlds g db key).nodes n).state.copy < 2 ^ 62)
    (same : (m db : ℕ) (key : List ℕ) → mails m db key v.sent ≡ mails m db key w.sent) where
  not_first : nat_eq g 1 ≡ false
  not_first = ne_eqb g 1 (λ e. absurd (omega arith))

  pub each : (db : ℕ) (key : List ℕ) → Joins_world (scene c (era_of r a g) rules db key) (a.worlds g db key) (r.records g db key) (a.ghosts g db key) n
  each db key = (let l = live.line g born in joins_world (scene c (era_of r a g) rules db key) (a.worlds g db key) (r.records g db key) (a.ghosts g db key) n l.real member
      (l.joined db key n ∙ (λ i. not_first i || out i)) (l.world db key))

  abbrev pub ages_joined : Ages
  ages_joined = record {
    worlds = at g (λ db key. with_joined n (a.worlds g db key)) a.worlds;
    ghosts = at g (λ db key. (each db key).ghost) a.ghosts;
    tables = a.tables;
  }

  abbrev s : Lines
  s = joined g n r

  joins_line : LineLives c rules v s ages_joined g
  joins_line = (let l = live.line g born in record {
    real = l.real;
    ascend = l.ascend;
    there = l.there;
    world = λ db key. subst (λ (ws : ℕ → List ℕ → World). WorldInv (scene c (era_of r a g) rules db key) (ws db key) (s.records g db key) (ages_joined.ghosts g db key)) (sym (at_same g g _ a.worlds refl))
        (subst (λ (rs : ℕ → List ℕ → Register). WorldInv (scene c (era_of r a g) rules db key) (with_joined n (a.worlds g db key)) (rs db key) (ages_joined.ghosts g db key)) (sym (at_same g g _ r.records refl))
        (subst (λ (gs : ℕ → List ℕ → Ghost). WorldInv (scene c (era_of r a g) rules db key) (with_joined n (a.worlds g db key)) (joined_by n (r.records g db key)) (gs db key)) (sym (at_same g g _ a.ghosts refl)) (each db key).world));
    mail = λ db key. ap (λ (ws : ℕ → List ℕ → World). (ws db key).mail) (at_same g g _ a.worlds refl) ∙ l.mail db key ∙ sym (same g db key);
    joined = λ db key m. ap (λ (ws : ℕ → List ℕ → World). (ws db key).joined m) (at_same g g _ a.worlds refl) ∙ has_joined db key m ∙ sym (ap (λ (f : ℕ → Bool). nat_eq g 1 || f m) (at_same g g _ r.installed refl));
    low = subst (λ (ws : ℕ → List ℕ → World). (db : ℕ) (key : List ℕ) (m : ℕ) → (ws db key).joined m ≡ true → rsn_of ((ws db key).nodes m).state.copy < 2 ^ 62) (sym (at_same g g _ a.worlds refl)) all_low;
    rows_low = l.rows_low;
    order = l.order;
  })
    where
      has_joined : (db : ℕ) (key : List ℕ) (m : ℕ) → cond (nat_eq m n) true ((a.worlds g db key).joined m) ≡ (nat_eq g 1 || at n true (r.installed g) m)
      has_joined db key m = ⊎_elim
          (λ (is : m ≡ n). ap (λ (b : Bool). cond b true ((a.worlds g db key).joined m)) (eq-eqb m n is) ∙ sym ((λ i. not_first i || at_same n m true (r.installed g) is i)))
          (λ (ne : m ≢ n). ap (λ (b : Bool). cond b true ((a.worlds g db key).joined m)) (ne_eqb m n ne) ∙ (live.line g born).joined db key m ∙ sym (ap (λ (b : Bool). nat_eq g 1 || b) (at_other n m true (r.installed g) ne)))
          (cases_eq m n)

      all_low : (db : ℕ) (key : List ℕ) (m : ℕ) → cond (nat_eq m n) true ((a.worlds g db key).joined m) ≡ true → rsn_of ((a.worlds g db key).nodes m).state.copy < 2 ^ 62
      all_low db key m = ⊎_elim
          (λ (is : m ≡ n). λ _. subst (λ (j : ℕ). rsn_of ((a.worlds g db key).nodes j).state.copy < 2 ^ 62) (sym is) (low db key))
          (λ (ne : m ≢ n). λ e. (live.line g born).low db key m (sym (ap (λ (b : Bool). cond b true ((a.worlds g db key).joined m)) (ne_eqb m n ne)) ∙ e))
          (cases_eq m n)

  apart : (m : ℕ) → r.born m ≡ false → m ≢ g
  apart m e k = absurd (let f = sym e ∙ ap r.born k ∙ born in cc)

  -- all lines live on
  pub joins_live : LinesLive c rules v s ages_joined
  joins_live = record {
    first = live.first;
    none = live.none;
    line = λ m e. ⊎_elim
        (λ (k : m ≡ g). subst (λ (j : ℕ). LineLives c rules v s ages_joined j) (sym k) joins_line)
        (λ (ne : m ≢ g). same_lives c rules w v r s a ages_joined m (record {
          members = refl;
          installed = at_other g m _ r.installed ne;
          records = at_other g m _ r.records ne;
          worlds = at_other g m _ a.worlds ne;
          ghosts = at_other g m _ a.ghosts ne;
          tables = refl;
          mail = same m;
        }) (live.line m e))
        (cases_eq m g);
    silent = λ m db key e. same m db key ∙ live.silent m db key e;
    uninstalled = λ m k e. ap (λ (f : ℕ → Bool). f k) (at_other g m _ r.installed (apart m e)) ∙ live.uninstalled m k e;
    unowned = λ m db key e. ap (λ (rs : ℕ → List ℕ → Register). (rs db key).owner) (at_other g m _ r.records (apart m e)) ∙ live.unowned m db key e;
  }
