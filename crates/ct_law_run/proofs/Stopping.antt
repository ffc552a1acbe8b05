-- All lines live on when a node stops: each world of its line has the event that the node leaves.
use Rattle.std.proofs.Common.{◌≡◌, ◌≢◌, ℕ, ◌+◌, ◌<◌, ◌≤◌, ◌^◌, Bool, true, false, cond, ◌&&◌, ◌||◌, List, [], ◌∷◌, ◌++◌, Option, None, append-nil, ⊎_elim, refl, sym, ap, ◌∙◌, subst, arith}
use Rattle.std.specs.Prelude.{nat_eq, nat_lt}
use Rattle.std.specs.List.{list_all}
use Rattle.std.proofs.lemmas.Bool.{cases_eq, ne_eqb, eq-eqb}
use Rattle.ct_values.specs.declared.config.Config.{Config}
use Rattle.ct_frame.specs.Fields.{is_node}
use Rattle.ct_call.specs.Rules.{Rules}
use Rattle.ct_rules.specs.State.{rsn_of}
use Rattle.ct_rules_node.specs.Node.{is_among}
use Rattle.ct_rules_cluster.specs.Cluster.{Cluster}
use Rattle.ct_register.specs.Register.{Register, left_by, owner_without}
use Rattle.ct_register.specs.Lines.{Lines, stopped}
use Rattle.ct_register.specs.Words.{at}
use Rattle.ct_register.specs.Marks.{MarksStep}
use Rattle.ct_register.proofs.Places.{at_same, at_other}
use Rattle.ct_law_record.specs.Labels.{AcceptsAll}
use Rattle.ct_law_record.specs.Labels as label
use Rattle.ct_law_record.specs.Marked.{is_removal, is_removed}
use Rattle.ct_law_record.specs.World.{Scene, View, Mail, World, Stepped, Leaves, happens, unlocked}
use Rattle.ct_law_record.proofs.Invariant.{Ghost}
use Rattle.ct_law_record.proofs.Worlds.{WorldInv}
use Rattle.ct_law_record.proofs.MarkedRun.{marks_of, step_marks}
use Rattle.ct_law_generation.specs.Shown.{scene, mails}
use Rattle.ct_law_run.proofs.Ages.{Ages, era_of, LineLives, LinesLive}
use Rattle.ct_law_run.proofs.Begetting.{Same_line, same_lives}

-- the world in which the node has left
abbrev pub with_left : ℕ → World → World
with_left n w = record { nodes = λ k. cond (nat_eq k n) (unlocked (w.nodes n)) (w.nodes k); joined = w.joined; mail = w.mail }

leaves_is : (s : Scene) (w : World) (n : ℕ) → is_among n s.members ≡ true → w.joined n ≡ true → happens s w (Leaves n) ≡ record { world = with_left n w; labels = label.Left n ∷ [] }
leaves_is s w n member there =
    ap (λ (b : Bool). cond b (record { world = record { nodes = λ k. cond (nat_eq k n) (unlocked (w.nodes n)) (w.nodes k); joined = w.joined; mail = w.mail ++ [] }; labels = label.Left n ∷ [] }) (record { world = w; labels = [] })) (both (is_among n s.members) (w.joined n) member there)
    ∙ (let m : w.mail ++ [] ≡ w.mail = append-nil w.mail in λ i. record { world = record { nodes = λ k. cond (nat_eq k n) (unlocked (w.nodes n)) (w.nodes k); joined = w.joined; mail = m i }; labels = label.Left n ∷ [] })
  where
    both : (a b : Bool) → a ≡ true → b ≡ true → (a && b && true) ≡ true
    both true true e k = refl
    both true false e k = absurd (cc)
    both false b e k = absurd (cc)

pub record Leaves_world (s : Scene) (w : World) (r : Register) (g : Ghost) (n : ℕ) : Type 0 where
  pub ghost : Ghost
  pub world : WorldInv s (with_left n w) (left_by n r) ghost
  pub marks : MarksStep false (marks_of g) (marks_of ghost)

pub leaves_world : (s : Scene) (w : World) (r : Register) (g : Ghost) (n : ℕ) → list_all is_node s.members ≡ true → is_among n s.members ≡ true → w.joined n ≡ true → WorldInv s w r g → Leaves_world s w r g n
unfolding is_removed is_removal
leaves_world s w r g n real member there h =
    let e = leaves_is s w n member there in
    let k = step_marks s (Leaves n) w r g real h in
    let told : AcceptsAll s.rules r (label.Left n ∷ []) k.0 = subst (λ (x : Stepped). AcceptsAll s.rules r x.labels k.0) e k.2 in
    let is : k.0 ≡ left_by n r = told.2 ∙ told.1 in record {
      ghost = k.1;
      world = subst (λ (t : Register). WorldInv s (with_left n w) t k.1) is (subst (λ (x : Stepped). WorldInv s x.world k.0 k.1) e k.3);
      marks = subst (λ (x : Stepped). MarksStep (is_removed x.labels) (marks_of g) (marks_of k.1)) e k.4;
    }

module _ (c : Config) (rules : Rules) (w v : Cluster) (r : Lines) (a : Ages) (n g : ℕ) (live : LinesLive c rules w r a) (line : r.line n ≡ g) (born : r.born g ≡ true) (member : is_among n (r.members g) ≡ true)
    (there : (nat_eq g 1 || r.installed g n) ≡ true) (same : (m db : ℕ) (key : List ℕ) → mails m db key v.sent ≡ mails m db key w.sent) where
  pub each : (db : ℕ) (key : List ℕ) → Leaves_world (scene c (era_of r a g) rules db key) (a.worlds g db key) (r.records g db key) (a.ghosts g db key) n
  each db key = (let l = live.line g born in leaves_world (scene c (era_of r a g) rules db key) (a.worlds g db key) (r.records g db key) (a.ghosts g db key) n l.real member (l.joined db key n ∙ there) (l.world db key))

  abbrev pub ages_left : Ages
  ages_left = record {
    worlds = at g (λ db key. with_left n (a.worlds g db key)) a.worlds;
    ghosts = at g (λ db key. (each db key).ghost) a.ghosts;
    tables = a.tables;
  }

  abbrev s : Lines
  s = stopped n r

  here : (db : ℕ) (key : List ℕ) → s.records g db key ≡ left_by n (r.records g db key)
  here db key = ap (λ (rs : ℕ → List ℕ → Register). rs db key) (at_same (r.line n) g _ r.records (sym line)) ∙ ap (λ (j : ℕ). left_by n (r.records j db key)) line

  leaves_line : LineLives c rules v s ages_left g
  leaves_line = (let l = live.line g born in record {
    real = l.real;
    ascend = l.ascend;
    there = l.there;
    world = λ db key. subst (λ (ws : ℕ → List ℕ → World). WorldInv (scene c (era_of r a g) rules db key) (ws db key) (s.records g db key) (ages_left.ghosts g db key)) (sym (at_same g g _ a.worlds refl))
        (subst (λ (t : Register). WorldInv (scene c (era_of r a g) rules db key) (with_left n (a.worlds g db key)) t (ages_left.ghosts g db key)) (sym (here db key))
        (subst (λ (gs : ℕ → List ℕ → Ghost). WorldInv (scene c (era_of r a g) rules db key) (with_left n (a.worlds g db key)) (left_by n (r.records g db key)) (gs db key)) (sym (at_same g g _ a.ghosts refl)) (each db key).world));
    mail = λ db key. ap (λ (ws : ℕ → List ℕ → World). (ws db key).mail) (at_same g g _ a.worlds refl) ∙ l.mail db key ∙ sym (same g db key);
    joined = λ db key m. ap (λ (ws : ℕ → List ℕ → World). (ws db key).joined m) (at_same g g _ a.worlds refl) ∙ l.joined db key m;
    low = subst (λ (ws : ℕ → List ℕ → World). (db : ℕ) (key : List ℕ) (m : ℕ) → (ws db key).joined m ≡ true → rsn_of ((ws db key).nodes m).state.copy < 2 ^ 62) (sym (at_same g g _ a.worlds refl)) all_low;
    rows_low = l.rows_low;
    order = l.order;
  })
    where
      all_low : (db : ℕ) (key : List ℕ) (m : ℕ) → (a.worlds g db key).joined m ≡ true → rsn_of (cond (nat_eq m n) (unlocked ((a.worlds g db key).nodes n)) ((a.worlds g db key).nodes m)).state.copy < 2 ^ 62
      all_low db key m e = ⊎_elim
          (λ (is : m ≡ n). subst (λ (b : Bool). rsn_of (cond b (unlocked ((a.worlds g db key).nodes n)) ((a.worlds g db key).nodes m)).state.copy < 2 ^ 62) (sym (eq-eqb m n is))
          ((live.line g born).low db key n (subst (λ (j : ℕ). (a.worlds g db key).joined j ≡ true) is e)))
          (λ (ne : m ≢ n). subst (λ (b : Bool). rsn_of (cond b (unlocked ((a.worlds g db key).nodes n)) ((a.worlds g db key).nodes m)).state.copy < 2 ^ 62) (sym (ne_eqb m n ne)) ((live.line g born).low db key m e))
          (cases_eq m n)

  apart : (m : ℕ) → r.born m ≡ false → m ≢ r.line n
  apart m e k = absurd (let f = sym e ∙ ap r.born (k ∙ line) ∙ born in cc)

  -- all lines live on
  pub leaves_live : LinesLive c rules v s ages_left
  leaves_live = record {
    first = live.first;
    none = live.none;
    line = λ m e. ⊎_elim
        (λ (k : m ≡ g). subst (λ (j : ℕ). LineLives c rules v s ages_left j) (sym k) leaves_line)
        (λ (ne : m ≢ g). same_lives c rules w v r s a ages_left m (record {
          members = refl;
          installed = refl;
          records = at_other (r.line n) m _ r.records (λ k. ne (k ∙ line));
          worlds = at_other g m _ a.worlds ne;
          ghosts = at_other g m _ a.ghosts ne;
          tables = refl;
          mail = same m;
        }) (live.line m e))
        (cases_eq m g);
    silent = λ m db key e. same m db key ∙ live.silent m db key e;
    uninstalled = live.uninstalled;
    unowned = λ m db key e. ap (λ (rs : ℕ → List ℕ → Register). (rs db key).owner) (at_other (r.line n) m _ r.records (apart m e)) ∙ live.unowned m db key e;
  }

-- and when one stops that is in no line
pub idle_leaves : (c : Config) (rules : Rules) (w v : Cluster) (r : Lines) (a : Ages) (n : ℕ) → LinesLive c rules w r a → r.line n ≡ 0 → ((m db : ℕ) (key : List ℕ) → mails m db key v.sent ≡ mails m db key w.sent) → LinesLive c rules v (stopped n r) a
unfolding owner_without
idle_leaves c rules w v r a n live line same = record {
  first = live.first;
  none = live.none;
  line = λ m e. same_lives c rules w v r (stopped n r) a a m (record {
    members = refl;
    installed = refl;
    records = at_other (r.line n) m _ r.records (λ k. absurd (let f = sym e ∙ ap r.born (k ∙ line) ∙ live.none in cc));
    worlds = refl;
    ghosts = refl;
    tables = refl;
    mail = same m;
  }) (live.line m e);
  silent = λ m db key e. same m db key ∙ live.silent m db key e;
  uninstalled = live.uninstalled;
  unowned = λ m db key e. ⊎_elim
      (λ (k : m ≡ r.line n). ap (λ (rs : ℕ → List ℕ → Register). (rs db key).owner) (at_same (r.line n) m _ r.records k)
      ∙ ap (owner_without n) (live.unowned (r.line n) db key (ap r.born line ∙ live.none)))
      (λ (ne : m ≢ r.line n). ap (λ (rs : ℕ → List ℕ → Register). (rs db key).owner) (at_other (r.line n) m _ r.records ne) ∙ live.unowned m db key e)
      (cases_eq m (r.line n));
}
