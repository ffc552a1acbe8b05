-- The worlds in which locks of a node end: each has the event that the lock ends, and all lines live on.
use Rattle.std.proofs.Common.{◌≡◌, ◌≢◌, ℕ, ◌<◌, ◌^◌, Bool, true, false, cond, ◌&&◌, ◌||◌, List, [], ◌∷◌, ◌++◌, None, append-nil, ⊎_elim, refl, sym, ap, ◌∙◌, subst}
use Rattle.std.specs.Prelude.{nat_eq, is_some}
use Rattle.std.specs.List.{list_all}
use Rattle.std.proofs.lemmas.Bool.{cases_eq, ne_eqb, eq-eqb}
use Rattle.ct_values.specs.declared.config.Config.{Config}
use Rattle.ct_frame.specs.Fields.{is_node}
use Rattle.ct_call.specs.Rules.{Rules}
use Rattle.ct_rules.specs.State.{rsn_of}
use Rattle.ct_rules_node.specs.Node.{is_among}
use Rattle.ct_rules_cluster.specs.Cluster.{Cluster}
use Rattle.ct_register.specs.Register.{Register, released}
use Rattle.ct_register.specs.Lines.{Lines}
use Rattle.ct_register.specs.Marks.{MarksStep}
use Rattle.ct_register.proofs.Places.{at_same, at_other}
use Rattle.ct_law_record.specs.Labels.{AcceptsAll}
use Rattle.ct_law_record.specs.Labels as label
use Rattle.ct_law_record.specs.Marked.{is_removal, is_removed}
use Rattle.ct_law_record.specs.World.{Scene, View, World, Stepped, Ends, happens, unlocked}
use Rattle.ct_law_record.proofs.Invariant.{Ghost, span_of}
use Rattle.ct_law_record.proofs.Markings.{goes_stays}
use Rattle.ct_law_record.proofs.MarkLists.{marks_go}
use Rattle.ct_law_record.proofs.Worlds.{WorldInv}
use Rattle.ct_law_record.proofs.MarkedRun.{marks_of, step_marks}
use Rattle.ct_law_generation.specs.Shown.{scene, mails}
use Rattle.ct_law_run.proofs.Ages.{Ages, era_of, LinesLive}
use Rattle.ct_law_run.proofs.Later.{Keeps}
use Rattle.ct_law_run.proofs.Moving.{Moved, ages_moved, moved_live}
use Rattle.ct_law_run.proofs.Stopping.{with_left}

-- ---- one world

ends_is : (s : Scene) (w : World) (n : ℕ) → is_among n s.members ≡ true → w.joined n ≡ true → is_some (w.nodes n).state.locked ≡ true → happens s w (Ends n) ≡ record { world = with_left n w; labels = label.Ended n ∷ [] }
ends_is s w n member there locked =
    ap (λ (b : Bool). cond b (record { world = record { nodes = λ k. cond (nat_eq k n) (unlocked (w.nodes n)) (w.nodes k); joined = w.joined; mail = w.mail ++ [] }; labels = label.Ended n ∷ [] }) (record { world = w; labels = [] })) (both (is_among n s.members) (w.joined n) (is_some (w.nodes n).state.locked) member there locked)
    ∙ (let m : w.mail ++ [] ≡ w.mail = append-nil w.mail in λ i. record { world = record { nodes = λ k. cond (nat_eq k n) (unlocked (w.nodes n)) (w.nodes k); joined = w.joined; mail = m i }; labels = label.Ended n ∷ [] })
  where
    both : (a b d : Bool) → a ≡ true → b ≡ true → d ≡ true → (a && b && d) ≡ true
    both true true true e k l = refl
    both true true false e k l = absurd (cc)
    both true false d e k l = absurd (cc)
    both false b d e k l = absurd (cc)

abbrev pub ended_world : ℕ → Bool → World → World
ended_world n b w = cond b (with_left n w) w

abbrev pub ended_register : Bool → Register → Register
ended_register b r = cond b (released r) r

-- a world goes on so: where the lock ends, its node was the owner
pub record Ends_world (s : Scene) (w : World) (r : Register) (g : Ghost) (n : ℕ) (b : Bool) : Type 0 where
  pub ghost : Ghost
  pub world : WorldInv s (ended_world n b w) (ended_register b r) ghost
  pub marks : MarksStep false (marks_of g) (marks_of ghost)

pub ends_world : (s : Scene) (w : World) (r : Register) (g : Ghost) (n : ℕ) (b : Bool) → list_all is_node s.members ≡ true → is_among n s.members ≡ true → w.joined n ≡ true → (b ≡ true → is_some (w.nodes n).state.locked ≡ true) → WorldInv s w r g → Ends_world s w r g n b
unfolding is_removed is_removal
ends_world s w r g n true real member there locked h =
    let e = ends_is s w n member there (locked refl) in
    let k = step_marks s (Ends n) w r g real h in
    let told : AcceptsAll s.rules r (label.Ended n ∷ []) k.0 = subst (λ (x : Stepped). AcceptsAll s.rules r x.labels k.0) e k.2 in
    let is : k.0 ≡ released r = told.2 ∙ told.1.1 in record {
      ghost = k.1;
      world = subst (λ (t : Register). WorldInv s (with_left n w) t k.1) is (subst (λ (x : Stepped). WorldInv s x.world k.0 k.1) e k.3);
      marks = subst (λ (x : Stepped). MarksStep (is_removed x.labels) (marks_of g) (marks_of k.1)) e k.4;
    }
ends_world s w r g n false real member there locked h = record {
  ghost = g;
  world = h;
  marks = marks_go false (span_of g) (span_of g) h.all.marks.under (goes_stays (span_of g));
}

-- ---- all lines

-- what is asked: node n is in line g, the lock is there wherever one ends, and the registers of the line go on so
pub record Freeing (c : Config) (w v : Cluster) (r : Lines) (a : Ages) (n g : ℕ) (hit : ℕ → List ℕ → Bool) (records : ℕ → ℕ → List ℕ → Register) : Type 0 where
  pub line : r.line n ≡ g
  pub born : r.born g ≡ true
  pub member : is_among n (r.members g) ≡ true
  pub there : (nat_eq g 1 || r.installed g n) ≡ true
  pub locked : (db : ℕ) (key : List ℕ) → hit db key ≡ true → is_some ((a.worlds g db key).nodes n).state.locked ≡ true
  pub registers : (db : ℕ) (key : List ℕ) → records g db key ≡ ended_register (hit db key) (r.records g db key)
  pub elsewhere : (m : ℕ) → m ≢ g → records m ≡ r.records m
  pub same : (m db : ℕ) (key : List ℕ) → mails m db key v.sent ≡ mails m db key w.sent

module _ (c : Config) (rules : Rules) (w v : Cluster) (r : Lines) (a : Ages) (n g : ℕ) (hit : ℕ → List ℕ → Bool) (records : ℕ → ℕ → List ℕ → Register) (live : LinesLive c rules w r a) (is : Freeing c w v r a n g hit records) where
  pub each : (db : ℕ) (key : List ℕ) → Ends_world (scene c (era_of r a g) rules db key) (a.worlds g db key) (r.records g db key) (a.ghosts g db key) n (hit db key)
  each db key = (let l = live.line g is.born in ends_world (scene c (era_of r a g) rules db key) (a.worlds g db key) (r.records g db key) (a.ghosts g db key) n (hit db key) l.real is.member (l.joined db key n ∙ is.there) (is.locked db key) (l.world db key))

  abbrev pub worlds : ℕ → List ℕ → World
  worlds db key = ended_world n (hit db key) (a.worlds g db key)

  abbrev pub ghosts : ℕ → List ℕ → Ghost
  ghosts db key = (each db key).ghost

  joined_same : (b : Bool) (x : World) (m : ℕ) → (ended_world n b x).joined m ≡ x.joined m
  joined_same true x m = refl
  joined_same false x m = refl

  copy_same : (b : Bool) (x : World) (m : ℕ) → ((ended_world n b x).nodes m).state.copy ≡ (x.nodes m).state.copy
  copy_same true x m = ⊎_elim
      (λ (k : m ≡ n). ap (λ (t : Bool). (cond t (unlocked (x.nodes n)) (x.nodes m)).state.copy) (eq-eqb m n k) ∙ sym (ap (λ (j : ℕ). (x.nodes j).state.copy) k))
      (λ (ne : m ≢ n). ap (λ (t : Bool). (cond t (unlocked (x.nodes n)) (x.nodes m)).state.copy) (ne_eqb m n ne))
      (cases_eq m n)
  copy_same false x m = refl

  mail_same : (b : Bool) (x : World) → (ended_world n b x).mail ≡ x.mail
  mail_same true x = refl
  mail_same false x = refl

  pub moved : Moved c rules w v r a g records worlds ghosts
  moved = record {
    born = is.born;
    world = λ db key. subst (λ (t : Register). WorldInv (scene c (era_of r a g) rules db key) (worlds db key) t (ghosts db key)) (sym (is.registers db key)) (each db key).world;
    mail = λ db key. mail_same (hit db key) (a.worlds g db key) ∙ (live.line g is.born).mail db key ∙ sym (is.same g db key);
    joined = λ db key m. joined_same (hit db key) (a.worlds g db key) m;
    low = λ db key m e. subst (λ (k : ℕ). k < 2 ^ 62) (sym (ap rsn_of (copy_same (hit db key) (a.worlds g db key) m))) ((live.line g is.born).low db key m (sym (joined_same (hit db key) (a.worlds g db key) m) ∙ e));
    same_records = is.elsewhere;
    same_mails = λ m db key ne. is.same m db key;
  }

  abbrev pub ages : Ages
  ages = ages_moved c rules w v r a g records worlds ghosts live moved

  pub freed_live : LinesLive c rules v (record r { records = records }) ages
  freed_live = moved_live c rules w v r a g records worlds ghosts live moved

  -- what the worlds have of each node
  pub here : (db : ℕ) (key : List ℕ) → (ages.worlds g db key).nodes n ≡ cond (hit db key) (unlocked ((a.worlds g db key).nodes n)) ((a.worlds g db key).nodes n)
  here db key = ap (λ (ws : ℕ → List ℕ → World). (ws db key).nodes n) (at_same g g worlds a.worlds refl) ∙ own (hit db key)
    where
      own : (b : Bool) → (ended_world n b (a.worlds g db key)).nodes n ≡ cond b (unlocked ((a.worlds g db key).nodes n)) ((a.worlds g db key).nodes n)
      own true = ap (λ (t : Bool). cond t (unlocked ((a.worlds g db key).nodes n)) ((a.worlds g db key).nodes n)) (eq-eqb n n refl)
      own false = refl

  pub other_line : (m db : ℕ) (key : List ℕ) → m ≢ g → ages.worlds m db key ≡ a.worlds m db key
  other_line m db key ne = ap (λ (ws : ℕ → List ℕ → World). ws db key) (at_other g m worlds a.worlds ne)

  pub other_node : (k : ℕ) → k ≢ n → (m db : ℕ) (key : List ℕ) → (ages.worlds m db key).nodes k ≡ (a.worlds m db key).nodes k
  other_node k ne m db key = ⊎_elim
      (λ (is : m ≡ g). ap (λ (ws : ℕ → List ℕ → World). (ws db key).nodes k) (at_same g m worlds a.worlds is) ∙ theirs (hit db key) ∙ sym (ap (λ (j : ℕ). (a.worlds j db key).nodes k) is))
      (λ (no : m ≢ g). ap (λ (x : World). x.nodes k) (other_line m db key no))
      (cases_eq m g)
    where
      theirs : (b : Bool) → (ended_world n b (a.worlds g db key)).nodes k ≡ (a.worlds g db key).nodes k
      theirs true = ap (λ (t : Bool). cond t (unlocked ((a.worlds g db key).nodes n)) ((a.worlds g db key).nodes k)) (ne_eqb k n ne)
      theirs false = refl

  pub copies : (m db : ℕ) (key : List ℕ) (k : ℕ) → ((ages.worlds m db key).nodes k).state.copy ≡ ((a.worlds m db key).nodes k).state.copy
  copies m db key k = ⊎_elim
      (λ (is : m ≡ g). ap (λ (ws : ℕ → List ℕ → World). ((ws db key).nodes k).state.copy) (at_same g m worlds a.worlds is) ∙ copy_same (hit db key) (a.worlds g db key) k ∙ sym (ap (λ (j : ℕ). ((a.worlds j db key).nodes k).state.copy) is))
      (λ (no : m ≢ g). ap (λ (x : World). (x.nodes k).state.copy) (other_line m db key no))
      (cases_eq m g)

  -- the node keeps its copies, and what it has not locked
  pub keeps : (m db : ℕ) (key : List ℕ) → Keeps ((a.worlds m db key).nodes n) ((ages.worlds m db key).nodes n)
  keeps m db key = record {
    copy = copies m db key n;
    free = λ f. ⊎_elim
        (λ (is : m ≡ g). ap (λ (j : ℕ). ((ages.worlds j db key).nodes n).state.locked) is ∙ ap (λ (x : View). x.state.locked) (here db key) ∙ still (hit db key) ((a.worlds g db key).nodes n) (ap (λ (j : ℕ). ((a.worlds j db key).nodes n).state.locked) (sym is) ∙ f))
        (λ (no : m ≢ g). ap (λ (x : World). (x.nodes n).state.locked) (other_line m db key no) ∙ f)
        (cases_eq m g);
  }
    where
      still : (b : Bool) (x : View) → x.state.locked ≡ None → (cond b (unlocked x) x).state.locked ≡ None
      still true x f = refl
      still false x f = f

  -- and their marks go on
  pub marks : (m db : ℕ) (key : List ℕ) → r.born m ≡ true → MarksStep false (marks_of (a.ghosts m db key)) (marks_of (ages.ghosts m db key))
  unfolding is_removed
  marks m db key born = ⊎_elim
      (λ (is : m ≡ g). subst (λ (j : ℕ). MarksStep false (marks_of (a.ghosts j db key)) (marks_of (ages.ghosts j db key))) (sym is)
      (subst (λ (gs : ℕ → List ℕ → Ghost). MarksStep false (marks_of (a.ghosts g db key)) (marks_of (gs db key))) (sym (at_same g g ghosts a.ghosts refl)) (each db key).marks))
      (λ (no : m ≢ g). subst (λ (gs : ℕ → List ℕ → Ghost). MarksStep false (marks_of (a.ghosts m db key)) (marks_of (gs db key))) (sym (at_other g m ghosts a.ghosts no))
      (marks_go false (span_of (a.ghosts m db key)) (span_of (a.ghosts m db key)) ((live.line m born).world db key).all.marks.under (goes_stays (span_of (a.ghosts m db key)))))
      (cases_eq m g)
