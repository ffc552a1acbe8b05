-- What a client may still do at a node that freezes, under a lock: in the world of the record it is one event, and all lines live on.
use Rattle.std.proofs.Common.{◌≡◌, ◌≢◌, ℕ, ◌<◌, ◌^◌, Bool, true, false, cond, ◌&&◌, ◌||◌, List, [], ◌∷◌, ◌++◌, None, Some, append-nil, ⊎_elim, refl, sym, ap, ◌∙◌, subst}
use Rattle.std.specs.Prelude.{nat_eq, is_some, is_none}
use Rattle.std.specs.List.{list_all}
use Rattle.std.proofs.lemmas.Bool.{cases_eq, ne_eqb, eq-eqb, cases_Bool}
use Rattle.ct_values.specs.Client.{is_read, wants_record}
use Rattle.ct_values.specs.declared.client.Answer.{Answer}
use Rattle.ct_values.specs.declared.client.Answer.TheVariants as answer
use Rattle.ct_values.specs.declared.client.ClientOp.{ClientOp}
use Rattle.ct_values.specs.declared.client.ClientOp.TheVariants as op
use Rattle.ct_values.specs.declared.config.Config.{Config}
use Rattle.ct_frame.specs.Fields.{is_node}
use Rattle.ct_call.specs.Rules.{Rules}
use Rattle.ct_rules.specs.State.{rsn_of, value_of, with_value, is_mastered}
use Rattle.ct_rules.specs.Parts.{performs, reply, keeps}
use Rattle.ct_rules.specs.Moves.{store, release}
use Rattle.ct_rules.specs.declared.event.Act.TheVariants as act
use Rattle.ct_rules.specs.declared.state.RecState.{RecState}
use Rattle.ct_rules_node.specs.Node.{is_among}
use Rattle.ct_rules_cluster.specs.Cluster.{Cluster}
use Rattle.ct_register.specs.Register.{Register, Accepts}
use Rattle.ct_register.specs.Lines.{Lines}
use Rattle.ct_register.specs.Marks.{MarksStep}
use Rattle.ct_register.specs.Words.{at, at_key}
use Rattle.ct_register.proofs.Places.{at_same, at_other, at_key_same, at_key_other}
use Rattle.ct_law_record.specs.Labels.{AcceptsAll}
use Rattle.ct_law_record.specs.Labels as label
use Rattle.ct_law_record.specs.Marked.{is_removal, is_removed}
use Rattle.ct_law_record.specs.World.{Scene, View, World, Event, Stepped, Wants, Stores, Releases, place, starts, told, answers, call_of, sent, sends, own_call, may_want, put, happens}
use Rattle.ct_law_record.proofs.Invariant.{Ghost, span_of}
use Rattle.ct_law_record.proofs.Markings.{goes_stays}
use Rattle.ct_law_record.proofs.MarkLists.{marks_go}
use Rattle.ct_law_record.proofs.Worlds.{WorldInv}
use Rattle.ct_law_record.proofs.MarkedRun.{marks_of, step_marks}
use Rattle.ct_law_generation.specs.Shown.{scene, mails, is_it}
use Rattle.ct_law_generation.proofs.Amid.{apart, put_world}
use Rattle.ct_law_generation.proofs.Weave.{it_is}
use Rattle.ct_law_run.proofs.Ages.{Ages, era_of, LinesLive}
use Rattle.ct_law_run.proofs.Moving.{Moved, ages_moved, moved_live}
use Rattle.ct_law_run.proofs.Resting.{locked_read}

-- ---- the events

-- the world in which the node has this view
abbrev pub with_view : ℕ → View → World → World
with_view n v w = record { nodes = λ k. cond (nat_eq k n) v (w.nodes k); joined = w.joined; mail = w.mail }

abbrev pub in_state : RecState → View → View
in_state s v = record v { state = s }

-- the event answers the call and leaves this state
abbrev pub Holds_so : Scene → World → ℕ → Event → RecState → ClientOp → Answer → Type 0
Holds_so s w n e left asked a = happens s w e ≡ record { world = with_view n (in_state left (w.nodes n)) w; labels = label.Told n asked a ∷ [] }

told_own : (n call : ℕ) (asked : ClientOp) (a : Answer) → told n (own_call call asked) (act.Answer call a ∷ []) ≡ label.Told n asked a ∷ []
unfolding told answers call_of own_call
told_own n call asked a = ap (λ (b : Bool). answers n (cond b (Some asked) None) (act.Answer call a) ++ []) (eq-eqb call call refl)

replied_is : (s : Scene) (w : World) (n call : ℕ) (left : RecState) (asked : ClientOp) (a : Answer) → is_among n s.members ≡ true → w.joined n ≡ true →
    put s w n (own_call call asked) (reply call a (keeps left (starts (w.nodes n)))) ≡ record { world = with_view n (in_state left (w.nodes n)) w; labels = label.Told n asked a ∷ [] }
unfolding reply keeps performs sent sends
replied_is s w n call left asked a member there =
    put_world s w n (own_call call asked) (reply call a (keeps left (starts (w.nodes n)))) member there refl
    ∙ (let m : w.mail ++ [] ≡ w.mail = append-nil w.mail in let l = told_own n call asked a in λ i. record { world = record { nodes = λ k. cond (nat_eq k n) (in_state left (w.nodes n)) (w.nodes k); joined = w.joined; mail = m i }; labels = l i })

chosen : (b : Bool) (x y : Stepped) → b ≡ true → cond b x y ≡ x
chosen true x y e = refl
chosen false x y e = absurd (cc)

pub stores_so : (s : Scene) (w : World) (n call : ℕ) (v : List ℕ) → is_among n s.members ≡ true → w.joined n ≡ true → is_some (w.nodes n).state.locked ≡ true →
    Holds_so s w n (Stores n call v) (record (w.nodes n).state { copy = with_value v (w.nodes n).state.copy }) (op.Store s.db s.key v) answer.Stored
unfolding store
stores_so s w n call v member there locked = chosen (is_some (w.nodes n).state.locked) _ _ locked ∙ replied_is s w n call (record (w.nodes n).state { copy = with_value v (w.nodes n).state.copy }) (op.Store s.db s.key v) answer.Stored member there

pub releases_so : (s : Scene) (w : World) (n call : ℕ) → is_among n s.members ≡ true → w.joined n ≡ true → is_some (w.nodes n).state.locked ≡ true →
    Holds_so s w n (Releases n call) (record (w.nodes n).state { locked = None }) (op.Unlock s.db s.key) answer.Unlocked
unfolding release
releases_so s w n call member there locked = chosen (is_some (w.nodes n).state.locked) _ _ locked ∙ replied_is s w n call (record (w.nodes n).state { locked = None }) (op.Unlock s.db s.key) answer.Unlocked member there

pub reads_so : (s : Scene) (w : World) (n call : ℕ) → is_among n s.members ≡ true → w.joined n ≡ true → is_none (w.nodes n).state.locked ≡ false → is_none (w.nodes n).state.wish ≡ true → is_mastered n (w.nodes n).state.copy ≡ true →
    Holds_so s w n (Wants n call (op.Read s.db s.key)) (w.nodes n).state (op.Read s.db s.key) (answer.Read (value_of (w.nodes n).state.copy))
unfolding may_want wants_record is_read reply keeps performs
reads_so s w n call member there locked free mine =
    chosen (may_want (w.nodes n).state (op.Read s.db s.key)) _ _ (ap (λ (b : Bool). true && b && true) free)
    ∙ ap (put s w n (own_call call (op.Read s.db s.key))) (locked_read (place s n (w.nodes n)) s.rules call s.db s.key (starts (w.nodes n)) locked mine)
    ∙ replied_is s w n call (w.nodes n).state (op.Read s.db s.key) (answer.Read (value_of (w.nodes n).state.copy)) member there

-- ---- one world

pub record Held_world (s : Scene) (w : World) (r : Register) (g : Ghost) (n : ℕ) (left : RecState) (asked : ClientOp) (a : Answer) : Type 0 where
  pub register : Register
  pub ghost : Ghost
  pub accepted : Accepts s.rules n asked a r register
  pub world : WorldInv s (with_view n (in_state left (w.nodes n)) w) register ghost
  pub marks : MarksStep false (marks_of g) (marks_of ghost)

pub held_world : (s : Scene) (w : World) (r : Register) (g : Ghost) (n : ℕ) (e : Event) (left : RecState) (asked : ClientOp) (a : Answer) → list_all is_node s.members ≡ true → Holds_so s w n e left asked a → WorldInv s w r g → Held_world s w r g n left asked a
unfolding is_removed is_removal
held_world s w r g n e left asked a real so h =
    let k = step_marks s e w r g real h in
    let told : AcceptsAll s.rules r (label.Told n asked a ∷ []) k.0 = subst (λ (x : Stepped). AcceptsAll s.rules r x.labels k.0) so k.2 in record {
      register = k.0;
      ghost = k.1;
      accepted = subst (λ (t : Register). Accepts s.rules n asked a r t) (sym told.2) told.1;
      world = subst (λ (x : Stepped). WorldInv s x.world k.0 k.1) so k.3;
      marks = subst (λ (x : Stepped). MarksStep (is_removed x.labels) (marks_of g) (marks_of k.1)) so k.4;
    }

-- ---- one record among all

abbrev pub put_at : {X : Type 0} → ℕ → List ℕ → X → (ℕ → List ℕ → X) → ℕ → List ℕ → X
put_at db key x f = at db (at_key key x (f db)) f

pub put_same : {X : Type 0} (db : ℕ) (key : List ℕ) (x : X) (f : ℕ → List ℕ → X) → put_at db key x f db key ≡ x
put_same {X} db key x f = ap (λ (q : List ℕ → X). q key) (at_same db db _ f refl) ∙ at_key_same key key x (f db) refl

pub put_other : {X : Type 0} (db d : ℕ) (key k : List ℕ) (x : X) (f : ℕ → List ℕ → X) → is_it d k db key ≡ false → put_at db key x f d k ≡ f d k
put_other {X} db d key k x f unlike = ⊎_elim
    (λ (ne : d ≢ db). ap (λ (q : List ℕ → X). q k) (at_other db d _ f ne))
    (λ (p : (d ≡ db) × (k ≢ key)). ap (λ (q : List ℕ → X). q k) (at_same db d _ f p.0) ∙ at_key_other key k x (f db) p.1 ∙ sym (ap (λ (j : ℕ). f j k) p.0))
    (apart d db k key unlike)

-- what holds of the new one, and of all old ones, holds of each
put_each : (P : ℕ → List ℕ → World → Register → Ghost → Type 0) (db : ℕ) (key : List ℕ) (x : World) (y : Register) (z : Ghost) (f : ℕ → List ℕ → World) (g : ℕ → List ℕ → Register) (h : ℕ → List ℕ → Ghost) →
    P db key x y z → ((d : ℕ) (k : List ℕ) → P d k (f d k) (g d k) (h d k)) → (d : ℕ) (k : List ℕ) → P d k (put_at db key x f d k) (put_at db key y g d k) (put_at db key z h d k)
put_each P db key x y z f g h new old d k = ⊎_elim
    (λ (t : is_it d k db key ≡ true). (let p = it_is d db k key t in
    subst (λ (q : List ℕ). P d q (put_at db key x f d q) (put_at db key y g d q) (put_at db key z h d q)) p.1
    (subst (λ (j : ℕ). P j key (put_at db key x f j key) (put_at db key y g j key) (put_at db key z h j key)) p.0
    (subst (λ (q : World). P db key q (put_at db key y g db key) (put_at db key z h db key)) (sym (put_same db key x f))
    (subst (λ (q : Register). P db key x q (put_at db key z h db key)) (sym (put_same db key y g))
    (subst (λ (q : Ghost). P db key x y q) (sym (put_same db key z h)) new))))))
    (λ (no : is_it d k db key ≡ false).
    subst (λ (q : World). P d k q (put_at db key y g d k) (put_at db key z h d k)) (sym (put_other db d key k x f no))
    (subst (λ (q : Register). P d k (f d k) q (put_at db key z h d k)) (sym (put_other db d key k y g no))
    (subst (λ (q : Ghost). P d k (f d k) (g d k) q) (sym (put_other db d key k z h no)) (old d k))))
    (cases_Bool (is_it d k db key))

-- ---- all lines

-- what is asked: node n is in line g, the event leaves this state of its record there, whose copy has the RSN that it had, and no message is sent
pub record Holding (c : Config) (rules : Rules) (w v : Cluster) (r : Lines) (a : Ages) (n g db : ℕ) (key : List ℕ) (e : Event) (left : RecState) (asked : ClientOp) (given : Answer) : Type 0 where
  pub line : r.line n ≡ g
  pub born : r.born g ≡ true
  pub member : is_among n (r.members g) ≡ true
  pub there : (nat_eq g 1 || r.installed g n) ≡ true
  pub so : Holds_so (scene c (era_of r a g) rules db key) (a.worlds g db key) n e left asked given
  pub rsn : rsn_of left.copy ≡ rsn_of ((a.worlds g db key).nodes n).state.copy
  pub same : (m d : ℕ) (k : List ℕ) → mails m d k v.sent ≡ mails m d k w.sent

module _ (c : Config) (rules : Rules) (w v : Cluster) (r : Lines) (a : Ages) (n g db : ℕ) (key : List ℕ) (e : Event) (left : RecState) (asked : ClientOp) (given : Answer) (live : LinesLive c rules w r a)
    (is : Holding c rules w v r a n g db key e left asked given) where
  pub here : Held_world (scene c (era_of r a g) rules db key) (a.worlds g db key) (r.records g db key) (a.ghosts g db key) n left asked given
  here = (let l = live.line g is.born in held_world (scene c (era_of r a g) rules db key) (a.worlds g db key) (r.records g db key) (a.ghosts g db key) n e left asked given l.real is.so (l.world db key))

  abbrev pub new_world : World
  new_world = with_view n (in_state left ((a.worlds g db key).nodes n)) (a.worlds g db key)

  abbrev pub worlds : ℕ → List ℕ → World
  worlds = put_at db key new_world (a.worlds g)

  abbrev pub ghosts : ℕ → List ℕ → Ghost
  ghosts = put_at db key here.ghost (a.ghosts g)

  abbrev pub records : ℕ → ℕ → List ℕ → Register
  records = at g (put_at db key here.register (r.records g)) r.records

  Low : ℕ → List ℕ → World → Register → Ghost → Type 0
  Low d k x y z = (m : ℕ) → x.joined m ≡ true → rsn_of (x.nodes m).state.copy < 2 ^ 62

  new_low : Low db key new_world here.register here.ghost
  unfolding Low
  new_low m i = ⊎_elim
      (λ (k : m ≡ n). subst (λ (t : Bool). rsn_of (cond t (in_state left ((a.worlds g db key).nodes n)) ((a.worlds g db key).nodes m)).state.copy < 2 ^ 62) (sym (eq-eqb m n k))
      (subst (λ (j : ℕ). j < 2 ^ 62) (sym is.rsn) ((live.line g is.born).low db key n (subst (λ (j : ℕ). (a.worlds g db key).joined j ≡ true) k i))))
      (λ (ne : m ≢ n). subst (λ (t : Bool). rsn_of (cond t (in_state left ((a.worlds g db key).nodes n)) ((a.worlds g db key).nodes m)).state.copy < 2 ^ 62) (sym (ne_eqb m n ne)) ((live.line g is.born).low db key m i))
      (cases_eq m n)

  pub moved : Moved c rules w v r a g records worlds ghosts
  unfolding Low
  moved = record {
    born = is.born;
    world = λ d k. subst (λ (rs : ℕ → List ℕ → Register). WorldInv (scene c (era_of r a g) rules d k) (worlds d k) (rs d k) (ghosts d k)) (sym (at_same g g _ r.records refl))
        (put_each (λ d k x y z. WorldInv (scene c (era_of r a g) rules d k) x y z) db key new_world here.register here.ghost (a.worlds g) (r.records g) (a.ghosts g) here.world (λ d k. (live.line g is.born).world d k) d k);
    mail = λ d k. put_each (λ d k x y z. x.mail ≡ mails g d k v.sent) db key new_world here.register here.ghost (a.worlds g) (r.records g) (a.ghosts g) ((live.line g is.born).mail db key ∙ sym (is.same g db key)) (λ d k. (live.line g is.born).mail d k ∙ sym (is.same g d k)) d k;
    joined = λ d k m. put_each (λ d k x y z. x.joined m ≡ (a.worlds g d k).joined m) db key new_world here.register here.ghost (a.worlds g) (r.records g) (a.ghosts g) refl (λ d k. refl) d k;
    low = λ d k. put_each Low db key new_world here.register here.ghost (a.worlds g) (r.records g) (a.ghosts g) new_low (λ d k. (live.line g is.born).low d k) d k;
    same_records = λ m ne. at_other g m _ r.records ne;
    same_mails = λ m d k ne. is.same m d k;
  }

  abbrev pub ages : Ages
  ages = ages_moved c rules w v r a g records worlds ghosts live moved

  -- all lines live on
  pub held_live : LinesLive c rules v (record r { records = records }) ages
  held_live = moved_live c rules w v r a g records worlds ghosts live moved

  -- what the worlds have of the node
  pub own_view : (ages.worlds g db key).nodes n ≡ in_state left ((a.worlds g db key).nodes n)
  own_view = ap (λ (ws : ℕ → List ℕ → World). (ws db key).nodes n) (at_same g g worlds a.worlds refl) ∙ ap (λ (x : World). x.nodes n) (put_same db key new_world (a.worlds g)) ∙ ap (λ (t : Bool). cond t (in_state left ((a.worlds g db key).nodes n)) ((a.worlds g db key).nodes n)) (eq-eqb n n refl)

  pub other_view : (d : ℕ) (k : List ℕ) → is_it d k db key ≡ false → (ages.worlds g d k).nodes n ≡ (a.worlds g d k).nodes n
  other_view d k unlike = ap (λ (ws : ℕ → List ℕ → World). (ws d k).nodes n) (at_same g g worlds a.worlds refl) ∙ ap (λ (x : World). x.nodes n) (put_other db d key k new_world (a.worlds g) unlike)

  pub other_node : (j : ℕ) → j ≢ n → (m d : ℕ) (k : List ℕ) → (ages.worlds m d k).nodes j ≡ (a.worlds m d k).nodes j
  other_node j ne m d k = ⊎_elim
      (λ (i : m ≡ g). ap (λ (ws : ℕ → List ℕ → World). (ws d k).nodes j) (at_same g m worlds a.worlds i)
      ∙ put_each (λ d k x y z. x.nodes j ≡ (a.worlds g d k).nodes j) db key new_world here.register here.ghost (a.worlds g) (r.records g) (a.ghosts g) (ap (λ (t : Bool). cond t (in_state left ((a.worlds g db key).nodes n)) ((a.worlds g db key).nodes j)) (ne_eqb j n ne)) (λ d k. refl) d k
      ∙ sym (ap (λ (q : ℕ). (a.worlds q d k).nodes j) i))
      (λ (no : m ≢ g). ap (λ (ws : ℕ → List ℕ → World). (ws d k).nodes j) (at_other g m worlds a.worlds no))
      (cases_eq m g)

  -- and their marks go on
  pub marks : (m d : ℕ) (k : List ℕ) → r.born m ≡ true → MarksStep false (marks_of (a.ghosts m d k)) (marks_of (ages.ghosts m d k))
  unfolding is_removed
  marks m d k born = ⊎_elim
      (λ (i : m ≡ g). subst (λ (j : ℕ). MarksStep false (marks_of (a.ghosts j d k)) (marks_of (ages.ghosts j d k))) (sym i)
      (subst (λ (gs : ℕ → List ℕ → Ghost). MarksStep false (marks_of (a.ghosts g d k)) (marks_of (gs d k))) (sym (at_same g g ghosts a.ghosts refl))
      (put_each (λ d k x y z. MarksStep false (marks_of (a.ghosts g d k)) (marks_of z)) db key new_world here.register here.ghost (a.worlds g) (r.records g) (a.ghosts g) here.marks
      (λ d k. marks_go false (span_of (a.ghosts g d k)) (span_of (a.ghosts g d k)) ((live.line g is.born).world d k).all.marks.under (goes_stays (span_of (a.ghosts g d k)))) d k)))
      (λ (no : m ≢ g). subst (λ (gs : ℕ → List ℕ → Ghost). MarksStep false (marks_of (a.ghosts m d k)) (marks_of (gs d k))) (sym (at_other g m ghosts a.ghosts no))
      (marks_go false (span_of (a.ghosts m d k)) (span_of (a.ghosts m d k)) ((live.line m born).world d k).all.marks.under (goes_stays (span_of (a.ghosts m d k)))))
      (cases_eq m g)
