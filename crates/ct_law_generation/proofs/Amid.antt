-- A step at one record of a node, in the world of each record.
use Rattle.std.proofs.Common.{◌≡◌, ◌≢◌, ℕ, ◌<◌, ◌≤◌, Bool, true, false, cond, List, [], ◌∷◌, ◌++◌, map, length, Option, refl, sym, ap, ◌∙◌, append-nil, arith, subst, ⊎_elim, inl, inr, append_assoc}
use Rattle.std.specs.Prelude.{nat_eq, not, ◌&&◌, ◌||◌, ◌⊎◌}
use Rattle.std.proofs.lemmas.Bool.{cases_eq, eq-eqb, or_right}
use Rattle.ct_values.specs.declared.client.ClientOp.{ClientOp}
use Rattle.ct_values.specs.declared.config.Config.{Config}
use Rattle.ct_frame.specs.declared.event.Out.{Out}
use Rattle.ct_call.specs.Rules.{Rules}
use Rattle.ct_store.specs.Map.{look}
use Rattle.ct_rules.specs.Messages.{greater}
use Rattle.ct_law_rules.specs.Laws.{Grows}
use Rattle.ct_rules.specs.Moves.{begins}
use Rattle.ct_rules.specs.Parts.{Moving}
use Rattle.ct_rules.specs.declared.event.Place.{Place}
use Rattle.ct_rules_node.specs.Node.{Node, Database, db_at, with_db, state_at, or_nothing, master_of, is_among}
use Rattle.ct_rules_node.specs.Turn.{Turn}
use Rattle.ct_rules_node.specs.Records as node
use Rattle.ct_rules_node.specs.Records.{out_of, put_back, acted, at_record, place_of}
use Rattle.ct_law_rules_node.specs.NodeLaws.{unless_blank, NodeAscends, left_by}
use Rattle.ct_law_rules_node.proofs.AtRecord.{moves_at, at_set}
use Rattle.ct_rules_cluster.specs.Steps.{frames_of}
use Rattle.ct_rules_cluster.specs.declared.step.PendingCall.{PendingCall}
use Rattle.ct_law_record.specs.Labels as law
use Rattle.ct_law_record.specs.World.{Scene, View, Mail, World, Event, Rises, place, view_of, told, sent, Stepped, put, happens, waiting_call}
use Rattle.ct_law_generation.specs.Shown.{Era, scene, view, is_it, mails, told_by_all, heard, AllAsked, labels_of, Finds, amid, Comes_by}
use Rattle.ct_law_generation.proofs.Weave.{it_is_itself}
use Rattle.ct_law_generation.proofs.Speaking.{Told}
use Rattle.ct_law_generation.proofs.Hearing.{frames_more, mails_more, mails_same, mails_other, labels_more, told_by_more}
use Rattle.ct_law_generation.proofs.Telling.{hear_same, hear_other}

-- ---- the node after the step

pub seen_same : (c : Config) (n db : ℕ) (key : List ℕ) (part : Place → Moving → Moving) (t : Turn) (o : Moving) → left_by c n db key part t ≡ o → NodeAscends t.node → db < length t.node.dbs → or_nothing (unless_blank o.state) ≡ o.state →
    view db key (at_record c n db key part t).node ≡ view_of o
unfolding at_record acted put_back with_db db_at
seen_same c n db key part t o e h l k =
    let m = moves_at c n db key part t h in
    let state : state_at db key (at_record c n db key part t).node ≡ o.state = m.seen l ∙ ap (λ (x : Moving). or_nothing (unless_blank x.state)) e ∙ k in
    let floor : (db_at db (at_record c n db key part t).node).floor ≡ o.floor = ap (λ (d : Database). d.floor) (at_set t.node.dbs db _ l) ∙ ap (λ (x : Moving). x.floor) e in
    let next : (at_record c n db key part t).node.next ≡ o.next = ap (λ (x : Moving). x.next) e in
    λ i. record { state = state i; next = next i; floor = floor i }

-- ---- small words

pub if_same : {X : Type 0} (b : Bool) (x y z : X) → cond b x (cond b y z) ≡ cond b x z
if_same true x y z = refl
if_same false x y z = refl

pub place_is : (c : Config) (era : Era) (rules : Rules) (n db : ℕ) (key : List ℕ) (t : Node) → t.members ≡ era.members → place_of c n db key t ≡ place (scene c era rules db key) n (view db key t)
unfolding place_of
place_is c era rules n db key t e = ap (λ (ms : List ℕ). place (record (scene c era rules db key) { lmaster = master_of ms key }) n (view db key t)) e

-- the node's own place in the world
pub self : (g : ℕ) (db : ℕ) (key : List ℕ) (n : ℕ) (w : World) (t : Turn) → (amid g db key n w t).nodes n ≡ view db key t.node
self g db key n w t = ap (λ (b : Bool). cond b (view db key t.node) (w.nodes n)) (eq-eqb n n refl)

-- who takes a step has joined
pub here : (w : World) (n : ℕ) → (w.joined n || nat_eq n n) ≡ true
here w n = or_right (w.joined n) (nat_eq n n) (eq-eqb n n refl)

goes : (a j b : Bool) → a ≡ true → j ≡ true → b ≡ false → (a && j && not b) ≡ true
goes true true false a e b = refl
goes true true true a e b = absurd (cc)
goes true false b a e c = absurd (cc)
goes false j b a e c = absurd (cc)

pub put_world : (s : Scene) (w : World) (n : ℕ) (asks : ℕ → Option ClientOp) (o : Moving) → is_among n s.members ≡ true → w.joined n ≡ true → o.spent ≡ false →
    put s w n asks o ≡ record { world = record { nodes = λ k. cond (nat_eq k n) (view_of o) (w.nodes k); joined = w.joined; mail = w.mail ++ sent n o.acts }; labels = told n asks o.acts }
put_world s w n asks o a here e = (let g : (is_among n s.members && w.joined n && not o.spent) ≡ true = goes (is_among n s.members) (w.joined n) o.spent a here e in
    λ i. cond (g i) (record { world = record { nodes = λ k. cond (nat_eq k n) (view_of o) (w.nodes k); joined = w.joined; mail = w.mail ++ sent n o.acts }; labels = told n asks o.acts }) (record { world = w; labels = [] }))

-- the mail after the step, where what was sent adds this
mail_after : (g : ℕ) (db : ℕ) (key : List ℕ) (before : List Mail) (outs more : List Out) (xs : List Mail) → mails g db key (frames_of more) ≡ xs →
    (before ++ mails g db key (frames_of outs)) ++ xs ≡ before ++ mails g db key (frames_of (outs ++ more))
mail_after g db key before outs more xs e =
    append_assoc before _ xs
    ∙ ap (λ (l : List Mail). before ++ (mails g db key (frames_of outs) ++ l)) (sym e)
    ∙ ap (λ (l : List Mail). before ++ l) (sym (mails_more g db key (frames_of outs) (frames_of more)))
    ∙ ap (λ (l : List _). before ++ mails g db key l) (sym (frames_more outs more))

labels_after : (db : ℕ) (key : List ℕ) (n : ℕ) (calls : List PendingCall) (outs more : List Out) (xs : List law.Label) → told_by_all db key (labels_of n calls more) ≡ xs →
    told_by_all db key (labels_of n calls (outs ++ more)) ≡ told_by_all db key (labels_of n calls outs) ++ xs
labels_after db key n calls outs more xs e =
    ap (λ (l : List _). told_by_all db key l) (labels_more n calls outs more)
    ∙ told_by_more db key (labels_of n calls outs) (labels_of n calls more)
    ∙ ap (λ (l : List law.Label). told_by_all db key (labels_of n calls outs) ++ l) e

-- ---- the record of the step

-- what is asked of the step at a record: the node is a member of the generation, in which it is, and has the database, its records are in order, no number
-- reaches its limit, the state stays where it is blank, what is sent speaks of the record, and the answers are of calls
pub record Fair (c : Config) (era : Era) (n db : ℕ) (key : List ℕ) (part : Place → Moving → Moving) (t : Turn) (calls : List PendingCall) (asks : ℕ → Option ClientOp) : Type 0 where
  pub generation : t.node.generation ≡ era.number
  pub members : t.node.members ≡ era.members
  pub member : is_among n era.members ≡ true
  pub order : NodeAscends t.node
  pub has : db < length t.node.dbs
  pub whole : (left_by c n db key part t).spent ≡ false
  pub blank : or_nothing (unless_blank (left_by c n db key part t).state) ≡ (left_by c n db key part t).state
  pub grows : Grows (node.view db key t.node) (left_by c n db key part t)
  pub sends : Told (place_of c n db key t.node) (left_by c n db key part t).acts
  pub finds : Finds db key n calls asks
  pub asked : AllAsked (told n asks (left_by c n db key part t).acts)

pub own_step : (c : Config) (era : Era) (rules : Rules) (n db : ℕ) (key : List ℕ) (part : Place → Moving → Moving) (t : Turn) (calls : List PendingCall) (asks : ℕ → Option ClientOp) (w : World) (e : Event) →
    Fair c era n db key part t calls asks →
    happens (scene c era rules db key) (amid era.number db key n w t) e ≡ put (scene c era rules db key) (amid era.number db key n w t) n asks (left_by c n db key part t) →
    Comes_by era.number (scene c era rules db key) n w calls t (at_record c n db key part t) (e ∷ [])
unfolding at_record acted place_of
own_step c era rules n db key part t calls asks w e f h =
    let o = left_by c n db key part t in
    let all = h ∙ put_world (scene c era rules db key) (amid era.number db key n w t) n asks o f.member (here w n) f.whole in
    let seen = seen_same c n db key part t o refl f.order f.has f.blank in
    let nodes : (k : ℕ) → cond (nat_eq k n) (view_of o) (cond (nat_eq k n) (view db key t.node) (w.nodes k)) ≡ cond (nat_eq k n) (view db key (at_record c n db key part t).node) (w.nodes k)
    = λ k. if_same (nat_eq k n) (view_of o) (view db key t.node) (w.nodes k) ∙ ap (λ (v : View). cond (nat_eq k n) v (w.nodes k)) (sym seen) in
    let mail = mail_after era.number db key w.mail t.outs (map (out_of t.node.generation n db key) o.acts) (sent n o.acts) (subst (λ (g : ℕ). mails g db key (frames_of (map (out_of t.node.generation n db key) o.acts)) ≡ sent n o.acts) f.generation (mails_same (place_of c n db key t.node) t.node.generation n o.acts f.sends)) in
    record {
      world = ap (λ (x : Stepped). x.world) all ∙ (λ i. record { nodes = λ k. nodes k i; joined = λ k. w.joined k || nat_eq k n; mail = mail i });
      labels = labels_after db key n calls t.outs (map (out_of t.node.generation n db key) o.acts) _ (hear_same db key t.node.generation n calls asks o.acts f.finds f.asked)
          ∙ ap (λ (l : List law.Label). told_by_all db key (labels_of n calls t.outs) ++ heard l) (sym (append-nil (told n asks o.acts)) ∙ ap (λ (x : Stepped). x.labels ++ []) (sym all));
    }

-- ---- every other record

-- the place is of another database, or of another key of this one
pub apart : (db db0 : ℕ) (key key0 : List ℕ) → is_it db key db0 key0 ≡ false → (db ≢ db0) ⊎ ((db ≡ db0) × (key ≢ key0))
unfolding is_it
apart db db0 key key0 e = ⊎_elim
    (λ (is : db ≡ db0). inr (is, λ same. absurd (let t = it_is_itself db key in let u = subst (λ (d : ℕ). is_it db key d key ≡ true) is t in let v = subst (λ (k : List ℕ). is_it db key db0 k ≡ true) same u in cc)))
    (λ (ne : db ≢ db0). inl ne)
    (cases_eq db db0)

pub other_state : (c : Config) (n db0 db : ℕ) (key0 key : List ℕ) (part : Place → Moving → Moving) (t : Turn) → NodeAscends t.node → is_it db key db0 key0 ≡ false →
    state_at db key (at_record c n db0 key0 part t).node ≡ state_at db key t.node
unfolding state_at
other_state c n db0 db key0 key part t h e =
    let m = moves_at c n db0 key0 part t h in ⊎_elim
    (λ (ne : db ≢ db0). ap (λ (d : Database). or_nothing (look key d.records)) (m.other_dbs db ne))
    (λ (p : (db ≡ db0) × (key ≢ key0)). subst (λ (d : ℕ). state_at d key (at_record c n db0 key0 part t).node ≡ state_at d key t.node) (sym p.0) (m.other_keys key p.1))
    (apart db db0 key key0 e)

pub floor_own : (c : Config) (n db0 : ℕ) (key0 : List ℕ) (part : Place → Moving → Moving) (t : Turn) → db0 < length t.node.dbs → (db_at db0 (at_record c n db0 key0 part t).node).floor ≡ (left_by c n db0 key0 part t).floor
unfolding at_record acted put_back with_db db_at
floor_own c n db0 key0 part t l = ap (λ (d : Database). d.floor) (at_set t.node.dbs db0 _ l)

pub other_floor : (c : Config) (n db0 db : ℕ) (key0 : List ℕ) (part : Place → Moving → Moving) (t : Turn) → NodeAscends t.node → db0 < length t.node.dbs → Grows (node.view db0 key0 t.node) (left_by c n db0 key0 part t) →
    (db_at db t.node).floor ≤ (db_at db (at_record c n db0 key0 part t).node).floor
unfolding node.view
other_floor c n db0 db key0 part t h l g = ⊎_elim
    (λ (is : db ≡ db0). subst (λ (d : ℕ). (db_at d t.node).floor ≤ (db_at d (at_record c n db0 key0 part t).node).floor) (sym is) (subst (λ (f : ℕ). (db_at db0 t.node).floor ≤ f) (sym (floor_own c n db0 key0 part t l)) g.floor))
    (λ (ne : db ≢ db0). subst (λ (d : Database). (db_at db t.node).floor ≤ d.floor) (sym ((moves_at c n db0 key0 part t h).other_dbs db ne)) (omega arith))
    (cases_eq db db0)

greater_is : (a b : ℕ) → a ≤ b → greater a b ≡ b
unfolding greater
greater_is a b l = grind arith

pub next_grows : (c : Config) (n db0 : ℕ) (key0 : List ℕ) (part : Place → Moving → Moving) (t : Turn) → Grows (node.view db0 key0 t.node) (left_by c n db0 key0 part t) → t.node.next ≤ (at_record c n db0 key0 part t).node.next
unfolding at_record acted put_back node.view
next_grows c n db0 key0 part t g = g.next

-- what the other record has of the node after the step
rises : ℕ → List ℕ → Turn → Turn → Moving
rises db key t u = begins (state_at db key t.node) (greater t.node.next u.node.next) (greater (db_at db t.node).floor (db_at db u.node).floor)

risen : (c : Config) (era : Era) (n db0 db : ℕ) (key0 key : List ℕ) (part : Place → Moving → Moving) (t : Turn) (calls : List PendingCall) (asks : ℕ → Option ClientOp) → Fair c era n db0 key0 part t calls asks → is_it db key db0 key0 ≡ false →
    view_of (rises db key t (at_record c n db0 key0 part t)) ≡ view db key (at_record c n db0 key0 part t).node
unfolding rises
risen c era n db0 db key0 key part t calls asks f e =
    let state = sym (other_state c n db0 db key0 key part t f.order e) in
    let next = greater_is t.node.next (at_record c n db0 key0 part t).node.next (next_grows c n db0 key0 part t f.grows) in
    let floor = greater_is (db_at db t.node).floor (db_at db (at_record c n db0 key0 part t).node).floor (other_floor c n db0 db key0 part t f.order f.has f.grows) in
    λ i. record { state = state i; next = next i; floor = floor i }

rises_happens : (g : ℕ) (s : Scene) (n : ℕ) (w : World) (t u : Turn) →
    happens s (amid g s.db s.key n w t) (Rises n u.node.next (db_at s.db u.node).floor) ≡ put s (amid g s.db s.key n w t) n (waiting_call (state_at s.db s.key t.node).wish) (rises s.db s.key t u)
unfolding rises
rises_happens g s n w t u = ap (λ (v : View). put s (amid g s.db s.key n w t) n (waiting_call v.state.wish) (begins v.state (greater v.next u.node.next) (greater v.floor (db_at s.db u.node).floor))) (self g s.db s.key n w t)

pub other_step : (c : Config) (era : Era) (rules : Rules) (n db0 db : ℕ) (key0 key : List ℕ) (part : Place → Moving → Moving) (t : Turn) (calls : List PendingCall) (asks : ℕ → Option ClientOp) (w : World) →
    Fair c era n db0 key0 part t calls asks → is_it db key db0 key0 ≡ false →
    Comes_by era.number (scene c era rules db key) n w calls t (at_record c n db0 key0 part t) (Rises n (at_record c n db0 key0 part t).node.next (db_at db (at_record c n db0 key0 part t).node).floor ∷ [])
unfolding at_record acted place_of rises sent told heard
other_step c era rules n db0 db key0 key part t calls asks w f e =
    let u = at_record c n db0 key0 part t in
    let o = left_by c n db0 key0 part t in
    let all = rises_happens era.number (scene c era rules db key) n w t u ∙ put_world (scene c era rules db key) (amid era.number db key n w t) n (waiting_call (state_at db key t.node).wish) (rises db key t u) f.member (here w n) refl in
    let seen = risen c era n db0 db key0 key part t calls asks f e in
    let nodes : (k : ℕ) → cond (nat_eq k n) (view_of (rises db key t u)) (cond (nat_eq k n) (view db key t.node) (w.nodes k)) ≡ cond (nat_eq k n) (view db key u.node) (w.nodes k)
    = λ k. if_same (nat_eq k n) (view_of (rises db key t u)) (view db key t.node) (w.nodes k) ∙ ap (λ (v : View). cond (nat_eq k n) v (w.nodes k)) seen in
    let mail = mail_after era.number db key w.mail t.outs (map (out_of t.node.generation n db0 key0) o.acts) [] (mails_other era.number (place_of c n db0 key0 t.node) db key t.node.generation n o.acts e f.sends) in
    record {
      world = ap (λ (x : Stepped). x.world) all ∙ (λ i. record { nodes = λ k. nodes k i; joined = λ k. w.joined k || nat_eq k n; mail = mail i });
      labels = labels_after db key n calls t.outs (map (out_of t.node.generation n db0 key0) o.acts) _ (hear_other db db0 key key0 t.node.generation n calls asks o.acts e f.finds f.asked)
          ∙ ap (λ (x : Stepped). told_by_all db key (labels_of n calls t.outs) ++ heard (x.labels ++ [])) (sym all);
    }
