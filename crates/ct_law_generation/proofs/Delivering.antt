-- A message of a record comes to its receiver.
use Rattle.std.proofs.Common.{◌≡◌, ℕ, zero, suc, ◌<◌, Bool, true, false, cond, ◌&&◌, ◌||◌, List, [], ◌∷◌, ◌++◌, length, Some, refl, sym, ap, ◌∙◌, append-nil, arith, subst}
use Rattle.std.specs.Prelude.{nat_eq, slice_get}
use Rattle.std.specs.List.{list_all}
use Rattle.std.proofs.lemmas.Bool.{cond_both, eqb-true, and_parts, and_from, eq-eqb, or_parts}
use Rattle.ct_values.specs.declared.config.Config.{Config}
use Rattle.ct_values.specs.declared.config.DbDecl.{DbDecl}
use Rattle.ct_frame.specs.Fields.{is_db}
use Rattle.ct_frame.specs.declared.frame.Frame.{Frame}
use Rattle.ct_call.specs.Rules.{Rules}
use Rattle.ct_rules.specs.Moves.{arrive}
use Rattle.ct_rules.specs.Parts.{Moving}
use Rattle.ct_rules.specs.declared.event.MoveEvent.TheVariants as event
use Rattle.ct_rules.specs.declared.event.Place.{Place}
use Rattle.ct_rules_node.specs.Node.{state_at, has_records, kind_at, kind_in, Node, is_present_in, is_among}
use Rattle.ct_rules_node.specs.Turn.{Turn, begins}
use Rattle.ct_rules_node.specs.Records as node
use Rattle.ct_rules_node.specs.Records.{acted, at_record, place_of}
use Rattle.ct_rules_node.specs.Admission.{record_in, is_current, named_in}
use Rattle.ct_rules_node.specs.Steps.{arrives}
use Rattle.ct_law_rules_node.specs.NodeLaws.{left_by}
use Rattle.ct_rules_cluster.specs.Cluster.{Cluster, Sent, node_at, pending}
use Rattle.ct_rules_cluster.specs.Steps.{frames_of}
use Rattle.ct_law_record.specs.World.{View, Mail, Comes, waiting_call, World, Event}
use Rattle.ct_law_generation.specs.Shown.{Era, scene, view, mail_of, mails, project, amid}
use Rattle.ct_law_generation.proofs.Weave.{it_is_itself}
use Rattle.ct_law_wishes.proofs.Wishing.{arrive_wish}
use Rattle.ct_law_generation.proofs.Pending.{Callers, Known, KnownAt, NodeKnown}
use Rattle.ct_law_generation.proofs.Forming.{mail_comes}
use Rattle.ct_law_generation.proofs.Staying.{NodeStays, number_of, of_era, Of_records}
use Rattle.ct_law_generation.proofs.Events.{arrives_at, comes_happen}
use Rattle.ct_law_generation.proofs.Following.{Goes_on, follows, finds_waiting, IsEra, Asks, Comes_to}
use Rattle.ct_law_generation.proofs.Plain.{IsPlain, of_plain}

-- ---- where the message is in the mail of its record

further : (ys xs : List Mail) (m : Mail) → (which : ℕ) × (slice_get xs which ≡ Some m) → (which : ℕ) × (slice_get (ys ++ xs) which ≡ Some m)
further [] xs m h = h
further (y ∷ ys) xs m h = (let p = further ys xs m h in (suc p.0, p.1))

pub longer : (xs ys : List Mail) (which : ℕ) (m : Mail) → slice_get xs which ≡ Some m → slice_get (xs ++ ys) which ≡ Some m
longer [] ys which m e = absurd (cc)
longer (x ∷ xs) ys zero m e = e
longer (x ∷ xs) ys (suc k) m e = longer xs ys k m e

own_mail : (g : ℕ) (db : ℕ) (key : List ℕ) (f : Frame) (rest : List Mail) → f.generation ≡ g → record_in f.msg ≡ Some (db, key) → slice_get (mail_of g db key f (record_in f.msg) ++ rest) 0 ≡ Some (record { sender = f.sender; receiver = f.receiver; msg = f.msg })
unfolding mail_of
own_mail g db key f rest now e = rw e (rw (and_from (nat_eq f.generation g) _ (eq-eqb f.generation g now) (it_is_itself db key)) refl)

pub mail_there : (g : ℕ) (db : ℕ) (key : List ℕ) (sent : List Sent) (k : ℕ) (s : Sent) → slice_get sent k ≡ Some s → s.frame.generation ≡ g → record_in s.frame.msg ≡ Some (db, key) →
    (which : ℕ) × (slice_get (mails g db key sent) which ≡ Some (record { sender = s.frame.sender; receiver = s.frame.receiver; msg = s.frame.msg }))
unfolding mails
mail_there g db key [] k s e now r = absurd (cc)
mail_there g db key (x ∷ xs) zero s e now r =
    let same : s ≡ x = cc in
    subst (λ (y : Sent). (which : ℕ) × (slice_get (mail_of g db key y.frame (record_in y.frame.msg) ++ mails g db key xs) which ≡ Some (record { sender = s.frame.sender; receiver = s.frame.receiver; msg = s.frame.msg }))) same
    (0, own_mail g db key s.frame (mails g db key xs) now r)
mail_there g db key (x ∷ xs) (suc k) s e now r = further (mail_of g db key x.frame (record_in x.frame.msg)) (mails g db key xs) _ (mail_there g db key xs k s e now r)

-- ---- a step begins

-- the worlds of a generation show what a node has, which has joined, and have all mail of the generation
pub record IsShown (g n : ℕ) (w : Cluster) (ws : ℕ → List ℕ → World) : Type 0 where
  pub own : (db : ℕ) (key : List ℕ) → (ws db key).nodes n ≡ view db key (node_at n w)
  pub joined : (db : ℕ) (key : List ℕ) → (ws db key).joined n ≡ true
  pub mail : (db : ℕ) (key : List ℕ) → (ws db key).mail ≡ mails g db key w.sent

-- the worlds of all records, as the cluster shows them
abbrev pub projected : ℕ → Cluster → ℕ → List ℕ → World
projected g w db key = project g db key w

-- they show every node
pub project_shown : (g n : ℕ) (w : Cluster) → IsShown g n w (projected g w)
project_shown g n w = record { own = λ db key. refl; joined = λ db key. refl; mail = λ db key. refl }

begun_node : (n : ℕ) (v : View) (nodes : ℕ → View) → nodes n ≡ v → (k : ℕ) → nodes k ≡ cond (nat_eq k n) v (nodes k)
begun_node n v nodes e k = cond_both (nat_eq k n) _ _ (λ (x : View). nodes k ≡ x) (λ t. ap nodes (eqb-true k n t) ∙ e) (λ _. refl)

begun_joined : (n : ℕ) (joined : ℕ → Bool) → joined n ≡ true → (k : ℕ) → joined k ≡ (joined k || nat_eq k n)
begun_joined n joined e k = either (joined k) (nat_eq k n) (λ t. ap joined (eqb-true k n t) ∙ e)
  where
    either : (a b : Bool) → (b ≡ true → a ≡ true) → a ≡ (a || b)
    either true b f = refl
    either false true f = f refl
    either false false f = refl

-- amid a step that has just begun such a world is what it was
pub shown_begins : (g db : ℕ) (key : List ℕ) (n : ℕ) (w : Cluster) (ws : ℕ → List ℕ → World) → IsShown g n w ws → ws db key ≡ amid g db key n (ws db key) (begins (node_at n w))
unfolding frames_of mails
shown_begins g db key n w ws s = (let mail : (ws db key).mail ≡ (ws db key).mail ++ [] = sym (append-nil (ws db key).mail) in
    λ i. record { nodes = λ k. begun_node n (view db key (node_at n w)) (ws db key).nodes (s.own db key) k i; joined = λ k. begun_joined n (ws db key).joined (s.joined db key) k i; mail = mail i })

pub begun : (g : ℕ) (db : ℕ) (key : List ℕ) (n : ℕ) (w : Cluster) → project g db key w ≡ amid g db key n (project g db key w) (begins (node_at n w))
begun g db key n w = shown_begins g db key n w (projected g w) (project_shown g n w)

-- ---- the database of the record

kind_there : (dbs : List DbDecl) (db : ℕ) → has_records (kind_in (slice_get dbs db)) ≡ true → db < length dbs
unfolding has_records kind_in
kind_there [] db e = absurd (cc)
kind_there (d ∷ ds) zero e = omega arith
kind_there (d ∷ ds) (suc k) e = (let l = kind_there ds k e in omega arith)

pub has_place : (c : Config) (db : ℕ) → has_records (kind_at c db) ≡ true → db < length c.dbs
unfolding kind_at
has_place c db e = kind_there c.dbs db e

-- the rule of the record was whole where the step is
pub whole_part : (c : Config) (n db : ℕ) (key : List ℕ) (part : Place → Moving → Moving) (t : Turn) → (at_record c n db key part t).spent ≡ false → (left_by c n db key part t).spent ≡ false
unfolding at_record acted
whole_part c n db key part t e = (or_parts t.spent (left_by c n db key part t).spent e).1

-- ---- the message is followed

-- one that is followed is of the generation
pub current_here : (c : Config) (era : Era) (rules : Rules) (who : Callers) (calls n : ℕ) (f : Frame) (x : Node) → NodeStays c era rules who calls n x → is_current f x ≡ true → f.generation ≡ era.number
unfolding is_current
current_here c era rules who calls n f x h e =
    let both = and_parts (is_present_in f.generation x && is_among f.sender x.members) (list_all (λ m. is_among m x.members) (named_in f.msg)) e in
    sym (number_of f.generation x (and_parts (is_present_in f.generation x) (is_among f.sender x.members) both.0).0) ∙ of_era c era rules who calls n x h

-- the message is an event at its record
pub delivery_comes : (c : Config) (era : Era) (rules : Rules) (who : Callers) (w : Cluster) (k : ℕ) (s : Sent) (db : ℕ) (key : List ℕ) (ws : ℕ → List ℕ → World) → IsShown era.number s.frame.receiver w ws → ((d : ℕ) → d < length c.dbs → is_db d ≡ true) → NodeStays c era rules who w.calls s.frame.receiver (node_at s.frame.receiver w) → ((m : ℕ) → NodeKnown who w.calls m (node_at m w)) →
    slice_get w.sent k ≡ Some s → record_in s.frame.msg ≡ Some (db, key) → IsPlain era.number s.frame → s.frame.generation ≡ era.number → has_records (kind_at c db) ≡ true → Asks (scene c era rules db key) (ws db key) →
    (at_record c s.frame.receiver db key (λ at o. arrive at rules s.frame.sender s.frame.msg o) (begins (node_at s.frame.receiver w))).spent ≡ false →
    (ev : Event) × Comes_to c era rules who w.calls s.frame.receiver db key (event.Arrive s.frame.sender s.frame.msg) (begins (node_at s.frame.receiver w)) (pending w) (waiting_call (state_at db key (node_at s.frame.receiver w)).wish) (ws db key) ev
unfolding KnownAt state_at node.view
delivery_comes c era rules who w k s db key ws shown small h all at r plain now kind asks spent =
    let n = s.frame.receiver in
    let t = begins (node_at n w) in
    let inside = has_place c db kind in
    let sound = of_plain era.number s.frame (db, key) plain r now in
    let mail = mail_there era.number db key w.sent k s at now r in (
      Comes mail.0,
      record {
        has = small db inside;
        there = subst (λ (l : ℕ). db < l) (sym h.size) inside;
        may = mail_comes (scene c era rules db key) n (view db key (node_at n w)) _ sound;
        from = sound.sender;
        whole = whole_part c n db key (λ at o. arrive at rules s.frame.sender s.frame.msg o) t spent;
        known = arrive_wish (Known who w.calls n db key) (place_of c n db key (node_at n w)) rules s.frame.sender s.frame.msg (node.view db key (node_at n w)) ((h.known.dbs db).records key);
        waits = arrive_wish (Of_records c db key) (place_of c n db key (node_at n w)) rules s.frame.sender s.frame.msg (node.view db key (node_at n w)) (h.waits db key);
        finds = finds_waiting who w.calls n db key w all;
        lawful = subst (λ (v : World). Asks (scene c era rules db key) v) (shown_begins era.number db key n w ws shown) asks;
        is_event = comes_happen c era rules n db mail.0 s.frame.sender key s.frame.msg t (ws db key) h.knows
            (longer (ws db key).mail _ mail.0 _ (subst (λ (l : List Mail). slice_get l mail.0 ≡ Some (record { sender = s.frame.sender; receiver = n; msg = s.frame.msg })) (sym (shown.mail db key)) mail.1));
      },
    )

-- A message of a record that was sent comes to its receiver, which follows it: the receiver stays as it was, and the world of
-- every record follows.
pub delivers : (c : Config) (era : Era) (rules : Rules) (who : Callers) (w : Cluster) (k : ℕ) (s : Sent) (db0 : ℕ) (key0 : List ℕ) (ws : ℕ → List ℕ → World) → IsShown era.number s.frame.receiver w ws → IsEra c era → ((db : ℕ) → db < length c.dbs → is_db db ≡ true) →
    is_among s.frame.receiver era.members ≡ true → NodeStays c era rules who w.calls s.frame.receiver (node_at s.frame.receiver w) → ((m : ℕ) → NodeKnown who w.calls m (node_at m w)) →
    slice_get w.sent k ≡ Some s → record_in s.frame.msg ≡ Some (db0, key0) → IsPlain era.number s.frame →
    (is_current s.frame (node_at s.frame.receiver w) && has_records (kind_at c db0)) ≡ true → Asks (scene c era rules db0 key0) (ws db0 key0) →
    (arrives c rules s.frame.receiver s.frame (begins (node_at s.frame.receiver w)) s.frame.msg).spent ≡ false →
    Goes_on c era rules who w.calls s.frame.receiver (pending w) ws (begins (node_at s.frame.receiver w)) (arrives c rules s.frame.receiver s.frame (begins (node_at s.frame.receiver w)) s.frame.msg)
delivers c era rules who w k s db0 key0 ws shown real small member h all at r plain ok asks spent =
    let n = s.frame.receiver in
    let t = begins (node_at n w) in
    let is = arrives_at c rules n s.frame t db0 key0 r ok in
    let parts = and_parts (is_current s.frame (node_at n w)) (has_records (kind_at c db0)) ok in
    let comes = delivery_comes c era rules who w k s db0 key0 ws shown small h all at r plain (current_here c era rules who w.calls n s.frame (node_at n w) h parts.0) parts.1 asks (sym (ap (λ (u : Turn). u.spent) is) ∙ spent) in
    subst (λ (u : Turn). Goes_on c era rules who w.calls n (pending w) ws t u) (sym is)
    (follows c era rules who w.calls n db0 key0 (event.Arrive s.frame.sender s.frame.msg) t (pending w) (waiting_call (state_at db0 key0 (node_at n w)).wish) ws comes.0 real member h comes.1)
