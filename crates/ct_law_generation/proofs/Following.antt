-- A step of a node at one record: what follows for the node, for every record's world, and for what is sent.
use Rattle.std.proofs.Common.{◌≡◌, ◌≢◌, ℕ, ◌<◌, ◌≤◌, Bool, true, false, List, [], ◌∷◌, ◌++◌, ◌||◌, map, length, Option, Some, None, refl, sym, ap, ◌∙◌, arith, subst, ⊎_elim}
use Rattle.std.specs.Prelude.{nat_eq, nat_lt}
use Rattle.std.specs.List.{list_all, list_any, AllByRecursion}
use Rattle.std.proofs.lemmas.Bool.{cases_eq, cond_both, eqb-true, ne_eqb, and_parts}
use Rattle.ct_values.specs.Client.{db_of, key_of}
use Rattle.ct_values.specs.declared.client.ClientOp.{ClientOp}
use Rattle.ct_values.specs.declared.config.Config.{Config}
use Rattle.ct_frame.specs.Fields.{ascends, is_db, is_node}
use Rattle.ct_call.specs.Rules.{Rules}
use Rattle.ct_law_rules.specs.Form.{MayCome}
use Rattle.ct_law_rules.specs.Sent.{is_from_node}
use Rattle.ct_rules.specs.Moves.{move}
use Rattle.ct_rules.specs.Parts.{Moving}
use Rattle.ct_rules.specs.declared.event.MoveEvent.{MoveEvent}
use Rattle.ct_rules.specs.declared.event.Place.{Place}
use Rattle.ct_rules.specs.declared.state.Wish.{Wish}
use Rattle.ct_law_rules.proofs.Growing.{move_grows}
use Rattle.ct_rules_node.specs.Node.{state_at, is_among}
use Rattle.ct_rules_node.specs.Turn.{Turn}
use Rattle.ct_rules_node.specs.Records as node
use Rattle.ct_rules_node.specs.Records.{out_of, acted, at_record, place_of}
use Rattle.ct_law_rules_node.specs.NodeLaws.{left_by}
use Rattle.ct_rules_cluster.specs.Steps.{frames_of}
use Rattle.ct_rules_cluster.specs.Cluster.{Cluster, Sent, node_at, pending}
use Rattle.ct_rules_cluster.specs.Labels.{Label, Answered}
use Rattle.ct_rules_cluster.specs.declared.step.PendingCall.{PendingCall}
use Rattle.ct_register.specs.Register.{Register}
use Rattle.ct_law_record.specs.Labels as law
use Rattle.ct_law_record.specs.World.{Scene, World, Event, LeadsTo, last, trace, happens, put, place, starts, view_of, told, sent, waiting_call, own_call, Stepped}
use Rattle.ct_law_generation.specs.Shown.{Era, scene, view, project, AllAsked, Finds, amid, Follows, Schedules}
use Rattle.ct_law_generation.proofs.Plain.{AllPlain, plain_more, plain_sends}
use Rattle.ct_law_generation.proofs.Hearing.{frames_more, accepts_asked, asked_left, asked_right, list_more}
use Rattle.ct_law_generation.proofs.Speaking.{Told, move_told}
use Rattle.ct_law_wishes.proofs.Wishing.{Wishful}
use Rattle.ct_law_generation.proofs.Pending.{Callers, is_call, Known, KnownAt, NodeKnown, answered_as, pending_fits, pending_has}
use Rattle.ct_law_generation.proofs.Forming.{Is_formed, Is_sound_mail, formed_moves, formed_blank, sound_moves}
use Rattle.ct_law_generation.proofs.Amid.{Fair, here, put_world, place_is}
use Rattle.ct_law_generation.proofs.Staying.{NodeStays, Of_records, of_era, Sure, stays_at}
use Rattle.ct_law_generation.proofs.Events.{each_follows}

-- ---- the law says that all answers were asked for

pub trace_more : (s : Scene) (w : World) (es fs : List Event) → trace s w (es ++ fs) ≡ trace s w es ++ trace s (last s w es) fs
trace_more s w [] fs = refl
trace_more s w (e ∷ es) fs = ap (λ (l : List law.Label). (happens s w e).labels ++ l) (trace_more s (happens s w e).world es fs) ∙ list_more (happens s w e).labels _ _

pub last_more : (s : Scene) (w : World) (es fs : List Event) → last s w (es ++ fs) ≡ last s (last s w es) fs
last_more s w [] fs = refl
last_more s w (e ∷ es) fs = last_more s (happens s w e).world es fs

-- every schedule from the world answers only what was asked
abbrev pub Asks : Scene → World → Type 0
Asks s w = (es : List Event) → AllAsked (trace s w es)

pub asked_now : (s : Scene) (w : World) (e : Event) → Asks s w → AllAsked (happens s w e).labels
asked_now s w e asks = asked_left (happens s w e).labels [] (asks (e ∷ []))

-- so does every one from where it leads
pub asks_on : (s : Scene) (w v : World) (es : List Event) → last s w es ≡ v → Asks s w → Asks s v
asks_on s w v es at asks = λ fs. subst (λ (x : World). AllAsked (trace s x fs)) at (asked_right (trace s w es) _ (subst AllAsked (trace_more s w es fs) (asks (es ++ fs))))

-- a world whose every schedule is one register's
pub asks_by_law : (s : Scene) (w : World) (r : Register) → ((es : List Event) → LeadsTo s w r es) → Asks s w
asks_by_law s w r law es = (let p = law es in accepts_asked s.rules (trace s w es) r p.0 p.1)

-- ---- what is asked of a generation

-- it is numbered from 1 on, its members ascend and have numbers of nodes, and only what was asked is answered in it
pub record IsEra (c : Config) (era : Era) : Type 0 where
  pub real : list_all is_node era.members ≡ true
  pub ascend : ascends nat_lt era.members ≡ true
  pub positive : 1 ≤ era.number
  pub asks : (rules : Rules) (db : ℕ) (key : List ℕ) → Asks (scene c era rules db key) (era.start db key)

-- so it is from where its schedules lead
pub asks_here : (c : Config) (era : Era) (rules : Rules) (w : Cluster) (labels : List Label) (es : ℕ → List ℕ → List Event) → IsEra c era → Schedules c era rules w labels es →
    (db : ℕ) (key : List ℕ) → Asks (scene c era rules db key) (project era.number db key w)
asks_here c era rules w labels es is sched db key = asks_on (scene c era rules db key) (era.start db key) (project era.number db key w) (es db key) (sched db key).0 (is.asks rules db key)

-- ---- a step at one record

-- what is asked of an event at a record of the node
pub record Comes_to (c : Config) (era : Era) (rules : Rules) (who : Callers) (calls n db : ℕ) (key : List ℕ) (e : MoveEvent) (t : Turn) (pend : List PendingCall) (asks : ℕ → Option ClientOp) (w : World) (ev : Event) : Type 0 where
  pub has : is_db db ≡ true
  pub there : db < length t.node.dbs
  pub may : MayCome (state_at db key t.node) e
  pub from : is_from_node e ≡ true
  pub whole : (left_by c n db key (λ at o. move at rules e o) t).spent ≡ false
  pub known : Wishful (Known who calls n db key) (left_by c n db key (λ at o. move at rules e o) t).state.wish
  pub waits : Wishful (Of_records c db key) (left_by c n db key (λ at o. move at rules e o) t).state.wish
  pub finds : Finds db key n pend asks
  pub lawful : Asks (scene c era rules db key) (amid era.number db key n w t)
  pub is_event : happens (scene c era rules db key) (amid era.number db key n w t) ev ≡ put (scene c era rules db key) (amid era.number db key n w t) n asks (left_by c n db key (λ at o. move at rules e o) t)

left_is : (c : Config) (era : Era) (rules : Rules) (n db : ℕ) (key : List ℕ) (e : MoveEvent) (t : Turn) → t.node.members ≡ era.members →
    left_by c n db key (λ at o. move at rules e o) t ≡ move (place (scene c era rules db key) n (view db key t.node)) rules e (starts (view db key t.node))
unfolding node.view
left_is c era rules n db key e t h = ap (λ (p : Place). move p rules e (starts (view db key t.node))) (place_is c era rules n db key t.node h)

formed_after : (c : Config) (era : Era) (rules : Rules) (who : Callers) (calls n db : ℕ) (key : List ℕ) (e : MoveEvent) (t : Turn) (pend : List PendingCall) (asks : ℕ → Option ClientOp) (w : World) (ev : Event) →
    NodeStays c era rules who calls n t.node → Comes_to c era rules who calls n db key e t pend asks w ev → Is_formed (scene c era rules db key) n (view_of (left_by c n db key (λ at o. move at rules e o) t))
formed_after c era rules who calls n db key e t pend asks w ev h k =
    let is = left_is c era rules n db key e t h.knows in
    subst (λ (o : Moving). Is_formed (scene c era rules db key) n (view_of o)) (sym is)
    (formed_moves (scene c era rules db key) n (view db key t.node) e k.has (h.formed db key) k.may k.from (ap (λ (o : Moving). o.spent) (sym is) ∙ k.whole))

pub sure : (c : Config) (era : Era) (rules : Rules) (who : Callers) (calls n db : ℕ) (key : List ℕ) (e : MoveEvent) (t : Turn) (pend : List PendingCall) (asks : ℕ → Option ClientOp) (w : World) (ev : Event) →
    NodeStays c era rules who calls n t.node → Comes_to c era rules who calls n db key e t pend asks w ev → Sure c era rules who calls n db key (λ at o. move at rules e o) t
sure c era rules who calls n db key e t pend asks w ev h k = record {
  has = k.there;
  grows = move_grows (place_of c n db key t.node) rules e (node.view db key t.node);
  formed = formed_after c era rules who calls n db key e t pend asks w ev h k;
  known = k.known;
  waits = k.waits;
}

pub fair : (c : Config) (era : Era) (rules : Rules) (who : Callers) (calls n db : ℕ) (key : List ℕ) (e : MoveEvent) (t : Turn) (pend : List PendingCall) (asks : ℕ → Option ClientOp) (w : World) (ev : Event) → is_among n era.members ≡ true →
    NodeStays c era rules who calls n t.node → Comes_to c era rules who calls n db key e t pend asks w ev → Fair c era n db key (λ at o. move at rules e o) t pend asks
unfolding Told node.view
fair c era rules who calls n db key e t pend asks w ev member h k =
    let o = left_by c n db key (λ at o. move at rules e o) t in record {
      generation = of_era c era rules who calls n t.node h;
      members = h.knows;
      member = member;
      order = h.known.order;
      has = k.there;
      whole = k.whole;
      blank = formed_blank (scene c era rules db key) n (view_of o) (formed_after c era rules who calls n db key e t pend asks w ev h k);
      grows = move_grows (place_of c n db key t.node) rules e (node.view db key t.node);
      sends = move_told (place_of c n db key t.node) rules e (node.view db key t.node) tt;
      finds = k.finds;
      asked = subst (λ (x : Stepped). AllAsked x.labels) (k.is_event ∙ put_world (scene c era rules db key) (amid era.number db key n w t) n asks o member (here w n) k.whole) (asked_now (scene c era rules db key) (amid era.number db key n w t) ev k.lawful);
    }

-- what it sends keeps the rules of its fields
sends_sound : (c : Config) (era : Era) (rules : Rules) (who : Callers) (calls n db : ℕ) (key : List ℕ) (e : MoveEvent) (t : Turn) (pend : List PendingCall) (asks : ℕ → Option ClientOp) (w : World) (ev : Event) → is_node n ≡ true →
    NodeStays c era rules who calls n t.node → Comes_to c era rules who calls n db key e t pend asks w ev → AllByRecursion Is_sound_mail (sent n (left_by c n db key (λ at o. move at rules e o) t).acts)
sends_sound c era rules who calls n db key e t pend asks w ev node h k =
    let is = left_is c era rules n db key e t h.knows in
    subst (λ (o : Moving). AllByRecursion Is_sound_mail (sent n o.acts)) (sym is)
    (sound_moves (scene c era rules db key) n (view db key t.node) e k.has node (h.formed db key) k.may k.from (ap (λ (o : Moving). o.spent) (sym is) ∙ k.whole))

pub all_plain : (c : Config) (era : Era) (n db : ℕ) (key : List ℕ) (part : Place → Moving → Moving) (t : Turn) → t.node.generation ≡ era.number → Told (place_of c n db key t.node) (left_by c n db key part t).acts → AllByRecursion Is_sound_mail (sent n (left_by c n db key part t).acts) →
    AllPlain era.number (frames_of t.outs) → AllPlain era.number (frames_of (at_record c n db key part t).outs)
unfolding at_record acted place_of
all_plain c era n db key part t is told sound before =
    subst (λ (l : List Sent). AllPlain era.number l) (sym (frames_more t.outs (map (out_of t.node.generation n db key) (left_by c n db key part t).acts)))
    (plain_more era.number (frames_of t.outs) _ before (plain_sends era.number (place_of c n db key t.node) t.node.generation n (left_by c n db key part t).acts (omega arith) told sound))

pub node_of : (n : ℕ) (ns : List ℕ) → list_all is_node ns ≡ true → is_among n ns ≡ true → is_node n ≡ true
unfolding is_among
node_of n [] all e = absurd (cc)
node_of n (m ∷ ms) all e = ⊎_elim
    (λ (is : n ≡ m). subst (λ (x : ℕ). is_node x ≡ true) (sym is) (and_parts _ _ all).0)
    (λ (ne : n ≢ m). node_of n ms (and_parts _ _ all).1 (rest (nat_eq n m) _ (ne_eqb n m ne) e))
    (cases_eq n m)
  where
    rest : (a b : Bool) → a ≡ false → (a || b) ≡ true → b ≡ true
    rest true b e k = absurd (cc)
    rest false b e k = k

-- what follows of a step from one turn to another: the node stays as it was, every record's world follows, and plain
-- messages are sent
abbrev pub Goes_on : Config → Era → Rules → Callers → ℕ → ℕ → List PendingCall → (ℕ → List ℕ → World) → Turn → Turn → Type 0
Goes_on c era rules who calls n pend ws t u =
    NodeStays c era rules who calls n u.node × ((db : ℕ) (key : List ℕ) → Follows era.number (scene c era rules db key) n (ws db key) pend t u) × (AllPlain era.number (frames_of t.outs) → AllPlain era.number (frames_of u.outs))

-- so it is of an event at a record of the node
pub follows : (c : Config) (era : Era) (rules : Rules) (who : Callers) (calls n db0 : ℕ) (key0 : List ℕ) (e : MoveEvent) (t : Turn) (pend : List PendingCall) (asks : ℕ → Option ClientOp) (ws : ℕ → List ℕ → World) (ev : Event) → IsEra c era → is_among n era.members ≡ true →
    NodeStays c era rules who calls n t.node → Comes_to c era rules who calls n db0 key0 e t pend asks (ws db0 key0) ev →
    Goes_on c era rules who calls n pend ws t (at_record c n db0 key0 (λ at o. move at rules e o) t)
follows c era rules who calls n db0 key0 e t pend asks ws ev real member h k =
    let f = fair c era rules who calls n db0 key0 e t pend asks (ws db0 key0) ev member h k in (
      stays_at c era rules who calls n db0 key0 (λ at o. move at rules e o) t h (sure c era rules who calls n db0 key0 e t pend asks (ws db0 key0) ev h k),
      each_follows c era rules n db0 key0 (λ at o. move at rules e o) t pend asks ws ev f k.is_event,
      λ before. all_plain c era n db0 key0 (λ at o. move at rules e o) t f.generation f.sends (sends_sound c era rules who calls n db0 key0 e t pend asks (ws db0 key0) ev (node_of n era.members real.real member) h k) before,
    )

-- ---- whose the answers are

waits : (w : Option Wish) (call : ℕ) (asked : ClientOp) → waiting_call w call ≡ Some asked → (x : Wish) × (w ≡ Some x) × (x.call ≡ call) × (x.op ≡ asked)
unfolding waiting_call own_call
waits None call asked e = absurd (cc)
waits (Some x) call asked e = cond_both (nat_eq x.call call) (Some x.op) None (λ (r : Option ClientOp). r ≡ Some asked → (y : Wish) × (Some x ≡ Some y) × (y.call ≡ call) × (y.op ≡ asked))
    (λ t k. (x, refl, eqb-true x.call call t, (cc))) (λ f k. absurd (cc)) e

pub known_wish : (P : ℕ → ClientOp → Type 0) (w : Option Wish) (x : Wish) → w ≡ Some x → Wishful P w → P x.call x.op
unfolding Wishful
known_wish P None x e h = absurd (cc)
known_wish P (Some y) x e h = (let same : y ≡ x = cc in subst (λ (z : Wish). P z.call z.op) same h)

-- the call that waits at a record is found among those that wait in the cluster
pub finds_waiting : (who : Callers) (calls n db : ℕ) (key : List ℕ) (w : Cluster) → ((m : ℕ) → NodeKnown who calls m (node_at m w)) → Finds db key n (pending w) (waiting_call (state_at db key (node_at n w)).wish)
unfolding KnownAt Known state_at
finds_waiting who calls n db key w all = record {
  found = λ call asked e a. (let p = waits (state_at db key (node_at n w)).wish call asked e in
      let k = known_wish (Known who calls n db key) (state_at db key (node_at n w)).wish p.0 p.1 (((all n).dbs db).records key) in
      let has : list_any (is_call call) (pending w) ≡ true = subst (λ (x : ℕ). list_any (is_call x) (pending w) ≡ true) p.2 (pending_has w n db key p.0 p.1) in
      let is : who call ≡ (n, asked) = ap who (sym p.2) ∙ k.0 ∙ ap (λ (x : ClientOp). (n, x)) p.3 in
      answered_as who call a (pending w) (pending_fits who calls w all) has ∙ ap (λ (x : ℕ × ClientOp). Answered x.0 x.1 a ∷ []) is);
  about = λ call asked e. (let p = waits (state_at db key (node_at n w)).wish call asked e in
      let k = known_wish (Known who calls n db key) (state_at db key (node_at n w)).wish p.0 p.1 (((all n).dbs db).records key) in
      (ap (λ (x : ClientOp). db_of x) (sym p.3) ∙ k.2, ap (λ (x : ClientOp). key_of x) (sym p.3) ∙ k.3));
}
