-- Vacuum of a database, at every record of it in turn: the node stays as it was, and the world of every record follows.
use Rattle.std.proofs.Common.{◌≡◌, ℕ, zero, suc, ◌+◌, ◌<◌, ◌≤◌, Bool, true, false, cond, ◌||◌, List, [], ◌∷◌, ◌++◌, length, Option, Some, None, refl, sym, ap, ◌∙◌, arith, subst, ⊎_elim}
use Rattle.std.specs.Prelude.{Ok, nat_eq, nat_lt, not, slice_get}
use Rattle.std.proofs.lemmas.Bool.{cond_both, eqb-true, eq-eqb, ltb-true, ltb-false, and_parts, or_parts, cases_Bool}
use Rattle.std.specs.Cmp.{nat_cmp_is, nat_cmp_total}
use Rattle.std.specs.List.{AllByRecursion}
use Rattle.std.specs.List.Sorted.{IsStrictlyIncreasing, IsStrictlySortedBy}
use Rattle.std.specs.Ordering.{nat_cmp}
use Rattle.std.specs.declared.cmp.Ordering.TheVariants.{Less}
use Rattle.std.proofs.lemmas.Map.Keys.{IsStrictlyIncreasing-from_sorted}
use Rattle.ct_values.specs.Words.{others}
use Rattle.ct_values.specs.Client.{db_of, key_of}
use Rattle.ct_values.specs.declared.client.Answer.{Answer}
use Rattle.ct_values.specs.declared.client.ClientOp.{ClientOp}
use Rattle.ct_values.specs.declared.config.Config.{Config}
use Rattle.ct_frame.specs.Fields.{ascends, ascends_after, is_db}
use Rattle.ct_frame.specs.declared.event.Event.TheVariants as node_event
use Rattle.ct_call.specs.Rules.{Rules}
use Rattle.ct_tracking.proofs.Nodes.{ascends_others}
use Rattle.ct_store.specs.Map.{Pairs}
use Rattle.ct_rules.specs.Moves.{vacuum}
use Rattle.ct_rules.specs.Parts.{Moving}
use Rattle.ct_rules.specs.declared.event.MoveEvent.TheVariants as event
use Rattle.ct_rules.specs.declared.event.Place.{Place}
use Rattle.ct_rules.specs.declared.state.RecState.{RecState}
use Rattle.ct_rules.specs.declared.state.Wish.{Wish}
use Rattle.ct_rules_node.specs.Node.{Database, db_at, state_at, or_untouched, untouched, is_serving, is_among}
use Rattle.ct_rules_node.specs.Turn.{Turn, begins}
use Rattle.ct_rules_node.specs.Records as node
use Rattle.ct_rules_node.specs.Records.{acted, at_record, place_of}
use Rattle.ct_law_rules_node.specs.NodeLaws.{left_by}
use Rattle.ct_rules_node.specs.Steps as node_steps
use Rattle.ct_rules_node.specs.Steps.{vacuum_all, vacuums}
use Rattle.ct_rules_cluster.specs.Cluster.{Cluster, is_up, node_at, pending}
use Rattle.ct_rules_cluster.specs.Labels.{Label, Answered}
use Rattle.ct_rules_cluster.specs.Steps as steps
use Rattle.ct_law_generation.specs.Waiting.{answered}
use Rattle.ct_rules_cluster.specs.declared.step.PendingCall.{PendingCall}
use Rattle.ct_law_record.specs.World.{Scene, View, World, Vacuums, happens, put, last, trace, place, starts, own_call, waiting_call}
use Rattle.ct_law_record.specs.World as law
use Rattle.ct_law_generation.specs.Shown.{Era, scene, view, heard, told_by_all, labels_of, amid, Finds, Follows, Schedules}
use Rattle.ct_law_wishes.proofs.Wishing.{Wishful, vacuum_wish}
use Rattle.ct_law_generation.proofs.Hearing.{heard_more, list_more}
use Rattle.ct_law_generation.proofs.Pending.{Callers, Known, KnownAt}
use Rattle.ct_law_generation.proofs.Staying.{NodeStays, Of_records, AllWishes, wishes_at}
use Rattle.ct_law_generation.proofs.Amid.{self, place_is}
use Rattle.ct_law_generation.proofs.Delivering.{IsShown, projected, project_shown, shown_begins, whole_part}
use Rattle.ct_law_generation.proofs.Following.{last_more, trace_more, Asks, asks_on, asks_here, Goes_on, follows, finds_waiting, IsEra, Comes_to}
use Rattle.ct_law_generation.proofs.Clusters.{ClusterStays, all_known}
use Rattle.ct_law_generation.proofs.Fed.{fed_is}
use Rattle.ct_law_generation.proofs.Coming.{Cluster_goes, put_goes, goes_nowhere}

-- ---- one step after another

-- the world of a record follows both
pub follows_more : (g : ℕ) (s : Scene) (n : ℕ) (w : World) (calls : List PendingCall) (t u v : Turn) → Follows g s n w calls t u → Follows g s n w calls u v → Follows g s n w calls t v
follows_more g s n w calls t u v f k =
    let a = amid g s.db s.key n w t in
    let b = amid g s.db s.key n w u in
    let told = told_by_all s.db s.key (labels_of n calls t.outs) in
    let both : heard (trace s a (f.0 ++ k.0)) ≡ heard (trace s a f.0) ++ heard (trace s b k.0) =
    ap heard (trace_more s a f.0 k.0) ∙ heard_more (trace s a f.0) (trace s (last s a f.0) k.0) ∙ ap (λ (x : World). heard (trace s a f.0) ++ heard (trace s x k.0)) f.1.world in (
      f.0 ++ k.0,
      record {
        world = last_more s a f.0 k.0 ∙ ap (λ (x : World). last s x k.0) f.1.world ∙ k.1.world;
        labels = k.1.labels ∙ (λ i. f.1.labels i ++ heard (trace s b k.0)) ∙ sym (list_more told (heard (trace s a f.0)) (heard (trace s b k.0))) ∙ (λ i. told ++ sym both i);
      },
    )

pub goes_more : (c : Config) (era : Era) (rules : Rules) (who : Callers) (calls n : ℕ) (pend : List PendingCall) (ws : ℕ → List ℕ → World) (t u v : Turn) →
    Goes_on c era rules who calls n pend ws t u → Goes_on c era rules who calls n pend ws u v → Goes_on c era rules who calls n pend ws t v
goes_more c era rules who calls n pend ws t u v f g = (g.0, λ db key. follows_more era.number (scene c era rules db key) n (ws db key) pend t u v (f.1 db key) (g.1 db key), λ before. g.2 (f.2 before))

-- what every schedule before a step does, every one amid it does
pub asks_amid : (g : ℕ) (s : Scene) (n : ℕ) (w : World) (calls : List PendingCall) (t u : Turn) → Asks s (amid g s.db s.key n w t) → Follows g s n w calls t u → Asks s (amid g s.db s.key n w u)
asks_amid g s n w calls t u asks f = asks_on s (amid g s.db s.key n w t) (amid g s.db s.key n w u) f.0 f.1.world asks

-- ---- the members but this one

less : (a b : ℕ) → nat_lt a b ≡ true → nat_cmp a b ≡ Less
less a b h = sym (nat_cmp_is a b Less (ltb-true a b h))

above : (a b : ℕ) (ns : List ℕ) → nat_cmp a b ≡ Less → AllByRecursion (λ n. nat_cmp b n ≡ Less) ns → AllByRecursion (λ n. nat_cmp a n ≡ Less) ns
above a b [] l h = tt
above a b (n ∷ ns) l h = (nat_cmp_total.trans a b n l h.0, above a b ns l h.1)

sorted_on : (x : ℕ) (ns : List ℕ) → ascends_after nat_lt x ns ≡ true → AllByRecursion (λ n. nat_cmp x n ≡ Less) ns × IsStrictlySortedBy nat_cmp ns
unfolding IsStrictlySortedBy
sorted_on x [] e = (tt, tt)
sorted_on x (n ∷ ns) e = (let p = and_parts _ _ e in let l = less x n p.0 in let s = sorted_on n ns p.1 in ((l, above x n ns l s.0), s))

sorted_so : (ns : List ℕ) → ascends nat_lt ns ≡ true → IsStrictlySortedBy nat_cmp ns
unfolding IsStrictlySortedBy
sorted_so [] e = tt
sorted_so (n ∷ ns) e = sorted_on n ns e

pub others_come : (members : List ℕ) (n : ℕ) → ascends nat_lt members ≡ true → IsStrictlyIncreasing (others n members)
others_come members n up = ascends_others n members (IsStrictlyIncreasing-from_sorted members (sorted_so members up))

-- ---- the calls that wait

-- a call that waits at a record is found among these calls, and asks of the record
abbrev pub Waited : ℕ → List ℕ → ℕ → List PendingCall → ℕ → ClientOp → Type 0
Waited db key n calls call asked = ((a : Answer) → answered call a calls ≡ Answered n asked a ∷ []) × (db_of asked ≡ db) × (key_of asked ≡ key)

waiting_is : (x : Wish) (call : ℕ) (asked : ClientOp) → waiting_call (Some x) call ≡ Some asked → (x.call ≡ call) × (x.op ≡ asked)
unfolding waiting_call own_call
waiting_is x call asked e = cond_both (nat_eq x.call call) (Some x.op) None (λ (r : Option ClientOp). r ≡ Some asked → (x.call ≡ call) × (x.op ≡ asked)) (λ t same. (eqb-true x.call call t, (cc))) (λ f same. absurd (cc)) e

waiting_self : (x : Wish) → waiting_call (Some x) x.call ≡ Some x.op
unfolding waiting_call own_call
waiting_self x = ap (λ (b : Bool). cond b (Some x.op) None) (eq-eqb x.call x.call refl)

none_waits : (call : ℕ) (asked : ClientOp) → ¬ (waiting_call None call ≡ Some asked)
unfolding waiting_call
none_waits call asked e = absurd (cc)

pub waited_finds : (db : ℕ) (key : List ℕ) (n : ℕ) (calls : List PendingCall) (w : Option Wish) → Wishful (Waited db key n calls) w → Finds db key n calls (waiting_call w)
unfolding Wishful
waited_finds db key n calls None h = record { found = λ call asked e. absurd (none_waits call asked e); about = λ call asked e. absurd (none_waits call asked e) }
waited_finds db key n calls (Some x) h = record {
  found = λ call asked e a. (let p = waiting_is x call asked e in subst (λ (k : ℕ). answered k a calls ≡ Answered n asked a ∷ []) p.0 (subst (λ (o : ClientOp). answered x.call a calls ≡ Answered n o a ∷ []) p.1 (h.0 a)));
  about = λ call asked e. (let p = waiting_is x call asked e in (ap (λ (o : ClientOp). db_of o) (sym p.1) ∙ h.1, ap (λ (o : ClientOp). key_of o) (sym p.1) ∙ h.2));
}

pub finds_waited : (db : ℕ) (key : List ℕ) (n : ℕ) (calls : List PendingCall) (w : Option Wish) → Finds db key n calls (waiting_call w) → Wishful (Waited db key n calls) w
unfolding Wishful
finds_waited db key n calls None h = tt
finds_waited db key n calls (Some x) h = (let p = h.about x.call x.op (waiting_self x) in (h.found x.call x.op (waiting_self x), p.0, p.1))

-- each call that waits is found among these
abbrev pub Found : ℕ → List PendingCall → ℕ → List ℕ → ℕ → ClientOp → Type 0
Found n pend db key call asked = Waited db key n pend call asked

-- ---- the step at one of the records

-- vacuum of a record
abbrev pub vacuumed : ℕ → Turn → Place → Moving → Moving
vacuumed n t at o = vacuum at (others n t.node.members) o

pub vacuums_happen : (c : Config) (era : Era) (rules : Rules) (n db : ℕ) (key : List ℕ) (t : Turn) (w : World) → t.node.members ≡ era.members →
    happens (scene c era rules db key) (amid era.number db key n w t) (Vacuums n) ≡ put (scene c era rules db key) (amid era.number db key n w t) n (waiting_call (state_at db key t.node).wish) (left_by c n db key (vacuumed n t) t)
unfolding node.view
vacuums_happen c era rules n db key t w h =
    ap (λ (v : View). put (scene c era rules db key) (amid era.number db key n w t) n (waiting_call v.state.wish) (vacuum (place (scene c era rules db key) n v) (others n era.members) (starts v))) (self era.number db key n w t)
    ∙ ap (λ (p : Place). put (scene c era rules db key) (amid era.number db key n w t) n (waiting_call (state_at db key t.node).wish) (vacuum p (others n era.members) (starts (view db key t.node)))) (sym (place_is c era rules n db key t.node h))
    ∙ ap (λ (ms : List ℕ). put (scene c era rules db key) (amid era.number db key n w t) n (waiting_call (state_at db key t.node).wish) (vacuum (place_of c n db key t.node) (others n ms) (starts (view db key t.node)))) (sym h)

-- the calls that wait are found after the step
pub waited_on : (c : Config) (era : Era) (rules : Rules) (who : Callers) (calls n db : ℕ) (key : List ℕ) (pend : List PendingCall) (t : Turn) → NodeStays c era rules who calls n t.node → db < length t.node.dbs →
    AllWishes (Found n pend) t.node → AllWishes (Found n pend) (at_record c n db key (vacuumed n t) t).node
unfolding node.view
waited_on c era rules who calls n db key pend t h there all =
    wishes_at (Found n pend) c n db key (vacuumed n t) t h.known.order there all (vacuum_wish (Waited db key n pend) (place_of c n db key t.node) (others n t.node.members) (node.view db key t.node) (all db key))

-- a vacuum of one record is an event at it
pub vacuum_comes : (c : Config) (era : Era) (rules : Rules) (who : Callers) (calls n db : ℕ) (key : List ℕ) (pend : List PendingCall) (w : World) (t : Turn) → IsEra c era → is_db db ≡ true → NodeStays c era rules who calls n t.node → db < length t.node.dbs → AllWishes (Found n pend) t.node →
    Asks (scene c era rules db key) (amid era.number db key n w t) → (at_record c n db key (vacuumed n t) t).spent ≡ false →
    Comes_to c era rules who calls n db key (event.Vacuum (others n t.node.members)) t pend (waiting_call (state_at db key t.node).wish) w (Vacuums n)
unfolding KnownAt state_at node.view
vacuum_comes c era rules who calls n db key pend w t is small h there all asks spent = record {
  has = small;
  there = there;
  may = subst (λ (ms : List ℕ). IsStrictlyIncreasing (others n ms)) (sym h.knows) (others_come era.members n is.ascend);
  from = refl;
  whole = whole_part c n db key (vacuumed n t) t spent;
  known = vacuum_wish (Known who calls n db key) (place_of c n db key t.node) (others n t.node.members) (node.view db key t.node) ((h.known.dbs db).records key);
  waits = vacuum_wish (Of_records c db key) (place_of c n db key t.node) (others n t.node.members) (node.view db key t.node) (h.waits db key);
  finds = waited_finds db key n pend (state_at db key t.node).wish (all db key);
  lawful = asks;
  is_event = vacuums_happen c era rules n db key t w h.knows;
}

vacuum_goes : (c : Config) (era : Era) (rules : Rules) (who : Callers) (calls n db : ℕ) (key : List ℕ) (pend : List PendingCall) (ws : ℕ → List ℕ → World) (t : Turn) → IsEra c era → is_among n era.members ≡ true → is_db db ≡ true →
    NodeStays c era rules who calls n t.node → db < length t.node.dbs → AllWishes (Found n pend) t.node → Asks (scene c era rules db key) (amid era.number db key n (ws db key) t) → (at_record c n db key (vacuumed n t) t).spent ≡ false →
    Goes_on c era rules who calls n pend ws t (at_record c n db key (vacuumed n t) t)
vacuum_goes c era rules who calls n db key pend ws t real member small h there all asks spent =
    follows c era rules who calls n db key (event.Vacuum (others n t.node.members)) t pend (waiting_call (state_at db key t.node).wish) ws (Vacuums n) real member h
    (vacuum_comes c era rules who calls n db key pend (ws db key) t real small h there all asks spent)

-- ---- at every record of the database

pub whole_before : (c : Config) (n db : ℕ) (m : Pairs RecState) (t : Turn) → (vacuum_all c n db m t).spent ≡ false → t.spent ≡ false
unfolding vacuum_all at_record acted
whole_before c n db [] t e = e
whole_before c n db (x ∷ m) t e = (or_parts t.spent (left_by c n db x.0 (vacuumed n t) t).spent (whole_before c n db m (at_record c n db x.0 (vacuumed n t) t) e)).0

-- from a turn t0 on, from which the step came to t
all_go : (c : Config) (era : Era) (rules : Rules) (who : Callers) (calls n db : ℕ) (m : Pairs RecState) (pend : List PendingCall) (ws : ℕ → List ℕ → World) (t0 t : Turn) → IsEra c era → is_among n era.members ≡ true → is_db db ≡ true →
    db < length c.dbs → ((key : List ℕ) → Asks (scene c era rules db key) (amid era.number db key n (ws db key) t0)) → AllWishes (Found n pend) t.node → Goes_on c era rules who calls n pend ws t0 t → (vacuum_all c n db m t).spent ≡ false →
    Goes_on c era rules who calls n pend ws t0 (vacuum_all c n db m t)
unfolding vacuum_all
all_go c era rules who calls n db [] pend ws t0 t real member small inside asks all g spent = g
all_go c era rules who calls n db (x ∷ m) pend ws t0 t real member small inside asks all g spent =
    let there : db < length t.node.dbs = subst (λ (l : ℕ). db < l) (sym g.0.size) inside in
    let u = at_record c n db x.0 (vacuumed n t) t in
    let step = vacuum_goes c era rules who calls n db x.0 pend ws t real member small g.0 there all
    (asks_amid era.number (scene c era rules db x.0) n (ws db x.0) pend t0 t (asks x.0) (g.1 db x.0)) (whole_before c n db m u spent) in
    all_go c era rules who calls n db m pend ws t0 u real member small inside asks (waited_on c era rules who calls n db x.0 pend t g.0 there all) (goes_more c era rules who calls n pend ws t0 t u g step) spent

pub past_db : (ds : List Database) (db : ℕ) → length ds ≤ db → or_untouched (slice_get ds db) ≡ untouched
unfolding or_untouched
past_db [] db e = refl
past_db (d ∷ ds) zero e = absurd (omega arith)
past_db (d ∷ ds) (suc k) e = past_db ds k (omega arith)

-- a database that is not declared has no records
no_records : (c : Config) (n db : ℕ) (t : Turn) → nat_lt db (length t.node.dbs) ≡ false → vacuum_all c n db (db_at db t.node).records t ≡ t
unfolding db_at vacuum_all untouched
no_records c n db t e = ap (λ (d : Database). vacuum_all c n db d.records t) (past_db t.node.dbs db (ltb-false db (length t.node.dbs) e))

-- A vacuum of a database: the node stays as it was, and the world of every record follows.
pub vacuums_follow : (c : Config) (era : Era) (rules : Rules) (who : Callers) (w : Cluster) (n db : ℕ) (ws : ℕ → List ℕ → World) → IsShown era.number n w ws → IsEra c era → ((d : ℕ) → d < length c.dbs → is_db d ≡ true) → is_among n era.members ≡ true →
    NodeStays c era rules who w.calls n (node_at n w) → ((db : ℕ) (key : List ℕ) → Finds db key n (pending w) (waiting_call (state_at db key (node_at n w)).wish)) → ((key : List ℕ) → Asks (scene c era rules db key) (ws db key)) →
    (vacuums c n db (begins (node_at n w))).spent ≡ false →
    Goes_on c era rules who w.calls n (pending w) ws (begins (node_at n w)) (vacuums c n db (begins (node_at n w)))
unfolding vacuums
vacuums_follow c era rules who w n db ws shown real small member h finds asks spent =
    let t = begins (node_at n w) in
    let same = goes_nowhere c era rules who w.calls n (pending w) ws t h in
    cond_both (is_serving t.node.phase) (vacuum_all c n db (db_at db t.node).records t) t (λ (u : Turn). u.spent ≡ false → Goes_on c era rules who w.calls n (pending w) ws t u)
    (λ _ whole. ⊎_elim
    (λ (is : nat_lt db (length t.node.dbs) ≡ true). (let inside : db < length c.dbs = subst (λ (l : ℕ). db < l) h.size (ltb-true db (length t.node.dbs) is) in
    all_go c era rules who w.calls n db (db_at db t.node).records (pending w) ws t t real member (small db inside) inside
    (λ key. subst (λ (v : World). Asks (scene c era rules db key) v) (shown_begins era.number db key n w ws shown) (asks key)) (λ db key. finds_waited db key n (pending w) (state_at db key t.node).wish (finds db key)) same whole))
    (λ (not_so : nat_lt db (length t.node.dbs) ≡ false). subst (λ (u : Turn). Goes_on c era rules who w.calls n (pending w) ws t u) (sym (no_records c n db t not_so)) same)
    (cases_Bool (nat_lt db (length t.node.dbs))))
    (λ _ whole. same) spent

-- and the cluster goes on
pub vacuums_goes : (c : Config) (era : Era) (rules : Rules) (who : Callers) (w : Cluster) (n db : ℕ) (labels : List Label) (es : ℕ → List ℕ → List law.Event) → IsEra c era → ((d : ℕ) → d < length c.dbs → is_db d ≡ true) →
    ClusterStays c era rules who w → Schedules c era rules w labels es → is_up n w ≡ true → (vacuums c n db (begins (node_at n w))).spent ≡ false →
    Cluster_goes c era rules who (steps.put n (vacuums c n db (begins (node_at n w))) [] w).cluster (labels ++ labels_of n (pending w) (vacuums c n db (begins (node_at n w))).outs)
vacuums_goes c era rules who w n db labels es real small h sched up spent =
    let t = h.up n up in
    put_goes c era rules who w n (vacuums c n db (begins (node_at n w))) labels es t h sched
    (vacuums_follow c era rules who w n db (projected era.number w) (project_shown era.number n w) real small t (h.nodes n t) (λ db key. finds_waiting who w.calls n db key w (all_known c era rules who w h)) (λ key. asks_here c era rules w labels es real sched db key) spent)

-- the vacuum is given to a node that runs, and the step is taken
pub vacuum_fed : (c : Config) (era : Era) (rules : Rules) (who : Callers) (w : Cluster) (n db : ℕ) (labels : List Label) (es : ℕ → List ℕ → List law.Event) (x : steps.Stepped) → IsEra c era → ((d : ℕ) → d < length c.dbs → is_db d ≡ true) →
    ClusterStays c era rules who w → Schedules c era rules w labels es → is_up n w ≡ true → steps.fed c rules n (node_event.Vacuum db) [] w ≡ Ok x →
    Cluster_goes c era rules who x.cluster (labels ++ labels_of n (pending w) (vacuums c n db (begins (node_at n w))).outs)
unfolding node_steps.happens
vacuum_fed c era rules who w n db labels es x real small h sched up ok =
    let f = fed_is c rules n (node_event.Vacuum db) [] w x ok in
    subst (λ (y : steps.Stepped). Cluster_goes c era rules who y.cluster (labels ++ labels_of n (pending w) (vacuums c n db (begins (node_at n w))).outs)) (sym f.1)
    (vacuums_goes c era rules who w n db labels es real small h sched up f.0)
