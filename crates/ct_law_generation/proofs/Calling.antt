-- A client's call on a record that is not refused.
use Rattle.std.proofs.Common.{◌≡◌, ℕ, ◌<◌, ◌≤◌, Bool, true, false, cond, List, [], ◌∷◌, Option, Some, None, refl, sym, ap, ◌∙◌, subst}
use Rattle.std.specs.Prelude.{nat_eq, is_some}
use Rattle.std.proofs.lemmas.Bool.{cond_both, eqb-true, eq-eqb}
use Rattle.ct_values.specs.Client.{db_of, key_of}
use Rattle.ct_values.specs.declared.client.ClientOp.{ClientOp}
use Rattle.ct_values.specs.declared.client.ClientOp.TheVariants as op
use Rattle.ct_values.specs.declared.config.Config.{Config}
use Rattle.ct_frame.specs.Fields.{is_db}
use Rattle.ct_call.specs.Rules.{Rules}
use Rattle.ct_law_rules.specs.Form.{MayCome}
use Rattle.ct_law_rules.specs.Sent.{is_from_node}
use Rattle.ct_rules.specs.Moves.{move, store, unlock}
use Rattle.ct_rules.specs.Parts.{want}
use Rattle.ct_rules.specs.declared.event.MoveEvent.{MoveEvent}
use Rattle.ct_rules.specs.declared.event.MoveEvent.TheVariants as event
use Rattle.ct_rules_node.specs.Node.{state_at, has_records, kind_at, is_among}
use Rattle.ct_rules_node.specs.Turn.{Turn, begins, makes}
use Rattle.ct_rules_node.specs.Records as node
use Rattle.ct_rules_node.specs.Records.{at_record, place_of}
use Rattle.ct_law_rules_node.specs.NodeLaws.{left_by}
use Rattle.ct_rules_cluster.specs.Cluster.{Cluster, node_at, pending}
use Rattle.ct_rules_cluster.specs.Labels.{Answered}
use Rattle.ct_law_generation.specs.Waiting.{answered}
use Rattle.ct_rules_cluster.specs.declared.step.PendingCall.{PendingCall}
use Rattle.ct_law_record.specs.World.{World, Event, Wants, Stores, Unlocks, happens, put, place, own_call, may_want}
use Rattle.ct_law_generation.specs.Shown.{Era, scene, view, amid, Finds}
use Rattle.ct_law_wishes.proofs.Wishing.{Wishful, want_wish, store_wish, unlock_wish}
use Rattle.ct_law_generation.proofs.Pending.{Callers, Known, KnownAt}
use Rattle.ct_law_generation.proofs.Forming.{may_want_comes}
use Rattle.ct_law_generation.proofs.Staying.{NodeStays, Of_records}
use Rattle.ct_law_generation.proofs.Events.{wants_happen, stores_happen, unlocks_happen}
use Rattle.ct_law_generation.proofs.Following.{Asks, IsEra, Goes_on, follows, Comes_to}
use Rattle.ct_law_generation.proofs.Delivering.{IsShown, shown_begins, whole_part, has_place}

-- the call that comes, before those that wait
abbrev pub own_pending : ℕ → ℕ → ClientOp → PendingCall
own_pending n call asked = record { call = call; node = n; op = asked; seq = 0 }

owns : (call : ℕ) (asked : ClientOp) (k : ℕ) (o : ClientOp) → own_call call asked k ≡ Some o → (call ≡ k) × (asked ≡ o)
unfolding own_call
owns call asked k o e = cond_both (nat_eq call k) (Some asked) None (λ (r : Option ClientOp). r ≡ Some o → (call ≡ k) × (asked ≡ o)) (λ t same. (eqb-true call k t, (cc))) (λ f same. absurd (cc)) e

pub finds_own : (n db call : ℕ) (key : List ℕ) (asked : ClientOp) (calls : List PendingCall) → db_of asked ≡ db → key_of asked ≡ key → Finds db key n (own_pending n call asked ∷ calls) (own_call call asked)
unfolding answered
finds_own n db call key asked calls d k = record {
  found = λ c o e a. (let p = owns call asked c o e in
      ap (λ (b : Bool). cond b (Answered n asked a ∷ []) (answered c a calls)) (eq-eqb call c p.0) ∙ ap (λ (x : ClientOp). Answered n x a ∷ []) p.1);
  about = λ c o e. (let p = owns call asked c o e in (ap (λ (x : ClientOp). db_of x) (sym p.1) ∙ d, ap (λ (x : ClientOp). key_of x) (sym p.1) ∙ k));
}

-- what is known when a call comes to a record of the node: it is the call of its number
pub record Calls_at (c : Config) (era : Era) (rules : Rules) (who : Callers) (calls n db call : ℕ) (key : List ℕ) (asked : ClientOp) (w : Cluster) (ws : ℕ → List ℕ → World) : Type 0 where
  pub real : IsEra c era
  pub small : is_db db ≡ true
  pub member : is_among n era.members ≡ true
  pub stays : NodeStays c era rules who calls n (node_at n w)
  pub kind : has_records (kind_at c db) ≡ true
  pub own : who call ≡ (n, asked)
  pub counted : call ≤ calls
  pub of_db : db_of asked ≡ db
  pub of_key : key_of asked ≡ key
  pub shown : IsShown era.number n w ws
  pub lawful : Asks (scene c era rules db key) (ws db key)

-- the node stays as it was, and the world of every record follows
abbrev pub Goes : Config → Era → Rules → Callers → ℕ → ℕ → ℕ → ClientOp → Cluster → (ℕ → List ℕ → World) → Turn → Type 0
Goes c era rules who calls n call asked w ws u =
    Goes_on c era rules who calls n (own_pending n call asked ∷ pending w) ws (makes call (begins (node_at n w))) u

wished_before : (c : Config) (era : Era) (rules : Rules) (who : Callers) (calls n db call : ℕ) (key : List ℕ) (asked : ClientOp) (w : Cluster) (ws : ℕ → List ℕ → World) → Calls_at c era rules who calls n db call key asked w ws → Wishful (Known who calls n db key) (state_at db key (node_at n w)).wish
unfolding KnownAt state_at
wished_before c era rules who calls n db call key asked w ws h = (h.stays.known.dbs db).records key

-- ---- a call comes to its record

-- the call is an event at the record
call_comes : (c : Config) (era : Era) (rules : Rules) (who : Callers) (calls n db call : ℕ) (key : List ℕ) (asked : ClientOp) (w : Cluster) (ws : ℕ → List ℕ → World) (e : MoveEvent) (ev : Event) → Calls_at c era rules who calls n db call key asked w ws →
    MayCome (state_at db key (node_at n w)) e → is_from_node e ≡ true →
    Wishful (Known who calls n db key) (left_by c n db key (λ at o. move at rules e o) (begins (node_at n w))).state.wish → Wishful (Of_records c db key) (left_by c n db key (λ at o. move at rules e o) (begins (node_at n w))).state.wish →
    happens (scene c era rules db key) (amid era.number db key n (ws db key) (begins (node_at n w))) ev ≡ put (scene c era rules db key) (amid era.number db key n (ws db key) (begins (node_at n w))) n (own_call call asked) (left_by c n db key (λ at o. move at rules e o) (begins (node_at n w))) →
    (at_record c n db key (λ at o. move at rules e o) (makes call (begins (node_at n w)))).spent ≡ false →
    Comes_to c era rules who calls n db key e (makes call (begins (node_at n w))) (own_pending n call asked ∷ pending w) (own_call call asked) (ws db key) ev
unfolding makes
call_comes c era rules who calls n db call key asked w ws e ev h may from known waits is spent = record {
  has = h.small;
  there = subst (λ (l : ℕ). db < l) (sym h.stays.size) (has_place c db h.kind);
  may = may;
  from = from;
  whole = whole_part c n db key (λ at o. move at rules e o) (makes call (begins (node_at n w))) spent;
  known = known;
  waits = waits;
  finds = finds_own n db call key asked (pending w) h.of_db h.of_key;
  lawful = subst (λ (v : World). Asks (scene c era rules db key) v) (shown_begins era.number db key n w ws h.shown) h.lawful;
  is_event = is;
}

-- a lock, a read, a write or a function
pub wants_come : (c : Config) (era : Era) (rules : Rules) (who : Callers) (calls n db call : ℕ) (key : List ℕ) (asked : ClientOp) (w : Cluster) (ws : ℕ → List ℕ → World) → Calls_at c era rules who calls n db call key asked w ws →
    may_want (state_at db key (node_at n w)) asked ≡ true → (at_record c n db key (λ at o. want at rules call asked o) (makes call (begins (node_at n w)))).spent ≡ false →
    Comes_to c era rules who calls n db key (event.Want call asked) (makes call (begins (node_at n w))) (own_pending n call asked ∷ pending w) (own_call call asked) (ws db key) (Wants n call asked)
unfolding node.view Known
wants_come c era rules who calls n db call key asked w ws h may spent =
    call_comes c era rules who calls n db call key asked w ws (event.Want call asked) (Wants n call asked) h (may_want_comes (scene c era rules db key) n call (view db key (node_at n w)) asked may) refl
    (want_wish (Known who calls n db key) (place_of c n db key (node_at n w)) rules call asked (node.view db key (node_at n w)) (h.own, h.counted, h.of_db, h.of_key) (wished_before c era rules who calls n db call key asked w ws h))
    (want_wish (Of_records c db key) (place_of c n db key (node_at n w)) rules call asked (node.view db key (node_at n w)) h.kind (h.stays.waits db key))
    (wants_happen c era rules n db call key asked (begins (node_at n w)) (ws db key) h.stays.knows may) spent

-- a store
pub stores_come : (c : Config) (era : Era) (rules : Rules) (who : Callers) (calls n db call : ℕ) (key v : List ℕ) (w : Cluster) (ws : ℕ → List ℕ → World) → Calls_at c era rules who calls n db call key (op.Store db key v) w ws →
    is_some (state_at db key (node_at n w)).locked ≡ true → (at_record c n db key (λ at o. store call v o) (makes call (begins (node_at n w)))).spent ≡ false →
    Comes_to c era rules who calls n db key (event.Store call v) (makes call (begins (node_at n w))) (own_pending n call (op.Store db key v) ∷ pending w) (own_call call (op.Store db key v)) (ws db key) (Stores n call v)
unfolding node.view
stores_come c era rules who calls n db call key v w ws h locked spent =
    call_comes c era rules who calls n db call key (op.Store db key v) w ws (event.Store call v) (Stores n call v) h locked refl
    (store_wish (Known who calls n db key) call v (node.view db key (node_at n w)) (wished_before c era rules who calls n db call key (op.Store db key v) w ws h))
    (store_wish (Of_records c db key) call v (node.view db key (node_at n w)) (h.stays.waits db key))
    (stores_happen c era rules n db call key v (begins (node_at n w)) (ws db key) h.stays.knows locked) spent

-- an unlock
pub unlocks_come : (c : Config) (era : Era) (rules : Rules) (who : Callers) (calls n db call : ℕ) (key : List ℕ) (w : Cluster) (ws : ℕ → List ℕ → World) → Calls_at c era rules who calls n db call key (op.Unlock db key) w ws →
    is_some (state_at db key (node_at n w)).locked ≡ true → (at_record c n db key (λ at o. unlock at call o) (makes call (begins (node_at n w)))).spent ≡ false →
    Comes_to c era rules who calls n db key (event.Unlock call) (makes call (begins (node_at n w))) (own_pending n call (op.Unlock db key) ∷ pending w) (own_call call (op.Unlock db key)) (ws db key) (Unlocks n call)
unfolding node.view
unlocks_come c era rules who calls n db call key w ws h locked spent =
    call_comes c era rules who calls n db call key (op.Unlock db key) w ws (event.Unlock call) (Unlocks n call) h locked refl
    (unlock_wish (Known who calls n db key) (place_of c n db key (node_at n w)) call (node.view db key (node_at n w)) (wished_before c era rules who calls n db call key (op.Unlock db key) w ws h))
    (unlock_wish (Of_records c db key) (place_of c n db key (node_at n w)) call (node.view db key (node_at n w)) (h.stays.waits db key))
    (unlocks_happen c era rules n db call key (begins (node_at n w)) (ws db key) h.stays.knows locked) spent

-- ---- the node and the worlds follow

-- where the call is an event at the record, the node stays as it was, and the world of every record follows
call_follows : (c : Config) (era : Era) (rules : Rules) (who : Callers) (calls n db call : ℕ) (key : List ℕ) (asked : ClientOp) (w : Cluster) (ws : ℕ → List ℕ → World) (e : MoveEvent) (ev : Event) → Calls_at c era rules who calls n db call key asked w ws →
    Comes_to c era rules who calls n db key e (makes call (begins (node_at n w))) (own_pending n call asked ∷ pending w) (own_call call asked) (ws db key) ev →
    Goes c era rules who calls n call asked w ws (at_record c n db key (λ at o. move at rules e o) (makes call (begins (node_at n w))))
unfolding makes
call_follows c era rules who calls n db call key asked w ws e ev h comes =
    follows c era rules who calls n db key e (makes call (begins (node_at n w))) (own_pending n call asked ∷ pending w) (own_call call asked) ws ev h.real h.member h.stays comes

-- a lock, a read, a write or a function
pub wants_follows : (c : Config) (era : Era) (rules : Rules) (who : Callers) (calls n db call : ℕ) (key : List ℕ) (asked : ClientOp) (w : Cluster) (ws : ℕ → List ℕ → World) → Calls_at c era rules who calls n db call key asked w ws →
    may_want (state_at db key (node_at n w)) asked ≡ true → (at_record c n db key (λ at o. want at rules call asked o) (makes call (begins (node_at n w)))).spent ≡ false →
    Goes c era rules who calls n call asked w ws (at_record c n db key (λ at o. want at rules call asked o) (makes call (begins (node_at n w))))
wants_follows c era rules who calls n db call key asked w ws h may spent =
    call_follows c era rules who calls n db call key asked w ws (event.Want call asked) (Wants n call asked) h (wants_come c era rules who calls n db call key asked w ws h may spent)

-- a store
pub stores_follows : (c : Config) (era : Era) (rules : Rules) (who : Callers) (calls n db call : ℕ) (key v : List ℕ) (w : Cluster) (ws : ℕ → List ℕ → World) → Calls_at c era rules who calls n db call key (op.Store db key v) w ws →
    is_some (state_at db key (node_at n w)).locked ≡ true → (at_record c n db key (λ at o. store call v o) (makes call (begins (node_at n w)))).spent ≡ false →
    Goes c era rules who calls n call (op.Store db key v) w ws (at_record c n db key (λ at o. store call v o) (makes call (begins (node_at n w))))
stores_follows c era rules who calls n db call key v w ws h locked spent =
    call_follows c era rules who calls n db call key (op.Store db key v) w ws (event.Store call v) (Stores n call v) h (stores_come c era rules who calls n db call key v w ws h locked spent)

-- an unlock
pub unlocks_follows : (c : Config) (era : Era) (rules : Rules) (who : Callers) (calls n db call : ℕ) (key : List ℕ) (w : Cluster) (ws : ℕ → List ℕ → World) → Calls_at c era rules who calls n db call key (op.Unlock db key) w ws →
    is_some (state_at db key (node_at n w)).locked ≡ true → (at_record c n db key (λ at o. unlock at call o) (makes call (begins (node_at n w)))).spent ≡ false →
    Goes c era rules who calls n call (op.Unlock db key) w ws (at_record c n db key (λ at o. unlock at call o) (makes call (begins (node_at n w))))
unlocks_follows c era rules who calls n db call key w ws h locked spent =
    call_follows c era rules who calls n db call key (op.Unlock db key) w ws (event.Unlock call) (Unlocks n call) h (unlocks_come c era rules who calls n db call key w ws h locked spent)
