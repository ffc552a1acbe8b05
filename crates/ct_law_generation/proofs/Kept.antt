-- What a client's call on a record tells, where it is not refused, is of records of the line.
use Rattle.std.proofs.Common.{◌≡◌, ℕ, ◌+◌, true, false, List, [], ◌∷◌, ◌++◌, map, Option, None, refl, sym, ap, ◌∙◌, subst}
use Rattle.std.specs.Prelude.{Ok}
use Rattle.std.specs.List.{AllByRecursion}
use Rattle.ct_values.specs.Client.{db_of, key_of}
use Rattle.ct_values.specs.declared.client.ClientOp.{ClientOp}
use Rattle.ct_values.specs.declared.client.ClientOp.TheVariants as op
use Rattle.ct_values.specs.declared.config.Config.{Config}
use Rattle.ct_frame.specs.declared.event.Out.{Out}
use Rattle.ct_frame.specs.declared.event.Event.TheVariants as node_event
use Rattle.ct_call.specs.Rules.{Rules}
use Rattle.ct_rules.specs.Moves.{move}
use Rattle.ct_rules.specs.Parts.{want}
use Rattle.ct_rules.specs.declared.event.MoveEvent.{MoveEvent}
use Rattle.ct_rules.specs.declared.event.MoveEvent.TheVariants as event
use Rattle.ct_rules_node.specs.Node.{state_at, has_records, is_persistent, kind_at}
use Rattle.ct_rules_node.specs.Turn.{Turn, begins, makes}
use Rattle.ct_rules_node.specs.Records.{out_of, acted, at_record, place_of}
use Rattle.ct_rules_node.specs.Clients as clients
use Rattle.ct_rules_node.specs.Clients.{refusal, serves}
use Rattle.ct_law_rules_node.specs.NodeLaws.{left_by}
use Rattle.ct_rules_node.specs.Steps as node_steps
use Rattle.ct_rules_cluster.specs.Cluster.{Cluster, is_up, node_at, pending}
use Rattle.ct_rules_cluster.specs.Labels.{Label}
use Rattle.ct_rules_cluster.specs.Faults.{fault_of}
use Rattle.ct_rules_cluster.specs.Steps.{Stepped, steps}
use Rattle.ct_rules_cluster.specs.declared.step.PendingCall.{PendingCall}
use Rattle.ct_rules_cluster.specs.declared.step.Step.TheVariants as step
use Rattle.ct_law_record.specs.World.{World, Event, Wants, Stores, Unlocks, own_call, may_want}
use Rattle.ct_law_generation.specs.Shown.{Era, project, labels_of}
use Rattle.ct_law_generation.proofs.Hearing.{labels_more}
use Rattle.ct_law_generation.proofs.Pending.{Callers}
use Rattle.ct_law_generation.proofs.Staying.{NodeStays, phase_of}
use Rattle.ct_law_generation.proofs.Following.{Comes_to, fair}
use Rattle.ct_law_generation.proofs.Delivering.{projected}
use Rattle.ct_law_generation.proofs.Calling.{own_pending, Calls_at, wants_come, stores_come, unlocks_come}
use Rattle.ct_law_generation.proofs.Called.{counted, called_by, calls_at}
use Rattle.ct_law_generation.proofs.Admitted.{admits, may_lock, may_read, may_write, may_apply, may_store, may_unlock}
use Rattle.ct_law_generation.proofs.Served.{client_serves, call_kind, serves_lock, serves_read, serves_write, serves_apply, serves_store, serves_unlock}
use Rattle.ct_law_generation.proofs.Committed.{commit_kind}
use Rattle.ct_law_generation.proofs.Lining.{Is_fit, kept_fit, labels_kept}
use Rattle.ct_law_generation.proofs.Fed.{fed_is}
use Rattle.ct_law_generation.proofs.Assembled.{Starts, Starts_at, starts_at, Run_goes, Tells, client_turn}
use Rattle.ct_law_generation.proofs.Faulting.{runs}
use Rattle.ct_register.specs.Lines.{Lines}
use Rattle.ct_lcp2.proofs.Choices.{all_append}

-- ---- a step at one record

pub tells_more : (c : Config) (era : Era) (reg : Lines) (n : ℕ) (pend : List PendingCall) (xs ys : List Out) → AllByRecursion (Is_fit c era.number reg) (labels_of n pend xs) → AllByRecursion (Is_fit c era.number reg) (labels_of n pend ys) →
    AllByRecursion (Is_fit c era.number reg) (labels_of n pend (xs ++ ys))
tells_more c era reg n pend xs ys h k = subst (λ (l : List Label). AllByRecursion (Is_fit c era.number reg) l) (sym (labels_more n pend xs ys)) (all_append (Is_fit c era.number reg) (labels_of n pend xs) (labels_of n pend ys) h k)

-- what the node tells stays of records of the line over an event at a record
pub event_kept : (c : Config) (era : Era) (rules : Rules) (reg : Lines) (who : Callers) (calls n db : ℕ) (key : List ℕ) (e : MoveEvent) (t : Turn) (pend : List PendingCall) (asks : ℕ → Option ClientOp) (w : World) (ev : Event) → Starts_at c era rules reg n → has_records (kind_at c db) ≡ true →
    NodeStays c era rules who calls n t.node → Comes_to c era rules who calls n db key e t pend asks w ev → Tells c era reg n pend t → Tells c era reg n pend (at_record c n db key (λ at o. move at rules e o) t)
unfolding at_record acted place_of
event_kept c era rules reg who calls n db key e t pend asks w ev is kind h k before =
    let f = fair c era rules who calls n db key e t pend asks w ev is.member h k in
    let o = left_by c n db key (λ at o. move at rules e o) t in
    tells_more c era reg n pend t.outs (map (out_of t.node.generation n db key) o.acts) before
    (kept_fit c era.number reg _ (labels_kept c era.number reg (place_of c n db key t.node) t.node.generation n pend asks o.acts is.line kind f.sends f.finds f.asked))

-- ---- what the call tells

-- the turn of the call before its rule is followed
abbrev call_begins : Cluster → ℕ → Turn
call_begins w n = makes (w.calls + 1) (begins (node_at n (counted w)))

-- the calls that the turn may answer
abbrev calls_with : Cluster → ℕ → ClientOp → List PendingCall
calls_with w n o = own_pending n (w.calls + 1) o ∷ pending (counted w)

-- the call comes to a node that runs
called_at : (c : Config) (era : Era) (rules : Rules) (reg : Lines) (w : Cluster) (ls : List Label) (n db : ℕ) (key : List ℕ) (asked : ClientOp) → Starts c era rules reg → has_records (kind_at c db) ≡ true → (h : Run_goes c era rules reg ls w) → is_up n w ≡ true → db_of asked ≡ db → key_of asked ≡ key →
    Calls_at c era rules (called_by n asked w h.who) (w.calls + 1) n db (w.calls + 1) key asked (counted w) (projected era.number (counted w))
called_at c era rules reg w ls n db key asked is kind h up of_db of_key = calls_at c era rules h.who w n db key asked ls h.goes.1 is.era_is is.small h.goes.0 h.goes.2 up kind of_db of_key

-- what it tells is of records of the line, where its turn is an event at the record
turn_kept : (c : Config) (era : Era) (rules : Rules) (reg : Lines) (w : Cluster) (ls : List Label) (n db : ℕ) (key : List ℕ) (asked : ClientOp) (e : MoveEvent) (ev : Event) → Starts c era rules reg → has_records (kind_at c db) ≡ true → (h : Run_goes c era rules reg ls w) → is_up n w ≡ true →
    Calls_at c era rules (called_by n asked w h.who) (w.calls + 1) n db (w.calls + 1) key asked (counted w) (projected era.number (counted w)) →
    client_turn c rules w n asked ≡ at_record c n db key (λ at o. move at rules e o) (call_begins w n) →
    Comes_to c era rules (called_by n asked w h.who) (w.calls + 1) n db key e (call_begins w n) (calls_with w n asked) (own_call (w.calls + 1) asked) (project era.number db key (counted w)) ev →
    Tells c era reg n (calls_with w n asked) (client_turn c rules w n asked)
unfolding makes labels_of
turn_kept c era rules reg w ls n db key asked e ev is kind h up at turn comes =
    subst (λ (u : Turn). Tells c era reg n (calls_with w n asked) u) (sym turn)
    (event_kept c era rules reg (called_by n asked w h.who) (w.calls + 1) n db key e (call_begins w n) (calls_with w n asked) (own_call (w.calls + 1) asked) (project era.number db key (counted w)) ev (starts_at c era rules reg n is (h.goes.0.up n up)) kind at.stays comes tt)

want_kept : (c : Config) (era : Era) (rules : Rules) (reg : Lines) (w : Cluster) (ls : List Label) (n db : ℕ) (key : List ℕ) (asked : ClientOp) → Starts c era rules reg → has_records (kind_at c db) ≡ true → (h : Run_goes c era rules reg ls w) → is_up n w ≡ true → db_of asked ≡ db → key_of asked ≡ key →
    refusal c rules (node_at n (counted w)) asked ≡ None → may_want (state_at db key (node_at n (counted w))) asked ≡ true →
    serves c rules n (w.calls + 1) (call_begins w n) asked ≡ at_record c n db key (λ at o. want at rules (w.calls + 1) asked o) (call_begins w n) →
    (client_turn c rules w n asked).spent ≡ false → Tells c era reg n (calls_with w n asked) (client_turn c rules w n asked)
want_kept c era rules reg w ls n db key asked is kind h up of_db of_key free may serve spent =
    let turn = client_serves c rules n (w.calls + 1) asked (node_at n (counted w)) free ∙ serve in
    let at = called_at c era rules reg w ls n db key asked is kind h up of_db of_key in
    turn_kept c era rules reg w ls n db key asked (event.Want (w.calls + 1) asked) (Wants n (w.calls + 1) asked) is kind h up at turn
    (wants_come c era rules (called_by n asked w h.who) (w.calls + 1) n db (w.calls + 1) key asked (counted w) (projected era.number (counted w)) at may (sym (ap (λ (u : Turn). u.spent) turn) ∙ spent))

store_kept : (c : Config) (era : Era) (rules : Rules) (reg : Lines) (w : Cluster) (ls : List Label) (n db : ℕ) (key v : List ℕ) → Starts c era rules reg → has_records (kind_at c db) ≡ true → (h : Run_goes c era rules reg ls w) → is_up n w ≡ true →
    refusal c rules (node_at n (counted w)) (op.Store db key v) ≡ None → (client_turn c rules w n (op.Store db key v)).spent ≡ false → Tells c era reg n (calls_with w n (op.Store db key v)) (client_turn c rules w n (op.Store db key v))
store_kept c era rules reg w ls n db key v is kind h up free spent =
    let asked = op.Store db key v in
    let turn = client_serves c rules n (w.calls + 1) asked (node_at n (counted w)) free ∙ serves_store c rules n (w.calls + 1) db key v (call_begins w n) in
    let at = called_at c era rules reg w ls n db key asked is kind h up refl refl in
    turn_kept c era rules reg w ls n db key asked (event.Store (w.calls + 1) v) (Stores n (w.calls + 1) v) is kind h up at turn
    (stores_come c era rules (called_by n asked w h.who) (w.calls + 1) n db (w.calls + 1) key v (counted w) (projected era.number (counted w)) at (may_store c (node_at n (counted w)) db key v (admits c rules (node_at n (counted w)) asked free)) (sym (ap (λ (u : Turn). u.spent) turn) ∙ spent))

unlock_kept : (c : Config) (era : Era) (rules : Rules) (reg : Lines) (w : Cluster) (ls : List Label) (n db : ℕ) (key : List ℕ) → Starts c era rules reg → has_records (kind_at c db) ≡ true → (h : Run_goes c era rules reg ls w) → is_up n w ≡ true →
    refusal c rules (node_at n (counted w)) (op.Unlock db key) ≡ None → (client_turn c rules w n (op.Unlock db key)).spent ≡ false → Tells c era reg n (calls_with w n (op.Unlock db key)) (client_turn c rules w n (op.Unlock db key))
unfolding makes
unlock_kept c era rules reg w ls n db key is kind h up free spent =
    let asked = op.Unlock db key in
    let at = called_at c era rules reg w ls n db key asked is kind h up refl refl in
    let turn = client_serves c rules n (w.calls + 1) asked (node_at n (counted w)) free ∙ serves_unlock c rules n (w.calls + 1) db key (call_begins w n) (phase_of era.number (node_at n (counted w)) at.stays.present) in
    turn_kept c era rules reg w ls n db key asked (event.Unlock (w.calls + 1)) (Unlocks n (w.calls + 1)) is kind h up at turn
    (unlocks_come c era rules (called_by n asked w h.who) (w.calls + 1) n db (w.calls + 1) key (counted w) (projected era.number (counted w)) at (may_unlock c (node_at n (counted w)) db key (admits c rules (node_at n (counted w)) asked free)) (sym (ap (λ (u : Turn). u.spent) turn) ∙ spent))

-- ---- every call on a record

-- what a call tells that is not refused, and not of a persistent database
pub client_kept : (c : Config) (era : Era) (rules : Rules) (reg : Lines) (w : Cluster) (ls : List Label) (n : ℕ) (o : ClientOp) → Starts c era rules reg → is_persistent (kind_at c (db_of o)) ≡ false → refusal c rules (node_at n (counted w)) o ≡ None →
    Run_goes c era rules reg ls w → is_up n w ≡ true → (client_turn c rules w n o).spent ≡ false → Tells c era reg n (own_pending n (w.calls + 1) o ∷ pending (counted w)) (client_turn c rules w n o)
client_kept c era rules reg w ls n (op.Lock db key) is f free h up spent =
    let a = admits c rules (node_at n (counted w)) (op.Lock db key) free in
    want_kept c era rules reg w ls n db key (op.Lock db key) is (call_kind c (node_at n (counted w)) (op.Lock db key) a f) h up refl refl free (may_lock c (node_at n (counted w)) db key a) (serves_lock c rules n (w.calls + 1) db key (call_begins w n)) spent
client_kept c era rules reg w ls n (op.Read db key) is f free h up spent =
    let a = admits c rules (node_at n (counted w)) (op.Read db key) free in
    want_kept c era rules reg w ls n db key (op.Read db key) is (call_kind c (node_at n (counted w)) (op.Read db key) a f) h up refl refl free (may_read c (node_at n (counted w)) db key a) (serves_read c rules n (w.calls + 1) db key (call_begins w n) f) spent
client_kept c era rules reg w ls n (op.Write db key v) is f free h up spent =
    let a = admits c rules (node_at n (counted w)) (op.Write db key v) free in
    want_kept c era rules reg w ls n db key (op.Write db key v) is (call_kind c (node_at n (counted w)) (op.Write db key v) a f) h up refl refl free (may_write c (node_at n (counted w)) db key v a) (serves_write c rules n (w.calls + 1) db key v (call_begins w n)) spent
client_kept c era rules reg w ls n (op.Apply db key g arg) is f free h up spent =
    let a = admits c rules (node_at n (counted w)) (op.Apply db key g arg) free in
    want_kept c era rules reg w ls n db key (op.Apply db key g arg) is (call_kind c (node_at n (counted w)) (op.Apply db key g arg) a f) h up refl refl free (may_apply c (node_at n (counted w)) db g key arg a) (serves_apply c rules n (w.calls + 1) db g key arg (call_begins w n)) spent
client_kept c era rules reg w ls n (op.Store db key v) is f free h up spent =
    store_kept c era rules reg w ls n db key v is (call_kind c (node_at n (counted w)) (op.Store db key v) (admits c rules (node_at n (counted w)) (op.Store db key v) free) f) h up free spent
client_kept c era rules reg w ls n (op.Unlock db key) is f free h up spent =
    unlock_kept c era rules reg w ls n db key is (call_kind c (node_at n (counted w)) (op.Unlock db key) (admits c rules (node_at n (counted w)) (op.Unlock db key) free) f) h up free spent
client_kept c era rules reg w ls n (op.Commit db writes) is f free h up spent =
    absurd (let k = commit_kind c (node_at n (counted w)) db writes (admits c rules (node_at n (counted w)) (op.Commit db writes) free) in cc)

-- a step that is taken was whole
pub client_whole : (c : Config) (rules : Rules) (w : Cluster) (n : ℕ) (o : ClientOp) (x : Stepped) → steps c rules w (step.Client n o) ≡ Ok x → (client_turn c rules w n o).spent ≡ false
unfolding steps node_steps.happens
client_whole c rules w n o x e = (fed_is c rules n (node_event.Client (w.calls + 1) o) [] (counted w) x e).0

-- so it is of a call whose step is taken
pub client_tells : (c : Config) (era : Era) (rules : Rules) (reg : Lines) (w : Cluster) (ls : List Label) (n : ℕ) (o : ClientOp) (x : Stepped) → Starts c era rules reg → is_persistent (kind_at c (db_of o)) ≡ false → refusal c rules (node_at n (counted w)) o ≡ None →
    Run_goes c era rules reg ls w → fault_of c w (step.Client n o) ≡ None → steps c rules w (step.Client n o) ≡ Ok x → Tells c era reg n (own_pending n (w.calls + 1) o ∷ pending (counted w)) (client_turn c rules w n o)
unfolding fault_of
client_tells c era rules reg w ls n o x is f free h ok e = client_kept c era rules reg w ls n o is f free h (runs w n _ _ ok) (client_whole c rules w n o x e)
