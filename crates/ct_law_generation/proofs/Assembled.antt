-- A step of one generation that is taken: where the cluster goes on by it, and all that it tells of records is of the line, so does the run.
use Rattle.std.proofs.Common.{◌≡◌, ℕ, zero, suc, ◌+◌, ◌<◌, Bool, true, false, cond, List, [], ◌∷◌, ◌++◌, length, Option, Some, None, refl, sym, ap, ◌∙◌, append-nil, subst}
use Rattle.std.specs.Prelude.{slice_get, Result, Ok, Err}
use Rattle.std.specs.List.{AllByRecursion}
use Rattle.ct_values.specs.Client.{db_of, is_read}
use Rattle.ct_values.specs.declared.client.ClientOp.{ClientOp}
use Rattle.ct_values.specs.declared.client.ClientOp.TheVariants as op
use Rattle.ct_values.specs.declared.config.Config.{Config}
use Rattle.ct_call.specs.Rules.{Rules}
use Rattle.ct_rules_node.specs.Node.{is_persistent, kind_at, is_among}
use Rattle.ct_rules_cluster.specs.Cluster.{Cluster, Sent, Dropped, is_up, pending, node_at, sent_at}
use Rattle.ct_rules_cluster.specs.Labels.{Label}
use Rattle.ct_rules_node.specs.Retries.{retry}
use Rattle.ct_rules_cluster.specs.Faults.{is_allowed, fault_of}
use Rattle.ct_frame.specs.declared.event.Event.TheVariants as event
use Rattle.ct_rules_node.specs.Turn.{Turn, begins, makes}
use Rattle.ct_rules_node.specs.Steps as node_steps
use Rattle.ct_rules_node.specs.Steps.{vacuums}
use Rattle.ct_rules_cluster.specs.declared.step.PendingCall.{PendingCall}
use Rattle.ct_rules_cluster.specs.Steps.{Stepped, steps, steps_or, applied, done, drop, put}
use Rattle.ct_rules_cluster.specs.Traces as traces
use Rattle.ct_rules_cluster.specs.Traces.{own_labels}
use Rattle.ct_law_generation.specs.Waiting.{outcome, unchanged, came_of, told_lines, answerable, told_step}
use Rattle.ct_rules_cluster.specs.declared.step.Step.{Step}
use Rattle.ct_rules_cluster.specs.declared.step.Step.TheVariants as step
use Rattle.ct_rules_cluster.specs.declared.step.StepFault.{StepFault}
use Rattle.ct_register.specs.Lines.{Lines}
use Rattle.ct_promise.specs.Generation.{speaks_of_records, record_labels}
use Rattle.ct_law_generation.specs.Shown.{Era, IsOfLine, told_by_all, labels_of, Schedules, AllInstalled}
use Rattle.ct_law_generation.proofs.Pending.{Callers}
use Rattle.ct_law_generation.proofs.Clusters.{ClusterStays}
use Rattle.ct_law_generation.proofs.Lining.{Is_fit, fit_own, fit_told}
use Rattle.ct_law_generation.proofs.Retrying.{retry_cluster}
use Rattle.ct_rules_cluster.specs.declared.step.Line.{Line}
use Rattle.ct_rules_node.specs.Clients as clients
use Rattle.ct_rules_node.specs.Clients.{client, refusal}
use Rattle.ct_law_generation.proofs.Admitted.{admits, may_lock, may_read, may_write, may_apply}
use Rattle.ct_law_generation.proofs.Served.{call_kind, has_database, serves_lock, serves_read, serves_write, serves_apply}
use Rattle.ct_law_generation.proofs.Clients.{wants_go}
use Rattle.ct_law_generation.proofs.Locked.{stores_go, unlocks_go}
use Rattle.ct_law_record.specs.World as law
use Rattle.ct_law_record.specs.Labels as law_labels
use Rattle.ct_law_generation.proofs.Following.{IsEra}
use Rattle.ct_law_generation.proofs.Hearing.{told_by_more, labels_are}
use Rattle.ct_frame.specs.Fields.{is_db}
use Rattle.ct_law_generation.proofs.Called.{counted, called_by}
use Rattle.ct_law_generation.proofs.Calling.{own_pending}
use Rattle.ct_law_generation.proofs.Fed.{fed_is}
use Rattle.ct_law_generation.proofs.Vacuumed.{vacuum_fed}
use Rattle.ct_law_generation.proofs.Coming.{Cluster_goes, fate_goes, able_goes}
use Rattle.ct_lcp2.proofs.Choices.{all_append}
use Rattle.ct_law_generation.proofs.Faulting.{runs}
use Rattle.ct_promise.proofs.Follows.{filter_more}

-- the cluster goes on, and tells these labels, all of the line
pub record Run_goes (c : Config) (era : Era) (rules : Rules) (reg : Lines) (labels : List Label) (w : Cluster) : Type 0 where
  pub who : Callers
  pub goes : Cluster_goes c era rules who w labels
  pub own : AllByRecursion (IsOfLine c era.number reg) labels

-- ---- what is asked of the registers

-- from these registers on: only what was asked is answered in the generation, each member is in the line, and where not all
-- members serve in the generation, they all have installed it
pub record Starts (c : Config) (era : Era) (rules : Rules) (reg : Lines) : Type 0 where
  pub alone : era.alone ≡ true
  pub era_is : IsEra c era
  pub line : (n : ℕ) → is_among n era.members ≡ true → reg.line n ≡ era.number
  pub ready : era.thawed ≡ false → AllInstalled era.number reg
  pub small : (db : ℕ) → db < length c.dbs → is_db db ≡ true

-- of one member: only what was asked is answered in the generation, and the member is in the line
pub record Starts_at (c : Config) (era : Era) (rules : Rules) (reg : Lines) (n : ℕ) : Type 0 where
  pub era_is : IsEra c era
  pub member : is_among n era.members ≡ true
  pub line : reg.line n ≡ era.number
  pub small : (db : ℕ) → db < length c.dbs → is_db db ≡ true

pub starts_at : (c : Config) (era : Era) (rules : Rules) (reg : Lines) (n : ℕ) → Starts c era rules reg → is_among n era.members ≡ true → Starts_at c era rules reg n
starts_at c era rules reg n is inside = record { era_is = is.era_is; member = inside; line = is.line n inside; small = is.small }

-- ---- one step

-- where the step is taken, the cluster goes on to this
abbrev pub Taken_goes : Config → Era → Rules → Lines → Cluster → List Label → Step → Type 0
Taken_goes c era rules reg w ls s = (x : Stepped) → fault_of c w s ≡ None → steps c rules w s ≡ Ok x → Run_goes c era rules reg (ls ++ record_labels c (told_step w s x.lines)) x.cluster

idle_goes : (c : Config) (era : Era) (rules : Rules) (reg : Lines) (w : Cluster) (ls : List Label) → Run_goes c era rules reg ls w → Run_goes c era rules reg (ls ++ record_labels c (unchanged w).trace) (unchanged w).cluster
unfolding unchanged
idle_goes c era rules reg w ls h = subst (λ (l : List Label). Run_goes c era rules reg l w) (sym (append-nil ls)) h

result_goes : (c : Config) (era : Era) (rules : Rules) (reg : Lines) (w : Cluster) (ls : List Label) (s : Step) (r : Result Stepped StepFault) → Run_goes c era rules reg ls w →
    ((x : Stepped) → r ≡ Ok x → Run_goes c era rules reg (ls ++ record_labels c (told_step w s x.lines)) x.cluster) → Run_goes c era rules reg (ls ++ record_labels c (came_of w s r).trace) (came_of w s r).cluster
unfolding came_of
result_goes c era rules reg w ls s (Ok x) h f = f x refl
result_goes c era rules reg w ls s (Err e) h f = idle_goes c era rules reg w ls h

fault_goes : (c : Config) (era : Era) (rules : Rules) (reg : Lines) (w : Cluster) (ls : List Label) (s : Step) (f : Option StepFault) → fault_of c w s ≡ f → Run_goes c era rules reg ls w → Taken_goes c era rules reg w ls s →
    Run_goes c era rules reg (ls ++ record_labels c (came_of w s (steps_or c rules w s f)).trace) (came_of w s (steps_or c rules w s f)).cluster
unfolding steps_or
fault_goes c era rules reg w ls s (Some f) e h g = result_goes c era rules reg w ls s (Err f) h (λ x bad. absurd (cc))
fault_goes c era rules reg w ls s None e h g = result_goes c era rules reg w ls s (steps c rules w s) h (λ x ok. g x e ok)

pub step_goes : (c : Config) (era : Era) (rules : Rules) (reg : Lines) (w : Cluster) (ls : List Label) (s : Step) → Run_goes c era rules reg ls w → Taken_goes c era rules reg w ls s →
    Run_goes c era rules reg (ls ++ record_labels c (outcome c rules w s).trace) (outcome c rules w s).cluster
unfolding outcome applied
step_goes c era rules reg w ls s h g = either (is_allowed s)
  where
    either : (b : Bool) → Run_goes c era rules reg (ls ++ record_labels c (cond b (came_of w s (steps_or c rules w s (fault_of c w s))) (unchanged w)).trace) (cond b (came_of w s (steps_or c rules w s (fault_of c w s))) (unchanged w)).cluster
    either true = fault_goes c era rules reg w ls s (fault_of c w s) refl h g
    either false = idle_goes c era rules reg w ls h

-- ---- steps that tell nothing

pub silent : (c : Config) (era : Era) (rules : Rules) (reg : Lines) (ls : List Label) (w v : Cluster) (s : Step) (x : Stepped) → own_labels w s [] ≡ [] → ((who : Callers) → Cluster_goes c era rules who w ls → Cluster_goes c era rules who v ls) → Run_goes c era rules reg ls w → done [] v ≡ Ok x →
    Run_goes c era rules reg (ls ++ record_labels c (told_step w s x.lines)) x.cluster
unfolding done told_step told_lines
silent c era rules reg ls w v s x none f h e =
    let is : record { cluster = v; lines = [] } ≡ x = cc in
    subst (λ (y : Stepped). Run_goes c era rules reg (ls ++ record_labels c (told_step w s y.lines)) y.cluster) is
    (subst (λ (l : List Label). Run_goes c era rules reg (ls ++ record_labels c (l ++ [])) v) (sym none)
    (subst (λ (l : List Label). Run_goes c era rules reg l v) (sym (append-nil ls)) (record { who = h.who; goes = f h.who h.goes; own = h.own })))

pub able_taken : (c : Config) (era : Era) (rules : Rules) (reg : Lines) (w : Cluster) (ls : List Label) (n : ℕ) (able : Bool) → Run_goes c era rules reg ls w → Taken_goes c era rules reg w ls (step.Able n able)
unfolding steps own_labels
able_taken c era rules reg w ls n able h x ok e = silent c era rules reg ls w _ (step.Able n able) x refl (λ who g. able_goes c era rules who w _ ls g) h e

pub drop_taken : (c : Config) (era : Era) (rules : Rules) (reg : Lines) (w : Cluster) (ls : List Label) (k : ℕ) → Run_goes c era rules reg ls w → Taken_goes c era rules reg w ls (step.Drop k)
unfolding steps own_labels drop sent_at
drop_taken c era rules reg w ls zero h x ok e = silent c era rules reg ls w w (step.Drop zero) x refl (λ who g. g) h e
drop_taken c era rules reg w ls (suc k) h x ok e = either (slice_get w.sent k) refl e
  where
    either : (o : Option Sent) → slice_get w.sent k ≡ o → drop (suc k) w o ≡ Ok x → Run_goes c era rules reg (ls ++ record_labels c (told_step w (step.Drop (suc k)) x.lines)) x.cluster
    either None at r = silent c era rules reg ls w w (step.Drop (suc k)) x refl (λ who g. g) h r
    either (Some m) at r = silent c era rules reg ls w _ (step.Drop (suc k)) x refl (λ who g. fate_goes c era rules who w k m Dropped ls at g) h r

-- ---- a step of a node

-- what the node tells is of records of the line, or aside
abbrev pub Tells : Config → Era → Lines → ℕ → List PendingCall → Turn → Type 0
Tells c era reg n calls u = AllByRecursion (Is_fit c era.number reg) (labels_of n calls u.outs)

-- what the cluster goes on to, and what is told of records, where all of that is of the line
pub turn_taken : (c : Config) (era : Era) (rules : Rules) (reg : Lines) (who : Callers) (ls : List Label) (w v : Cluster) (s : Step) (n : ℕ) (u : Turn) (x : Stepped) → AllByRecursion (IsOfLine c era.number reg) ls →
    AllByRecursion (IsOfLine c era.number reg) (record_labels c (labels_of n (answerable w s) u.outs)) → record_labels c (own_labels w s x.lines) ≡ [] → x ≡ put n u [] v →
    Cluster_goes c era rules who x.cluster (ls ++ record_labels c (labels_of n (answerable w s) u.outs)) → Run_goes c era rules reg (ls ++ record_labels c (told_step w s x.lines)) x.cluster
unfolding told_step put
turn_taken c era rules reg who ls w v s n u x own kept none is goes =
    let lines : told_lines s (answerable w s) x.lines ≡ labels_of n (answerable w s) u.outs =
    ap (λ (y : Stepped). told_lines s (answerable w s) y.lines) is ∙ labels_are s n _ (answerable w s) u.outs in
    let told : record_labels c (told_step w s x.lines) ≡ record_labels c (labels_of n (answerable w s) u.outs) =
    filter_more (speaks_of_records c) (own_labels w s x.lines) (told_lines s (answerable w s) x.lines) ∙ ap (λ (l : List Label). l ++ record_labels c (told_lines s (answerable w s) x.lines)) none ∙ ap (λ (l : List Label). record_labels c l) lines in
    subst (λ (l : List Label). Run_goes c era rules reg (ls ++ l) x.cluster) (sym told) (record { who = who; goes = goes; own = all_append (IsOfLine c era.number reg) ls _ own kept })

-- labels that tell the same of records are told by the same schedules
told_same : (db : ℕ) (key : List ℕ) (ls xs ys : List Label) → told_by_all db key xs ≡ told_by_all db key ys → told_by_all db key (ls ++ xs) ≡ told_by_all db key (ls ++ ys)
told_same db key ls xs ys e = told_by_more db key ls xs ∙ ap (λ (l : List law_labels.Label). told_by_all db key ls ++ l) e ∙ sym (told_by_more db key ls ys)

pub turn_tells : (c : Config) (era : Era) (rules : Rules) (reg : Lines) (who : Callers) (ls : List Label) (w v : Cluster) (s : Step) (n : ℕ) (u : Turn) (x : Stepped) → AllByRecursion (IsOfLine c era.number reg) ls →
    Tells c era reg n (answerable w s) u → record_labels c (own_labels w s x.lines) ≡ [] → x ≡ put n u [] v → Cluster_goes c era rules who x.cluster (ls ++ labels_of n (answerable w s) u.outs) →
    Run_goes c era rules reg (ls ++ record_labels c (told_step w s x.lines)) x.cluster
turn_tells c era rules reg who ls w v s n u x own fit none is goes =
    let told = labels_of n (answerable w s) u.outs in
    turn_taken c era rules reg who ls w v s n u x own (fit_own c era.number reg told fit) none is
    (goes.0, goes.1, λ db key. ((goes.2 db key).0, (goes.2 db key).1 ∙ sym (told_same db key ls (record_labels c told) told (fit_told c era.number reg db key told fit))))

-- so it is of a turn that may answer the calls that wait
pub pending_tells : (c : Config) (era : Era) (rules : Rules) (reg : Lines) (ls : List Label) (w v : Cluster) (s : Step) (n : ℕ) (u : Turn) (x : Stepped) → (h : Run_goes c era rules reg ls v) →
    Tells c era reg n (pending v) u → answerable w s ≡ pending v → record_labels c (own_labels w s x.lines) ≡ [] → x ≡ put n u [] v → Cluster_goes c era rules h.who x.cluster (ls ++ labels_of n (pending v) u.outs) →
    Run_goes c era rules reg (ls ++ record_labels c (told_step w s x.lines)) x.cluster
pending_tells c era rules reg ls w v s n u x h fit calls none is goes =
    turn_tells c era rules reg h.who ls w v s n u x h.own (subst (λ (l : List PendingCall). Tells c era reg n l u) (sym calls) fit) none is
    (subst (λ (l : List PendingCall). Cluster_goes c era rules h.who x.cluster (ls ++ labels_of n l u.outs)) (sym calls) goes)

-- a vacuum, where all that the node tells is of records
pub vacuum_taken : (c : Config) (era : Era) (rules : Rules) (reg : Lines) (w : Cluster) (ls : List Label) (n db : ℕ) → Starts c era rules reg → ((vacuums c n db (begins (node_at n w))).spent ≡ false → Tells c era reg n (pending w) (vacuums c n db (begins (node_at n w)))) → Run_goes c era rules reg ls w → Taken_goes c era rules reg w ls (step.Vacuum n db)
unfolding fault_of steps own_labels answerable node_steps.happens
vacuum_taken c era rules reg w ls n db is kept h x ok e =
    let f = fed_is c rules n (event.Vacuum db) [] w x e in
    turn_tells c era rules reg h.who ls w w (step.Vacuum n db) n (vacuums c n db (begins (node_at n w))) x h.own (kept f.0) refl f.1
    (vacuum_fed c era rules h.who w n db ls h.goes.1 x is.era_is is.small h.goes.0 h.goes.2 (runs w n _ _ ok) e)

-- a Retry, where all that the node tells is of records
pub retry_taken : (c : Config) (era : Era) (rules : Rules) (reg : Lines) (w : Cluster) (ls : List Label) (n : ℕ) → Starts c era rules reg → Tells c era reg n (pending w) (retry c n (begins (node_at n w))) → Run_goes c era rules reg ls w → Taken_goes c era rules reg w ls (step.Retry n)
unfolding fault_of steps own_labels answerable node_steps.happens
retry_taken c era rules reg w ls n is kept h x ok e =
    let f = fed_is c rules n event.Retry [] w x e in
    turn_tells c era rules reg h.who ls w w (step.Retry n) n (retry c n (begins (node_at n w))) x h.own kept refl f.1
    (subst (λ (y : Stepped). Cluster_goes c era rules h.who y.cluster (ls ++ labels_of n (pending w) (retry c n (begins (node_at n w))).outs)) (sym f.1)
    (retry_cluster c era rules h.who w n ls h.goes.1 is.alone is.era_is is.small (runs w n _ _ ok) h.goes.0 h.goes.2))

-- ---- calls

-- the turn of a client's call
abbrev pub client_turn : Config → Rules → Cluster → ℕ → ClientOp → Turn
client_turn c rules w n o = client c rules n (w.calls + 1) o (begins (node_at n (counted w)))

pub counted_calls : (w : Cluster) (n : ℕ) (o : ClientOp) → own_pending n (w.calls + 1) o ∷ pending (counted w) ≡ answerable w (step.Client n o)
unfolding answerable pending
counted_calls w n o = refl

-- a call by which the cluster goes on, where all that the node tells is of records and no commit begins
pub client_taken : (c : Config) (era : Era) (rules : Rules) (reg : Lines) (w : Cluster) (ls : List Label) (n : ℕ) (o : ClientOp) → Tells c era reg n (own_pending n (w.calls + 1) o ∷ pending (counted w)) (client_turn c rules w n o) → ((lines : List Line) → record_labels c (own_labels w (step.Client n o) lines) ≡ []) →
    ((who : Callers) (es : ℕ → List ℕ → List law.Event) → ClusterStays c era rules who w → Schedules c era rules w ls es → is_up n w ≡ true → (client_turn c rules w n o).spent ≡ false →
    Cluster_goes c era rules (called_by n o w who) (put n (client_turn c rules w n o) [] (counted w)).cluster (ls ++ labels_of n (own_pending n (w.calls + 1) o ∷ pending (counted w)) (client_turn c rules w n o).outs)) →
    Run_goes c era rules reg ls w → Taken_goes c era rules reg w ls (step.Client n o)
unfolding fault_of steps node_steps.happens
client_taken c era rules reg w ls n o kept none goes h x ok e =
    let f = fed_is c rules n (event.Client (w.calls + 1) o) [] (counted w) x e in
    let u = client_turn c rules w n o in
    turn_tells c era rules reg (called_by n o w h.who) ls w (counted w) (step.Client n o) n u x h.own
    (subst (λ (l : List PendingCall). Tells c era reg n l u) (counted_calls w n o) kept) (none x.lines) f.1
    (subst (λ (l : List PendingCall). Cluster_goes c era rules (called_by n o w h.who) x.cluster (ls ++ labels_of n l u.outs)) (counted_calls w n o)
    (subst (λ (y : Stepped). Cluster_goes c era rules (called_by n o w h.who) y.cluster (ls ++ labels_of n (own_pending n (w.calls + 1) o ∷ pending (counted w)) u.outs)) (sym f.1)
    (goes h.who h.goes.1 h.goes.0 h.goes.2 (runs w n _ _ ok) f.0)))

-- a store that is not refused
pub store_taken : (c : Config) (era : Era) (rules : Rules) (reg : Lines) (w : Cluster) (ls : List Label) (n db : ℕ) (key v : List ℕ) → Starts c era rules reg → refusal c rules (node_at n (counted w)) (op.Store db key v) ≡ None →
    Tells c era reg n (own_pending n (w.calls + 1) (op.Store db key v) ∷ pending (counted w)) (client_turn c rules w n (op.Store db key v)) → Run_goes c era rules reg ls w → Taken_goes c era rules reg w ls (step.Client n (op.Store db key v))
unfolding own_labels traces.begun_by clients.is_commit is_read
store_taken c era rules reg w ls n db key v is free kept h =
    client_taken c era rules reg w ls n (op.Store db key v) kept (λ lines. refl) (λ who es stays sched up spent. stores_go c era rules who w n db key v ls es is.era_is is.small stays sched up free spent) h

-- an unlock that is not refused
pub unlock_taken : (c : Config) (era : Era) (rules : Rules) (reg : Lines) (w : Cluster) (ls : List Label) (n db : ℕ) (key : List ℕ) → Starts c era rules reg → refusal c rules (node_at n (counted w)) (op.Unlock db key) ≡ None →
    Tells c era reg n (own_pending n (w.calls + 1) (op.Unlock db key) ∷ pending (counted w)) (client_turn c rules w n (op.Unlock db key)) → Run_goes c era rules reg ls w → Taken_goes c era rules reg w ls (step.Client n (op.Unlock db key))
unfolding own_labels traces.begun_by clients.is_commit is_read
unlock_taken c era rules reg w ls n db key is free kept h =
    client_taken c era rules reg w ls n (op.Unlock db key) kept (λ lines. refl) (λ who es stays sched up spent. unlocks_go c era rules who w n db key ls es is.era_is is.small stays sched up free spent) h

-- a lock that is not refused
pub lock_taken : (c : Config) (era : Era) (rules : Rules) (reg : Lines) (w : Cluster) (ls : List Label) (n db : ℕ) (key : List ℕ) → Starts c era rules reg → refusal c rules (node_at n (counted w)) (op.Lock db key) ≡ None →
    Tells c era reg n (own_pending n (w.calls + 1) (op.Lock db key) ∷ pending (counted w)) (client_turn c rules w n (op.Lock db key)) → Run_goes c era rules reg ls w → Taken_goes c era rules reg w ls (step.Client n (op.Lock db key))
unfolding own_labels traces.begun_by clients.is_commit is_read
lock_taken c era rules reg w ls n db key is free kept h =
    client_taken c era rules reg w ls n (op.Lock db key) kept (λ lines. refl) (λ who es stays sched up spent. wants_go c era rules who w n db key (op.Lock db key) ls es is.era_is is.small stays sched up (has_database c (node_at n (counted w)) (op.Lock db key) (admits c rules (node_at n (counted w)) (op.Lock db key) free) refl refl) refl refl free (may_lock c (node_at n (counted w)) db key (admits c rules (node_at n (counted w)) (op.Lock db key) free)) (serves_lock c rules n (w.calls + 1) db key (makes (w.calls + 1) (begins (node_at n (counted w))))) spent) h

-- a write that is not refused
pub write_taken : (c : Config) (era : Era) (rules : Rules) (reg : Lines) (w : Cluster) (ls : List Label) (n db : ℕ) (key v : List ℕ) → Starts c era rules reg → refusal c rules (node_at n (counted w)) (op.Write db key v) ≡ None →
    Tells c era reg n (own_pending n (w.calls + 1) (op.Write db key v) ∷ pending (counted w)) (client_turn c rules w n (op.Write db key v)) → Run_goes c era rules reg ls w → Taken_goes c era rules reg w ls (step.Client n (op.Write db key v))
unfolding own_labels traces.begun_by clients.is_commit is_read
write_taken c era rules reg w ls n db key v is free kept h =
    client_taken c era rules reg w ls n (op.Write db key v) kept (λ lines. refl) (λ who es stays sched up spent. wants_go c era rules who w n db key (op.Write db key v) ls es is.era_is is.small stays sched up (has_database c (node_at n (counted w)) (op.Write db key v) (admits c rules (node_at n (counted w)) (op.Write db key v) free) refl refl) refl refl free (may_write c (node_at n (counted w)) db key v (admits c rules (node_at n (counted w)) (op.Write db key v) free)) (serves_write c rules n (w.calls + 1) db key v (makes (w.calls + 1) (begins (node_at n (counted w))))) spent) h

-- a function that is not refused
pub apply_taken : (c : Config) (era : Era) (rules : Rules) (reg : Lines) (w : Cluster) (ls : List Label) (n db : ℕ) (f : ℕ) (key arg : List ℕ) → Starts c era rules reg → refusal c rules (node_at n (counted w)) (op.Apply db key f arg) ≡ None →
    Tells c era reg n (own_pending n (w.calls + 1) (op.Apply db key f arg) ∷ pending (counted w)) (client_turn c rules w n (op.Apply db key f arg)) → Run_goes c era rules reg ls w → Taken_goes c era rules reg w ls (step.Client n (op.Apply db key f arg))
unfolding own_labels traces.begun_by clients.is_commit is_read
apply_taken c era rules reg w ls n db f key arg is free kept h =
    client_taken c era rules reg w ls n (op.Apply db key f arg) kept (λ lines. refl) (λ who es stays sched up spent. wants_go c era rules who w n db key (op.Apply db key f arg) ls es is.era_is is.small stays sched up (has_database c (node_at n (counted w)) (op.Apply db key f arg) (admits c rules (node_at n (counted w)) (op.Apply db key f arg) free) refl refl) refl refl free (may_apply c (node_at n (counted w)) db f key arg (admits c rules (node_at n (counted w)) (op.Apply db key f arg) free)) (serves_apply c rules n (w.calls + 1) db f key arg (makes (w.calls + 1) (begins (node_at n (counted w))))) spent) h

-- a read of a record that is not refused
pub read_taken : (c : Config) (era : Era) (rules : Rules) (reg : Lines) (w : Cluster) (ls : List Label) (n db : ℕ) (key : List ℕ) → Starts c era rules reg → is_persistent (kind_at c db) ≡ false → refusal c rules (node_at n (counted w)) (op.Read db key) ≡ None →
    Tells c era reg n (own_pending n (w.calls + 1) (op.Read db key) ∷ pending (counted w)) (client_turn c rules w n (op.Read db key)) → Run_goes c era rules reg ls w → Taken_goes c era rules reg w ls (step.Client n (op.Read db key))
unfolding own_labels traces.begun_by clients.is_commit is_read
read_taken c era rules reg w ls n db key is kind free kept h =
    let admitted = admits c rules (node_at n (counted w)) (op.Read db key) free in
    client_taken c era rules reg w ls n (op.Read db key) kept (λ lines. refl) (λ who es stays sched up spent. wants_go c era rules who w n db key (op.Read db key) ls es is.era_is is.small stays sched up (call_kind c (node_at n (counted w)) (op.Read db key) admitted kind) refl refl free
    (may_read c (node_at n (counted w)) db key admitted) (serves_read c rules n (w.calls + 1) db key (makes (w.calls + 1) (begins (node_at n (counted w)))) kind) spent) h
