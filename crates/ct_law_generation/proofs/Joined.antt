-- A client's call, refused, on a record or on a persistent database: the run goes on.
use Rattle.std.proofs.Common.{◌≡◌, ℕ, ◌+◌, Bool, true, false, not, cond, List, [], ◌∷◌, ◌++◌, Option, Some, None, refl, sym, ap, ◌∙◌, arith, subst, ⊎_elim, ◌≤◌}
use Rattle.std.specs.List.{AllByRecursion}
use Rattle.std.proofs.lemmas.Bool.{eq-eqb, not-true, cases_Bool}
use Rattle.ct_values.specs.Client.{db_of, is_read}
use Rattle.ct_values.specs.declared.client.Answer.TheVariants as answer
use Rattle.ct_values.specs.declared.client.ClientOp.{ClientOp}
use Rattle.ct_values.specs.declared.client.ClientOp.TheVariants as op
use Rattle.ct_values.specs.declared.client.Pair.{Pair}
use Rattle.ct_values.specs.declared.client.Why.{Why}
use Rattle.ct_values.specs.declared.config.Config.{Config}
use Rattle.ct_frame.specs.declared.event.Event.TheVariants as event
use Rattle.ct_call.specs.Rules.{Rules}
use Rattle.ct_rules_node.specs.Clients as clients
use Rattle.ct_rules_node.specs.Clients.{client, refusal, serves, serves_or, reads, is_commit}
use Rattle.ct_rules_node.specs.Databases.{read_pair}
use Rattle.ct_rules_node.specs.Node as node
use Rattle.ct_rules_node.specs.Node.{Node}
use Rattle.ct_rules_node.specs.Records.{at_record}
use Rattle.ct_rules_node.specs.Steps as node_steps
use Rattle.ct_rules_node.specs.Turn.{Turn, answers, begins, does, makes}
use Rattle.ct_rules.specs.Parts.{want}
use Rattle.ct_rules_cluster.specs.Cluster.{Cluster, is_up, node_at, pending}
use Rattle.ct_rules_cluster.specs.Faults.{fault_of}
use Rattle.ct_rules_cluster.specs.Labels.{Label, Answered, Begun}
use Rattle.ct_rules_cluster.specs.Steps.{Stepped, put, steps}
use Rattle.ct_rules_cluster.specs.Traces as traces
use Rattle.ct_rules_cluster.specs.Traces.{own_labels}
use Rattle.ct_law_generation.specs.Waiting.{answered, told_lines, answerable, told_step}
use Rattle.ct_rules_cluster.specs.declared.step.Line.{Line}
use Rattle.ct_rules_cluster.specs.declared.step.PendingCall.{PendingCall}
use Rattle.ct_rules_cluster.specs.declared.step.Step.TheVariants as step
use Rattle.ct_promise.specs.Generation.{speaks_of_records, record_labels}
use Rattle.ct_law_record.specs.World as law
use Rattle.ct_law_generation.specs.Shown.{Era, is_telling, told_by, told_by_all, labels_of, IsOfLine, Schedules}
use Rattle.ct_law_generation.proofs.Hearing.{told_by_more}
use Rattle.ct_law_generation.proofs.Pending.{Callers}
use Rattle.ct_law_generation.proofs.Clusters.{ClusterStays}
use Rattle.ct_law_generation.proofs.Coming.{Cluster_goes}
use Rattle.ct_law_generation.proofs.Counting.{own_caller, more_calls}
use Rattle.ct_law_generation.proofs.Delivering.{projected}
use Rattle.ct_law_generation.proofs.Calling.{own_pending, Goes}
use Rattle.ct_law_generation.proofs.Called.{counted, called_by, call_goes}
use Rattle.ct_law_generation.proofs.Admitted.{admits}
use Rattle.ct_law_generation.proofs.Served.{client_serves, record_kind}
use Rattle.ct_law_generation.proofs.Refused.{untold, refused_follows}
use Rattle.ct_law_generation.proofs.Configured.{refusals_silent}
use Rattle.ct_law_generation.proofs.Fed.{fed_is}
use Rattle.ct_law_generation.proofs.Committed.{own_untold, commit_beside, not_after, read_pair_beside, commit_kind, commit_goes, read_pair_goes}
use Rattle.ct_law_generation.proofs.Assembled.{Starts, Run_goes, Taken_goes, client_turn, counted_calls, lock_taken, read_taken, write_taken, apply_taken, store_taken, unlock_taken}
use Rattle.ct_law_generation.proofs.Faulting.{runs}
use Rattle.ct_law_generation.proofs.Hearing.{labels_are}
use Rattle.ct_register.specs.Lines.{Lines}
use Rattle.ct_law_generation.proofs.Kept.{client_tells}
use Rattle.ct_lcp2.proofs.Choices.{all_append}
use Rattle.ct_promise.proofs.Follows.{filter_more}

-- ---- what a call tells

-- that a commit begins is left out
begun_left_out : (c : Config) (n call : ℕ) (o : ClientOp) (lines : List Line) → record_labels c (traces.begun_by n call o lines) ≡ []
unfolding traces.begun_by speaks_of_records
begun_left_out c n call (op.Lock db key) lines = refl
begun_left_out c n call (op.Read db key) lines = refl
begun_left_out c n call (op.Write db key v) lines = refl
begun_left_out c n call (op.Apply db key f arg) lines = refl
begun_left_out c n call (op.Store db key v) lines = refl
begun_left_out c n call (op.Unlock db key) lines = refl
begun_left_out c n call (op.Commit db writes) lines = either (traces.is_refused call lines)
  where
    either : (b : Bool) → record_labels c (cond b [] (Begun n db writes ∷ [])) ≡ []
    either true = refl
    either false = refl

-- the labels of the turn of a call that are of records
abbrev told_by_call : Config → Rules → Cluster → ℕ → ClientOp → List Label
told_by_call c rules w n o = record_labels c (labels_of n (own_pending n (w.calls + 1) o ∷ pending (counted w)) (client_turn c rules w n o).outs)

-- they are all that its step tells of records
call_tells : (c : Config) (w v : Cluster) (n : ℕ) (o : ClientOp) (u : Turn) (x : Stepped) → x ≡ put n u [] v → record_labels c (told_step w (step.Client n o) x.lines) ≡ record_labels c (labels_of n (answerable w (step.Client n o)) u.outs)
unfolding told_step own_labels put
call_tells c w v n o u x is =
    let s = step.Client n o in
    let calls = answerable w s in
    filter_more (speaks_of_records c) (traces.begun_by n (w.calls + 1) o x.lines) (told_lines s calls x.lines)
    ∙ ap (λ (l : List Label). l ++ record_labels c (told_lines s calls x.lines)) (begun_left_out c n (w.calls + 1) o x.lines)
    ∙ ap (λ (y : Stepped). record_labels c (told_lines s calls y.lines)) is
    ∙ ap (λ (l : List Label). record_labels c l) (labels_are s n _ calls u.outs)

-- a call by which the cluster goes on, where all that it tells of records is of the line
call_taken : (c : Config) (era : Era) (rules : Rules) (reg : Lines) (w : Cluster) (ls : List Label) (n : ℕ) (o : ClientOp) → AllByRecursion (IsOfLine c era.number reg) (told_by_call c rules w n o) →
    ((who : Callers) (es : ℕ → List ℕ → List law.Event) → ClusterStays c era rules who w → Schedules c era rules w ls es → is_up n w ≡ true →
    Cluster_goes c era rules (called_by n o w who) (put n (client_turn c rules w n o) [] (counted w)).cluster (ls ++ told_by_call c rules w n o)) →
    Run_goes c era rules reg ls w → Taken_goes c era rules reg w ls (step.Client n o)
unfolding fault_of steps node_steps.happens
call_taken c era rules reg w ls n o own goes h x ok e =
    let f = fed_is c rules n (event.Client (w.calls + 1) o) [] (counted w) x e in
    let u = client_turn c rules w n o in
    let told = call_tells c w (counted w) n o u x f.1 ∙ ap (λ (l : List PendingCall). record_labels c (labels_of n l u.outs)) (sym (counted_calls w n o)) in
    subst (λ (l : List Label). Run_goes c era rules reg (ls ++ l) x.cluster) (sym told)
    (subst (λ (y : Stepped). Run_goes c era rules reg (ls ++ told_by_call c rules w n o) y.cluster) (sym f.1)
    (record {
      who = called_by n o w h.who;
      goes = goes h.who h.goes.1 h.goes.0 h.goes.2 (runs w n _ _ ok);
      own = all_append (IsOfLine c era.number reg) ls (told_by_call c rules w n o) h.own own;
    }))

-- ---- a call that is refused

-- where other labels tell the same, the cluster goes on with them
told_same : (c : Config) (era : Era) (rules : Rules) (who : Callers) (w : Cluster) (ls xs ys : List Label) → ((db : ℕ) (key : List ℕ) → told_by_all db key xs ≡ told_by_all db key ys) → Cluster_goes c era rules who w (ls ++ xs) → Cluster_goes c era rules who w (ls ++ ys)
told_same c era rules who w ls xs ys same g = (
  g.0,
  g.1,
  λ db key. (
    (g.2 db key).0,
    (g.2 db key).1 ∙ told_by_more db key ls xs ∙ ap (λ (l : List _). told_by_all db key ls ++ l) (same db key) ∙ sym (told_by_more db key ls ys),
  ),
)

-- the turn answers the refusal
refused_turn : (c : Config) (rules : Rules) (w : Cluster) (n : ℕ) (o : ClientOp) (reason : Why) → refusal c rules (node_at n (counted w)) o ≡ Some reason → client_turn c rules w n o ≡ answers (w.calls + 1) (answer.Refused reason) (makes (w.calls + 1) (begins (node_at n (counted w))))
unfolding client serves_or
refused_turn c rules w n o reason e = ap (serves_or c rules n (w.calls + 1) o (makes (w.calls + 1) (begins (node_at n (counted w))))) e

-- and tells no more than that
answer_labels : (n call : ℕ) (o : ClientOp) (reason : Why) (ps : List PendingCall) (x : Node) → labels_of n (own_pending n call o ∷ ps) (answers call (answer.Refused reason) (makes call (begins x))).outs ≡ Answered n o (answer.Refused reason) ∷ []
unfolding answers does makes labels_of answered
answer_labels n call o reason ps x = ap (λ (b : Bool). cond b (Answered n o (answer.Refused reason) ∷ []) (answered call (answer.Refused reason) ps) ++ []) (eq-eqb call call refl)

refused_labels : (c : Config) (rules : Rules) (w : Cluster) (n : ℕ) (o : ClientOp) (reason : Why) → refusal c rules (node_at n (counted w)) o ≡ Some reason →
    labels_of n (own_pending n (w.calls + 1) o ∷ pending (counted w)) (client_turn c rules w n o).outs ≡ Answered n o (answer.Refused reason) ∷ []
refused_labels c rules w n o reason e = ap (λ (u : Turn). labels_of n (own_pending n (w.calls + 1) o ∷ pending (counted w)) u.outs) (refused_turn c rules w n o reason e) ∙ answer_labels n (w.calls + 1) o reason (pending (counted w)) (node_at n (counted w))

-- a refusal that tells nothing may be kept or left out
silent_told : (db : ℕ) (key : List ℕ) (n : ℕ) (o : ClientOp) (reason : Why) (b : Bool) → is_telling (answer.Refused reason) ≡ false → told_by_all db key (Answered n o (answer.Refused reason) ∷ []) ≡ told_by_all db key (cond b (Answered n o (answer.Refused reason) ∷ []) [])
unfolding told_by_all told_by
silent_told db key n o reason true e = refl
silent_told db key n o reason false e = untold db key n o reason (is_telling (answer.Refused reason)) refl e

-- of which database a label of records speaks
speaking : (c : Config) (n : ℕ) (o : ClientOp) (reason : Why) → not (node.is_persistent (node.kind_at c (db_of o))) ≡ speaks_of_records c (Answered n o (answer.Refused reason))
unfolding speaks_of_records
speaking c n o reason = refl

silent_own : (c : Config) (line : ℕ) (reg : Lines) (n : ℕ) (o : ClientOp) (reason : Why) (b : Bool) → not (node.is_persistent (node.kind_at c (db_of o))) ≡ b → is_telling (answer.Refused reason) ≡ false → AllByRecursion (IsOfLine c line reg) (cond b (Answered n o (answer.Refused reason) ∷ []) [])
unfolding IsOfLine
silent_own c line reg n o reason true speaks e = ((not-true (node.is_persistent (node.kind_at c (db_of o))) speaks, λ t. absurd (cc)), tt)
silent_own c line reg n o reason false speaks e = tt

refused_goes : (c : Config) (era : Era) (rules : Rules) (who : Callers) (w : Cluster) (ls : List Label) (n : ℕ) (o : ClientOp) (reason : Why) (es : ℕ → List ℕ → List law.Event) → refusal c rules (node_at n (counted w)) o ≡ Some reason → ClusterStays c era rules who w → Schedules c era rules w ls es → is_up n w ≡ true →
    Cluster_goes c era rules (called_by n o w who) (put n (client_turn c rules w n o) [] (counted w)).cluster (ls ++ told_by_call c rules w n o)
refused_goes c era rules who w ls n o reason es why h sched up =
    let silent = refusals_silent c rules (node_at n (counted w)) o reason why in
    let told = refused_labels c rules w n o reason why in
    told_same c era rules (called_by n o w who) (put n (client_turn c rules w n o) [] (counted w)).cluster ls (labels_of n (own_pending n (w.calls + 1) o ∷ pending (counted w)) (client_turn c rules w n o).outs) (told_by_call c rules w n o)
    (λ db key. subst (λ (l : List Label). told_by_all db key l ≡ told_by_all db key (record_labels c l)) (sym told) (silent_told db key n o reason (speaks_of_records c (Answered n o (answer.Refused reason))) silent))
    (call_goes c era rules who w n o (client_turn c rules w n o) ls es h sched up
    (subst (λ (u : Turn). Goes c era rules (called_by n o w who) (w.calls + 1) n (w.calls + 1) o (counted w) (projected era.number (counted w)) u) (sym (refused_turn c rules w n o reason why))
    (refused_follows c era rules (called_by n o w who) (w.calls + 1) n (w.calls + 1) o (counted w) (projected era.number (counted w)) reason ((more_calls c era rules who (n, o) w h).nodes n (h.up n up)) silent)))

-- a call that is refused
pub refused_taken : (c : Config) (era : Era) (rules : Rules) (reg : Lines) (w : Cluster) (ls : List Label) (n : ℕ) (o : ClientOp) (reason : Why) → refusal c rules (node_at n (counted w)) o ≡ Some reason → Run_goes c era rules reg ls w → Taken_goes c era rules reg w ls (step.Client n o)
refused_taken c era rules reg w ls n o reason why h =
    call_taken c era rules reg w ls n o
    (subst (λ (l : List Label). AllByRecursion (IsOfLine c era.number reg) (record_labels c l)) (sym (refused_labels c rules w n o reason why))
    (silent_own c era.number reg n o reason (speaks_of_records c (Answered n o (answer.Refused reason))) (speaking c n o reason) (refusals_silent c rules (node_at n (counted w)) o reason why)))
    (λ who es stays sched up. refused_goes c era rules who w ls n o reason es why stays sched up) h

-- ---- a call on a persistent database

-- a commit tells nothing of records
commit_quiet : (c : Config) (era : Era) (rules : Rules) (who : Callers) (w : Cluster) (n db : ℕ) (writes : List Pair) → (node_at n (counted w)).generation ≤ era.number → node.is_persistent (node.kind_at c db) ≡ true → refusal c rules (node_at n (counted w)) (op.Commit db writes) ≡ None →
    told_by_call c rules w n (op.Commit db writes) ≡ []
unfolding serves makes labels_of
commit_quiet c era rules who w n db writes old kind free =
    let asked = op.Commit db writes in
    let pend = own_pending n (w.calls + 1) asked ∷ pending (counted w) in
    ap (λ (u : Turn). record_labels c (labels_of n pend u.outs)) (client_serves c rules n (w.calls + 1) asked (node_at n (counted w)) free)
    ∙ (commit_beside c era rules (called_by n asked w who) (w.calls + 1) n pend (w.calls + 1) db writes (makes (w.calls + 1) (begins (node_at n (counted w)))) old
    (own_untold c n (w.calls + 1) asked (pending (counted w)) kind) (own_caller (w.calls + 1) (n, asked) who) (omega arith)).untold

-- the node that is called runs
node_runs : (c : Config) (w : Cluster) (n : ℕ) (o : ClientOp) → fault_of c w (step.Client n o) ≡ None → is_up n w ≡ true
unfolding fault_of
node_runs c w n o ok = runs w n _ _ ok

-- and is in no newer generation
old_counted : (c : Config) (era : Era) (rules : Rules) (who : Callers) (w : Cluster) (n : ℕ) → ClusterStays c era rules who w → is_up n w ≡ true → (node_at n (counted w)).generation ≤ era.number
unfolding node_at
old_counted c era rules who w n h up = not_after c era rules who w.calls n _ (h.nodes n (h.up n up))

-- a commit that is not refused
pub commit_taken : (c : Config) (era : Era) (rules : Rules) (reg : Lines) (w : Cluster) (ls : List Label) (n db : ℕ) (writes : List Pair) → is_up n w ≡ true → refusal c rules (node_at n (counted w)) (op.Commit db writes) ≡ None → Run_goes c era rules reg ls w →
    Taken_goes c era rules reg w ls (step.Client n (op.Commit db writes))
commit_taken c era rules reg w ls n db writes runs_here free h =
    let kind = commit_kind c (node_at n (counted w)) db writes (admits c rules (node_at n (counted w)) (op.Commit db writes) free) in
    call_taken c era rules reg w ls n (op.Commit db writes)
    (subst (λ (l : List Label). AllByRecursion (IsOfLine c era.number reg) l) (sym (commit_quiet c era rules h.who w n db writes (old_counted c era rules h.who w n h.goes.0 runs_here) kind free)) tt)
    (λ who es stays sched up. commit_goes c era rules who w n db writes ls es stays sched up kind free) h

-- a read of a pair tells nothing of records
pair_quiet : (c : Config) (era : Era) (rules : Rules) (who : Callers) (w : Cluster) (n db : ℕ) (key : List ℕ) → node.is_persistent (node.kind_at c db) ≡ true → refusal c rules (node_at n (counted w)) (op.Read db key) ≡ None →
    told_by_call c rules w n (op.Read db key) ≡ []
unfolding serves reads makes labels_of
pair_quiet c era rules who w n db key kind free =
    let asked = op.Read db key in
    let pend = own_pending n (w.calls + 1) asked ∷ pending (counted w) in
    let t = makes (w.calls + 1) (begins (node_at n (counted w))) in
    let is : client_turn c rules w n asked ≡ read_pair (w.calls + 1) db key t
    = client_serves c rules n (w.calls + 1) asked (node_at n (counted w)) free ∙ ap (λ (b : Bool). cond b (read_pair (w.calls + 1) db key t) (at_record c n db key (λ at o. want at rules (w.calls + 1) asked o) t)) kind in
    ap (λ (u : Turn). record_labels c (labels_of n pend u.outs)) is
    ∙ (read_pair_beside c era rules (called_by n asked w who) (w.calls + 1) n pend (w.calls + 1) db key t (own_untold c n (w.calls + 1) asked (pending (counted w)) kind)).untold

-- a read of a pair that is not refused
pub read_pair_taken : (c : Config) (era : Era) (rules : Rules) (reg : Lines) (w : Cluster) (ls : List Label) (n db : ℕ) (key : List ℕ) → node.is_persistent (node.kind_at c db) ≡ true → refusal c rules (node_at n (counted w)) (op.Read db key) ≡ None → Run_goes c era rules reg ls w →
    Taken_goes c era rules reg w ls (step.Client n (op.Read db key))
read_pair_taken c era rules reg w ls n db key kind free h =
    call_taken c era rules reg w ls n (op.Read db key)
    (subst (λ (l : List Label). AllByRecursion (IsOfLine c era.number reg) l) (sym (pair_quiet c era rules h.who w n db key kind free)) tt)
    (λ who es stays sched up. read_pair_goes c era rules who w n db key ls es stays sched up kind free) h

-- ---- every call

-- a call that is not refused
free_taken : (c : Config) (era : Era) (rules : Rules) (reg : Lines) (w : Cluster) (ls : List Label) (n : ℕ) (o : ClientOp) → Starts c era rules reg → refusal c rules (node_at n (counted w)) o ≡ None → Run_goes c era rules reg ls w →
    Taken_goes c era rules reg w ls (step.Client n o)
unfolding is_commit is_read
free_taken c era rules reg w ls n (op.Lock db key) is free h x ok e =
    let o = op.Lock db key in
    let kind = record_kind c (node_at n (counted w)) o (admits c rules (node_at n (counted w)) o free) refl refl in
    lock_taken c era rules reg w ls n db key is free (client_tells c era rules reg w ls n o x is kind free h ok e) h x ok e
free_taken c era rules reg w ls n (op.Write db key v) is free h x ok e =
    let o = op.Write db key v in
    let kind = record_kind c (node_at n (counted w)) o (admits c rules (node_at n (counted w)) o free) refl refl in
    write_taken c era rules reg w ls n db key v is free (client_tells c era rules reg w ls n o x is kind free h ok e) h x ok e
free_taken c era rules reg w ls n (op.Apply db key f arg) is free h x ok e =
    let o = op.Apply db key f arg in
    let kind = record_kind c (node_at n (counted w)) o (admits c rules (node_at n (counted w)) o free) refl refl in
    apply_taken c era rules reg w ls n db f key arg is free (client_tells c era rules reg w ls n o x is kind free h ok e) h x ok e
free_taken c era rules reg w ls n (op.Store db key v) is free h x ok e =
    let o = op.Store db key v in
    let kind = record_kind c (node_at n (counted w)) o (admits c rules (node_at n (counted w)) o free) refl refl in
    store_taken c era rules reg w ls n db key v is free (client_tells c era rules reg w ls n o x is kind free h ok e) h x ok e
free_taken c era rules reg w ls n (op.Unlock db key) is free h x ok e =
    let o = op.Unlock db key in
    let kind = record_kind c (node_at n (counted w)) o (admits c rules (node_at n (counted w)) o free) refl refl in
    unlock_taken c era rules reg w ls n db key is free (client_tells c era rules reg w ls n o x is kind free h ok e) h x ok e
free_taken c era rules reg w ls n (op.Read db key) is free h x ok e = ⊎_elim
    (λ (t : node.is_persistent (node.kind_at c db) ≡ true). read_pair_taken c era rules reg w ls n db key t free h x ok e)
    (λ (f : node.is_persistent (node.kind_at c db) ≡ false). read_taken c era rules reg w ls n db key is f free (client_tells c era rules reg w ls n (op.Read db key) x is f free h ok e) h x ok e)
    (cases_Bool (node.is_persistent (node.kind_at c db)))
free_taken c era rules reg w ls n (op.Commit db writes) is free h x ok e = commit_taken c era rules reg w ls n db writes (node_runs c w n (op.Commit db writes) ok) free h x ok e

-- a client's call
pub client_joined : (c : Config) (era : Era) (rules : Rules) (reg : Lines) (w : Cluster) (ls : List Label) (n : ℕ) (o : ClientOp) → Starts c era rules reg → Run_goes c era rules reg ls w → Taken_goes c era rules reg w ls (step.Client n o)
client_joined c era rules reg w ls n o is h = either (refusal c rules (node_at n (counted w)) o) refl
  where
    either : (r : Option Why) → refusal c rules (node_at n (counted w)) o ≡ r → Taken_goes c era rules reg w ls (step.Client n o)
    either (Some reason) e = refused_taken c era rules reg w ls n o reason e h
    either None e = free_taken c era rules reg w ls n o is e h
