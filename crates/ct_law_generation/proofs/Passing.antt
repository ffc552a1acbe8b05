-- Messages of commits, of rounds and of runs, but for a Thaw, and the begin of a run: no record is touched, so the run goes on.
use Rattle.std.proofs.Common.{◌≡◌, ℕ, Bool, true, false, List, [], ◌++◌, refl, sym, subst, ◌≤◌, ◌∙◌, ap, length}
use Rattle.std.specs.Prelude.{nat_eq, ◌&&◌, slice_get}
use Rattle.std.specs.List.{AllByRecursion}
use Rattle.std.proofs.lemmas.Bool.{cond_both, and_parts}
use Rattle.ct_values.specs.declared.client.ClientOp.TheVariants as op
use Rattle.ct_values.specs.declared.config.Config.{Config}
use Rattle.ct_frame.specs.declared.event.Event.TheVariants as event
use Rattle.ct_frame.specs.declared.frame.Frame.{Frame}
use Rattle.ct_frame.specs.declared.frame.Msg.{Msg}
use Rattle.ct_frame.specs.declared.frame.Msg.TheVariants as msg
use Rattle.ct_call.specs.Rules.{Rules}
use Rattle.ct_rules_node.specs.Node as node
use Rattle.ct_rules_node.specs.Turn.{Turn, begins}
use Rattle.ct_rules_node.specs.Admission.{is_current}
use Rattle.ct_rules_node.specs.Databases.{on_pupdate, on_pack}
use Rattle.ct_rules_node.specs.Steps as node_steps
use Rattle.ct_rules_node.specs.Steps.{arrives, if_persistent}
use Rattle.ct_rules_cluster.specs.Cluster.{Cluster, is_up, node_at, pending, able_from}
use Rattle.ct_rules_cluster.specs.Labels.{Label}
use Rattle.ct_rules_cluster.specs.Steps.{Stepped, put, steps}
use Rattle.ct_rules_cluster.specs.Traces as traces
use Rattle.ct_law_generation.specs.Waiting.{answerable, told_step}
use Rattle.ct_rules_cluster.specs.Traces.{own_labels}
use Rattle.ct_rules_cluster.specs.declared.step.PendingCall.{PendingCall}
use Rattle.ct_rules_cluster.specs.declared.step.Step.{Step}
use Rattle.ct_rules_cluster.specs.declared.step.Step.TheVariants as step
use Rattle.ct_promise.specs.Generation.{record_labels, speaks_of_records}
use Rattle.ct_law_generation.specs.Shown.{Era, labels_of, IsOfLine, scene}
use Rattle.ct_law_generation.proofs.Pending.{Callers, pending_fits, NodeKnown, DatabaseKnown}
use Rattle.ct_law_generation.proofs.Clusters.{all_known}
use Rattle.ct_law_generation.proofs.Coming.{Cluster_goes}
use Rattle.ct_law_generation.proofs.Fed.{fed_is}
use Rattle.ct_law_generation.proofs.Committed.{beside_none, not_after, pupdate_beside, pack_beside, waiting_untold, Goes_beside, beside_goes}
use Rattle.ct_law_generation.proofs.Assembled.{Run_goes, Taken_goes, turn_taken}
use Rattle.ct_law_generation.proofs.Faulting.{runs}
use Rattle.ct_register.specs.Lines.{Lines}
use Rattle.ct_law_generation.proofs.Asides.{Beside, beside_views, Settled, beside_mail, beside_keeps, beside_labels}
use Rattle.ct_law_generation.proofs.Plain.{IsPlain}
use Rattle.ct_rules_node.specs.Node.{Node, db_at, Database, or_untouched}
use Rattle.ct_rules_cluster.specs.Faults.{fault_of}
use Rattle.ct_law_generation.proofs.Rounding.{is_beside_records, arrives_beside, begin_takeover_beside}
use Rattle.ct_law_generation.proofs.Staying.{NodeStays, Of_records}
use Rattle.ct_law_generation.proofs.Delivering.{begun}
use Rattle.ct_law_rules_node.specs.NodeLaws.{AllAscend}
use Rattle.ct_rules_node.specs.Takeovers.{begin_takeover}
use Rattle.ct_law_record.specs.World.{View}
use Rattle.ct_law_wishes.proofs.Wishing.{Wishful}
use Rattle.ct_law_generation.proofs.Forming.{Is_formed}

-- ---- a step beside the records

-- where a step goes on beside the records, the run goes on
pub beside_taken : (c : Config) (era : Era) (rules : Rules) (reg : Lines) (ls : List Label) (w v : Cluster) (s : Step) (n : ℕ) (u : Turn) (x : Stepped) → (h : Run_goes c era rules reg ls v) → is_up n v ≡ true → Goes_beside c era rules h.who v.calls n (pending v) (begins (node_at n v)) u →
    answerable w s ≡ pending v → record_labels c (own_labels w s x.lines) ≡ [] → x ≡ put n u [] v → Run_goes c era rules reg (ls ++ record_labels c (told_step w s x.lines)) x.cluster
unfolding labels_of
beside_taken c era rules reg ls w v s n u x h up g calls none is =
    let inside = h.goes.0.up n up in
    let quiet : record_labels c (labels_of n (answerable w s) u.outs) ≡ [] = subst (λ (l : List PendingCall). record_labels c (labels_of n l u.outs) ≡ []) (sym calls) g.untold in
    turn_taken c era rules reg h.who ls w v s n u x h.own (subst (λ (l : List Label). AllByRecursion (IsOfLine c era.number reg) l) (sym quiet) tt) none is
    (subst (λ (l : List PendingCall). Cluster_goes c era rules h.who x.cluster (ls ++ record_labels c (labels_of n l u.outs))) (sym calls)
    (subst (λ (y : Stepped). Cluster_goes c era rules h.who y.cluster (ls ++ record_labels c (labels_of n (pending v) u.outs))) (sym is)
    (beside_goes c era rules h.who v n (begins (node_at n v)) u (pending v) ls h.goes.1 inside refl (λ db key. begun era.number db key n v) (h.goes.0.nodes n inside) h.goes.0 h.goes.2 g)))

-- ---- the messages of commits

-- is the message one of a commit?
unfoldable pub is_of_commit : Msg → Bool
is_of_commit (msg.PUpdate db seq writes) = true
is_of_commit (msg.PAck db seq) = true
is_of_commit _ = false

-- one that comes is followed or dropped
pub commit_comes : (c : Config) (era : Era) (rules : Rules) (reg : Lines) (ls : List Label) (w : Cluster) (n : ℕ) (f : Frame) (m : Msg) → (h : Run_goes c era rules reg ls w) → is_up n w ≡ true → is_of_commit m ≡ true →
    Goes_beside c era rules h.who w.calls n (pending w) (begins (node_at n w)) (arrives c rules n f (begins (node_at n w)) m)
unfolding is_of_commit arrives if_persistent
commit_comes c era rules reg ls w n f (msg.PUpdate db seq writes) h up e =
    let t = begins (node_at n w) in
    cond_both (is_current f (node_at n w) && node.is_persistent (node.kind_at c db)) (on_pupdate n f.sender db seq writes t) t (λ (v : Turn). Goes_beside c era rules h.who w.calls n (pending w) t v)
    (λ _. pupdate_beside c era rules h.who w.calls n (pending w) f.sender db seq writes t (not_after c era rules h.who w.calls n (node_at n w) (h.goes.0.nodes n (h.goes.0.up n up))))
    (λ _. beside_none c era rules h.who w.calls n (pending w) t)
commit_comes c era rules reg ls w n f (msg.PAck db seq) h up e =
    let t = begins (node_at n w) in
    let fits = pending_fits h.who w.calls w (all_known c era rules h.who w h.goes.0) in
    cond_both (is_current f (node_at n w) && node.is_persistent (node.kind_at c db)) (on_pack f.sender db seq t) t (λ (v : Turn). Goes_beside c era rules h.who w.calls n (pending w) t v)
    (λ k. pack_beside c era rules h.who w.calls n (pending w) f.sender db seq t (h.goes.0.nodes n (h.goes.0.up n up))
    (λ call writes own. waiting_untold c h.who n call (op.Commit db writes) (pending w) fits own (and_parts (is_current f (node_at n w)) (node.is_persistent (node.kind_at c db)) k).1))
    (λ _. beside_none c era rules h.who w.calls n (pending w) t)
commit_comes c era rules reg ls w n f _ h up e = absurd (cc)

-- ---- the messages of rounds and runs

-- calls that wait are known where the databases are the same
same_known : (who : Callers) (calls n : ℕ) (x y : Node) → y.dbs ≡ x.dbs → NodeKnown who calls n x → NodeKnown who calls n y
unfolding db_at
same_known who calls n x y e h = record {
  order = subst (λ (ds : List Database). AllAscend ds) (sym e) h.order;
  dbs = λ db. subst (λ (ds : List Database). DatabaseKnown who calls n db (or_untouched (slice_get ds db))) (sym e) (h.dbs db);
}

settled : (c : Config) (era : Era) (rules : Rules) (who : Callers) (calls n : ℕ) (x : Node) → era.alone ≡ true → NodeStays c era rules who calls n x → Settled era.number x
settled c era rules who calls n x alone h = record { present = h.present; promise = h.promise; lead = h.lead alone }

-- a member stays as it was where no record is touched
pub stays_beside : (c : Config) (era : Era) (rules : Rules) (who : Callers) (calls n : ℕ) (t u : Turn) → Beside era.number n t u → NodeStays c era rules who calls n t.node → NodeStays c era rules who calls n u.node
unfolding node.is_present_in
stays_beside c era rules who calls n t u b h = record {
  present = ap (λ p. node.is_present p && nat_eq u.node.generation era.number) b.phase ∙ ap (λ k. node.is_present t.node.phase && nat_eq k era.number) b.generation ∙ h.present;
  knows = b.members ∙ h.knows;
  promise = b.promise ∙ h.promise;
  lead = λ alone. b.lead (h.lead alone);
  size = ap (λ (ds : List Database). length ds) b.dbs ∙ h.size;
  known = same_known who calls n t.node u.node b.dbs h.known;
  waits = λ db key. subst (λ (v : View). Wishful (Of_records c db key) v.state.wish) (sym (beside_views era.number n db key t u b)) (h.waits db key);
  serves = λ warm. b.phase ∙ h.serves warm;
  formed = λ db key. subst (λ (v : View). Is_formed (scene c era rules db key) n v) (sym (beside_views era.number n db key t u b)) (h.formed db key);
}

-- so the step goes on beside the records
goes_beside : (c : Config) (era : Era) (rules : Rules) (who : Callers) (calls n : ℕ) (pend : List PendingCall) (t u : Turn) → Beside era.number n t u → Goes_beside c era rules who calls n pend t u
unfolding IsPlain
goes_beside c era rules who calls n pend t u b = record {
  stays = λ h. stays_beside c era rules who calls n t u b h;
  views = λ db key. beside_views era.number n db key t u b;
  mail = λ db key. beside_mail era.number n era.number db key t u b;
  plain = λ h. beside_keeps (λ (f : Frame). IsPlain era.number f) era.number n t u b (λ f none sender old. (old, λ r is now. absurd (let e = none in cc))) h;
  untold = beside_labels c era.number n n pend t u b;
}

-- a message of a round or a run that comes, but for a Thaw
pub round_comes : (c : Config) (era : Era) (rules : Rules) (reg : Lines) (ls : List Label) (w : Cluster) (n : ℕ) (f : Frame) (m : Msg) → era.alone ≡ true → (h : Run_goes c era rules reg ls w) → is_up n w ≡ true → f.generation ≤ era.number → is_beside_records m ≡ true →
    Goes_beside c era rules h.who w.calls n (pending w) (begins (node_at n w)) (arrives c rules n f (begins (node_at n w)) m)
round_comes c era rules reg ls w n f m alone h up old e =
    let t = begins (node_at n w) in
    goes_beside c era rules h.who w.calls n (pending w) t (arrives c rules n f t m)
    (arrives_beside c rules n era.number f t m (settled c era rules h.who w.calls n (node_at n w) alone (h.goes.0.nodes n (h.goes.0.up n up))) old e)

-- ---- the begin of a run

pub takeover_taken : (c : Config) (era : Era) (rules : Rules) (reg : Lines) (w : Cluster) (ls : List Label) (n : ℕ) → era.alone ≡ true → Run_goes c era rules reg ls w → Taken_goes c era rules reg w ls (step.Takeover n)
unfolding fault_of steps own_labels answerable node_steps.happens speaks_of_records
takeover_taken c era rules reg w ls n alone h x ok e =
    let t = begins (node_at n w) in
    let up = runs w n _ _ ok in
    let u = begin_takeover n (able_from 0 w.able) t t.node.lead in
    beside_taken c era rules reg ls w w (step.Takeover n) n u x h up
    (goes_beside c era rules h.who w.calls n (pending w) t u (begin_takeover_beside n era.number (able_from 0 w.able) t t.node.lead ((h.goes.0.nodes n (h.goes.0.up n up)).lead alone))) refl refl
    (fed_is c rules n (event.BeginTakeover (able_from 0 w.able)) [] w x e).1
