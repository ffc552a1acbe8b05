-- A message of a record is delivered, or comes again: the cluster stays so, and the schedules of all records go on.
use Rattle.std.proofs.Common.{◌≡◌, ℕ, suc, ◌<◌, true, false, ◌&&◌, List, [], ◌++◌, length, Some, refl, sym, ◌∙◌, append-nil, subst, ⊎_elim, Bool}
use Rattle.std.specs.Prelude.{slice_get}
use Rattle.std.proofs.lemmas.Bool.{cases_Bool}
use Rattle.ct_values.specs.declared.config.Config.{Config}
use Rattle.ct_frame.specs.Fields.{is_db}
use Rattle.ct_call.specs.Rules.{Rules}
use Rattle.ct_rules_node.specs.Node.{has_records, kind_at, is_among}
use Rattle.ct_rules_node.specs.Turn.{Turn, begins}
use Rattle.ct_rules_node.specs.Admission.{record_in, is_current}
use Rattle.ct_rules_node.specs.Steps.{arrives}
use Rattle.ct_rules_cluster.specs.Cluster.{Cluster, Sent, Fate, is_up, node_at, pending}
use Rattle.ct_rules_cluster.specs.Labels.{Label}
use Rattle.ct_rules_cluster.specs.Steps.{frames_of, put, with_fate}
use Rattle.ct_rules_cluster.specs.declared.step.PendingCall.{PendingCall}
use Rattle.ct_law_record.specs.World.{World}
use Rattle.ct_law_record.specs.World as law
use Rattle.ct_law_generation.specs.Shown.{Era, project, heard, labels_of, Schedules}
use Rattle.ct_law_generation.proofs.Pending.{Callers}
use Rattle.ct_law_generation.proofs.Plain.{plain_at}
use Rattle.ct_law_generation.proofs.Staying.{NodeStays}
use Rattle.ct_law_generation.proofs.Events.{arrives_not}
use Rattle.ct_law_generation.proofs.Following.{Goes_on, IsEra, asks_here}
use Rattle.ct_law_generation.proofs.Delivering.{projected, project_shown, begun, delivers}
use Rattle.ct_law_generation.proofs.Putting.{extends, fate_hidden}
use Rattle.ct_law_generation.proofs.Clusters.{ClusterStays, inside, all_known, fate_stays, put_stays}

-- nothing happens
pub goes_nowhere : (c : Config) (era : Era) (rules : Rules) (who : Callers) (calls n : ℕ) (pend : List PendingCall) (ws : ℕ → List ℕ → World) (t : Turn) → NodeStays c era rules who calls n t.node → Goes_on c era rules who calls n pend ws t t
unfolding heard
goes_nowhere c era rules who calls n pend ws t h = (h, (λ db key. ([], record { world = refl; labels = sym (append-nil _) })), λ before. before)

-- the cluster stays so, and schedules lead on to it that tell these labels more
abbrev pub Cluster_goes : Config → Era → Rules → Callers → Cluster → List Label → Type 0
Cluster_goes c era rules who w labels = ClusterStays c era rules who w × (es : ℕ → List ℕ → List law.Event) × Schedules c era rules w labels es

-- what a node makes of a turn that goes on so, the cluster does
pub put_goes : (c : Config) (era : Era) (rules : Rules) (who : Callers) (w : Cluster) (n : ℕ) (u : Turn) (labels : List Label) (es : ℕ → List ℕ → List law.Event) → is_among n era.members ≡ true → ClusterStays c era rules who w → Schedules c era rules w labels es →
    Goes_on c era rules who w.calls n (pending w) (λ db key. project era.number db key w) (begins (node_at n w)) u → Cluster_goes c era rules who (put n u [] w).cluster (labels ++ labels_of n (pending w) u.outs)
unfolding frames_of
put_goes c era rules who w n u labels es t h sched g = (
  put_stays c era rules who w n u t h g.0 (g.2 tt),
  (λ db key. es db key ++ (g.1 db key).0),
  extends c era rules n (begins (node_at n w)) u [] w (pending w) labels es (inside c era rules who w n h t) refl (λ db key. begun era.number db key n w) sched g.1,
)

-- a message of a record that was sent comes to a node that runs
pub comes_on : (c : Config) (era : Era) (rules : Rules) (who : Callers) (w : Cluster) (k : ℕ) (s : Sent) (r : ℕ × List ℕ) (labels : List Label) (es : ℕ → List ℕ → List law.Event) →
    IsEra c era → ((db : ℕ) → db < length c.dbs → is_db db ≡ true) → ClusterStays c era rules who w → Schedules c era rules w labels es → slice_get w.sent k ≡ Some s → is_up s.frame.receiver w ≡ true →
    record_in s.frame.msg ≡ Some r →
    (arrives c rules s.frame.receiver s.frame (begins (node_at s.frame.receiver w)) s.frame.msg).spent ≡ false →
    Cluster_goes c era rules who (put s.frame.receiver (arrives c rules s.frame.receiver s.frame (begins (node_at s.frame.receiver w)) s.frame.msg) [] w).cluster
    (labels ++ labels_of s.frame.receiver (pending w) (arrives c rules s.frame.receiver s.frame (begins (node_at s.frame.receiver w)) s.frame.msg).outs)
comes_on c era rules who w k s r labels es real small h sched at up is spent =
    let n = s.frame.receiver in
    let t = h.up n up in
    let turn = begins (node_at n w) in
    put_goes c era rules who w n (arrives c rules n s.frame turn s.frame.msg) labels es t h sched (⊎_elim
    (λ (ok : (is_current s.frame (node_at n w) && has_records (kind_at c r.0)) ≡ true).
    delivers c era rules who w k s r.0 r.1 (projected era.number w) (project_shown era.number n w) real small t (h.nodes n t) (all_known c era rules who w h) at is (plain_at era.number w.sent k s at h.sent) ok (asks_here c era rules w labels es real sched r.0 r.1) spent)
    (λ (out : (is_current s.frame (node_at n w) && has_records (kind_at c r.0)) ≡ false).
    subst (λ (u : Turn). Goes_on c era rules who w.calls n (pending w) (λ db key. project era.number db key w) turn u) (sym (arrives_not c rules n s.frame turn r.0 r.1 is out))
    (goes_nowhere c era rules who w.calls n (pending w) (λ db key. project era.number db key w) turn (h.nodes n t)))
    (cases_Bool (is_current s.frame (node_at n w) && has_records (kind_at c r.0))))

-- what became of a message does not matter
pub fate_goes : (c : Config) (era : Era) (rules : Rules) (who : Callers) (w : Cluster) (k : ℕ) (s : Sent) (f : Fate) (labels : List Label) → slice_get w.sent k ≡ Some s → Cluster_goes c era rules who w labels → Cluster_goes c era rules who (with_fate (suc k) s f w) labels
fate_goes c era rules who w k s f labels at g = (fate_stays c era rules who w k s f at g.0, g.1, λ db key. ((g.2 db key).0 ∙ sym (fate_hidden era.number db key k s f w at), (g.2 db key).1))

-- nor does a mark of a node
pub able_goes : (c : Config) (era : Era) (rules : Rules) (who : Callers) (w : Cluster) (able : List Bool) (labels : List Label) → Cluster_goes c era rules who w labels → Cluster_goes c era rules who (record w { able = able }) labels
unfolding node_at is_up
able_goes c era rules who w able labels g = (record { size = g.0.size; up = g.0.up; there = g.0.there; nodes = g.0.nodes; left = g.0.left; left_known = g.0.left_known; sent = g.0.sent }, g.1, g.2)
