-- Deliver and Repeat of a message of a record, as the cluster takes them.
use Rattle.std.proofs.Common.{◌≡◌, ℕ, ◌<◌, true, List, [], ◌++◌, length, Some, sym, subst}
use Rattle.std.specs.Prelude.{slice_get, Ok}
use Rattle.ct_values.specs.declared.config.Config.{Config}
use Rattle.ct_frame.specs.Fields.{is_db}
use Rattle.ct_frame.specs.declared.event.Event.TheVariants as event
use Rattle.ct_call.specs.Rules.{Rules}
use Rattle.ct_rules_node.specs.Turn.{begins}
use Rattle.ct_rules_node.specs.Admission.{record_in}
use Rattle.ct_rules_node.specs.Steps.{happens, arrives}
use Rattle.ct_rules_cluster.specs.Cluster.{Cluster, Sent, is_up, node_at, pending}
use Rattle.ct_rules_cluster.specs.Labels.{Label}
use Rattle.ct_rules_cluster.specs.Steps.{Stepped, fed}
use Rattle.ct_law_record.specs.World as law
use Rattle.ct_law_generation.specs.Shown.{Era, labels_of, Schedules}
use Rattle.ct_law_generation.proofs.Pending.{Callers}
use Rattle.ct_law_generation.proofs.Clusters.{ClusterStays}
use Rattle.ct_law_generation.proofs.Coming.{Cluster_goes, comes_on}
use Rattle.ct_law_generation.proofs.Fed.{fed_is}
use Rattle.ct_law_generation.proofs.Following.{IsEra}

-- a message of a record is given to its receiver, which runs, and the step is taken
pub fed_goes : (c : Config) (era : Era) (rules : Rules) (who : Callers) (w : Cluster) (k : ℕ) (s : Sent) (r : ℕ × List ℕ) (labels : List Label) (es : ℕ → List ℕ → List law.Event) (x : Stepped) →
    IsEra c era → ((db : ℕ) → db < length c.dbs → is_db db ≡ true) → ClusterStays c era rules who w → Schedules c era rules w labels es → slice_get w.sent k ≡ Some s → is_up s.frame.receiver w ≡ true →
    record_in s.frame.msg ≡ Some r → fed c rules s.frame.receiver (event.Arrive s.frame) [] w ≡ Ok x →
    Cluster_goes c era rules who x.cluster (labels ++ labels_of s.frame.receiver (pending w) (arrives c rules s.frame.receiver s.frame (begins (node_at s.frame.receiver w)) s.frame.msg).outs)
unfolding happens
fed_goes c era rules who w k s r labels es x real small h sched at up is ok =
    let f = fed_is c rules s.frame.receiver (event.Arrive s.frame) [] w x ok in
    subst (λ (y : Stepped). Cluster_goes c era rules who y.cluster (labels ++ labels_of s.frame.receiver (pending w) (arrives c rules s.frame.receiver s.frame (begins (node_at s.frame.receiver w)) s.frame.msg).outs)) (sym f.1)
    (comes_on c era rules who w k s r labels es real small h sched at up is f.0)
