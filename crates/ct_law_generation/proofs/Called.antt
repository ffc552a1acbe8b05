-- A client's call on a record comes to a node of the cluster: it is the call of its number, and the cluster goes on.
use Rattle.std.proofs.Common.{◌≡◌, ℕ, ◌+◌, ◌<◌, true, List, [], ◌∷◌, ◌++◌, length, refl, arith}
use Rattle.ct_values.specs.Client.{db_of, key_of}
use Rattle.ct_values.specs.declared.client.ClientOp.{ClientOp}
use Rattle.ct_values.specs.declared.config.Config.{Config}
use Rattle.ct_frame.specs.Fields.{is_db}
use Rattle.ct_call.specs.Rules.{Rules}
use Rattle.ct_rules_node.specs.Node.{has_records, kind_at}
use Rattle.ct_rules_node.specs.Turn.{Turn, begins, makes}
use Rattle.ct_rules_cluster.specs.Cluster.{Cluster, is_up, node_at, pending}
use Rattle.ct_rules_cluster.specs.Labels.{Label}
use Rattle.ct_rules_cluster.specs.Steps.{put}
use Rattle.ct_law_record.specs.World as law
use Rattle.ct_law_generation.specs.Shown.{Era, labels_of, Schedules}
use Rattle.ct_law_generation.proofs.Pending.{Callers}
use Rattle.ct_law_generation.proofs.Delivering.{projected, project_shown, begun, has_place}
use Rattle.ct_law_generation.proofs.Calling.{own_pending, Calls_at, Goes}
use Rattle.ct_law_generation.proofs.Clusters.{ClusterStays}
use Rattle.ct_law_generation.proofs.Coming.{Cluster_goes}
use Rattle.ct_law_generation.proofs.Counting.{with_caller, own_caller, more_calls, turn_goes}
use Rattle.ct_law_generation.proofs.Following.{IsEra, asks_here}

-- the cluster with one call more
abbrev pub counted : Cluster → Cluster
counted w = record w { calls = w.calls + 1 }

-- and whose that is
abbrev pub called_by : ℕ → ClientOp → Cluster → Callers → Callers
called_by n asked w who = with_caller (w.calls + 1) (n, asked) who

-- it shows the same
pub counted_schedules : (c : Config) (era : Era) (rules : Rules) (w : Cluster) (labels : List Label) (es : ℕ → List ℕ → List law.Event) → Schedules c era rules w labels es → Schedules c era rules (counted w) labels es
unfolding node_at
counted_schedules c era rules w labels es h = h

-- the call comes to a record of a node that runs
pub calls_at : (c : Config) (era : Era) (rules : Rules) (who : Callers) (w : Cluster) (n db : ℕ) (key : List ℕ) (asked : ClientOp) (labels : List Label) (es : ℕ → List ℕ → List law.Event) → IsEra c era →
    ((d : ℕ) → d < length c.dbs → is_db d ≡ true) → ClusterStays c era rules who w → Schedules c era rules w labels es → is_up n w ≡ true → has_records (kind_at c db) ≡ true → db_of asked ≡ db → key_of asked ≡ key →
    Calls_at c era rules (called_by n asked w who) (w.calls + 1) n db (w.calls + 1) key asked (counted w) (projected era.number (counted w))
calls_at c era rules who w n db key asked labels es real small h sched up kind of_db of_key = record {
  real = real;
  small = small db (has_place c db kind);
  member = h.up n up;
  stays = (more_calls c era rules who (n, asked) w h).nodes n (h.up n up);
  kind = kind;
  own = own_caller (w.calls + 1) (n, asked) who;
  counted = omega arith;
  of_db = of_db;
  of_key = of_key;
  shown = project_shown era.number n (counted w);
  lawful = asks_here c era rules (counted w) labels es real (counted_schedules c era rules w labels es sched) db key;
}

-- and where the node goes on so, the cluster does
pub call_goes : (c : Config) (era : Era) (rules : Rules) (who : Callers) (w : Cluster) (n : ℕ) (asked : ClientOp) (u : Turn) (labels : List Label) (es : ℕ → List ℕ → List law.Event) → ClusterStays c era rules who w → Schedules c era rules w labels es → is_up n w ≡ true →
    Goes c era rules (called_by n asked w who) (w.calls + 1) n (w.calls + 1) asked (counted w) (projected era.number (counted w)) u →
    Cluster_goes c era rules (called_by n asked w who) (put n u [] (counted w)).cluster (labels ++ labels_of n (own_pending n (w.calls + 1) asked ∷ pending (counted w)) u.outs)
unfolding makes
call_goes c era rules who w n asked u labels es h sched up g =
    turn_goes c era rules (called_by n asked w who) (counted w) n (makes (w.calls + 1) (begins (node_at n (counted w)))) u (own_pending n (w.calls + 1) asked ∷ pending (counted w)) labels es (h.up n up) refl
    (λ db key. begun era.number db key n (counted w)) (more_calls c era rules who (n, asked) w h) (counted_schedules c era rules w labels es sched) g
