-- A lock, a read, a write or a function on a record, that is not refused: the cluster goes on.
use Rattle.std.proofs.Common.{◌≡◌, ℕ, ◌+◌, ◌<◌, true, false, List, [], ◌∷◌, ◌++◌, length, None, sym, ap, ◌∙◌, subst}
use Rattle.ct_values.specs.Client.{db_of, key_of}
use Rattle.ct_values.specs.declared.client.ClientOp.{ClientOp}
use Rattle.ct_values.specs.declared.config.Config.{Config}
use Rattle.ct_frame.specs.Fields.{is_db}
use Rattle.ct_call.specs.Rules.{Rules}
use Rattle.ct_rules.specs.Parts.{want}
use Rattle.ct_rules_node.specs.Node.{state_at, has_records, kind_at}
use Rattle.ct_rules_node.specs.Turn.{Turn, begins, makes}
use Rattle.ct_rules_node.specs.Records.{at_record}
use Rattle.ct_rules_node.specs.Clients.{refusal, client, serves}
use Rattle.ct_rules_cluster.specs.Cluster.{Cluster, is_up, node_at, pending}
use Rattle.ct_rules_cluster.specs.Labels.{Label}
use Rattle.ct_rules_cluster.specs.Steps.{put}
use Rattle.ct_law_record.specs.World as law
use Rattle.ct_law_record.specs.World.{may_want}
use Rattle.ct_law_generation.specs.Shown.{Era, labels_of, Schedules}
use Rattle.ct_law_generation.proofs.Pending.{Callers}
use Rattle.ct_law_generation.proofs.Delivering.{projected}
use Rattle.ct_law_generation.proofs.Calling.{own_pending, Goes, wants_follows}
use Rattle.ct_law_generation.proofs.Clusters.{ClusterStays}
use Rattle.ct_law_generation.proofs.Coming.{Cluster_goes}
use Rattle.ct_law_generation.proofs.Called.{counted, called_by, calls_at, call_goes}
use Rattle.ct_law_generation.proofs.Served.{client_serves}
use Rattle.ct_law_generation.proofs.Following.{IsEra}

pub wants_go : (c : Config) (era : Era) (rules : Rules) (who : Callers) (w : Cluster) (n db : ℕ) (key : List ℕ) (asked : ClientOp) (labels : List Label) (es : ℕ → List ℕ → List law.Event) → IsEra c era →
    ((d : ℕ) → d < length c.dbs → is_db d ≡ true) → ClusterStays c era rules who w → Schedules c era rules w labels es → is_up n w ≡ true → has_records (kind_at c db) ≡ true → db_of asked ≡ db → key_of asked ≡ key →
    refusal c rules (node_at n (counted w)) asked ≡ None → may_want (state_at db key (node_at n (counted w))) asked ≡ true →
    serves c rules n (w.calls + 1) (makes (w.calls + 1) (begins (node_at n (counted w)))) asked ≡ at_record c n db key (λ at o. want at rules (w.calls + 1) asked o) (makes (w.calls + 1) (begins (node_at n (counted w)))) →
    (client c rules n (w.calls + 1) asked (begins (node_at n (counted w)))).spent ≡ false →
    Cluster_goes c era rules (called_by n asked w who) (put n (client c rules n (w.calls + 1) asked (begins (node_at n (counted w)))) [] (counted w)).cluster
    (labels ++ labels_of n (own_pending n (w.calls + 1) asked ∷ pending (counted w)) (client c rules n (w.calls + 1) asked (begins (node_at n (counted w)))).outs)
wants_go c era rules who w n db key asked labels es real small h sched up kind of_db of_key free may serve spent =
    let is = client_serves c rules n (w.calls + 1) asked (node_at n (counted w)) free ∙ serve in
    call_goes c era rules who w n asked (client c rules n (w.calls + 1) asked (begins (node_at n (counted w)))) labels es h sched up
    (subst (λ (u : Turn). Goes c era rules (called_by n asked w who) (w.calls + 1) n (w.calls + 1) asked (counted w) (projected era.number (counted w)) u) (sym is)
    (wants_follows c era rules (called_by n asked w who) (w.calls + 1) n db (w.calls + 1) key asked (counted w) (projected era.number (counted w)) (calls_at c era rules who w n db key asked labels es real small h sched up kind of_db of_key) may (sym (ap (λ (u : Turn). u.spent) is) ∙ spent)))
