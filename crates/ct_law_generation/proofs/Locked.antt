-- A store or an unlock of a record, that is not refused: the cluster goes on.
use Rattle.std.proofs.Common.{◌≡◌, ℕ, ◌+◌, ◌<◌, true, false, List, [], ◌∷◌, ◌++◌, length, None, refl, sym, ap, ◌∙◌, subst}
use Rattle.ct_values.specs.Client.{db_of, is_read}
use Rattle.ct_values.specs.declared.client.ClientOp.{ClientOp}
use Rattle.ct_values.specs.declared.client.ClientOp.TheVariants as op
use Rattle.ct_values.specs.declared.config.Config.{Config}
use Rattle.ct_frame.specs.Fields.{is_db}
use Rattle.ct_call.specs.Rules.{Rules}
use Rattle.ct_rules_node.specs.Node.{is_present, has_records, kind_at}
use Rattle.ct_rules_node.specs.Turn.{Turn, begins, makes}
use Rattle.ct_rules_node.specs.Clients as clients
use Rattle.ct_rules_node.specs.Clients.{refusal, client}
use Rattle.ct_rules_cluster.specs.Cluster.{Cluster, is_up, node_at, pending}
use Rattle.ct_rules_cluster.specs.Labels.{Label}
use Rattle.ct_rules_cluster.specs.Steps.{put}
use Rattle.ct_law_record.specs.World as law
use Rattle.ct_law_generation.specs.Shown.{Era, labels_of, Schedules}
use Rattle.ct_law_generation.proofs.Admitted.{admits, may_store, may_unlock}
use Rattle.ct_law_generation.proofs.Pending.{Callers}
use Rattle.ct_law_generation.proofs.Delivering.{projected}
use Rattle.ct_law_generation.proofs.Calling.{own_pending, Goes, stores_follows, unlocks_follows}
use Rattle.ct_law_generation.proofs.Clusters.{ClusterStays}
use Rattle.ct_law_generation.proofs.Coming.{Cluster_goes}
use Rattle.ct_law_generation.proofs.Called.{counted, called_by, calls_at, call_goes}
use Rattle.ct_law_generation.proofs.Served.{client_serves, serves_store, serves_unlock, has_database}
use Rattle.ct_law_generation.proofs.Following.{IsEra}
use Rattle.ct_law_generation.proofs.Staying.{phase_of}

-- where the client's turn is this one, and the node goes on so, the cluster does
client_goes : (c : Config) (era : Era) (rules : Rules) (who : Callers) (w : Cluster) (n : ℕ) (asked : ClientOp) (u : Turn) (labels : List Label) (es : ℕ → List ℕ → List law.Event) → ClusterStays c era rules who w → Schedules c era rules w labels es → is_up n w ≡ true →
    client c rules n (w.calls + 1) asked (begins (node_at n (counted w))) ≡ u → Goes c era rules (called_by n asked w who) (w.calls + 1) n (w.calls + 1) asked (counted w) (projected era.number (counted w)) u →
    Cluster_goes c era rules (called_by n asked w who) (put n (client c rules n (w.calls + 1) asked (begins (node_at n (counted w)))) [] (counted w)).cluster
    (labels ++ labels_of n (own_pending n (w.calls + 1) asked ∷ pending (counted w)) (client c rules n (w.calls + 1) asked (begins (node_at n (counted w)))).outs)
client_goes c era rules who w n asked u labels es h sched up is g =
    call_goes c era rules who w n asked (client c rules n (w.calls + 1) asked (begins (node_at n (counted w)))) labels es h sched up
    (subst (λ (u : Turn). Goes c era rules (called_by n asked w who) (w.calls + 1) n (w.calls + 1) asked (counted w) (projected era.number (counted w)) u) (sym is) g)

-- the database of a store that is not refused has records
store_kind : (c : Config) (rules : Rules) (db : ℕ) (key v : List ℕ) (w : Cluster) (n : ℕ) → refusal c rules (node_at n w) (op.Store db key v) ≡ None → has_records (kind_at c db) ≡ true
unfolding clients.is_commit is_read
store_kind c rules db key v w n free = has_database c (node_at n w) (op.Store db key v) (admits c rules (node_at n w) (op.Store db key v) free) refl refl

-- and of an unlock
unlock_kind : (c : Config) (rules : Rules) (db : ℕ) (key : List ℕ) (w : Cluster) (n : ℕ) → refusal c rules (node_at n w) (op.Unlock db key) ≡ None → has_records (kind_at c db) ≡ true
unfolding clients.is_commit is_read
unlock_kind c rules db key w n free = has_database c (node_at n w) (op.Unlock db key) (admits c rules (node_at n w) (op.Unlock db key) free) refl refl

-- a store
pub stores_go : (c : Config) (era : Era) (rules : Rules) (who : Callers) (w : Cluster) (n db : ℕ) (key v : List ℕ) (labels : List Label) (es : ℕ → List ℕ → List law.Event) → IsEra c era →
    ((d : ℕ) → d < length c.dbs → is_db d ≡ true) → ClusterStays c era rules who w → Schedules c era rules w labels es → is_up n w ≡ true →
    refusal c rules (node_at n (counted w)) (op.Store db key v) ≡ None →
    (client c rules n (w.calls + 1) (op.Store db key v) (begins (node_at n (counted w)))).spent ≡ false →
    Cluster_goes c era rules (called_by n (op.Store db key v) w who) (put n (client c rules n (w.calls + 1) (op.Store db key v) (begins (node_at n (counted w)))) [] (counted w)).cluster
    (labels ++ labels_of n (own_pending n (w.calls + 1) (op.Store db key v) ∷ pending (counted w)) (client c rules n (w.calls + 1) (op.Store db key v) (begins (node_at n (counted w)))).outs)
stores_go c era rules who w n db key v labels es real small h sched up free spent =
    let is = client_serves c rules n (w.calls + 1) (op.Store db key v) (node_at n (counted w)) free ∙ serves_store c rules n (w.calls + 1) db key v (makes (w.calls + 1) (begins (node_at n (counted w)))) in
    client_goes c era rules who w n (op.Store db key v) _ labels es h sched up is
    (stores_follows c era rules (called_by n (op.Store db key v) w who) (w.calls + 1) n db (w.calls + 1) key v (counted w) (projected era.number (counted w))
    (calls_at c era rules who w n db key (op.Store db key v) labels es real small h sched up (store_kind c rules db key v (counted w) n free) refl refl)
    (may_store c (node_at n (counted w)) db key v (admits c rules (node_at n (counted w)) (op.Store db key v) free))
    (sym (ap (λ (u : Turn). u.spent) is) ∙ spent))

present_counted : (c : Config) (era : Era) (rules : Rules) (who : Callers) (w : Cluster) (n call : ℕ) → ClusterStays c era rules who w → is_up n w ≡ true → is_present (makes call (begins (node_at n (counted w)))).node.phase ≡ true
unfolding makes node_at
present_counted c era rules who w n call h up = phase_of era.number _ (h.nodes n (h.up n up)).present

-- an unlock
pub unlocks_go : (c : Config) (era : Era) (rules : Rules) (who : Callers) (w : Cluster) (n db : ℕ) (key : List ℕ) (labels : List Label) (es : ℕ → List ℕ → List law.Event) → IsEra c era →
    ((d : ℕ) → d < length c.dbs → is_db d ≡ true) → ClusterStays c era rules who w → Schedules c era rules w labels es → is_up n w ≡ true →
    refusal c rules (node_at n (counted w)) (op.Unlock db key) ≡ None →
    (client c rules n (w.calls + 1) (op.Unlock db key) (begins (node_at n (counted w)))).spent ≡ false →
    Cluster_goes c era rules (called_by n (op.Unlock db key) w who) (put n (client c rules n (w.calls + 1) (op.Unlock db key) (begins (node_at n (counted w)))) [] (counted w)).cluster
    (labels ++ labels_of n (own_pending n (w.calls + 1) (op.Unlock db key) ∷ pending (counted w)) (client c rules n (w.calls + 1) (op.Unlock db key) (begins (node_at n (counted w)))).outs)
unlocks_go c era rules who w n db key labels es real small h sched up free spent =
    let is = client_serves c rules n (w.calls + 1) (op.Unlock db key) (node_at n (counted w)) free ∙ serves_unlock c rules n (w.calls + 1) db key (makes (w.calls + 1) (begins (node_at n (counted w)))) (present_counted c era rules who w n (w.calls + 1) h up) in
    client_goes c era rules who w n (op.Unlock db key) _ labels es h sched up is
    (unlocks_follows c era rules (called_by n (op.Unlock db key) w who) (w.calls + 1) n db (w.calls + 1) key (counted w) (projected era.number (counted w))
    (calls_at c era rules who w n db key (op.Unlock db key) labels es real small h sched up (unlock_kind c rules db key (counted w) n free) refl refl)
    (may_unlock c (node_at n (counted w)) db key (admits c rules (node_at n (counted w)) (op.Unlock db key) free))
    (sym (ap (λ (u : Turn). u.spent) is) ∙ spent))
