-- Retry at a member: Calls and Revokes of records, then the PUpdates of commits and what it leads, which no record sees.
use Rattle.std.proofs.Common.{◌≡◌, ℕ, ◌+◌, ◌<◌, ◌≤◌, Bool, true, cond, List, [], ◌∷◌, ◌++◌, length, append-nil, Option, Some, None, refl, sym, ap, ◌∙◌, arith, subst}
use Rattle.std.specs.Prelude.{nat_eq, ◌||◌}
use Rattle.std.proofs.lemmas.Bool.{cond_both, eqb-true}
use Rattle.ct_values.specs.declared.config.Config.{Config}
use Rattle.ct_frame.specs.Fields.{is_db}
use Rattle.ct_frame.specs.declared.event.Out.{Out}
use Rattle.ct_frame.specs.declared.event.Out.TheVariants as out
use Rattle.ct_frame.specs.declared.frame.Frame.{Frame}
use Rattle.ct_frame.specs.declared.frame.Msg.{Msg}
use Rattle.ct_frame.specs.declared.frame.Msg.TheVariants as msg
use Rattle.ct_frame.specs.declared.frame.Assigned.{Assigned}
use Rattle.ct_call.specs.Rules.{Rules}
use Rattle.ct_rules_node.specs.Node.{Node, Database, Committing, Lead, Nothing, Freezes, Pulls, Installs, Completed, Takeover, Run, NoRun, Releasing, Taking, is_present, is_present_in, is_among}
use Rattle.ct_rules_node.specs.Turn.{Turn, begins, does, posts, posts_all}
use Rattle.ct_rules_node.specs.Admission.{record_in}
use Rattle.ct_rules_node.specs.Rounds.{push_of}
use Rattle.ct_rules_node.specs.Takeovers.{send_releases, share, assigned_in}
use Rattle.ct_rules_node.specs.Retries.{update_again, update_in, retry_records, retry_run, retry_lead, retry}
use Rattle.ct_rules_cluster.specs.Cluster.{Cluster, Sent, is_up, node_at, pending}
use Rattle.ct_rules_cluster.specs.Labels.{Label}
use Rattle.ct_rules_cluster.specs.Steps.{frames_of, put}
use Rattle.ct_rules_cluster.specs.declared.step.PendingCall.{PendingCall}
use Rattle.ct_promise.specs.Born.{has_pushed}
use Rattle.ct_law_record.specs.Labels as law
use Rattle.ct_law_record.specs.World.{Scene, World, Event}
use Rattle.ct_law_generation.specs.Shown.{Era, scene, view, mail_of, mails, told_by_all, labels_of, amid, project, Follows, Schedules}
use Rattle.ct_law_generation.proofs.Pending.{Callers}
use Rattle.ct_law_generation.proofs.Plain.{IsPlain, AllPlain, plain_more}
use Rattle.ct_law_generation.proofs.Hearing.{frames_more, mails_more, labels_more, told_by_more}
use Rattle.ct_law_generation.proofs.Telling.{sent_quiet}
use Rattle.ct_law_generation.proofs.Staying.{NodeStays, of_era, phase_of}
use Rattle.ct_law_generation.proofs.Following.{IsEra, Goes_on, node_of}
use Rattle.ct_law_generation.proofs.Retried.{Retries_at}
use Rattle.ct_law_generation.proofs.Resending.{resends_of, resends_go}
use Rattle.ct_law_generation.proofs.Clusters.{ClusterStays}
use Rattle.ct_law_generation.proofs.Coming.{Cluster_goes, put_goes}

-- the node is the same, and what it sends more is of no record, and plain
pub record Adds_none (g n : ℕ) (pend : List PendingCall) (t u : Turn) : Type 0 where
  pub node : u.node ≡ t.node
  pub mail : (db : ℕ) (key : List ℕ) → mails g db key (frames_of u.outs) ≡ mails g db key (frames_of t.outs)
  pub untold : (db : ℕ) (key : List ℕ) → told_by_all db key (labels_of n pend u.outs) ≡ told_by_all db key (labels_of n pend t.outs)
  pub plain : AllPlain g (frames_of t.outs) → AllPlain g (frames_of u.outs)

adds_nothing : (g : ℕ) (n : ℕ) (pend : List PendingCall) (t : Turn) → Adds_none g n pend t t
adds_nothing g n pend t = record { node = refl; mail = λ db key. refl; untold = λ db key. refl; plain = λ b. b }

adds_more : (g : ℕ) (n : ℕ) (pend : List PendingCall) (t u v : Turn) → Adds_none g n pend t u → Adds_none g n pend u v → Adds_none g n pend t v
adds_more g n pend t u v a b = record { node = b.node ∙ a.node; mail = λ db key. b.mail db key ∙ a.mail db key; untold = λ db key. b.untold db key ∙ a.untold db key; plain = λ x. b.plain (a.plain x) }

-- a message that speaks of no record, and is of no newer generation
pub post_adds : (h n : ℕ) (pend : List PendingCall) (g k : ℕ) (m : Msg) (t : Turn) → g ≤ h → record_in m ≡ None → Adds_none h n pend t (posts g n k m t)
unfolding posts does frames_of mails mail_of labels_of told_by_all IsPlain
post_adds h n pend g k m t old none =
    let f : Frame = record { generation = g; sender = n; receiver = k; msg = m } in
    let x : List Out = out.Send f ∷ [] in record {
      node = refl;
      mail = λ d key. (ap (λ (l : List Sent). mails h d key l) (frames_more t.outs x) ∙ mails_more h d key (frames_of t.outs) (frames_of x)
          ∙ ap (λ (r : Option (ℕ × List ℕ)). mails h d key (frames_of t.outs) ++ (mail_of h d key f r ++ [])) none ∙ append-nil (mails h d key (frames_of t.outs)));
      untold = λ d key. (ap (λ (l : List _). told_by_all d key l) (labels_more n pend t.outs x) ∙ told_by_more d key (labels_of n pend t.outs) (labels_of n pend x)
          ∙ ap (λ (l : List law.Label). told_by_all d key (labels_of n pend t.outs) ++ l) (sent_quiet d key n g m []) ∙ append-nil (told_by_all d key (labels_of n pend t.outs)));
      plain = λ b. subst (λ (l : List Sent). AllPlain h l) (sym (frames_more t.outs x)) (plain_more h (frames_of t.outs) (frames_of x) b ((old, λ r is now. absurd (cc)), tt));
    }

pub posts_add : (h n : ℕ) (pend : List PendingCall) (g : ℕ) (ks : List ℕ) (m : Msg) (t : Turn) → g ≤ h → record_in m ≡ None → Adds_none h n pend t (posts_all g n ks m t)
unfolding posts_all
posts_add h n pend g [] m t old none = adds_nothing h n pend t
posts_add h n pend g (k ∷ ks) m t old none = adds_more h n pend t (posts g n k m t) _ (post_adds h n pend g k m t old none) (posts_add h n pend g ks m _ old none)

-- ---- commits

again_adds : (g n : ℕ) (pend : List PendingCall) (db : ℕ) (t : Turn) (x : Option Committing) → t.node.generation ≤ g → Adds_none g n pend t (update_again n db t x)
unfolding update_again record_in
again_adds g n pend db t None old = adds_nothing g n pend t
again_adds g n pend db t (Some x) old = posts_add g n pend t.node.generation x.pending.missing (msg.PUpdate db x.pending.seq x.writes) t old refl

pub updates_add : (g n : ℕ) (pend : List PendingCall) (i : ℕ) (ds : List Database) (t : Turn) → t.node.generation ≤ g → Adds_none g n pend t (update_in n i ds t)
unfolding update_in
updates_add g n pend i [] t old = adds_nothing g n pend t
updates_add g n pend i (d ∷ ds) t old =
    let a = again_adds g n pend i t d.commit old in
    adds_more g n pend t (update_again n i t d.commit) _ a (updates_add g n pend (i + 1) ds _ (subst (λ (x : Node). x.generation ≤ g) (sym a.node) old))

-- ---- what the node leads

pub releases_add : (h n : ℕ) (pend : List PendingCall) (g number : ℕ) (placement : List Assigned) (ks : List ℕ) (t : Turn) → g ≤ h → Adds_none h n pend t (send_releases n g number placement ks t)
unfolding send_releases record_in
releases_add h n pend g number placement [] t old = adds_nothing h n pend t
releases_add h n pend g number placement (k ∷ ks) t old =
    adds_more h n pend t (posts g n k (msg.Release number (share k placement)) t) _ (post_adds h n pend g k (msg.Release number (share k placement)) t old refl) (releases_add h n pend g number placement ks _ old)

run_adds : (h n : ℕ) (pend : List PendingCall) (g : ℕ) (members : List ℕ) (x : Takeover) (t : Turn) (run : Run) → g ≤ h → Adds_none h n pend t (retry_run n g members x t run)
unfolding retry_run record_in
run_adds h n pend g members x t NoRun old = adds_nothing h n pend t
run_adds h n pend g members x t (Releasing placement missing) old = releases_add h n pend g x.number placement missing t old
run_adds h n pend g members x t (Taking placement) old = posts_add h n pend g members (msg.Take x.number (assigned_in placement)) t old refl

-- a round whose push was sent, and its run
pub lead_adds : (g n : ℕ) (pend : List PendingCall) (t : Turn) (lead : Lead) → has_pushed g lead ≡ true → Adds_none g n pend t (retry_lead n t lead)
unfolding retry_lead has_pushed push_of record_in
lead_adds g n pend t Nothing e = adds_nothing g n pend t
lead_adds g n pend t (Freezes h members missing) e = absurd (cc)
lead_adds g n pend t (Pulls h members missing x) e = absurd (cc)
lead_adds g n pend t (Installs h members missing b) e = (let is = eqb-true h g e in posts_add g n pend h missing (push_of b) t (omega arith) refl)
lead_adds g n pend t (Completed h members x) e =
    let is = eqb-true h g e in
    let old : h ≤ g = omega arith in
    let u = posts_all h n members msg.Thaw t in
    let a = posts_add g n pend h members msg.Thaw t old refl in
    cond_both (is_present_in h t.node) (retry_run n h members x u x.run) u (λ (v : Turn). Adds_none g n pend t v)
    (λ _. adds_more g n pend t u (retry_run n h members x u x.run) a (run_adds g n pend h members x u x.run old)) (λ _. a)

-- ---- Retry

-- at a node that is present
records_are : (c : Config) (n : ℕ) (t : Turn) → is_present t.node.phase ≡ true → retry_records c n t ≡ update_in n 0 t.node.dbs (resends_of c n t)
unfolding retry_records
records_are c n t e = ap (λ (b : Bool). cond b (update_in n 0 t.node.dbs (resends_of c n t)) t) e

pub retry_is : (c : Config) (n : ℕ) (t : Turn) → is_present t.node.phase ≡ true → retry c n t ≡ retry_lead n (update_in n 0 t.node.dbs (resends_of c n t)) (update_in n 0 t.node.dbs (resends_of c n t)).node.lead
unfolding retry
retry_is c n t e = ap (λ (u : Turn). retry_lead n u u.node.lead) (records_are c n t e)

-- the world of every record follows over what no record sees
pub adds_follow : (s : Scene) (g n : ℕ) (w : World) (pend : List PendingCall) (t u v : Turn) → Adds_none g n pend u v → Follows g s n w pend t u → Follows g s n w pend t v
adds_follow s g n w pend t u v a f =
    let same : amid g s.db s.key n w u ≡ amid g s.db s.key n w v = (let mail = sym (a.mail s.db s.key) in let node = sym a.node in
    λ i. record { nodes = λ k. cond (nat_eq k n) (view s.db s.key (node i)) (w.nodes k); joined = λ k. w.joined k || nat_eq k n; mail = w.mail ++ mail i }) in
    (f.0, record { world = f.1.world ∙ same; labels = a.untold s.db s.key ∙ f.1.labels })

pub retry_goes : (c : Config) (era : Era) (rules : Rules) (who : Callers) (calls n : ℕ) (pend : List PendingCall) (ws : ℕ → List ℕ → World) (t : Turn) → era.alone ≡ true → is_among n era.members ≡ true → Retries_at c n → NodeStays c era rules who calls n t.node →
    Goes_on c era rules who calls n pend ws t (retry c n t)
retry_goes c era rules who calls n pend ws t alone member r h =
    let u = resends_of c n t in
    let g = resends_go c era rules who calls n pend ws t member r h in
    let v = update_in n 0 t.node.dbs u in
    let a = updates_add era.number n pend 0 t.node.dbs u (let e = of_era c era rules who calls n u.node g.0 in omega arith) in
    let stays : NodeStays c era rules who calls n v.node = subst (λ (x : Node). NodeStays c era rules who calls n x) (sym a.node) g.0 in
    let b = adds_more era.number n pend u v (retry_lead n v v.node.lead) a (lead_adds era.number n pend v v.node.lead (stays.lead alone)) in
    subst (λ (x : Turn). Goes_on c era rules who calls n pend ws t x) (sym (retry_is c n t (phase_of era.number t.node h.present))) (
      subst (λ (x : Node). NodeStays c era rules who calls n x) (sym b.node) g.0,
      (λ db key. adds_follow (scene c era rules db key) era.number n (ws db key) pend t u (retry_lead n v v.node.lead) b (g.1 db key)),
      λ before. b.plain (g.2 before),
    )

-- so the cluster goes on
pub retry_cluster : (c : Config) (era : Era) (rules : Rules) (who : Callers) (w : Cluster) (n : ℕ) (labels : List Label) (es : ℕ → List ℕ → List Event) → era.alone ≡ true → IsEra c era → ((db : ℕ) → db < length c.dbs → is_db db ≡ true) →
    is_up n w ≡ true → ClusterStays c era rules who w → Schedules c era rules w labels es →
    Cluster_goes c era rules who (put n (retry c n (begins (node_at n w))) [] w).cluster (labels ++ labels_of n (pending w) (retry c n (begins (node_at n w))).outs)
retry_cluster c era rules who w n labels es alone real small up h sched =
    let member = h.up n up in
    put_goes c era rules who w n (retry c n (begins (node_at n w))) labels es member h sched
    (retry_goes c era rules who w.calls n (pending w) (λ db key. project era.number db key w) (begins (node_at n w)) alone member (record { real = node_of n era.members real.real member; small = small }) (h.nodes n member))
