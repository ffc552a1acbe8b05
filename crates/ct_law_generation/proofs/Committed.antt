-- A change of the persistent side of one database: no record sees it, and what holds of the node stays.
use Rattle.std.proofs.Common.{◌≡◌, ◌≢◌, ℕ, ◌+◌, ◌≤◌, Bool, true, false, cond, not, List, [], ◌∷◌, ◌++◌, length, Option, Some, None, refl, sym, ap, ◌∙◌, append-nil, arith, subst, ⊎_elim}
use Rattle.std.specs.Prelude.{nat_eq, nat_lt, nat_le, ◌||◌}
use Rattle.std.specs.List.{AllByRecursion}
use Rattle.std.proofs.lemmas.Bool.{cond_both, cases_eq, eqb-true, eq-eqb, ltb-true, ltb-false}
use Rattle.std.proofs.lemmas.List.{length-set}
use Rattle.ct_values.specs.Words.{others}
use Rattle.ct_values.specs.Client.{db_of}
use Rattle.ct_values.specs.declared.client.Answer.{Answer}
use Rattle.ct_values.specs.declared.client.Answer.TheVariants as answer
use Rattle.ct_values.specs.declared.client.ClientOp.{ClientOp}
use Rattle.ct_values.specs.declared.client.ClientOp.TheVariants as op
use Rattle.ct_values.specs.declared.client.Pair.{Pair}
use Rattle.ct_values.specs.declared.config.Config.{Config}
use Rattle.ct_frame.specs.declared.event.Out.{Out}
use Rattle.ct_frame.specs.declared.event.Out.TheVariants as out
use Rattle.ct_frame.specs.declared.frame.Msg.{Msg}
use Rattle.ct_frame.specs.declared.frame.Msg.TheVariants as msg
use Rattle.ct_call.specs.Rules.{Rules}
use Rattle.ct_store.specs.Map.{Ascends, look}
use Rattle.ct_persist.specs.Persisted.{updated}
use Rattle.ct_persist.specs.Commits.{commit_begun, completes, applied_by}
use Rattle.ct_rules.specs.Parts.{want}
use Rattle.ct_law_rules_node.specs.NodeLaws.{AllAscend}
use Rattle.ct_rules_node.specs.Node.{Node, Database, Committing, db_at, with_db, state_at, or_nothing, is_present_in, is_among, is_persistent, kind_at}
use Rattle.ct_rules_node.specs.Node as node
use Rattle.ct_rules_node.specs.Turn.{Turn, begins, does, with_node, makes, answers, posts, posts_all}
use Rattle.ct_rules_node.specs.Admission.{record_in}
use Rattle.ct_rules_node.specs.Refusals.{refused_if}
use Rattle.ct_rules_node.specs.Clients.{refusal, client, serves, reads, wrong_kind, is_commit}
use Rattle.ct_rules_node.specs.Clients as clients
use Rattle.ct_rules_node.specs.Records.{at_record}
use Rattle.ct_rules_node.specs.Databases.{updates, with_commit, awaits_others, commits_at, commit, acknowledges, on_pupdate, on_pack_of, on_pack, read_pair}
use Rattle.ct_law_rules_node.proofs.AtRecord.{at_set, at_other, set_past, all_set, at_ascends}
use Rattle.ct_rules_cluster.specs.Cluster.{Cluster, Sent, is_up, node_at, pending}
use Rattle.ct_rules_cluster.specs.Labels.{Label, Answered}
use Rattle.ct_rules_cluster.specs.Steps.{frames_of, put}
use Rattle.ct_rules_cluster.specs.Traces.{sent_label}
use Rattle.ct_law_generation.specs.Waiting.{answered}
use Rattle.ct_rules_cluster.specs.declared.step.PendingCall.{PendingCall}
use Rattle.ct_promise.specs.Generation.{speaks_of_records, record_labels}
use Rattle.ct_law_record.specs.World as law
use Rattle.ct_law_record.specs.World.{View, Mail, World}
use Rattle.ct_law_generation.specs.Shown.{Era, scene, view, mail_of, mails, labels_of, amid, project, Schedules}
use Rattle.ct_law_generation.proofs.Hearing.{frames_more, mails_more, labels_more}
use Rattle.ct_law_generation.proofs.Plain.{IsPlain, AllPlain, plain_more}
use Rattle.ct_law_wishes.proofs.Wishing.{Wishful}
use Rattle.ct_law_generation.proofs.Pending.{Callers, Fits, KnownAt, CommitFits, DatabaseKnown, NodeKnown}
use Rattle.ct_law_generation.proofs.Forming.{Is_formed}
use Rattle.ct_law_generation.proofs.Staying.{NodeStays, Of_records, of_era}
use Rattle.ct_law_generation.proofs.Calling.{own_pending}
use Rattle.ct_law_generation.proofs.Putting.{put_shows}
use Rattle.ct_law_generation.proofs.Clusters.{ClusterStays, inside, put_stays}
use Rattle.ct_law_generation.proofs.Coming.{Cluster_goes}
use Rattle.ct_law_generation.proofs.Counting.{own_caller, more_calls}
use Rattle.ct_law_generation.proofs.Called.{counted, called_by, counted_schedules}
use Rattle.ct_law_generation.proofs.Admitted.{Admits}
use Rattle.ct_law_generation.proofs.Served.{client_serves}
use Rattle.ct_law_generation.proofs.Delivering as delivering
use Rattle.ct_promise.proofs.Follows.{filter_more}

-- ---- the node

-- the same records and the same floor
abbrev pub Same_records : Database → Database → Type 0
Same_records a b = (a.records ≡ b.records) × (a.floor ≡ b.floor)

-- what holds of the new state of a database and of the old one holds of the database after the change
at_with : (P : Database → Type 0) (db : ℕ) (x : Database) (n : Node) → P x → P (db_at db n) → P (db_at db (with_db db x n))
unfolding db_at with_db
at_with P db x n new old = cond_both (nat_lt db (length n.dbs)) true false (λ (_ : Bool). P (db_at db (with_db db x n)))
    (λ t. subst P (sym (at_set n.dbs db x (ltb-true _ _ t))) new)
    (λ f. subst (λ (l : List Database). P (db_at db (record n { dbs = l }))) (sym (set_past n.dbs db x (ltb-false _ _ f))) old)

-- and every other database is what it was
other_with : (db d : ℕ) (x : Database) (n : Node) → d ≢ db → db_at d (with_db db x n) ≡ db_at d n
unfolding db_at with_db
other_with db d x n ne = at_other n.dbs db d x ne

same_with : (db d : ℕ) (x : Database) (n : Node) → Same_records x (db_at db n) → Same_records (db_at d (with_db db x n)) (db_at d n)
same_with db d x n s = ⊎_elim
    (λ (is : d ≡ db). subst (λ (e : ℕ). Same_records (db_at e (with_db db x n)) (db_at e n)) (sym is) (at_with (λ (y : Database). Same_records y (db_at db n)) db x n s (refl, refl)))
    (λ (ne : d ≢ db). (let e = other_with db d x n ne in (ap (λ (y : Database). y.records) e, ap (λ (y : Database). y.floor) e)))
    (cases_eq d db)

-- a change that keeps the records and the floor is seen at no record
pub view_with : (db d : ℕ) (key : List ℕ) (x : Database) (n : Node) → Same_records x (db_at db n) → view d key (with_db db x n) ≡ view d key n
unfolding state_at with_db
view_with db d key x n s = (let e = same_with db d x n s in
    λ i. record { state = or_nothing (look key (e.0 i)); next = n.next; floor = e.1 i })

database_with : (who : Callers) (calls n db d : ℕ) (x : Database) (node : Node) → NodeKnown who calls n node → Same_records x (db_at db node) → CommitFits who calls n db x.commit → DatabaseKnown who calls n d (db_at d (with_db db x node))
database_with who calls n db d x node h s f = ⊎_elim
    (λ (is : d ≡ db). subst (λ (e : ℕ). DatabaseKnown who calls n e (db_at e (with_db db x node))) (sym is) (at_with (λ (y : Database). DatabaseKnown who calls n db y) db x node
    (record { records = λ key. subst (λ m. KnownAt who calls n db key (look key m)) (sym s.0) ((h.dbs db).records key); commit = f }) (h.dbs db)))
    (λ (ne : d ≢ db). subst (λ (y : Database). DatabaseKnown who calls n d y) (sym (other_with db d x node ne)) (h.dbs d))
    (cases_eq d db)

-- where the commit that waits then is known, what holds of the node stays
pub stays_with : (c : Config) (era : Era) (rules : Rules) (who : Callers) (calls n db : ℕ) (x : Database) (node : Node) → NodeStays c era rules who calls n node → Same_records x (db_at db node) → CommitFits who calls n db x.commit → NodeStays c era rules who calls n (with_db db x node)
unfolding with_db db_at AllAscend is_present_in
stays_with c era rules who calls n db x node h s f = record {
  present = h.present;
  knows = h.knows;
  promise = h.promise;
  lead = h.lead;
  size = length-set node.dbs db x ∙ h.size;
  known = record {
    order = all_set (λ d. Ascends d.records) node.dbs db x (subst (λ m. Ascends m) (sym s.0) (at_ascends node.dbs db h.known.order)) h.known.order;
    dbs = λ d. database_with who calls n db d x node h.known s f;
  };
  waits = λ d key. subst (λ (v : View). Wishful (Of_records c d key) v.state.wish) (sym (view_with db d key x node s)) (h.waits d key);
  serves = h.serves;
  formed = λ d key. subst (λ (v : View). Is_formed (scene c era rules d key) n v) (sym (view_with db d key x node s)) (h.formed d key);
}

-- ---- the step

-- What follows of a step on the persistent side: the node stays as it was, no record sees it or gets mail, what is sent is
-- plain, and nothing is told of records.
pub record Goes_beside (c : Config) (era : Era) (rules : Rules) (who : Callers) (calls n : ℕ) (pend : List PendingCall) (t u : Turn) : Type 0 where
  pub stays : NodeStays c era rules who calls n t.node → NodeStays c era rules who calls n u.node
  pub views : (db : ℕ) (key : List ℕ) → view db key u.node ≡ view db key t.node
  pub mail : (db : ℕ) (key : List ℕ) → mails era.number db key (frames_of u.outs) ≡ mails era.number db key (frames_of t.outs)
  pub plain : AllPlain era.number (frames_of t.outs) → AllPlain era.number (frames_of u.outs)
  pub untold : record_labels c (labels_of n pend u.outs) ≡ record_labels c (labels_of n pend t.outs)

-- nothing happens
pub beside_none : (c : Config) (era : Era) (rules : Rules) (who : Callers) (calls n : ℕ) (pend : List PendingCall) (t : Turn) → Goes_beside c era rules who calls n pend t t
beside_none c era rules who calls n pend t = record { stays = λ h. h; views = λ db key. refl; mail = λ db key. refl; plain = λ h. h; untold = refl }

-- one after the other
pub beside_then : (c : Config) (era : Era) (rules : Rules) (who : Callers) (calls n : ℕ) (pend : List PendingCall) (t u v : Turn) → Goes_beside c era rules who calls n pend t u → Goes_beside c era rules who calls n pend u v → Goes_beside c era rules who calls n pend t v
beside_then c era rules who calls n pend t u v g h = record {
  stays = λ k. h.stays (g.stays k);
  views = λ db key. h.views db key ∙ g.views db key;
  mail = λ db key. h.mail db key ∙ g.mail db key;
  plain = λ k. h.plain (g.plain k);
  untold = h.untold ∙ g.untold;
}

pub makes_beside : (c : Config) (era : Era) (rules : Rules) (who : Callers) (calls n : ℕ) (pend : List PendingCall) (number : ℕ) (t : Turn) → Goes_beside c era rules who calls n pend t (makes number t)
unfolding makes
makes_beside c era rules who calls n pend number t = record { stays = λ h. h; views = λ db key. refl; mail = λ db key. refl; plain = λ h. h; untold = refl }

-- another state of a database, with the records and the floor that it had
pub db_beside : (c : Config) (era : Era) (rules : Rules) (who : Callers) (calls n : ℕ) (pend : List PendingCall) (db : ℕ) (x : Database) (t : Turn) → Same_records x (db_at db t.node) →
    (CommitFits who calls n db (db_at db t.node).commit → CommitFits who calls n db x.commit) → Goes_beside c era rules who calls n pend t (with_node (with_db db x t.node) t)
unfolding with_node
db_beside c era rules who calls n pend db x t s f = record {
  stays = λ h. stays_with c era rules who calls n db x t.node h s (f (h.known.dbs db).commit);
  views = λ d key. view_with db d key x t.node s;
  mail = λ db key. refl;
  plain = λ h. h;
  untold = refl;
}

-- one thing more that the node does
pub does_beside : (c : Config) (era : Era) (rules : Rules) (who : Callers) (calls n : ℕ) (pend : List PendingCall) (x : Out) (t : Turn) → ((db : ℕ) (key : List ℕ) → mails era.number db key (frames_of (x ∷ [])) ≡ []) →
    AllPlain era.number (frames_of (x ∷ [])) → record_labels c (labels_of n pend (x ∷ [])) ≡ [] → Goes_beside c era rules who calls n pend t (does x t)
unfolding does
does_beside c era rules who calls n pend x t quiet plain untold = record {
  stays = λ h. h;
  views = λ db key. refl;
  mail = λ db key. ap (λ (l : List Sent). mails era.number db key l) (frames_more t.outs (x ∷ [])) ∙ mails_more era.number db key (frames_of t.outs) (frames_of (x ∷ []))
      ∙ ap (λ (l : List Mail). mails era.number db key (frames_of t.outs) ++ l) (quiet db key) ∙ append-nil _;
  plain = λ h. subst (λ (l : List Sent). AllPlain era.number l) (sym (frames_more t.outs (x ∷ []))) (plain_more era.number (frames_of t.outs) (frames_of (x ∷ [])) h plain);
  untold = ap (λ (l : List Label). record_labels c l) (labels_more n pend t.outs (x ∷ [])) ∙ filter_more (speaks_of_records c) (labels_of n pend t.outs) (labels_of n pend (x ∷ []))
      ∙ ap (λ (l : List Label). record_labels c (labels_of n pend t.outs) ++ l) untold ∙ append-nil _;
}

-- no answer to this call speaks of records
abbrev pub Untold : Config → List PendingCall → ℕ → Type 0
Untold c pend call = (a : Answer) → record_labels c (answered call a pend) ≡ []

pub answers_beside : (c : Config) (era : Era) (rules : Rules) (who : Callers) (calls n : ℕ) (pend : List PendingCall) (call : ℕ) (a : Answer) (t : Turn) → Untold c pend call → Goes_beside c era rules who calls n pend t (answers call a t)
unfolding answers frames_of mails labels_of
answers_beside c era rules who calls n pend call a t h = does_beside c era rules who calls n pend (out.Answer call a) t (λ db key. refl) tt (ap (λ (l : List Label). record_labels c l) (append-nil _) ∙ h a)

-- the message speaks of no record, and is of no newer generation
pub record Is_beside (c : Config) (era : Era) (n g : ℕ) (m : Msg) : Type 0 where
  pub no_record : record_in m ≡ None
  pub no_label : record_labels c (sent_label n g m) ≡ []
  pub old : g ≤ era.number

pub posts_beside : (c : Config) (era : Era) (rules : Rules) (who : Callers) (calls n : ℕ) (pend : List PendingCall) (g receiver : ℕ) (m : Msg) (t : Turn) → Is_beside c era n g m → Goes_beside c era rules who calls n pend t (posts g n receiver m t)
unfolding posts frames_of mails mail_of labels_of IsPlain
posts_beside c era rules who calls n pend g receiver m t h = does_beside c era rules who calls n pend (out.Send (record { generation = g; sender = n; receiver = receiver; msg = m })) t
    (λ db key. ap (λ (r : Option (ℕ × List ℕ)). mail_of era.number db key (record { generation = g; sender = n; receiver = receiver; msg = m }) r ++ []) h.no_record)
    ((h.old, λ r is now. absurd (let e = h.no_record in cc)), tt)
    (ap (λ (l : List Label). record_labels c l) (append-nil (sent_label n g m)) ∙ h.no_label)

pub posts_all_beside : (c : Config) (era : Era) (rules : Rules) (who : Callers) (calls n : ℕ) (pend : List PendingCall) (g : ℕ) (ns : List ℕ) (m : Msg) (t : Turn) → Is_beside c era n g m → Goes_beside c era rules who calls n pend t (posts_all g n ns m t)
unfolding posts_all
posts_all_beside c era rules who calls n pend g [] m t h = beside_none c era rules who calls n pend t
posts_all_beside c era rules who calls n pend g (r ∷ ns) m t h =
    beside_then c era rules who calls n pend t (posts g n r m t) (posts_all g n ns m (posts g n r m t)) (posts_beside c era rules who calls n pend g r m t h) (posts_all_beside c era rules who calls n pend g ns m (posts g n r m t) h)

-- ---- what a persistent database does

-- what holds of a member holds in no newer generation
pub not_after : (c : Config) (era : Era) (rules : Rules) (who : Callers) (calls n : ℕ) (x : Node) → NodeStays c era rules who calls n x → x.generation ≤ era.number
not_after c era rules who calls n x h = (let e = of_era c era rules who calls n x h in omega arith)

updates_beside : (c : Config) (era : Era) (rules : Rules) (who : Callers) (calls n : ℕ) (pend : List PendingCall) (db seq : ℕ) (writes : List Pair) (t : Turn) → Goes_beside c era rules who calls n pend t (updates db seq writes t)
unfolding updates
updates_beside c era rules who calls n pend db seq writes t = db_beside c era rules who calls n pend db (record (db_at db t.node) { store = updated seq writes (db_at db t.node).store }) t (refl, refl) (λ f. f)

with_commit_beside : (c : Config) (era : Era) (rules : Rules) (who : Callers) (calls n : ℕ) (pend : List PendingCall) (db : ℕ) (x : Option Committing) (t : Turn) → CommitFits who calls n db x → Goes_beside c era rules who calls n pend t (with_commit db x t)
unfolding with_commit
with_commit_beside c era rules who calls n pend db x t f = db_beside c era rules who calls n pend db (record (db_at db t.node) { commit = x }) t (refl, refl) (λ _. f)

awaits_beside : (c : Config) (era : Era) (rules : Rules) (who : Callers) (calls n : ℕ) (pend : List PendingCall) (call db seq : ℕ) (writes : List Pair) (ns : List ℕ) (t : Turn) → t.node.generation ≤ era.number → Untold c pend call → who call ≡ (n, op.Commit db writes) → call ≤ calls →
    Goes_beside c era rules who calls n pend t (awaits_others n call db seq writes ns t)
unfolding awaits_others CommitFits record_in sent_label
awaits_beside c era rules who calls n pend call db seq writes [] t ok untold own l = answers_beside c era rules who calls n pend call (answer.Committed seq) t untold
awaits_beside c era rules who calls n pend call db seq writes (r ∷ ns) t ok untold own l =
    let x : Committing = record { call = call; writes = writes; pending = commit_begun seq (r ∷ ns) } in
    let u = with_commit db (Some x) t in
    beside_then c era rules who calls n pend t u (posts_all t.node.generation n (r ∷ ns) (msg.PUpdate db seq writes) u)
    (with_commit_beside c era rules who calls n pend db (Some x) t (own, l))
    (posts_all_beside c era rules who calls n pend t.node.generation (r ∷ ns) (msg.PUpdate db seq writes) u (record { no_record = refl; no_label = refl; old = ok }))

-- a commit
pub commit_beside : (c : Config) (era : Era) (rules : Rules) (who : Callers) (calls n : ℕ) (pend : List PendingCall) (call db : ℕ) (writes : List Pair) (t : Turn) → t.node.generation ≤ era.number → Untold c pend call → who call ≡ (n, op.Commit db writes) → call ≤ calls →
    Goes_beside c era rules who calls n pend t (commit n call db writes t)
unfolding commit commits_at updates makes with_node with_db
commit_beside c era rules who calls n pend call db writes t ok untold own l =
    let seq = (db_at db t.node).store.seq + 1 in
    let u = makes seq t in
    let v = updates db seq writes u in
    beside_then c era rules who calls n pend t u (awaits_others n call db seq writes (others n t.node.members) v) (makes_beside c era rules who calls n pend seq t)
    (beside_then c era rules who calls n pend u v (awaits_others n call db seq writes (others n t.node.members) v) (updates_beside c era rules who calls n pend db seq writes u)
    (awaits_beside c era rules who calls n pend call db seq writes (others n t.node.members) v ok untold own l))

-- a read of a pair
pub read_pair_beside : (c : Config) (era : Era) (rules : Rules) (who : Callers) (calls n : ℕ) (pend : List PendingCall) (call db : ℕ) (key : List ℕ) (t : Turn) → Untold c pend call → Goes_beside c era rules who calls n pend t (read_pair call db key t)
unfolding read_pair
read_pair_beside c era rules who calls n pend call db key t untold = answers_beside c era rules who calls n pend call _ t untold

-- PUpdate
pub pupdate_beside : (c : Config) (era : Era) (rules : Rules) (who : Callers) (calls n : ℕ) (pend : List PendingCall) (sender db seq : ℕ) (writes : List Pair) (t : Turn) → t.node.generation ≤ era.number → Goes_beside c era rules who calls n pend t (on_pupdate n sender db seq writes t)
unfolding on_pupdate acknowledges record_in sent_label updates with_node with_db
pupdate_beside c era rules who calls n pend sender db seq writes t ok =
    let u = updates db seq writes t in
    beside_then c era rules who calls n pend t u (acknowledges n sender db seq u) (updates_beside c era rules who calls n pend db seq writes t)
    (cond_both (nat_le seq (db_at db u.node).store.seq) (posts u.node.generation n sender (msg.PAck db seq) u) u (λ (v : Turn). Goes_beside c era rules who calls n pend u v)
    (λ _. posts_beside c era rules who calls n pend u.node.generation sender (msg.PAck db seq) u (record { no_record = refl; no_label = refl; old = ok }))
    (λ _. beside_none c era rules who calls n pend u))

pack_of_beside : (c : Config) (era : Era) (rules : Rules) (who : Callers) (calls n : ℕ) (pend : List PendingCall) (sender db seq : ℕ) (t : Turn) (x : Option Committing) → CommitFits who calls n db x →
    ((call : ℕ) (writes : List Pair) → who call ≡ (n, op.Commit db writes) → Untold c pend call) → Goes_beside c era rules who calls n pend t (on_pack_of sender db seq t x)
unfolding on_pack_of CommitFits
pack_of_beside c era rules who calls n pend sender db seq t None f untold = beside_none c era rules who calls n pend t
pack_of_beside c era rules who calls n pend sender db seq t (Some x) f untold =
    cond_both (completes sender seq x.pending) (answers x.call (answer.Committed seq) (with_commit db None t)) (with_commit db (Some (record x { pending = applied_by sender seq x.pending })) t) (λ (v : Turn). Goes_beside c era rules who calls n pend t v)
    (λ _. beside_then c era rules who calls n pend t (with_commit db None t) (answers x.call (answer.Committed seq) (with_commit db None t)) (with_commit_beside c era rules who calls n pend db None t tt)
    (answers_beside c era rules who calls n pend x.call (answer.Committed seq) (with_commit db None t) (untold x.call x.writes f.0)))
    (λ _. with_commit_beside c era rules who calls n pend db (Some (record x { pending = applied_by sender seq x.pending })) t f)

-- PAck: the commit that waits is answered, and whoever made it asked a commit of this database
pub pack_beside : (c : Config) (era : Era) (rules : Rules) (who : Callers) (calls n : ℕ) (pend : List PendingCall) (sender db seq : ℕ) (t : Turn) → NodeStays c era rules who calls n t.node →
    ((call : ℕ) (writes : List Pair) → who call ≡ (n, op.Commit db writes) → Untold c pend call) → Goes_beside c era rules who calls n pend t (on_pack sender db seq t)
unfolding on_pack
pack_beside c era rules who calls n pend sender db seq t h untold = pack_of_beside c era rules who calls n pend sender db seq t (db_at db t.node).commit (h.known.dbs db).commit untold

-- ---- what is told of it is left out

-- an answer to a call on a persistent database speaks of no record
silent : (c : Config) (n : ℕ) (asked : ClientOp) (a : Answer) → node.is_persistent (node.kind_at c (db_of asked)) ≡ true → speaks_of_records c (Answered n asked a) ≡ false
unfolding speaks_of_records
silent c n asked a e = ap not e

left_out : (c : Config) (n : ℕ) (asked : ClientOp) (a : Answer) → node.is_persistent (node.kind_at c (db_of asked)) ≡ true → record_labels c (Answered n asked a ∷ []) ≡ []
left_out c n asked a e = ap (λ (b : Bool). cond b (Answered n asked a ∷ []) []) (silent c n asked a e)

-- so it is of the call that comes
pub own_untold : (c : Config) (n call : ℕ) (asked : ClientOp) (ps : List PendingCall) → node.is_persistent (node.kind_at c (db_of asked)) ≡ true → Untold c (own_pending n call asked ∷ ps) call
unfolding answered
own_untold c n call asked ps e a = ap (λ (b : Bool). record_labels c (cond b (Answered n asked a ∷ []) (answered call a ps))) (eq-eqb call call refl) ∙ left_out c n asked a e

-- and of a call that waits
pub waiting_untold : (c : Config) (who : Callers) (n call : ℕ) (asked : ClientOp) (ps : List PendingCall) → AllByRecursion (Fits who) ps → who call ≡ (n, asked) → node.is_persistent (node.kind_at c (db_of asked)) ≡ true → Untold c ps call
unfolding answered Fits
waiting_untold c who n call asked [] h own e a = refl
waiting_untold c who n call asked (x ∷ xs) h own e a = cond_both (nat_eq x.call call) (Answered x.node x.op a ∷ []) (answered call a xs) (λ (l : List Label). record_labels c l ≡ [])
    (λ t. (let same : (n, asked) ≡ (x.node, x.op) = sym own ∙ ap who (sym (eqb-true x.call call t)) ∙ h.0 in
    left_out c x.node x.op a (subst (λ (q : ℕ × ClientOp). node.is_persistent (node.kind_at c (db_of q.1)) ≡ true) same e)))
    (λ _. waiting_untold c who n call asked xs h.1 own e a)

-- ---- the cluster

amid_same : (g : ℕ) (db : ℕ) (key : List ℕ) (n : ℕ) (w : World) (t u : Turn) → view db key u.node ≡ view db key t.node → mails g db key (frames_of u.outs) ≡ mails g db key (frames_of t.outs) → amid g db key n w u ≡ amid g db key n w t
amid_same g db key n w t u v m = λ i. record { nodes = λ k. cond (nat_eq k n) (v i) (w.nodes k); joined = λ k. w.joined k || nat_eq k n; mail = w.mail ++ m i }

-- Where a turn that has just begun goes on so, the cluster stays so, and the same schedules lead to it; what is told more is
-- left out.
pub beside_goes : (c : Config) (era : Era) (rules : Rules) (who : Callers) (w : Cluster) (n : ℕ) (t u : Turn) (pend : List PendingCall) (labels : List Label) (es : ℕ → List ℕ → List law.Event) → is_among n era.members ≡ true → t.outs ≡ [] →
    ((db : ℕ) (key : List ℕ) → project era.number db key w ≡ amid era.number db key n (project era.number db key w) t) → NodeStays c era rules who w.calls n t.node → ClusterStays c era rules who w → Schedules c era rules w labels es →
    Goes_beside c era rules who w.calls n pend t u → Cluster_goes c era rules who (put n u [] w).cluster (labels ++ record_labels c (labels_of n pend u.outs))
unfolding frames_of labels_of
beside_goes c era rules who w n t u pend labels es is empty starts mine h sched g =
    let none : record_labels c (labels_of n pend u.outs) ≡ [] = g.untold ∙ ap (λ xs. record_labels c (labels_of n pend xs)) empty in
    subst (λ (l : List Label). Cluster_goes c era rules who (put n u [] w).cluster l) (sym (ap (λ (l : List Label). labels ++ l) none ∙ append-nil labels)) (
      put_stays c era rules who w n u is h (g.stays mine) (g.plain (subst (λ xs. AllPlain era.number (frames_of xs)) (sym empty) tt)),
      es,
      λ db key. ((sched db key).0 ∙ starts db key ∙ sym (amid_same era.number db key n (project era.number db key w) t u (g.views db key) (g.mail db key)) ∙ sym (put_shows era.number db key n u [] w (inside c era rules who w n h is)), (sched db key).1),
    )

-- ---- its calls and its messages

-- a call that goes on so at a node that runs
call_beside : (c : Config) (era : Era) (rules : Rules) (who : Callers) (w : Cluster) (n : ℕ) (asked : ClientOp) (u : Turn) (labels : List Label) (es : ℕ → List ℕ → List law.Event) → ClusterStays c era rules who w → Schedules c era rules w labels es → is_up n w ≡ true →
    Goes_beside c era rules (called_by n asked w who) (w.calls + 1) n (own_pending n (w.calls + 1) asked ∷ pending (counted w)) (makes (w.calls + 1) (begins (node_at n (counted w)))) u →
    Cluster_goes c era rules (called_by n asked w who) (put n u [] (counted w)).cluster (labels ++ record_labels c (labels_of n (own_pending n (w.calls + 1) asked ∷ pending (counted w)) u.outs))
unfolding makes
call_beside c era rules who w n asked u labels es h sched up g =
    let more = more_calls c era rules who (n, asked) w h in
    beside_goes c era rules (called_by n asked w who) (counted w) n (makes (w.calls + 1) (begins (node_at n (counted w)))) u (own_pending n (w.calls + 1) asked ∷ pending (counted w)) labels es (h.up n up) refl
    (λ db key. delivering.begun era.number db key n (counted w)) (more.nodes n (h.up n up)) more (counted_schedules c era rules w labels es sched) g

-- a commit that is not refused is of a persistent database
pub commit_kind : (c : Config) (n : Node) (db : ℕ) (writes : List Pair) → Admits c n (op.Commit db writes) → node.is_persistent (node.kind_at c db) ≡ true
unfolding wrong_kind refused_if is_commit
commit_kind c n db writes h = (let a = h.kind in grind arith)

-- a commit of a persistent database that is not refused: the cluster goes on
pub commit_goes : (c : Config) (era : Era) (rules : Rules) (who : Callers) (w : Cluster) (n db : ℕ) (writes : List Pair) (labels : List Label) (es : ℕ → List ℕ → List law.Event) → ClusterStays c era rules who w → Schedules c era rules w labels es → is_up n w ≡ true →
    node.is_persistent (node.kind_at c db) ≡ true → refusal c rules (node_at n (counted w)) (op.Commit db writes) ≡ None →
    Cluster_goes c era rules (called_by n (op.Commit db writes) w who) (put n (client c rules n (w.calls + 1) (op.Commit db writes) (begins (node_at n (counted w)))) [] (counted w)).cluster
    (labels ++ record_labels c (labels_of n (own_pending n (w.calls + 1) (op.Commit db writes) ∷ pending (counted w)) (client c rules n (w.calls + 1) (op.Commit db writes) (begins (node_at n (counted w)))).outs))
unfolding serves makes node_at
commit_goes c era rules who w n db writes labels es h sched up kind free =
    let asked = op.Commit db writes in
    call_beside c era rules who w n asked (client c rules n (w.calls + 1) asked (begins (node_at n (counted w)))) labels es h sched up
    (subst (λ (u : Turn). Goes_beside c era rules (called_by n asked w who) (w.calls + 1) n (own_pending n (w.calls + 1) asked ∷ pending (counted w)) (makes (w.calls + 1) (begins (node_at n (counted w)))) u)
    (sym (client_serves c rules n (w.calls + 1) asked (node_at n (counted w)) free))
    (commit_beside c era rules (called_by n asked w who) (w.calls + 1) n (own_pending n (w.calls + 1) asked ∷ pending (counted w)) (w.calls + 1) db writes (makes (w.calls + 1) (begins (node_at n (counted w)))) (not_after c era rules who w.calls n (node_at n (counted w)) (h.nodes n (h.up n up)))
    (own_untold c n (w.calls + 1) asked (pending (counted w)) kind) (own_caller (w.calls + 1) (n, asked) who) (omega arith)))

-- and so it does at a read of a pair
pub read_pair_goes : (c : Config) (era : Era) (rules : Rules) (who : Callers) (w : Cluster) (n db : ℕ) (key : List ℕ) (labels : List Label) (es : ℕ → List ℕ → List law.Event) → ClusterStays c era rules who w → Schedules c era rules w labels es → is_up n w ≡ true →
    node.is_persistent (node.kind_at c db) ≡ true → refusal c rules (node_at n (counted w)) (op.Read db key) ≡ None →
    Cluster_goes c era rules (called_by n (op.Read db key) w who) (put n (client c rules n (w.calls + 1) (op.Read db key) (begins (node_at n (counted w)))) [] (counted w)).cluster
    (labels ++ record_labels c (labels_of n (own_pending n (w.calls + 1) (op.Read db key) ∷ pending (counted w)) (client c rules n (w.calls + 1) (op.Read db key) (begins (node_at n (counted w)))).outs))
unfolding serves reads
read_pair_goes c era rules who w n db key labels es h sched up kind free =
    let asked = op.Read db key in
    let t = makes (w.calls + 1) (begins (node_at n (counted w))) in
    let is : client c rules n (w.calls + 1) asked (begins (node_at n (counted w))) ≡ read_pair (w.calls + 1) db key t
    = client_serves c rules n (w.calls + 1) asked (node_at n (counted w)) free ∙ ap (λ (b : Bool). cond b (read_pair (w.calls + 1) db key t) (at_record c n db key (λ at o. want at rules (w.calls + 1) asked o) t)) kind in
    call_beside c era rules who w n asked (client c rules n (w.calls + 1) asked (begins (node_at n (counted w)))) labels es h sched up
    (subst (λ (u : Turn). Goes_beside c era rules (called_by n asked w who) (w.calls + 1) n (own_pending n (w.calls + 1) asked ∷ pending (counted w)) t u) (sym is)
    (read_pair_beside c era rules (called_by n asked w who) (w.calls + 1) n (own_pending n (w.calls + 1) asked ∷ pending (counted w)) (w.calls + 1) db key t (own_untold c n (w.calls + 1) asked (pending (counted w)) kind)))
