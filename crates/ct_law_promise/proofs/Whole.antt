-- What holds of every cluster: that of records, that of databases, and what joins them.
use Rattle.std.proofs.Common.{◌≡◌, ◌≢◌, ℕ, ◌<◌, true, false, List, [], length, map, refl, sym, ap, ◌∙◌, subst, arith, ⊎_elim}
use Rattle.std.specs.Prelude.{nat_lt}
use Rattle.std.proofs.lemmas.Bool.{cases_Bool, ltb-true}
use Rattle.ct_values.specs.declared.client.ClientOp.TheVariants as op
use Rattle.ct_values.specs.declared.config.Config.{Config}
use Rattle.ct_call.specs.Rules.{Rules}
use Rattle.ct_rules_node.specs.Node.{is_among}
use Rattle.ct_rules_cluster.specs.Cluster as cluster
use Rattle.ct_rules_cluster.specs.Cluster.{Cluster, is_up, node_at}
use Rattle.ct_rules_cluster.specs.Traces.{OpenCall}
use Rattle.ct_register.specs.Lines
use Rattle.ct_register.specs.Lines.{Lines}
use Rattle.ct_register.specs.Stands.{RecordsStand}
use Rattle.ct_promise.specs.Marked.{AllMarks, MarksHold}
use Rattle.ct_promise.specs.Promises.{IsConfig}
use Rattle.ct_law_generation.proofs.Pending.{Callers}
use Rattle.ct_law_generation.proofs.CallsOpen.{Calls}
use Rattle.ct_law_generation.proofs.CallsTold.{by_log}
use Rattle.ct_law_generation.proofs.CallsRun.{opened_calls}
use Rattle.ct_law_generation.proofs.AtHome.{AllAtHome}
use Rattle.ct_law_run.specs.Records.{GenerationsStand}
use Rattle.ct_law_run.proofs.Lives.{Lives}
use Rattle.ct_law_run.proofs.Faces.{marks_in_all}
use Rattle.ct_law_run.proofs.Lined.{lives_stand, generations_stand}
use Rattle.ct_law_run.proofs.Opened.{opened_lives}
use Rattle.ct_law_acts.proofs.Reached.{AllKnown, opening_known}
use Rattle.ct_law_registers.proofs.Facts.{Has, Gone, Bases, bases, owners, StoresHold}
use Rattle.ct_law_registers.proofs.Opening.{stores_open}
use Rattle.ct_law_registers.proofs.Stand.{stores_stand}
use Rattle.ct_law_databases.proofs.Law.{RoundsHold, LockLaw}
use Rattle.ct_law_databases.proofs.Before.{waits_exactly}
use Rattle.ct_law_databases.proofs.Steps.{ClusterBefore, nodes_of, frames_in}
use Rattle.ct_law_run.proofs.Ending.{entries_home, all_home}
use Rattle.ct_law_databases.proofs.Ordered.{IsOrdered, opening_ordered}
use Rattle.ct_law_databases.proofs.JoinRounds.{SendersThere, rounds_hold, all_locked, names_apart}
use Rattle.ct_law_databases.proofs.Like.{with_others, IsLike}
use Rattle.ct_law_databases.proofs.Placeless.{IsBut}
use Rattle.ct_law_databases.proofs.Lost.{Lost}
use Rattle.ct_law_promise.specs.Databases.{DatabasesStand}
use Rattle.ct_law_promise.proofs.Locking.{lock_law}

-- Of the cluster and the registers r, where t are those of records alone, of which the law of records speaks.
pub record Whole (c : Config) (rules : Rules) (w : Cluster) (log : List OpenCall) (r t : Lines) (lives : Lives c rules w t) : Type 0 where
  pub like : IsLike r t
  pub ordered : IsOrdered c t
  pub senders : SendersThere c w
  pub who : Callers
  pub known : AllKnown c who w.calls w
  pub has : Has
  pub gone : Gone
  pub stores : StoresHold c w r has gone
  pub lost : (g : ℕ) (key : List ℕ) → gone g key ≡ true → Lost c w t lives.ages g key
  pub home : AllAtHome w
  pub calls : Calls c w (by_log log)

module _ (c : Config) (rules : Rules) (w : Cluster) (log : List OpenCall) (r t : Lines) (lives : Lives c rules w t) (h : Whole c rules w log r t lives) where
  -- ---- what the law of databases asks for before a step

  rounds : RoundsHold c (nodes_of w) (frames_in w) (bases r)
  rounds = subst (λ (z : Lines). RoundsHold c (nodes_of w) (frames_in w) (bases z)) (sym h.like) (rounds_hold c rules w t lives h.ordered h.senders r.databases)

  locks : LockLaw c (nodes_of w) (bases r) h.gone (owners c r)
  locks = subst (λ (z : Lines). LockLaw c (nodes_of w) (bases z) h.gone (owners c z)) (sym h.like) (lock_law c rules w t lives h.ordered h.gone h.lost r.databases r.placing r.held)

  born_late : (g : ℕ) → w.ticket < g → t.born g ≡ false
  born_late g late = ⊎_elim
      (λ (e : t.born g ≡ true). absurd (let a = lives.formed.order.lines g e in let b = lives.last in omega (arith, a, b, late)))
      (λ (e : t.born g ≡ false). e)
      (cases_Bool (t.born g))

  pub before : IsConfig c → ClusterBefore c h.who w r h.has h.gone
  before is = record {
    before = record { holds = h.stores.holds; settled = h.stores.settled; mail = h.stores.mail; rounds = rounds; locks = locks; locked = all_locked c rules w t lives; names = names_apart c is };
    known = h.known;
    there = λ n up. (let l = ltb-true n c.nodes (lives.up n up) in let s = lives.size in omega arith);
    lines = λ g late. ap (λ (z : Lines). z.born g) h.like ∙ born_late g late;
  }

  -- ---- what the cluster stands for

  records_like : RecordsStand w r
  records_like = (let k = (lives_stand c rules w t lives (entries_home w h.home)).0 in
      subst (λ (z : Lines). RecordsStand w z) (sym h.like) (record { locks = k.locks; masters = k.masters; one_master = k.one_master; readers = k.readers }))

  generations_like : GenerationsStand w r
  generations_like = (let k = generations_stand c rules w t lives in
      subst (λ (z : Lines). GenerationsStand w z) (sym h.like) (record { generations = k.generations; thawed = k.thawed }))

  based : (n : ℕ) → nat_lt n c.nodes ≡ true → r.pline n ≢ 0
  based n lt = subst (λ (z : Lines). z.pline n ≢ 0) (sym h.like) (h.ordered.based n lt)

  stands : DatabasesStand c w r
  stands = record {
    records = records_like;
    generations = generations_like;
    bases = λ n lt. (lives.nodes n lt).base ∙ sym (ap (λ (z : Lines). z.pline n) h.like);
    databases = λ n db lt kind. stores_stand c w r h.has h.gone h.stores n db (based n lt)
        (subst (λ (z : Lines). is_among n (z.members (z.pline n)) ≡ true) (sym h.like) (h.ordered.named n (h.ordered.based n lt))) kind;
    commits = λ n db. waits_exactly c (nodes_of w) (frames_in w) r h.has rounds (all_locked c rules w t lives) h.stores.holds n db;
  }

  -- whatever the registers say of addresses
  pub stands_but : (z : Lines) → IsBut z r → DatabasesStand c w z
  stands_but z but = (let k = stands in subst (λ (y : Lines). DatabasesStand c w y) (sym but) (record {
    records = record { locks = k.records.locks; masters = k.records.masters; one_master = k.records.one_master; readers = k.records.readers };
    generations = record { generations = k.generations.generations; thawed = k.generations.thawed };
    bases = k.bases;
    databases = k.databases;
    commits = k.commits;
  }))

  pub marks_but : (z : Lines) → IsBut z r → MarksHold w z (marks_in_all lives.ages)
  marks_but z but = (let k = (lives_stand c rules w t lives (entries_home w h.home)).1 in
      subst (λ (y : Lines). MarksHold w y (marks_in_all lives.ages)) (sym but)
      (subst (λ (y : Lines). MarksHold w (record y { placing = z.placing; held = z.held }) (marks_in_all lives.ages)) (sym h.like)
      (λ g. record { marked = (k g).marked; copies = (k g).copies; entries = (k g).entries; sites = (k g).sites; alone = (k g).alone; empty = (k g).empty; found = (k g).found; away = (k g).away; named = (k g).named })))

-- ---- the opening

no_callers : Callers
no_callers call = (0, op.Unlock 0 [])

pub opened_whole : (c : Config) (rules : Rules) (is : IsConfig c) → Whole c rules (cluster.opening c) [] (Lines.opening c) (Lines.opening c) (opened_lives c rules is).0
unfolding cluster.opening
opened_whole c rules is = record {
  like = refl;
  ordered = opening_ordered c is;
  senders = λ f i. absurd i;
  who = no_callers;
  known = opening_known c no_callers 0;
  has = λ g n db. 0;
  gone = λ g key. false;
  stores = stores_open c;
  lost = λ g key e. absurd (cc);
  home = all_home c rules;
  calls = opened_calls c;
}
