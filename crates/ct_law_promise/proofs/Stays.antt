-- Of persistent databases: members agree, what was acknowledged stays and is read, and commits come one by one.
use Rattle.std.proofs.Common.{◌≡◌, ◌≢◌, ℕ, suc, ◌+◌, ◌≤◌, Bool, true, List, [], ◌∷◌, ◌++◌, length, Option, None, Some, refl, sym, ◌∙◌, ap, subst, ⊎_elim, arith}
use Rattle.std.specs.Prelude.{take, nat_lt}
use Rattle.std.proofs.lemmas.List.{length-append}
use Rattle.ct_values.specs.declared.client.Answer.TheVariants as answer
use Rattle.ct_values.specs.declared.client.ClientOp.TheVariants as op
use Rattle.ct_values.specs.declared.client.Pair.{Pair}
use Rattle.ct_values.specs.declared.config.Config.{Config}
use Rattle.ct_values.specs.declared.config.DbKind.{DbKind}
use Rattle.ct_values.specs.declared.config.DbKind.TheVariants.{Persistent}
use Rattle.ct_call.specs.Rules.{Rules}
use Rattle.ct_store.specs.Map.{Pairs}
use Rattle.ct_persist.specs.Persisted.{Persisted, written}
use Rattle.ct_persist.specs.Updates.{contents}
use Rattle.ct_rules_node.specs.Node.{has_records, kind_at, db_at}
use Rattle.ct_rules_cluster.specs.Cluster.{Cluster, node_at, opening}
use Rattle.ct_rules_cluster.specs.Labels.{Label, Answered, Begun}
use Rattle.ct_rules_cluster.specs.Traces.{ran}
use Rattle.ct_register.proofs.Descent.{Went, went_labels, acknowledged_taken}
use Rattle.ct_register.proofs.Formed.{legal_is_formed}
use Rattle.ct_register.proofs.Fronts.{longer, before_newest, contents_both, taken_length, whole_front}
use Rattle.ct_register.proofs.Places.{at_same}
use Rattle.ct_register.specs.Database.{Database, AcceptsCommit, AcceptsRead, contents_after}
use Rattle.ct_register.specs.Descent.{HasOf}
use Rattle.ct_register.specs.Legal.{AtRecord, AtDatabase, AcceptsLabel, AcceptsLabels}
use Rattle.ct_register.specs.Lines
use Rattle.ct_register.specs.Lines.{Lines}
use Rattle.ct_register.specs.Register as register
use Rattle.ct_register.specs.Stands.{IsAfter, StandsFor}
use Rattle.ct_register.specs.Words.{at}
use Rattle.ct_law_promise.proofs.Running.{promise}
use Rattle.ct_law_promise.specs.Phrases.{HasFront, HaveFronts, PairsAgree, MembersAgree, HasCommit, IsOfLine, AllHave, AcknowledgedStays, CommitsOneByOne, ReadsAreAcknowledged}

-- ---- members agree

same_place : (a b c d e f : ℕ) → b ≡ c + d → e ≡ c + f → e ≡ b → f ≡ d
same_place a b c d e f h k same = omega arith

-- while there is no commit, the pairs are those that its generation began with
as_begun : (j : ℕ) (d : Database) (p : Persisted) → j ≤ length d.commits → p.seq ≡ d.seq + j → p.pairs ≡ contents_after j d → d.commits ≡ [] → (p.seq ≡ d.seq) × (p.pairs ≡ d.base)
unfolding contents
as_begun j d p within number pairs none =
    let zero : j ≡ 0 = (let e : length d.commits ≡ 0 = ap length none in omega arith) in
    ((let e = number in omega arith), pairs ∙ ap (λ (i : ℕ). contents (take i d.commits) d.base) zero ∙ ap (λ (cs : List (List Pair)). contents (take 0 cs) d.base) none)

module _ (config : Config) (w : Cluster) (r : Lines) (stands : StandsFor config w r) where
  -- each node has its databases after some commits of its line
  stands_in : (n db : ℕ) → nat_lt n config.nodes ≡ true → kind_at config db ≡ Some Persistent → (j : ℕ) × IsAfter j n (r.databases (node_at n w).pbase db) (db_at db (node_at n w)).store
  stands_in n db own persistent =
      let a = stands.databases n db own persistent in
      (a.0, subst (λ l. IsAfter a.0 n (r.databases l db) (db_at db (node_at n w)).store) (sym (stands.bases n own)) a.1)

  have_fronts : HaveFronts config w r
  have_fronts n db own persistent =
      let a = stands_in n db own persistent in
      record { count = a.0; within = a.1.within; number = a.1.number; pairs = a.1.pairs; begun = as_begun a.0 (r.databases (node_at n w).pbase db) (db_at db (node_at n w)).store a.1.within a.1.number a.1.pairs }

  pairs_agree : PairsAgree config w
  pairs_agree n m db own other persistent same number =
      let a = stands_in n db own persistent in
      let b = stands_in m db other persistent in
      let c : IsAfter b.0 m (r.databases (node_at n w).pbase db) (db_at db (node_at m w)).store = subst (λ l. IsAfter b.0 m (r.databases l db) (db_at db (node_at m w)).store) same b.1 in
      let place : b.0 ≡ a.0 = same_place 0 (db_at db (node_at n w)).store.seq (r.databases (node_at n w).pbase db).seq a.0 (db_at db (node_at m w)).store.seq b.0 a.1.number c.number number in
      c.pairs ∙ ap (λ j. contents_after j (r.databases (node_at n w).pbase db)) place ∙ sym a.1.pairs

pub members_agree : MembersAgree
members_agree config rules steps is =
    let p = promise config rules steps is in
    let w = (ran config rules (opening config) [] steps).cluster in (pairs_agree config w p.0 p.2, (p.0, p.1, have_fronts config w p.0 p.2))

-- ---- what was told before a label, and after it

pub accepts_front : (config : Config) (rules : Rules) (before after : List Label) (r s : Lines) → AcceptsLabels config rules r (before ++ after) s → (mid : Lines) × AcceptsLabels config rules r before mid × AcceptsLabels config rules mid after s
accepts_front config rules [] after r s h = (r, refl, h)
accepts_front config rules (label ∷ before) after r s h = let k = accepts_front config rules before after h.0 s h.2 in (k.0, (h.0, h.1, k.1), k.2)

-- ---- a commit in a database

-- a later database, with more commits behind it
more_after : (before : Pairs (List ℕ)) (number : ℕ) (writes : List Pair) (p q : Persisted) (cs : List (List Pair)) → q.seq ≡ p.seq + length cs → q.pairs ≡ contents cs p.pairs → HasCommit before number writes p → HasCommit before number writes q
unfolding contents
more_after before number writes p q cs more pairs h = record {
  more = h.more ++ cs;
  seq = (let a = h.seq in let b = length-append h.more cs in omega arith);
  pairs = pairs ∙ ap (contents cs) h.pairs ∙ sym (contents_both h.more cs (written writes before));
}

-- the database after its first j commits, where the one behind these others is among them
has_commit : (d : Database) (front : List (List Pair)) (writes : List Pair) (j number : ℕ) (e : Database) → d.commits ≡ front ++ writes ∷ [] → number ≡ d.seq + length d.commits → Went d e → length d.commits ≤ j → j ≤ length e.commits →
    HasCommit (contents front d.base) number writes (record { seq = e.seq + j; pairs = contents_after j e })
unfolding contents
has_commit d front writes j number e is numbered went low high =
    let k = longer (length d.commits) j e.commits low high in
    let whole : take (length d.commits) e.commits ≡ front ++ writes ∷ [] = went.first (length d.commits) (omega arith) ∙ whole_front d.commits ∙ is in
    record {
      more = k.more;
      seq = (let a = k.count in let s = went.seq in omega arith);
      pairs = (λ i. contents (k.is i) (went.base i)) ∙ contents_both (take (length d.commits) e.commits) k.more d.base ∙ ap (λ (cs : List (List Pair)). contents k.more (contents cs d.base)) whole
          ∙ ap (contents k.more) (contents_both front (writes ∷ []) d.base);
    }

-- ---- what was acknowledged stays

module _ (config : Config) (rules : Rules) (w : Cluster) (r m t : Lines) (n db number : ℕ) (writes : List Pair) (rest : List Label) (born : r.born (r.line n) ≡ true) (stands : StandsFor config w t) (legal : (g l k : ℕ) → (t.databases l db).from g ≡ Some k → HasOf (t.databases g db) k (t.databases l db))
    (h : AcceptsLabel config rules r (Answered n (op.Commit db writes) (answer.Committed number)) m) (on : AcceptsLabels config rules m rest t) where
  abbrev g : ℕ
  g = r.line n

  abbrev d : Database
  d = r.databases g db

  took : AcceptsCommit (r.members g) n writes (answer.Committed number) d h.2.2
  took = h.2.3

  before : (front : List (List Pair)) × (d.commits ≡ front ++ writes ∷ [])
  before = before_newest d.commits writes took.0.newest

  put : m.databases g db ≡ h.2.2
  put = ap (λ (x : Lines). x.databases g db) h.2.4 ∙ ap (λ (f : ℕ → Database). f db) (at_same g g (at db h.2.2 (r.databases g)) r.databases refl) ∙ at_same db db h.2.2 (r.databases g) refl

  went : Went (m.databases g db) (t.databases g db)
  went = went_labels config rules rest m t on g db (ap (λ (x : Lines). x.born g) h.2.4 ∙ born)

  -- the database of the line at the end goes on from that in which the commit was acknowledged
  later : Went d (t.databases g db)
  later =
      let e : m.databases g db ≡ record d { committer = None; acked = length d.commits; seen = h.2.2.seen } = put ∙ took.1 ∙ ap (λ (f : ℕ → ℕ). record d { committer = None; acked = length d.commits; seen = f }) (sym (ap (λ (x : Database). x.seen) took.1)) in
      let k = subst (λ (x : Database). Went x (t.databases g db)) e went in
      record { seq = k.seq; base = k.base; from = k.from; acked = (let a = k.acked in let u = took.0.unacknowledged in omega arith); first = k.first; longer = k.longer }

  acked : length d.commits ≤ (t.databases g db).acked
  acked = (let a = went.acked in let b = ap (λ (x : Database). x.acked) (put ∙ took.1) in omega arith)

  has_first : (j : ℕ) → (t.databases g db).acked ≤ j → j ≤ length (t.databases g db).commits → HasCommit (contents before.0 d.base) number writes (record { seq = (t.databases g db).seq + j; pairs = contents_after j (t.databases g db) })
  has_first j low high = has_commit d before.0 writes j number (t.databases g db) before.1 took.0.numbered later (let a = acked in omega arith) high

  -- what the node has is what it is called
  spelt : (p q : Persisted) → q.seq ≡ p.seq → q.pairs ≡ p.pairs → HasCommit (contents before.0 d.base) number writes p → HasCommit (contents before.0 d.base) number writes q
  spelt p q same pairs c = record { more = c.more; seq = same ∙ c.seq; pairs = pairs ∙ c.pairs }

  all_have : AllHave config w t g db (contents before.0 d.base) number writes
  all_have k own line = ⊎_elim
      (λ (same : (node_at k w).pbase ≡ g).
      let a = stands_in config w t stands k db own h.2.1 in
      let b : IsAfter a.0 k (t.databases g db) (db_at db (node_at k w)).store = subst (λ l. IsAfter a.0 k (t.databases l db) (db_at db (node_at k w)).store) same a.1 in
      spelt (record { seq = (t.databases g db).seq + a.0; pairs = contents_after a.0 (t.databases g db) }) (db_at db (node_at k w)).store b.number b.pairs (has_first a.0 b.acked b.within))
      (λ (o : (c : ℕ) × ((t.databases (node_at k w).pbase db).from g ≡ Some c)).
      let l = (node_at k w).pbase in
      let x = legal g l o.0 o.1 in
      let a = stands_in config w t stands k db own h.2.1 in
      let first : HasCommit (contents before.0 d.base) number writes (record { seq = (t.databases g db).seq + x.first; pairs = contents_after x.first (t.databases g db) }) = has_first x.first x.acked x.within in
      let base : HasCommit (contents before.0 d.base) number writes (record { seq = (t.databases l db).seq; pairs = (t.databases l db).base })
      = more_after (contents before.0 d.base) number writes (record { seq = (t.databases g db).seq + x.first; pairs = contents_after x.first (t.databases g db) }) (record { seq = (t.databases l db).seq; pairs = (t.databases l db).base }) x.more
      (let s = x.seq in let c = x.number in omega arith) x.base first in
      more_after (contents before.0 d.base) number writes (record { seq = (t.databases l db).seq; pairs = (t.databases l db).base }) (db_at db (node_at k w)).store (take a.0 (t.databases l db).commits)
      (let s = a.1.number in let c = taken_length a.0 (t.databases l db).commits a.1.within in omega arith) a.1.pairs base) line

  -- on what was there before it
  it_stays : (pairs : Pairs (List ℕ)) × AllHave config w t g db pairs number writes
  it_stays = (contents before.0 d.base, all_have)

pub acknowledged_stays : AcknowledgedStays
acknowledged_stays config rules steps is before after n db number writes split =
    let run = ran config rules (opening config) [] steps in
    let p = promise config rules steps is in
    let k = accepts_front config rules before (Answered n (op.Commit db writes) (answer.Committed number) ∷ after) (Lines.opening config) p.0 (subst (λ labels. AcceptsLabels config rules (Lines.opening config) labels p.0) split p.1) in
    let r : Lines = k.0 in
    let f = legal_is_formed config rules before r k.1 in
    let in_line : r.line n ≢ 0 = k.2.1.2.0 in
    let born : r.born (r.line n) ≡ true = subst (λ l. r.born l ≡ true) (sym (f.order.stays n in_line)) (f.order.real n (λ z. in_line (f.order.stays n in_line ∙ z))) in
    (r, p.0, k.1, in_line, p.1, it_stays config rules run.cluster r k.2.0 p.0 n db number writes after born p.2 (λ g l j. acknowledged_taken config rules run.trace p.0 p.1 g l db j) k.2.1 k.2.2)

-- ---- commits come one by one

pub one_by_one : CommitsOneByOne
one_by_one config rules steps is before after n db writes split =
    let p = promise config rules steps is in
    let k = accepts_front config rules before (Begun n db writes ∷ after) (Lines.opening config) p.0 (subst (λ labels. AcceptsLabels config rules (Lines.opening config) labels p.0) split p.1) in
    (k.0, k.1, k.2.1.3.0, k.2.1.3.1)

-- ---- a read

no_records : (k : Option DbKind) → k ≡ Some Persistent → has_records k ≡ true → ⊥
unfolding has_records
no_records k is e = absurd (let f : has_records (Some Persistent) ≡ true = subst (λ (x : Option DbKind). has_records x ≡ true) is e in cc)

pub reads_acknowledged : ReadsAreAcknowledged
reads_acknowledged config rules steps is before after n db key value persistent split =
    let p = promise config rules steps is in
    let k = accepts_front config rules before (Answered n (op.Read db key) (answer.Read value) ∷ after) (Lines.opening config) p.0 (subst (λ labels. AcceptsLabels config rules (Lines.opening config) labels p.0) split p.1) in
    let q : AtDatabase config n db (AcceptsRead n key value) k.0 k.2.0 = ⊎_elim
    (λ (a : AtRecord config n db key (register.Accepts rules n (op.Read db key) (answer.Read value)) k.0 k.2.0). absurd (no_records (kind_at config db) persistent a.1))
    (λ (a : AtDatabase config n db (AcceptsRead n key value) k.0 k.2.0). a) k.2.1 in
    (k.0, k.1, q.3.0, q.3.1, q.3.2, q.3.4)
