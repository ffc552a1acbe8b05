-- A client's commit that is not refused: it begins, and is acknowledged at once where its node is the only member.
use Rattle.std.proofs.Common.{◌≡◌, ◌≢◌, ℕ, suc, ◌+◌, ◌<◌, ◌≤◌, Bool, true, false, List, [], ◌∷◌, ◌++◌, length, Option, None, Some, refl, sym, ap, ◌∙◌, subst, arith, inl, inr}
use Rattle.std.specs.Prelude.{nat_lt, slice_get, is_some}
use Rattle.std.specs.List.{AllByRecursion, list_all}
use Rattle.std.proofs.lemmas.List.{length-set}
use Rattle.ct_values.specs.Words.{others}
use Rattle.ct_values.specs.declared.client.Answer.{Answer}
use Rattle.ct_values.specs.declared.client.Answer.TheVariants as answer
use Rattle.ct_values.specs.declared.client.ClientOp.TheVariants as op
use Rattle.ct_values.specs.declared.client.Pair.{Pair}
use Rattle.ct_values.specs.declared.config.Config.{Config}
use Rattle.ct_frame.specs.Fields.{ascends}
use Rattle.ct_frame.specs.declared.event.Out.TheVariants as out
use Rattle.ct_frame.specs.declared.frame.Msg.TheVariants as msg
use Rattle.ct_persist.specs.Persisted.{Persisted, updated, fits}
use Rattle.ct_persist.specs.Commits.{commit_begun}
use Rattle.ct_rules_node.specs.Node.{Node, Committing, is_present, is_among, is_persistent, kind_at, db_at, with_db}
use Rattle.ct_rules_node.specs.Node as node
use Rattle.ct_rules_node.specs.Turn.{Turn, does, with_node, makes, answers, posts_all}
use Rattle.ct_rules_node.specs.Databases.{updates, with_commit, awaits_others, commits_at, commit}
use Rattle.ct_rules_cluster.specs.Labels.{Label, Answered, Begun}
use Rattle.ct_rules_cluster.specs.Steps.{frames_of}
use Rattle.ct_rules_cluster.specs.Traces.{sent_label}
use Rattle.ct_rules_cluster.specs.declared.step.PendingCall.{PendingCall}
use Rattle.ct_register.specs.Database.{Database, IsOpen, all_seen}
use Rattle.ct_register.specs.Lines.{Lines}
use Rattle.ct_register.proofs.Places.{at_same}
use Rattle.ct_register.specs.Words.{at}
use Rattle.ct_law_registers.proofs.Stores.{Grown}
use Rattle.ct_law_generation.specs.Shown.{labels_of}
use Rattle.ct_law_generation.specs.Waiting.{answered}
use Rattle.ct_law_registers.proofs.Parts.{Choice, goes, goes_on, answer_goes, database_goes, begun_in, DatabasesNeed, AllNeed}
use Rattle.ct_law_registers.proofs.Facts.{Has, Counted, Bases, bases, owners, Stands, MailStands, Holds, Heir, Waits, MayWait, after}
use Rattle.ct_law_databases.proofs.Changes.{Changes, by_place}
use Rattle.ct_law_databases.proofs.Law.{IsThere}
use Rattle.ct_law_databases.proofs.Kept.{Kept, OutStands, frame_list, frames_stand}
use Rattle.ct_law_databases.proofs.Lists.{all_among, left_out, only_one, others_ascend, newest_last, length_last, last_at}
use Rattle.ct_law_databases.proofs.Databases.{begun_grown, begun_store, begun_counted, committed_counted}
use Rattle.ct_law_databases.proofs.One.{is_kind, with_one, one_here, one_there, with_has, has_here, has_there, has_others, changes_kept}
use Rattle.ct_law_databases.proofs.Outs.{posted, posted_outs, posted_labels, db_here, db_there, is_below}

-- what a commit of node n needs that is not refused: the node is there and owns the lock, all before it is acknowledged and in its
-- store, none waits, and it fits
pub record Begins (config : Config) (nodes : ℕ → Node) (r : Lines) (has : Has) (n db : ℕ) (ws : List Pair) : Type 0 where
  pub kind : is_persistent (kind_at config db) ≡ true
  pub present : is_present (nodes n).phase ≡ true
  pub there : IsThere config (bases r) n (nodes n)
  pub installed : r.line n ≡ r.pline n
  pub born : r.born (r.line n) ≡ true
  pub owns : owners config r (r.line n) db ≡ Some n
  pub acked : (r.databases (r.line n) db).acked ≡ length (r.databases (r.line n) db).commits
  pub whole : has (r.line n) n db ≡ length (r.databases (r.line n) db).commits
  pub fit : fits ws (db_at db (nodes n)).store.pairs ≡ true
  pub heirs : (l k : ℕ) → (r.databases l db).from (r.line n) ≡ Some k → Heir nodes (bases r) has (r.line n) db k

module _ (config : Config) (x : Choice) (nodes : ℕ → Node) (r : Lines) (has : Has) (n db call : ℕ) (ws : List Pair) (sp : Bool) (calls : List PendingCall) (h : Holds config nodes (bases r) has) (b : Begins config nodes r has n db ws)
    (mine : (a : Answer) → answered call a calls ≡ Answered n (op.Commit db ws) a ∷ []) where
  abbrev d : Database
  d = r.databases (r.line n) db

  abbrev e : Database
  e = begun_in n ws d

  abbrev more : Has
  more = with_has (r.line n) n db (length d.commits + 1) has

  abbrev seq : ℕ
  seq = (db_at db (nodes n)).store.seq + 1

  abbrev begins : Turn
  begins = record { node = nodes n; outs = []; spent = sp }

  -- the node with the new contents
  abbrev updated_node : Node
  updated_node = with_db db (record (db_at db (nodes n)) { store = updated seq ws (db_at db (nodes n)).store }) (nodes n)

  inside : db < length (nodes n).dbs
  inside = (let l = is_below config db b.kind in let s = b.there.size in omega arith)

  store_is : (db_at db (nodes n)).store ≡ after (length d.commits) d
  store_is = h.stores n db b.kind (λ z. b.there.line (b.installed ∙ z)) ∙ subst (λ (g : ℕ). after (has g n db) (r.databases g db) ≡ after (length d.commits) d) b.installed (ap (λ (k : ℕ). after k d) b.whole)

  numbered : seq ≡ d.seq + (length d.commits + 1)
  numbered = (let k : (db_at db (nodes n)).store.seq ≡ d.seq + length d.commits = ap (λ (p : Persisted). p.seq) store_is in omega arith)

  new_store : updated seq ws (db_at db (nodes n)).store ≡ after (length d.commits + 1) e
  new_store = begun_store n ws d (db_at db (nodes n)).store store_is b.fit

  count : length e.commits ≡ length d.commits + 1
  count = length_last d.commits ws

  more_here : more (r.line n) n db ≡ length d.commits + 1
  more_here = has_here (r.line n) n db (length d.commits + 1) has

  counted_then : Counted (r.members (r.line n)) e (λ m. more (r.line n) m db)
  counted_then = begun_counted n (r.members (r.line n)) ws d (λ m. has (r.line n) m db) (λ m. more (r.line n) m db) (h.counted (r.line n) db) b.acked b.whole more_here (has_others (r.line n) n db (length d.commits + 1) has)

  abbrev Then : (ℕ → ℕ → Database) → Bases
  Then dbs = record (bases r) { databases = dbs }

  -- the database after the commit began
  abbrev begun_dbs : ℕ → ℕ → Database
  begun_dbs = with_one (r.line n) db e r.databases

  begun_is : begun_dbs (r.line n) db ≡ e
  begun_is = one_here (r.line n) db e r.databases

  -- no other commit waits
  still_none : (m : ℕ) → m ≢ n → (e' : Database) (z : Committing) → Waits m (r.members (r.line n)) d (λ k. has (r.line n) k db) z → Waits m (r.members (r.line n)) e' (λ k. more (r.line n) k db) z
  still_none m ne e' z w = absurd (let a = b.acked in let u = w.unacknowledged in omega arith)

  begun_needs : DatabasesNeed config x r (Begun n db ws)
  unfolding DatabasesNeed
  begun_needs = ((b.there.line, is_kind (kind_at config db) b.kind, b.acked), b.owns)

  abbrev Kept_by : Turn → Type 0
  Kept_by u = Kept config x nodes (at n u.node nodes) r has more (Begun n db ws ∷ labels_of n calls u.outs) (frame_list u.outs)

  -- ---- others are members

  module _ (m : ℕ) (ms : List ℕ) (are : others n (nodes n).members ≡ m ∷ ms) where
    abbrev waiting : Committing
    waiting = record { call = call; writes = ws; pending = commit_begun seq (m ∷ ms) }

    abbrev waiting_node : Node
    waiting_node = with_db db (record (db_at db updated_node) { commit = Some waiting }) updated_node

    inside_then : db < length updated_node.dbs
    unfolding with_db
    inside_then = (let l = inside in let s = length-set (nodes n).dbs db (record (db_at db (nodes n)) { store = updated seq ws (db_at db (nodes n)).store }) in omega arith)

    waiting_here : db_at db waiting_node ≡ record (db_at db updated_node) { commit = Some waiting }
    waiting_here = db_here db _ updated_node inside_then

    updated_here : db_at db updated_node ≡ record (db_at db (nodes n)) { store = updated seq ws (db_at db (nodes n)).store }
    updated_here = db_here db _ (nodes n) inside

    commit_is : (db_at db waiting_node).commit ≡ Some waiting
    commit_is = ap (λ (y : node.Database). y.commit) waiting_here

    waits_then : Waits n (r.members (r.line n)) e (λ k. more (r.line n) k db) waiting
    waits_then = record {
      begun = refl;
      newest = newest_last d.commits ws;
      numbered = (let k = numbered in let l = count in omega arith);
      unacknowledged = (let k = b.acked in let l = count in omega arith);
      some = λ z. absurd (cc);
      ascend = subst (λ (xs : List ℕ). ascends nat_lt xs ≡ true) are (others_ascend n (nodes n).members b.there.ascend);
      others = subst (λ (xs : List ℕ). list_all (λ k. is_among k xs) (m ∷ ms) ≡ true) (sym are ∙ ap (others n) b.there.members) (all_among (m ∷ ms));
      given = λ k among there. (let here : k ≡ n = left_out k n (nodes n).members (subst (λ (xs : List ℕ). is_among k xs ≡ true) (sym b.there.members) among) (subst (λ (xs : List ℕ). is_among k xs ≡ false) (sym are) there) in
          ap (λ (j : ℕ). more (r.line n) j db) here ∙ more_here ∙ sym count);
    }

    waiting_changes : Changes config nodes (bases r) has more n db waiting_node begun_dbs
    unfolding with_db MayWait
    waiting_changes = record {
      line = b.there.line;
      installed = b.installed;
      born = b.born;
      kind = b.kind;
      other = one_there (r.line n) db e r.databases;
      other_has = has_there (r.line n) n db (length d.commits + 1) has;
      same_has = has_others (r.line n) n db (length d.commits + 1) has;
      other_store = λ i ne. ap (λ (y : node.Database). y.store) (db_there db i _ updated_node ne ∙ db_there db i _ (nodes n) ne);
      other_commit = λ i ne. ap (λ (y : node.Database). y.commit) (db_there db i _ updated_node ne ∙ db_there db i _ (nodes n) ne);
      lead = refl;
      grown = subst (Grown d) (sym begun_is) (begun_grown n ws d);
      rises = (let k = more_here in let w = b.whole in omega arith);
      counted = subst (λ (q : Database). Counted (r.members (r.line n)) q (λ k. more (r.line n) k db)) (sym begun_is) counted_then;
      store = ap (λ (y : node.Database). y.store) (waiting_here ∙ ap (λ (y : node.Database). record y { commit = Some waiting }) updated_here) ∙ new_store ∙ (λ k. after (sym more_here k) (sym begun_is k));
      waits = subst (λ (o : Option Committing). MayWait n (r.members (r.line n)) (begun_dbs (r.line n) db) (λ k. more (r.line n) k db) o) (sym commit_is)
          (subst (λ (q : Database). Waits n (r.members (r.line n)) q (λ k. more (r.line n) k db) waiting) (sym begun_is) waits_then);
      committing = λ is. ap is_some commit_is;
      others = λ k ne is. absurd (ne (let f : Some n ≡ Some k = sym (ap (λ (q : Database). q.committer) begun_is) ∙ is in cc));
      still = λ k ne z w. still_none k ne _ z w;
    }

    abbrev sends : Bool → Turn
    sends sq = posts_all updated_node.generation n (m ∷ ms) (msg.PUpdate db seq ws) (record { node = waiting_node; outs = []; spent = sq })

    sends_stand : (sq : Bool) → MailStands config (Then begun_dbs) more (frame_list (sends sq).outs)
    unfolding OutStands Stands with_db
    sends_stand sq =
        let here : seq ≡ e.seq + suc (length d.commits) = (let k = numbered in omega arith) in
        let one : (k : ℕ) → OutStands config (Then begun_dbs) more (out.Send (record { generation = updated_node.generation; sender = n; receiver = k; msg = msg.PUpdate db seq ws }))
        = λ k. subst (λ (g : ℕ). Stands config (Then begun_dbs) more g n (msg.PUpdate db seq ws)) (sym b.there.generation)
        (b.born, length d.commits, subst (λ (q : Database). seq ≡ q.seq + suc (length d.commits)) (sym begun_is) here, subst (λ (q : Database). slice_get q.commits (length d.commits) ≡ Some ws) (sym begun_is) (last_at d.commits ws)) in
        let outs = posted_outs (OutStands config (Then begun_dbs) more) updated_node.generation n (m ∷ ms) (msg.PUpdate db seq ws) (record { node = waiting_node; outs = []; spent = sq }) one in
        frames_stand config (Then begun_dbs) more (sends sq).outs (subst (AllByRecursion (OutStands config (Then begun_dbs) more)) (sym outs.1) outs.2)

    sends_kept : (sq : Bool) → Kept_by (sends sq)
    unfolding AllNeed goes_on goes labels_of sent_label
    sends_kept sq =
        let is : (sends sq).node ≡ waiting_node = posted updated_node.generation n (m ∷ ms) (msg.PUpdate db seq ws) (record { node = waiting_node; outs = []; spent = sq }) in
        let ls : labels_of n calls (sends sq).outs ≡ [] = posted_labels n calls updated_node.generation n (m ∷ ms) (msg.PUpdate db seq ws) (record { node = waiting_node; outs = []; spent = sq }) refl in
        subst (λ (y : Node). Kept config x nodes (at n y nodes) r has more (Begun n db ws ∷ labels_of n calls (sends sq).outs) (frame_list (sends sq).outs)) (sym is)
        (subst (λ (l : List Label). Kept config x nodes (at n waiting_node nodes) r has more (Begun n db ws ∷ l) (frame_list (sends sq).outs)) (sym ls)
        (changes_kept config x nodes r has more n db waiting_node begun_dbs (Begun n db ws ∷ []) (frame_list (sends sq).outs) h waiting_changes refl (begun_needs, tt) (sends_stand sq) b.present
        (λ later ends s. inr (inl (n, refl, waiting, ap (λ (z : Node). (db_at db z).commit) (at_same n n waiting_node nodes refl) ∙ commit_is)))
        (inr (inl (n, b.owns, more_here ∙ sym count ∙ ap (λ (q : Database). length q.commits) (sym begun_is))))))

  -- ---- the node is the only member

  module _ (none : others n (nodes n).members ≡ []) where
    abbrev told : Database → Database
    told q = record q { committer = None; acked = length q.commits; seen = all_seen (length q.commits) (r.members (r.line n)) [] q.seen }

    abbrev told_dbs : ℕ → ℕ → Database
    told_dbs = with_one (r.line n) db (told (begun_dbs (r.line n) db)) begun_dbs

    told_is : told_dbs (r.line n) db ≡ told e
    told_is = one_here (r.line n) db (told (begun_dbs (r.line n) db)) begun_dbs ∙ ap told begun_is

    is_only : (k : ℕ) → is_among k (r.members (r.line n)) ≡ true → k ≡ n
    is_only k among = only_one k n (nodes n).members none (subst (λ (xs : List ℕ). is_among k xs ≡ true) (sym b.there.members) among)

    all_have : (k : ℕ) → is_among k (r.members (r.line n)) ≡ true → more (r.line n) k db ≡ length e.commits
    all_have k among = ap (λ (j : ℕ). more (r.line n) j db) (is_only k among) ∙ more_here ∙ sym count

    alone_here : db_at db updated_node ≡ record (db_at db (nodes n)) { store = updated seq ws (db_at db (nodes n)).store }
    alone_here = db_here db _ (nodes n) inside

    -- no commit waited at the node before
    none_waits : (o : Option Committing) → MayWait n (r.members (r.line n)) d (λ k. has (r.line n) k db) o → MayWait n (r.members (r.line n)) (told_dbs (r.line n) db) (λ k. more (r.line n) k db) o
    unfolding MayWait
    none_waits None w = tt
    none_waits (Some z) w = absurd (let a = b.acked in let u = w.unacknowledged in omega arith)

    told_grown : Grown d (told e)
    told_grown = (let g = begun_grown n ws d in record { seq = refl; base = refl; from = refl; acked = (let a = (h.counted (r.line n) db).known in let c = count in omega arith); commits = g.commits; first = g.first })

    told_changes : Changes config nodes (bases r) has more n db updated_node told_dbs
    unfolding with_db
    told_changes = record {
      line = b.there.line;
      installed = b.installed;
      born = b.born;
      kind = b.kind;
      other = λ g i o. one_there (r.line n) db (told (begun_dbs (r.line n) db)) begun_dbs g i o ∙ one_there (r.line n) db e r.databases g i o;
      other_has = has_there (r.line n) n db (length d.commits + 1) has;
      same_has = has_others (r.line n) n db (length d.commits + 1) has;
      other_store = λ i ne. ap (λ (y : node.Database). y.store) (db_there db i _ (nodes n) ne);
      other_commit = λ i ne. ap (λ (y : node.Database). y.commit) (db_there db i _ (nodes n) ne);
      lead = refl;
      grown = subst (Grown d) (sym told_is) told_grown;
      rises = (let k = more_here in let w = b.whole in omega arith);
      counted = subst (λ (q : Database). Counted (r.members (r.line n)) q (λ k. more (r.line n) k db)) (sym told_is) (committed_counted (r.members (r.line n)) e (λ k. more (r.line n) k db) counted_then all_have);
      store = ap (λ (y : node.Database). y.store) alone_here ∙ new_store ∙ (λ k. after (sym more_here k) (told e)) ∙ ap (after (more (r.line n) n db)) (sym told_is);
      waits = subst (λ (o : Option Committing). MayWait n (r.members (r.line n)) (told_dbs (r.line n) db) (λ k. more (r.line n) k db) o) (sym (ap (λ (y : node.Database). y.commit) alone_here)) (none_waits _ (h.waits n db));
      committing = λ is. absurd (let f : None ≡ Some n = sym (ap (λ (q : Database). q.committer) told_is) ∙ is in cc);
      others = λ k ne is. absurd (let f : None ≡ Some k = sym (ap (λ (q : Database). q.committer) told_is) ∙ is in cc);
      still = λ k ne z w. still_none k ne _ z w;
    }

    abbrev begun_lines : Lines
    begun_lines = goes config x (Begun n db ws) r

    -- the only member has installed the line
    all_installed : (k : ℕ) → is_among k (r.members (r.line n)) ≡ true → r.line n ≤ r.pline k
    all_installed k among = (let here : r.pline k ≡ r.pline n = ap r.pline (is_only k among) in let i = b.installed in omega arith)

    -- and as it is present there, no line took over from it
    all_took : (l k : ℕ) → (begun_dbs l db).from (r.line n) ≡ Some k → seq ≤ k
    all_took l k is =
        let x = b.heirs l k (by_place (λ (g i : ℕ). (begun_dbs g i).from (r.line n) ≡ Some k → (r.databases g i).from (r.line n) ≡ Some k) (r.line n) db
        (λ f. ap (λ (q : Database). q.from (r.line n)) (sym begun_is) ∙ f) (λ g i o f. ap (λ (q : Database). q.from (r.line n)) (sym (one_there (r.line n) db e r.databases g i o)) ∙ f) l db is) in
        let here : (nodes x.node).promise ≡ (nodes n).promise = ap (λ (j : ℕ). (nodes j).promise) (is_only x.node x.member) in
        let later = x.later in let promise = b.there.promise in absurd (omega arith)

    open_then : IsOpen n ws seq e
    open_then = record { begun = refl; newest = newest_last d.commits ws; unacknowledged = (let a = b.acked in let c = count in omega arith); numbered = (let k = numbered in let c = count in omega arith) }

    told_needs : DatabasesNeed config x begun_lines (Answered n (op.Commit db ws) (answer.Committed seq))
    unfolding DatabasesNeed goes
    told_needs = (b.owns, (b.there.line, is_kind (kind_at config db) b.kind, subst (IsOpen n ws seq) (sym begun_is) open_then), (all_installed, all_took))

    told_goes : bases (goes_on config x (Begun n db ws ∷ Answered n (op.Commit db ws) (answer.Committed seq) ∷ []) r) ≡ Then told_dbs
    unfolding goes_on goes answer_goes database_goes
    told_goes = rw b.kind refl

    abbrev answers_it : Bool → Turn
    answers_it sq = answers call (answer.Committed seq) (record { node = updated_node; outs = []; spent = sq })

    alone_kept : (sq : Bool) → Kept_by (answers_it sq)
    unfolding answers does labels_of AllNeed frames_of
    alone_kept sq = subst (λ (l : List Label). Kept config x nodes (at n updated_node nodes) r has more (Begun n db ws ∷ (l ++ [])) []) (sym (mine (answer.Committed seq)))
        (changes_kept config x nodes r has more n db updated_node told_dbs (Begun n db ws ∷ Answered n (op.Commit db ws) (answer.Committed seq) ∷ []) [] h told_changes told_goes (begun_needs, (told_needs, tt)) (λ f is. absurd is) b.present
        (λ later ends s. inl (subst (λ (q : Database). q.acked ≡ length q.commits) (sym told_is) refl))
        (inr (inl (n, b.owns, more_here ∙ sym count ∙ ap (λ (q : Database). length q.commits) (sym told_is)))))

  awaits_kept : (ns : List ℕ) → others n (nodes n).members ≡ ns → (sq : Bool) → Kept_by (awaits_others n call db seq ws ns (record { node = updated_node; outs = []; spent = sq }))
  unfolding awaits_others with_commit with_node
  awaits_kept [] none sq = alone_kept none sq
  awaits_kept (m ∷ ms) are sq = sends_kept m ms are sq

  -- a commit that begins
  pub commit_holds : Kept_by (commit n call db ws begins)
  unfolding commit commits_at updates makes with_node
  commit_holds = awaits_kept (others n (nodes n).members) refl _
