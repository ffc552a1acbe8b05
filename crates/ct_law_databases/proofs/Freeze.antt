-- A freeze that is followed: every commit that waits at the node is given up as unsure, and its lock ends.
use Rattle.std.proofs.Common.{◌≡◌, ◌≢◌, ℕ, zero, suc, ◌+◌, Bool, true, false, cond, List, [], ◌∷◌, ◌++◌, length, map, set, append-nil, append_assoc, Option, None, Some, refl, sym, ap, ◌∙◌, subst, arith, inl, inr, ⊎_elim}
use Rattle.std.specs.Prelude.{◌⊎◌, slice_get, nat_lt, take}
use Rattle.std.specs.List.{AllByRecursion}
use Rattle.std.proofs.lemmas.Bool.{cases_eq}
use Rattle.ct_lcp2.proofs.Choices.{all_append}
use Rattle.ct_values.specs.declared.client.Answer.{Answer}
use Rattle.ct_values.specs.declared.client.Answer.TheVariants as answer
use Rattle.ct_values.specs.declared.client.ClientOp.TheVariants as op
use Rattle.ct_values.specs.declared.client.Pair.{Pair}
use Rattle.ct_values.specs.declared.config.Config.{Config}
use Rattle.ct_frame.specs.declared.event.Note.TheVariants as note
use Rattle.ct_frame.specs.declared.event.Out.{Out}
use Rattle.ct_frame.specs.declared.event.Out.TheVariants as out
use Rattle.ct_frame.specs.declared.frame.Msg.TheVariants as msg
use Rattle.ct_merge.proofs.Among.{In, in_left, in_right}
use Rattle.ct_rules_node.specs.Node.{Node, Frozen, Freezing, Lead, Nothing, Freezes, Pulls, Installs, Completed, Committing, is_present, is_persistent, kind_at, name_of, or_untouched, untouched, db_at, with_db, state_at}
use Rattle.ct_rules_node.specs.Node as node
use Rattle.ct_rules_node.specs.Turn.{Turn, does, with_node, with_phase, answers, notes, posts}
use Rattle.ct_rules_node.specs.Records.{with_state}
use Rattle.ct_rules_node.specs.Databases.{with_commit}
use Rattle.ct_rules_node.specs.Clients.{any_locked, frozen_if_unlocked}
use Rattle.ct_rules_node.specs.Rounds.{frozen_db, lead_from, ends_lock, ends_commit, ends_commits, freezes}
use Rattle.ct_rules_cluster.specs.Labels.{Label, Answered, Noted}
use Rattle.ct_rules_cluster.specs.Traces.{sent_label}
use Rattle.ct_rules_cluster.specs.declared.step.PendingCall.{PendingCall}
use Rattle.ct_register.proofs.Places.{at_same, at_other, at_key_other}
use Rattle.ct_register.specs.Database.{Database, all_seen}
use Rattle.ct_register.specs.Legal.{lock_owner}
use Rattle.ct_register.specs.Lines.{Lines}
use Rattle.ct_register.specs.Register.{Register}
use Rattle.ct_register.specs.Words.{at}
use Rattle.ct_law_generation.specs.Shown.{labels_of}
use Rattle.ct_law_generation.specs.Waiting.{answered}
use Rattle.ct_law_plain.proofs.Plainly.{like_set}
use Rattle.ct_law_registers.proofs.Parts.{Choice, goes, goes_on, answer_goes, note_goes, database_goes, DatabasesNeed, AllNeed}
use Rattle.ct_law_registers.proofs.Facts.{Has, Gone, Bases, bases, owners, Counted, WaitsIn, Settles, Stands, LeadStands, Holds, Waits, MayWait, after, committer_kind}
use Rattle.ct_law_registers.specs.Locks.{IsNoLock}
use Rattle.ct_law_registers.proofs.Stores.{Grown, Grow}
use Rattle.ct_law_databases.proofs.Changes.{SameStores, Changes, by_place, same_holds, change_holds}
use Rattle.ct_law_databases.proofs.Law.{NamesDiffer, LocksEnd}
use Rattle.ct_law_databases.proofs.Kept.{Kept, OutStands, frame_list, frames_stand}
use Rattle.ct_law_databases.proofs.Quiet.{labels_more, goes_more, need_more}
use Rattle.ct_law_databases.proofs.Databases.{unsure_counted}
use Rattle.ct_law_databases.proofs.One.{is_kind, with_one, one_here, one_there}
use Rattle.ct_law_databases.proofs.Update.{IsIn}

-- ---- small words

-- one node after another
at_again : (n : ℕ) (y z : Node) (nodes : ℕ → Node) → at n y (at n z nodes) ≡ at n y nodes
at_again n y z nodes = λ i m. by m i
  where
    by : (m : ℕ) → at n y (at n z nodes) m ≡ at n y nodes m
    by m = ⊎_elim
        (λ (e : m ≡ n). at_same n m y (at n z nodes) e ∙ sym (at_same n m y nodes e))
        (λ (ne : m ≢ n). at_other n m y (at n z nodes) ne ∙ at_other n m z nodes ne ∙ sym (at_other n m y nodes ne)) (cases_eq m n)

set_none : (ds : List node.Database) (i : ℕ) (d : node.Database) → d.commit ≡ None → (or_untouched (slice_get (set ds i d) i)).commit ≡ None
unfolding or_untouched untouched
set_none [] i d e = refl
set_none (x ∷ ds) zero d e = e
set_none (x ∷ ds) (suc i) d e = set_none ds i d e

set_other : (ds : List node.Database) (i k : ℕ) (d : node.Database) → k ≢ i → (or_untouched (slice_get (set ds i d) k)).commit ≡ (or_untouched (slice_get ds k)).commit
unfolding or_untouched untouched
set_other [] i k d ne = refl
set_other (x ∷ ds) zero zero d ne = absurd (ne refl)
set_other (x ∷ ds) zero (suc k) d ne = refl
set_other (x ∷ ds) (suc i) zero d ne = refl
set_other (x ∷ ds) (suc i) (suc k) d ne = set_other ds i k d (λ e. ne (ap suc e))

frozen_same : (ds : List node.Database) (k : ℕ) → ((or_untouched (slice_get (map frozen_db ds) k)).store ≡ (or_untouched (slice_get ds k)).store) × ((or_untouched (slice_get (map frozen_db ds) k)).commit ≡ (or_untouched (slice_get ds k)).commit)
unfolding or_untouched frozen_db
frozen_same [] k = (refl, refl)
frozen_same (d ∷ ds) zero = (refl, refl)
frozen_same (d ∷ ds) (suc k) = frozen_same ds k

lead_either : (config : Config) (b : Bases) (has : Has) (n : ℕ) (c : Bool) (l : Lead) → LeadStands config b has n l → LeadStands config b has n (cond c Nothing l)
unfolding LeadStands
lead_either config b has n true l h = tt
lead_either config b has n false l h = h

-- what is led for an older generation ends
pub lead_from_stands : (config : Config) (b : Bases) (has : Has) (n g : ℕ) (l : Lead) → LeadStands config b has n l → LeadStands config b has n (lead_from g l)
unfolding lead_from
lead_from_stands config b has n g Nothing h = h
lead_from_stands config b has n g (Freezes k members missing) h = lead_either config b has n (nat_lt k g) _ h
lead_from_stands config b has n g (Pulls k members missing y) h = lead_either config b has n (nat_lt k g) _ h
lead_from_stands config b has n g (Installs k members missing body) h = lead_either config b has n (nat_lt k g) _ h
lead_from_stands config b has n g (Completed k members y) h = lead_either config b has n (nat_lt k g) _ h

-- the node's databases, where the commit of database i ends
ended_node : ℕ → List ℕ → Node → Node
ended_node i name y = with_state 0 name (record (state_at 0 name (with_db i (record (db_at i y) { commit = None }) y)) { locked = None }) (with_db i (record (db_at i y) { commit = None }) y)

ended_store : (i : ℕ) (name : List ℕ) (y : Node) (k : ℕ) → (db_at k (ended_node i name y)).store ≡ (db_at k y).store
unfolding ended_node with_state with_db db_at
ended_store i name y k = like_set (λ (d : node.Database). d.store) (set y.dbs i (record (or_untouched (slice_get y.dbs i)) { commit = None })) 0 _ refl k ∙ like_set (λ (d : node.Database). d.store) y.dbs i _ refl k

ended_commit : (i : ℕ) (name : List ℕ) (y : Node) → (db_at i (ended_node i name y)).commit ≡ None
unfolding ended_node with_state with_db db_at
ended_commit i name y = like_set (λ (d : node.Database). d.commit) (set y.dbs i (record (or_untouched (slice_get y.dbs i)) { commit = None })) 0 _ refl i ∙ set_none y.dbs i _ refl

other_commit : (i : ℕ) (name : List ℕ) (y : Node) (k : ℕ) → k ≢ i → (db_at k (ended_node i name y)).commit ≡ (db_at k y).commit
unfolding ended_node with_state with_db db_at
other_commit i name y k ne = like_set (λ (d : node.Database). d.commit) (set y.dbs i (record (or_untouched (slice_get y.dbs i)) { commit = None })) 0 _ refl k ∙ set_other y.dbs i k _ ne

ended_lead : (i : ℕ) (name : List ℕ) (y : Node) → (ended_node i name y).lead ≡ y.lead
unfolding ended_node with_state with_db
ended_lead i name y = refl

-- two databases that differ in nothing but what nodes have seen
record IsAlike (d e : Database) : Type 0 where
  seq : e.seq ≡ d.seq
  base : e.base ≡ d.base
  from : e.from ≡ d.from
  commits : e.commits ≡ d.commits
  acked : e.acked ≡ d.acked

alike_same : (d : Database) → IsAlike d d
alike_same d = record { seq = refl; base = refl; from = refl; commits = refl; acked = refl }

alike_after : (d e f : Database) → IsAlike d e → IsAlike e f → IsAlike d f
alike_after d e f p q = record { seq = q.seq ∙ p.seq; base = q.base ∙ p.base; from = q.from ∙ p.from; commits = q.commits ∙ p.commits; acked = q.acked ∙ p.acked }

alike_grown : (d e : Database) → IsAlike d e → Grown d e
alike_grown d e p = record {
  seq = p.seq;
  base = p.base;
  from = p.from;
  acked = (let a = p.acked in omega arith);
  commits = λ i ws at. ap (λ (cs : List (List Pair)). slice_get cs i) p.commits ∙ at;
  first = λ j l. ap (take j) p.commits;
}

-- ---- some commits end

module _ (config : Config) (x : Choice) (nodes : ℕ → Node) (has : Has) (n : ℕ) (calls : List PendingCall) where
  -- from one middle of the step to another the node gives up commits: their locks end, and nothing else is changed but what nodes
  -- have seen
  record Ended (r : Lines) (t u : Turn) : Type 0 where
    outs : List Out
    is : u.outs ≡ t.outs ++ outs
    needs : AllNeed (DatabasesNeed config x) config x r (labels_of n calls outs)
    holds : Holds config (at n u.node nodes) (bases (goes_on config x (labels_of n calls outs) r)) has
    frame : bases (goes_on config x (labels_of n calls outs) r) ≡ record (bases r) { databases = (goes_on config x (labels_of n calls outs) r).databases }
    alike : (g db : ℕ) → IsAlike (r.databases g db) ((goes_on config x (labels_of n calls outs) r).databases g db)
    stands : (b : Bases) → AllByRecursion (OutStands config b has) outs
    -- each commit that waited waits still, or its lock ended
    told : (db : ℕ) (z : Committing) → (db_at db t.node).commit ≡ Some z → ((db_at db u.node).commit ≡ Some z) ⊎ In (Noted n (note.Ended 0 (name_of config db))) (labels_of n calls outs)

  nothing_ended : (r : Lines) (t : Turn) → Holds config (at n t.node nodes) (bases r) has → Ended r t t
  unfolding labels_of goes_on AllNeed
  nothing_ended r t h = record {
    outs = [];
    is = sym (append-nil t.outs);
    needs = tt;
    holds = h;
    frame = refl;
    alike = λ g db. alike_same (r.databases g db);
    stands = λ b. tt;
    told = λ db z e. inl e;
  }

  ended_after : (r : Lines) (t u v : Turn) (a : Ended r t u) → Ended (goes_on config x (labels_of n calls a.outs) r) u v → Ended r t v
  ended_after r t u v a z =
      let ls = labels_of n calls a.outs in
      let ms = labels_of n calls z.outs in
      let mid = goes_on config x ls r in
      let all : labels_of n calls (a.outs ++ z.outs) ≡ ls ++ ms = labels_more n calls a.outs z.outs in
      let goes : goes_on config x ms mid ≡ goes_on config x (labels_of n calls (a.outs ++ z.outs)) r = sym (ap (λ (l : List Label). goes_on config x l r) all ∙ goes_more config x ls ms r) in
      record {
        outs = a.outs ++ z.outs;
        is = z.is ∙ ap (λ (l : List Out). l ++ z.outs) a.is ∙ append_assoc t.outs a.outs z.outs;
        needs = subst (λ (l : List Label). AllNeed (DatabasesNeed config x) config x r l) (sym all) (need_more (DatabasesNeed config x) config x ls ms r a.needs z.needs);
        holds = subst (λ (s : Lines). Holds config (at n v.node nodes) (bases s) has) goes z.holds;
        frame = subst (λ (s : Lines). bases s ≡ record (bases r) { databases = s.databases }) goes (z.frame ∙ ap (λ (b : Bases). record b { databases = (goes_on config x ms mid).databases }) a.frame);
        alike = subst (λ (s : Lines). (g db : ℕ) → IsAlike (r.databases g db) (s.databases g db)) goes (λ g db. alike_after (r.databases g db) (mid.databases g db) ((goes_on config x ms mid).databases g db) (a.alike g db) (z.alike g db));
        stands = λ b. all_append (OutStands config b has) a.outs z.outs (a.stands b) (z.stands b);
        told = λ db w e. ⊎_elim
            (λ (k : (db_at db u.node).commit ≡ Some w). ⊎_elim
            (λ (l : (db_at db v.node).commit ≡ Some w). inl l)
            (λ (i : In (Noted n (note.Ended 0 (name_of config db))) ms). inr (subst (In (Noted n (note.Ended 0 (name_of config db)))) (sym all) (in_right ls ms _ i))) (z.told db w k))
            (λ (i : In (Noted n (note.Ended 0 (name_of config db))) ls). inr (subst (In (Noted n (note.Ended 0 (name_of config db)))) (sym all) (in_left ls ms _ i))) (a.told db w e);
      }

  -- ---- one commit ends

  module _ (r0 : Lines) (told : (db : ℕ) (z : Committing) → (db_at db (nodes n)).commit ≡ Some z → (a : Answer) → answered z.call a calls ≡ Answered n (op.Commit db z.writes) a ∷ []) (there : (db : ℕ) (z : Committing) → (db_at db (nodes n)).commit ≡ Some z → IsIn config nodes r0 n db)
      (owned : (db : ℕ) (z : Committing) → (db_at db (nodes n)).commit ≡ Some z → lock_owner config (r0.line n) db r0 ≡ Some n) (names : NamesDiffer config) where
    -- the step so far: it left lines as they were, and commits that wait waited before
    record Amid (r : Lines) (t : Turn) : Type 0 where
      holds : Holds config (at n t.node nodes) (bases r) has
      frame : bases r ≡ record (bases r0) { databases = r.databases }
      waited : (db : ℕ) (z : Committing) → (db_at db t.node).commit ≡ Some z → (db_at db (nodes n)).commit ≡ Some z
      owns : (db : ℕ) (z : Committing) → (db_at db t.node).commit ≡ Some z → lock_owner config (r.line n) db r ≡ Some n

    abbrev ends : ℕ → Committing → Turn → Turn
    ends i z t = ends_lock (name_of config i) (with_commit i None (answers z.call (answer.Unsure z.pending.seq z.pending.missing) t))

    module _ (i : ℕ) (z : Committing) (r : Lines) (t : Turn) (is : (db_at i t.node).commit ≡ Some z) (m : Amid r t) where
      b : IsIn config nodes r0 n i
      b = there i z (m.waited i z is)

      line_is : r.line n ≡ r0.line n
      line_is = ap (λ (c : Bases). c.line n) m.frame

      pline_is : r.pline n ≡ r0.pline n
      pline_is = ap (λ (c : Bases). c.pline n) m.frame

      in_line : r.line n ≢ 0
      in_line e = b.there.line (sym line_is ∙ e)

      installed : r.line n ≡ r.pline n
      installed = line_is ∙ b.installed ∙ sym pline_is

      born : r.born (r.line n) ≡ true
      born = ap (λ (c : Bases). c.born (c.line n)) m.frame ∙ b.born

      abbrev d : Database
      d = r.databases (r.line n) i

      abbrev unsure : Database
      unsure = record d { committer = None; seen = all_seen (length d.commits) (r.members (r.line n)) z.pending.missing d.seen }

      abbrev dbs : ℕ → ℕ → Database
      dbs = with_one (r.line n) i unsure r.databases

      abbrev mine : ℕ → ℕ
      mine k = has (r.line n) k i

      abbrev y : Node
      y = ended_node i (name_of config i) t.node

      own_node : at n t.node nodes n ≡ t.node
      own_node = at_same n n t.node nodes refl

      unwrap : (o : Option Committing) → o ≡ Some z → MayWait n (r.members (r.line n)) d mine o → Waits n (r.members (r.line n)) d mine z
      unfolding MayWait
      unwrap None e w = absurd (cc)
      unwrap (Some q) e w = subst (Waits n (r.members (r.line n)) d mine) (let same : q ≡ z = cc in same) w

      waiting : Waits n (r.members (r.line n)) d mine z
      waiting = unwrap (db_at i (at n t.node nodes n)).commit (ap (λ (k : Node). (db_at i k).commit) own_node ∙ is) (m.holds.waits n i)

      unsure_is : dbs (r.line n) i ≡ unsure
      unsure_is = one_here (r.line n) i unsure r.databases

      store_is : (db_at i t.node).store ≡ after (mine n) d
      store_is = ap (λ (k : Node). (db_at i k).store) (sym own_node) ∙ m.holds.stores n i b.kind (λ e. in_line (installed ∙ e))
          ∙ subst (λ (g : ℕ). after (has g n i) (r.databases g i) ≡ after (mine n) d) installed refl

      unsure_changes : Changes config (at n t.node nodes) (bases r) has has n i y dbs
      unfolding MayWait
      unsure_changes = record {
        line = in_line;
        installed = installed;
        born = born;
        kind = b.kind;
        other = one_there (r.line n) i unsure r.databases;
        other_has = λ g j k o. refl;
        same_has = λ k ne. refl;
        other_store = λ k ne. ended_store i (name_of config i) t.node k ∙ ap (λ (q : Node). (db_at k q).store) (sym own_node);
        other_commit = λ k ne. other_commit i (name_of config i) t.node k ne ∙ ap (λ (q : Node). (db_at k q).commit) (sym own_node);
        lead = ended_lead i (name_of config i) t.node ∙ ap (λ (q : Node). q.lead) (sym own_node);
        grown = subst (Grown d) (sym unsure_is) (alike_grown d unsure (record { seq = refl; base = refl; from = refl; commits = refl; acked = refl }));
        rises = omega arith;
        counted = subst (λ (q : Database). Counted (r.members (r.line n)) q mine) (sym unsure_is) (unsure_counted (r.members (r.line n)) z.pending.missing d mine (m.holds.counted (r.line n) i) waiting.given);
        store = ended_store i (name_of config i) t.node i ∙ store_is ∙ ap (after (mine n)) (sym unsure_is);
        waits = subst (λ (o : Option Committing). MayWait n (r.members (r.line n)) (dbs (r.line n) i) mine o) (sym (ended_commit i (name_of config i) t.node)) tt;
        committing = λ e. absurd (let f : None ≡ Some n = sym (ap (λ (q : Database). q.committer) unsure_is) ∙ e in cc);
        others = λ k ne e. absurd (let f : None ≡ Some k = sym (ap (λ (q : Database). q.committer) unsure_is) ∙ e in cc);
        still = λ k ne q w. absurd (ne (let e : Some k ≡ Some n = sym w.begun ∙ waiting.begun in cc));
      }

      abbrev two : List Label
      two = Answered n (op.Commit i z.writes) (answer.Unsure z.pending.seq z.pending.missing) ∷ Noted n (note.Ended 0 (name_of config i)) ∷ []

      two_goes : bases (goes_on config x two r) ≡ record (bases r) { databases = dbs }
      unfolding goes_on goes answer_goes database_goes note_goes
      two_goes = rw b.kind refl

      -- no other commit of the node has this lock
      no_lock : (j : ℕ) → ◌≡◌ {A = ℕ} 0 0 → name_of config j ≡ name_of config i → (dbs (r.line n) j).committer ≢ Some n
      no_lock j _ same is = ⊎_elim
          (λ (e : j ≡ i). (let f : None ≡ Some n = sym (ap (λ (q : Database). q.committer) unsure_is) ∙ subst (λ (k : ℕ). (dbs (r.line n) k).committer ≡ Some n) e is in absurd (cc)))
          (λ (ne : j ≢ i).
          let before : (r.databases (r.line n) j).committer ≡ Some n = subst (λ (q : Database). q.committer ≡ Some n) (one_there (r.line n) i unsure r.databases (r.line n) j (inr ne)) is in
          absurd (ne (names j i (committer_kind config (at n t.node nodes) (bases r) has m.holds (r.line n) j n before) b.kind same)))
          (cases_eq j i)

      mid_bases : bases (goes config x (Answered n (op.Commit i z.writes) (answer.Unsure z.pending.seq z.pending.missing)) r) ≡ record (bases r) { databases = dbs }
      unfolding goes answer_goes database_goes
      mid_bases = rw b.kind refl

      two_needs : AllNeed (DatabasesNeed config x) config x r two
      unfolding AllNeed DatabasesNeed
      two_needs = (
        (
          m.owns i z is,
          (
            in_line,
            is_kind (kind_at config i) b.kind,
            record {
              begun = waiting.begun;
              newest = waiting.newest;
              unacknowledged = (let u = waiting.unacknowledged in omega arith);
              numbered = waiting.numbered;
            },
          ),
          (waiting.some, waiting.ascend, waiting.others),
        ),
        (subst (λ (c : Bases). c.line n ≢ 0 → IsNoLock config n 0 (name_of config i) (c.databases (c.line n))) (sym mid_bases) (λ line j zero same. no_lock j zero same), tt),
      )

      -- the locks of other databases are owned still
      two_owner : (db : ℕ) → name_of config db ≢ name_of config i → lock_owner config ((goes_on config x two r).line n) db (goes_on config x two r) ≡ lock_owner config (r.line n) db r
      unfolding goes_on goes answer_goes note_goes
      two_owner db ne = rw b.kind (ap (λ (f : ℕ → List ℕ → Register). (f 0 (name_of config db)).owner) (at_same (r.line n) (r.line n) _ r.records refl)
          ∙ ap (λ (f : List ℕ → Register). (f (name_of config db)).owner) (at_same 0 0 _ (r.records (r.line n)) refl) ∙ ap (λ (t : Register). t.owner) (at_key_other (name_of config i) (name_of config db) _ (r.records (r.line n) 0) ne))

      -- what is done
      abbrev both : List Out
      both = out.Answer z.call (answer.Unsure z.pending.seq z.pending.missing) ∷ out.Note (note.Ended 0 (name_of config i)) ∷ []

      both_labels : labels_of n calls both ≡ two
      unfolding labels_of
      both_labels = ap (λ (l : List Label). l ++ Noted n (note.Ended 0 (name_of config i)) ∷ []) (told i z (m.waited i z is) (answer.Unsure z.pending.seq z.pending.missing))

      one_ended : Ended r t (ends i z t)
      unfolding ends_lock with_commit answers notes does with_node OutStands ended_node
      one_ended =
          let s : bases (goes_on config x (labels_of n calls both) r) ≡ record (bases r) { databases = dbs } = ap (λ (l : List Label). bases (goes_on config x l r)) both_labels ∙ two_goes in
          let there_dbs : dbs ≡ (goes_on config x (labels_of n calls both) r).databases = sym (ap (λ (c : Bases). c.databases) s) in
          record {
            outs = both;
            is = append_assoc t.outs (out.Answer z.call (answer.Unsure z.pending.seq z.pending.missing) ∷ []) (out.Note (note.Ended 0 (name_of config i)) ∷ []);
            needs = subst (AllNeed (DatabasesNeed config x) config x r) (sym both_labels) two_needs;
            holds = subst (λ (f : ℕ → Node). Holds config f (bases (goes_on config x (labels_of n calls both) r)) has) (at_again n y t.node nodes)
                (subst (λ (c : Bases). Holds config (at n y (at n t.node nodes)) c has) (sym s) (change_holds config (at n t.node nodes) (bases r) has has n i y dbs m.holds unsure_changes));
            frame = s ∙ ap (λ (f : ℕ → ℕ → Database). record (bases r) { databases = f }) there_dbs;
            alike = λ g db. subst (λ (f : ℕ → ℕ → Database). IsAlike (r.databases g db) (f g db)) there_dbs
                (by_place (λ (l j : ℕ). IsAlike (r.databases l j) (dbs l j)) (r.line n) i (subst (IsAlike d) (sym unsure_is) (record { seq = refl; base = refl; from = refl; commits = refl; acked = refl }))
                (λ l j o. subst (IsAlike (r.databases l j)) (sym (one_there (r.line n) i unsure r.databases l j o)) (alike_same (r.databases l j))) g db);
            stands = λ c. (tt, (tt, tt));
            told = λ db w e. ⊎_elim
                (λ (k : db ≡ i). inr (subst (In (Noted n (note.Ended 0 (name_of config db)))) (sym both_labels) (inr (inl (ap (λ (j : ℕ). Noted n (note.Ended 0 (name_of config j))) (sym k))))))
                (λ (ne : db ≢ i). inl (other_commit i (name_of config i) t.node db ne ∙ e)) (cases_eq db i);
          }

      one_amid : Amid (goes_on config x (labels_of n calls one_ended.outs) r) (ends i z t)
      unfolding ends_lock with_commit answers notes does with_node ended_node one_ended
      one_amid = record {
        holds = one_ended.holds;
        frame = one_ended.frame ∙ ap (λ (c : Bases). record c { databases = (goes_on config x (labels_of n calls one_ended.outs) r).databases }) m.frame;
        waited = λ db w e. ⊎_elim
            (λ (k : db ≡ i). absurd (let none : None ≡ Some w = sym (ap (λ (j : ℕ). (db_at j (ended_node i (name_of config i) t.node)).commit) k ∙ ended_commit i (name_of config i) t.node) ∙ e in cc))
            (λ (ne : db ≢ i). m.waited db w (sym (other_commit i (name_of config i) t.node db ne) ∙ e)) (cases_eq db i);
        owns = λ db w e. ⊎_elim
            (λ (k : db ≡ i). absurd (let none : None ≡ Some w = sym (ap (λ (j : ℕ). (db_at j (ended_node i (name_of config i) t.node)).commit) k ∙ ended_commit i (name_of config i) t.node) ∙ e in cc))
            (λ (ne : db ≢ i).
            let waits : (db_at db t.node).commit ≡ Some w = sym (other_commit i (name_of config i) t.node db ne) ∙ e in
            let kind : is_persistent (kind_at config db) ≡ true = (there db w (m.waited db w waits)).kind in
            subst (λ (l : List Label). lock_owner config ((goes_on config x l r).line n) db (goes_on config x l r) ≡ Some n) (sym both_labels) (two_owner db (λ same. ne (names db i kind b.kind same)) ∙ m.owns db w waits)) (cases_eq db i);
      }

    -- ---- all of them

    -- the commits in these databases are those that wait at the node, from i on
    abbrev Tail : ℕ → List node.Database → Turn → Type 0
    Tail i ds t = (k : ℕ) → (db_at (i + k) t.node).commit ≡ (or_untouched (slice_get ds k)).commit

    tail_after : (i : ℕ) (d : node.Database) (ds : List node.Database) (t : Turn) → Tail i (d ∷ ds) t → Tail (i + 1) ds t
    unfolding or_untouched
    tail_after i d ds t same k = (let e : (i + 1) + k ≡ i + suc k = omega arith in ap (λ (j : ℕ). (db_at j t.node).commit) e ∙ same (suc k))

    tail_ended : (i : ℕ) (z : Committing) (ds : List node.Database) (t : Turn) → Tail (i + 1) ds t → Tail (i + 1) ds (ends i z t)
    unfolding ends_lock with_commit answers notes does with_node ended_node
    tail_ended i z ds t same k = other_commit i (name_of config i) t.node ((i + 1) + k) (λ e. absurd (omega (arith, e))) ∙ same k

    all_ended : (i : ℕ) (ds : List node.Database) (r : Lines) (t : Turn) → Amid r t → Tail i ds t → Ended r t (ends_commits config i ds t)
    unfolding ends_commits ends_commit or_untouched
    all_ended i [] r t m same = nothing_ended r t m.holds
    all_ended i (d ∷ ds) r t m same = by d.commit refl (λ q u k l. all_ended (i + 1) ds q u k l)
      where
        first : (db_at i t.node).commit ≡ d.commit
        first = (let e : i ≡ i + 0 = omega arith in ap (λ (j : ℕ). (db_at j t.node).commit) e ∙ same 0)

        by : (o : Option Committing) → d.commit ≡ o → ((q : Lines) (u : Turn) → Amid q u → Tail (i + 1) ds u → Ended q u (ends_commits config (i + 1) ds u)) → Ended r t (ends_commits config (i + 1) ds (ends_commit i (name_of config i) t o))
        by None e rest = rest r t m (tail_after i d ds t same)
        by (Some z) e rest = ended_after r t (ends i z t) (ends_commits config (i + 1) ds (ends i z t)) (one_ended i z r t (first ∙ e) m)
            (rest (goes_on config x (labels_of n calls (one_ended i z r t (first ∙ e) m).outs) r) (ends i z t) (one_amid i z r t (first ∙ e) m) (tail_ended i z ds t (tail_after i d ds t same)))

    -- ---- the freeze

    module _ (h : Holds config nodes (bases r0) has) (g leader : ℕ) (sp : Bool) where
      abbrev pub begins : Turn
      begins = record { node = nodes n; outs = []; spent = sp }

      abbrev freezing : Turn
      freezing = freezes g leader begins

      freezing_same : SameStores (nodes n) freezing.node
      unfolding freezes with_node db_at
      freezing_same = record { stores = λ db. (frozen_same (nodes n).dbs db).0; commits = λ db. (frozen_same (nodes n).dbs db).1 }

      freezing_lead : LeadStands config (bases r0) has n freezing.node.lead
      unfolding freezes with_node
      freezing_lead = lead_from_stands config (bases r0) has n g (nodes n).lead (h.leads n)

      freezing_amid : Amid r0 freezing
      freezing_amid = record { owns = λ db z e. owned db z (sym (freezing_same.commits db) ∙ e); holds = same_holds config nodes (bases r0) has n freezing.node freezing_same freezing_lead h; frame = refl; waited = λ db z e. sym (freezing_same.commits db) ∙ e }

      freezing_tail : Tail 0 (nodes n).dbs freezing
      unfolding freezes with_node db_at
      freezing_tail k = (let e : 0 + k ≡ k = omega arith in ap (λ (j : ℕ). (or_untouched (slice_get (map frozen_db (nodes n).dbs) j)).commit) e ∙ (frozen_same (nodes n).dbs k).1)

      abbrev ended_turn : Turn
      ended_turn = ends_commits config 0 (nodes n).dbs freezing

      it : Ended r0 freezing ended_turn
      it = all_ended 0 (nodes n).dbs r0 freezing freezing_amid freezing_tail

      abbrev s : Lines
      s = goes_on config x (labels_of n calls it.outs) r0

      line_same : (m : ℕ) → s.line m ≡ r0.line m
      line_same m = ap (λ (b : Bases). b.line m) it.frame

      it_grows : Grow (bases r0) (bases s) has has
      it_grows = record {
        born = λ k is. ap (λ (b : Bases). b.born k) it.frame ∙ is;
        databases = λ k db is. alike_grown (r0.databases k db) (s.databases k db) (it.alike k db);
        rises = λ k m db. omega arith;
        members = λ k is. ap (λ (b : Bases). b.members k) it.frame;
      }

      it_settles : (y : Node) (later : Gone) → SameStores ended_turn.node y → LocksEnd config (bases r0) (owners config r0) later (labels_of n calls it.outs) → (k db : ℕ) → Settles config nodes (bases r0) later k db → Settles config (at n y nodes) (bases s) later k db
      it_settles y later same ends k db = λ old. ⊎_elim
          (λ (e : (r0.databases k db).acked ≡ length (r0.databases k db).commits). inl ((it.alike k db).acked ∙ e ∙ sym (ap length (it.alike k db).commits)))
          (λ (o : WaitsIn nodes r0.line k db ⊎ (later k (name_of config db) ≡ true)). ⊎_elim
          (λ (w : WaitsIn nodes r0.line k db). ⊎_elim
          (λ (e : w.0 ≡ n). ⊎_elim
          (λ (waits : (db_at db ended_turn.node).commit ≡ Some w.2). inr (inl (n, line_same n ∙ ap r0.line (sym e) ∙ w.1, w.2, ap (λ (q : Node). (db_at db q).commit) (at_same n n y nodes refl) ∙ same.commits db ∙ waits)))
          (λ (i : In (Noted n (note.Ended 0 (name_of config db))) (labels_of n calls it.outs)). inr (inr (subst (λ (l : ℕ). later l (name_of config db) ≡ true) (ap r0.line (sym e) ∙ w.1) (ends.ended n (name_of config db) i))))
          (it.told db w.2 (freezing_same.commits db ∙ ap (λ (j : ℕ). (db_at db (nodes j)).commit) (sym e) ∙ w.3)))
          (λ (ne : w.0 ≢ n). inr (inl (w.0, line_same w.0 ∙ w.1, w.2, ap (λ (q : Node). (db_at db q).commit) (at_other n w.0 y nodes ne) ∙ w.3))) (cases_eq w.0 n))
          (λ (e : later k (name_of config db) ≡ true). inr (inr e)) o) old

      -- whatever follows that tells nothing and changes no database
      then_kept : (y : Node) (extra : List Out) (sq : Bool) → SameStores ended_turn.node y → y.lead ≡ ended_turn.node.lead → labels_of n calls extra ≡ [] → ((b : Bases) → AllByRecursion (OutStands config b has) extra) →
          Kept config x nodes (at n y nodes) r0 has has (labels_of n calls (ended_turn.outs ++ extra)) (frame_list (ended_turn.outs ++ extra))
      unfolding freezes with_node
      then_kept y extra sq same lead none stand =
          let outs : ended_turn.outs ≡ it.outs = it.is in
          let ls : labels_of n calls (ended_turn.outs ++ extra) ≡ labels_of n calls it.outs
          = ap (λ (l : List Out). labels_of n calls (l ++ extra)) outs ∙ labels_more n calls it.outs extra ∙ ap (λ (l : List Label). labels_of n calls it.outs ++ l) none ∙ append-nil (labels_of n calls it.outs) in
          subst (λ (l : List Label). Kept config x nodes (at n y nodes) r0 has has l (frame_list (ended_turn.outs ++ extra))) (sym ls) (record {
            needs = it.needs;
            holds = subst (λ (f : ℕ → Node). Holds config f (bases s) has) (at_again n y ended_turn.node nodes)
                (same_holds config (at n ended_turn.node nodes) (bases s) has n y (subst (λ (q : Node). SameStores q y) (sym (at_same n n ended_turn.node nodes refl)) same)
                (subst (LeadStands config (bases s) has n) (sym (lead ∙ ap (λ (q : Node). q.lead) (sym (at_same n n ended_turn.node nodes refl)))) (it.holds.leads n)) it.holds);
            grow = it_grows;
            sent = frames_stand config (bases s) has (ended_turn.outs ++ extra) (all_append (OutStands config (bases s) has) ended_turn.outs extra (subst (AllByRecursion (OutStands config (bases s) has)) (sym outs) (it.stands (bases s))) (stand (bases s)));
            still = λ k m db away. refl;
            settling = λ later ends k db kind. it_settles y later same ends k db;
            commits = λ k db kind. inl (ap length (it.alike k db).commits);
            heirs = λ l k db j kind e. inl (l, sym (ap (λ (f : ℕ → Option ℕ). f k) (it.alike l db).from) ∙ e);
          })

      -- a freeze that is followed
      pub freeze_holds : (let u = frozen_if_unlocked n g leader (ends_commits config 0 (nodes n).dbs (freezes g leader begins)) in Kept config x nodes (at n u.node nodes) r0 has has (labels_of n calls u.outs) (frame_list u.outs))
      unfolding frozen_if_unlocked posts does with_phase labels_of sent_label OutStands Stands db_at
      freeze_holds = by (any_locked ended_turn.node.dbs)
        where
          by : (c : Bool) → (let u = cond c ended_turn (posts g n leader msg.FreezeAck (with_phase (Frozen g) ended_turn)) in Kept config x nodes (at n u.node nodes) r0 has has (labels_of n calls u.outs) (frame_list u.outs))
          by true = subst (λ (l : List Out). Kept config x nodes (at n ended_turn.node nodes) r0 has has (labels_of n calls l) (frame_list l)) (append-nil ended_turn.outs)
              (then_kept ended_turn.node [] sp (record { stores = λ db. refl; commits = λ db. refl }) refl refl (λ b. tt))
          by false = then_kept (record ended_turn.node { phase = Frozen g }) (out.Send (record { generation = g; sender = n; receiver = leader; msg = msg.FreezeAck }) ∷ []) sp (record { stores = λ db. refl; commits = λ db. refl }) refl refl (λ b. (tt, tt))
