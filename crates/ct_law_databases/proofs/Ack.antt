-- An acknowledgement comes to a node whose commit waits for it: its sender is missing no more; after the last one the commit is
-- answered as committed.
use Rattle.std.proofs.Common.{◌≡◌, ◌≢◌, ℕ, ◌+◌, ◌≤◌, Bool, true, false, cond, List, [], ◌∷◌, ◌++◌, length, Option, None, Some, refl, sym, ap, ◌∙◌, subst, arith, inl, inr, ⊎_elim}
use Rattle.std.specs.Prelude.{nat_eq, is_some}
use Rattle.std.proofs.lemmas.Bool.{and_parts, eqb-true, cases_eq}
use Rattle.ct_values.specs.Words.{others, is_nil}
use Rattle.ct_tracking.specs.Awaited.{is_last}
use Rattle.ct_values.specs.declared.client.Answer.{Answer}
use Rattle.ct_values.specs.declared.client.Answer.TheVariants as answer
use Rattle.ct_values.specs.declared.client.ClientOp.TheVariants as op
use Rattle.ct_values.specs.declared.config.Config.{Config}
use Rattle.ct_frame.specs.declared.frame.Msg.TheVariants as msg
use Rattle.ct_persist.specs.Commits.{applied_by, completes}
use Rattle.ct_law_rules_node.proofs.Events.{others_all}
use Rattle.ct_rules_node.specs.Node.{Node, Committing, is_among, is_present, is_persistent, kind_at, db_at, with_db}
use Rattle.ct_rules_node.specs.Node as node
use Rattle.ct_rules_node.specs.Turn.{Turn, does, with_node, answers}
use Rattle.ct_rules_node.specs.Databases.{with_commit, on_pack_of, on_pack}
use Rattle.ct_rules_cluster.specs.Labels.{Label, Answered}
use Rattle.ct_rules_cluster.specs.Steps.{frames_of}
use Rattle.ct_rules_cluster.specs.declared.step.PendingCall.{PendingCall}
use Rattle.ct_register.proofs.Places.{at_same}
use Rattle.ct_register.specs.Database.{Database, all_seen}
use Rattle.ct_register.specs.Lines.{Lines}
use Rattle.ct_register.specs.Words.{at}
use Rattle.ct_law_generation.specs.Shown.{labels_of}
use Rattle.ct_law_generation.specs.Waiting.{answered}
use Rattle.ct_law_generation.proofs.Pending.{Callers}
use Rattle.ct_law_registers.proofs.Parts.{Choice, goes, goes_on, answer_goes, database_goes, DatabasesNeed, AllNeed}
use Rattle.ct_law_registers.proofs.Facts.{Has, bases, owners, Counted, Stands, Holds, Heir, Waits, MayWait, after}
use Rattle.ct_law_registers.proofs.Stores.{Grown, grown_same, has_all}
use Rattle.ct_law_databases.proofs.Changes.{Changes, has_installed}
use Rattle.ct_law_databases.proofs.Kept.{Kept, frame_list, calm_same, calm_kept}
use Rattle.ct_law_databases.proofs.Lists.{not_missing, none_left, others_ascend}
use Rattle.ct_law_databases.proofs.Databases.{committed_counted}
use Rattle.ct_law_databases.proofs.One.{is_kind, with_one, one_here, one_there, changes_kept}
use Rattle.ct_law_databases.proofs.Outs.{db_here, db_there, is_below}
use Rattle.ct_law_databases.proofs.Update.{IsIn, store_in}

module _ (config : Config) (who : Callers) (x : Choice) (nodes : ℕ → Node) (r : Lines) (has : Has) (n from db seq : ℕ) (sp : Bool) (calls : List PendingCall) (h : Holds config nodes (bases r) has) (b : IsIn config nodes r n db)
    (says : Stands config (bases r) has (r.line n) from (msg.PAck db seq)) (heirs : (l k : ℕ) → (r.databases l db).from (r.line n) ≡ Some k → Heir nodes (bases r) has (r.line n) db k)
    (owns : (z : Committing) → (db_at db (nodes n)).commit ≡ Some z → owners config r (r.line n) db ≡ Some n) where
  abbrev d : Database
  d = r.databases (r.line n) db

  abbrev mine : ℕ → ℕ
  mine m = has (r.line n) m db

  abbrev begins : Turn
  begins = record { node = nodes n; outs = []; spent = sp }

  abbrev Kept_by : Turn → Type 0
  Kept_by u = Kept config x nodes (at n u.node nodes) r has has (labels_of n calls u.outs) (frame_list u.outs)

  -- the node with another commit that waits
  abbrev with_this : Option Committing → Node
  with_this o = with_db db (record (db_at db (nodes n)) { commit = o }) (nodes n)

  this_here : (o : Option Committing) → db_at db (with_this o) ≡ record (db_at db (nodes n)) { commit = o }
  this_here o = db_here db _ (nodes n) (let l = is_below config db b.kind in let s = b.there.size in omega arith)

  module _ (z : Committing) (is : (db_at db (nodes n)).commit ≡ Some z) where
    own : (o : Option Committing) → (db_at db (nodes n)).commit ≡ o → MayWait n (r.members (r.line n)) d mine o
    own o e = subst (λ (k : Option Committing). MayWait n (r.members (r.line n)) d mine k) e (h.waits n db)

    unwrap : MayWait n (r.members (r.line n)) d mine (Some z) → Waits n (r.members (r.line n)) d mine z
    unfolding MayWait
    unwrap w = w

    waiting : Waits n (r.members (r.line n)) d mine z
    waiting = unwrap (own (Some z) is)

    -- whoever acknowledged the number that is waited for has all commits
    sender_has : nat_eq z.pending.seq seq ≡ true → mine from ≡ length d.commits
    unfolding Stands
    sender_has t = (let e = eqb-true z.pending.seq seq t in let w = waiting.numbered in has_all d (mine from) seq (omega arith) says.1 ((h.counted (r.line n) db).within from))

    given_then : nat_eq z.pending.seq seq ≡ true → (m : ℕ) → is_among m (r.members (r.line n)) ≡ true → is_among m (others from z.pending.missing) ≡ false → mine m ≡ length d.commits
    given_then t m among there = ⊎_elim
        (λ (e : m ≡ from). ap mine e ∙ sender_has t)
        (λ (ne : m ≢ from). waiting.given m among (not_missing m from z.pending.missing there ne)) (cases_eq m from)

    -- ---- the last one

    module _ (done : completes from seq z.pending ≡ true) where
      abbrev told : Database
      told = record d { committer = None; acked = length d.commits; seen = all_seen (length d.commits) (r.members (r.line n)) [] d.seen }

      abbrev told_dbs : ℕ → ℕ → Database
      told_dbs = with_one (r.line n) db told r.databases

      told_is : told_dbs (r.line n) db ≡ told
      told_is = one_here (r.line n) db told r.databases

      parts : (nat_eq z.pending.seq seq ≡ true) × (is_last from z.pending.missing ≡ true)
      parts = and_parts (nat_eq z.pending.seq seq) (is_last from z.pending.missing) done

      nil : (xs : List ℕ) → is_nil xs ≡ true → xs ≡ []
      nil [] e = refl
      nil (y ∷ ys) e = absurd (cc)

      all_have : (m : ℕ) → is_among m (r.members (r.line n)) ≡ true → mine m ≡ length d.commits
      unfolding is_among
      all_have m among = given_then parts.0 m among (ap (λ (xs : List ℕ). is_among m xs) (nil (others from z.pending.missing) (and_parts _ _ parts.1).1))

      seq_is : seq ≡ d.seq + length d.commits
      seq_is = (let e = eqb-true z.pending.seq seq parts.0 in let w = waiting.numbered in omega arith)

      -- each member has installed the line
      all_installed : (m : ℕ) → is_among m (r.members (r.line n)) ≡ true → r.line n ≤ r.pline m
      all_installed m among = has_installed config nodes (bases r) has h (r.line n) m db (λ none. absurd (let e = all_have m among in let u = waiting.unacknowledged in omega arith))

      -- and every line that took over from it has the commit
      all_took : (l k : ℕ) → (r.databases l db).from (r.line n) ≡ Some k → seq ≤ k
      all_took l k e = (let x = heirs l k e in let a = all_have x.node x.member in let i = x.number in let s = seq_is in omega arith)

      told_changes : Changes config nodes (bases r) has has n db (with_this None) told_dbs
      unfolding with_db MayWait
      told_changes = record {
        line = b.there.line;
        installed = b.installed;
        born = b.born;
        kind = b.kind;
        other = one_there (r.line n) db told r.databases;
        other_has = λ g i m o. refl;
        same_has = λ m ne. refl;
        other_store = λ i ne. ap (λ (y : node.Database). y.store) (db_there db i _ (nodes n) ne);
        other_commit = λ i ne. ap (λ (y : node.Database). y.commit) (db_there db i _ (nodes n) ne);
        lead = refl;
        grown = subst (Grown d) (sym told_is) (record { seq = refl; base = refl; from = refl; acked = (h.counted (r.line n) db).known; commits = λ i ws e. e; first = λ j l. refl });
        rises = omega arith;
        counted = subst (λ (q : Database). Counted (r.members (r.line n)) q mine) (sym told_is) (committed_counted (r.members (r.line n)) d mine (h.counted (r.line n) db) all_have);
        store = ap (λ (y : node.Database). y.store) (this_here None) ∙ store_in config nodes r has n db h b ∙ ap (after (mine n)) (sym told_is);
        waits = subst (λ (o : Option Committing). MayWait n (r.members (r.line n)) (told_dbs (r.line n) db) mine o) (sym (ap (λ (y : node.Database). y.commit) (this_here None))) tt;
        committing = λ e. absurd (let f : None ≡ Some n = sym (ap (λ (q : Database). q.committer) told_is) ∙ e in cc);
        others = λ m ne e. absurd (let f : None ≡ Some m = sym (ap (λ (q : Database). q.committer) told_is) ∙ e in cc);
        still = λ m ne q w. absurd (ne (let e : Some m ≡ Some n = sym w.begun ∙ waiting.begun in cc));
      }

      told_needs : DatabasesNeed config x r (Answered n (op.Commit db z.writes) (answer.Committed seq))
      unfolding DatabasesNeed
      told_needs = (
        owns z is,
        (
          b.there.line,
          is_kind (kind_at config db) b.kind,
          record {
            begun = waiting.begun;
            newest = waiting.newest;
            unacknowledged = (let u = waiting.unacknowledged in omega arith);
            numbered = seq_is;
          },
        ),
        (all_installed, all_took),
      )

      told_goes : bases (goes_on config x (Answered n (op.Commit db z.writes) (answer.Committed seq) ∷ []) r) ≡ record (bases r) { databases = told_dbs }
      unfolding goes_on goes answer_goes database_goes
      told_goes = rw b.kind refl

      last_kept : answered z.call (answer.Committed seq) calls ≡ Answered n (op.Commit db z.writes) (answer.Committed seq) ∷ [] → Kept_by (answers z.call (answer.Committed seq) (record { node = with_this None; outs = []; spent = sp }))
      unfolding answers does labels_of frames_of AllNeed
      last_kept call = subst (λ (l : List Label). Kept config x nodes (at n (with_this None) nodes) r has has (l ++ []) []) (sym call)
          (changes_kept config x nodes r has has n db (with_this None) told_dbs (Answered n (op.Commit db z.writes) (answer.Committed seq) ∷ []) [] h told_changes told_goes (told_needs, tt) (λ f is. absurd is) b.present
          (λ later ends s. inl (subst (λ (q : Database). q.acked ≡ length q.commits) (sym told_is) refl))
          (inl (ap (λ (q : Database). length q.commits) told_is)))

    -- ---- not the last one

    applied_case : (c : Bool) → nat_eq z.pending.seq seq ≡ c → completes from seq z.pending ≡ false → Waits n (r.members (r.line n)) d mine (record z { pending = cond c (record z.pending { missing = others from z.pending.missing }) z.pending })
    unfolding is_among
    applied_case true t more = record {
      begun = waiting.begun;
      newest = waiting.newest;
      numbered = waiting.numbered;
      unacknowledged = waiting.unacknowledged;
      ascend = others_ascend from z.pending.missing waiting.ascend;
      others = others_all (λ m. is_among m (others n (r.members (r.line n)))) from z.pending.missing waiting.others;
      some = λ none. absurd (not_done (is_among from z.pending.missing) refl none);
      given = given_then t;
    }
      where
        not_done : (p : Bool) → is_among from z.pending.missing ≡ p → others from z.pending.missing ≡ [] → ⊥
        not_done true q none = (let e : completes from seq z.pending ≡ true = rw t (rw q (rw none refl)) in cc)
        not_done false q none = waiting.some (none_left from z.pending.missing none q)
    applied_case false t more = waiting

    abbrev applied : Committing
    applied = record z { pending = applied_by from seq z.pending }

    module _ (more : completes from seq z.pending ≡ false) where
      applied_waits : Waits n (r.members (r.line n)) d mine applied
      applied_waits = applied_case (nat_eq z.pending.seq seq) refl more

      applied_changes : Changes config nodes (bases r) has has n db (with_this (Some applied)) r.databases
      unfolding with_db MayWait
      applied_changes = record {
        line = b.there.line;
        installed = b.installed;
        born = b.born;
        kind = b.kind;
        other = λ g i o. refl;
        other_has = λ g i m o. refl;
        same_has = λ m ne. refl;
        other_store = λ i ne. ap (λ (y : node.Database). y.store) (db_there db i _ (nodes n) ne);
        other_commit = λ i ne. ap (λ (y : node.Database). y.commit) (db_there db i _ (nodes n) ne);
        lead = refl;
        grown = grown_same d;
        rises = omega arith;
        counted = h.counted (r.line n) db;
        store = ap (λ (y : node.Database). y.store) (this_here (Some applied)) ∙ store_in config nodes r has n db h b;
        waits = subst (λ (o : Option Committing). MayWait n (r.members (r.line n)) d mine o) (sym (ap (λ (y : node.Database). y.commit) (this_here (Some applied)))) applied_waits;
        committing = λ e. ap is_some (ap (λ (y : node.Database). y.commit) (this_here (Some applied)));
        others = λ m ne e. e;
        still = λ m ne q w. w;
      }

      applied_kept : Kept_by (record { node = with_this (Some applied); outs = []; spent = sp })
      unfolding labels_of frames_of AllNeed goes_on
      applied_kept = changes_kept config x nodes r has has n db (with_this (Some applied)) r.databases [] [] h applied_changes refl tt (λ f is. absurd is) b.present
          (λ later ends s. inr (inl (n, refl, applied, ap (λ (y : Node). (db_at db y).commit) (at_same n n (with_this (Some applied)) nodes refl) ∙ ap (λ (y : node.Database). y.commit) (this_here (Some applied)))))
          (inl refl)

  pack_case : (o : Option Committing) → (db_at db (nodes n)).commit ≡ o → ((z : Committing) → o ≡ Some z → (a : Answer) → answered z.call a calls ≡ Answered n (op.Commit db z.writes) a ∷ []) → Kept_by (on_pack_of from db seq begins o)
  unfolding on_pack_of with_commit with_node labels_of frames_of
  pack_case None is label = calm_kept config who x nodes r has n begins begins [] [] h refl refl tt tt calm_same
  pack_case (Some z) is label = by (completes from seq z.pending) refl
    where
      by : (c : Bool) → completes from seq z.pending ≡ c → Kept_by (cond c (answers z.call (answer.Committed seq) (record { node = with_this None; outs = []; spent = sp })) (record { node = with_this (Some (record z { pending = applied_by from seq z.pending })); outs = []; spent = sp }))
      by true e = last_kept z is e (label z refl (answer.Committed seq))
      by false e = applied_kept z is e

  -- an acknowledgement that comes, where an answer to a commit that waits is told as one to its call
  pub pack_holds : ((z : Committing) → (db_at db (nodes n)).commit ≡ Some z → (a : Answer) → answered z.call a calls ≡ Answered n (op.Commit db z.writes) a ∷ []) → Kept_by (on_pack from db seq begins)
  unfolding on_pack
  pack_holds told = pack_case (db_at db (nodes n)).commit refl told
