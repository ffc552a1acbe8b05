-- A node stops: its databases stay, and commits that wait there are lost with their locks.
use Rattle.std.proofs.Common.{◌≡◌, ◌≢◌, ℕ, zero, suc, true, List, [], ◌∷◌, length, map, Option, None, Some, refl, sym, ap, ◌∙◌, subst, inl, inr, ⊎_elim}
use Rattle.std.specs.Prelude.{◌⊎◌, slice_get, is_some}
use Rattle.std.proofs.lemmas.Bool.{cases_eq}
use Rattle.ct_values.specs.declared.config.Config.{Config}
use Rattle.ct_rules_node.specs.Node.{Node, Committing, Database, is_persistent, kind_at, name_of, db_at, or_untouched, untouched, restarted, restarted_db}
use Rattle.ct_rules_cluster.specs.Labels.{Stopped}
use Rattle.ct_register.proofs.Places.{at_same, at_other}
use Rattle.ct_register.specs.Database as register
use Rattle.ct_register.specs.Lines.{Lines}
use Rattle.ct_register.specs.Words.{at}
use Rattle.ct_law_registers.proofs.Parts.{Choice, goes, goes_on, DatabasesNeed, AllNeed}
use Rattle.ct_law_registers.proofs.Facts.{Has, Gone, Bases, bases, owners, WaitsIn, Settles, MayWait, LeadStands, Holds, after}
use Rattle.ct_law_registers.proofs.Stores.{Grow, grow_same, lead_later}
use Rattle.ct_law_databases.proofs.Changes.{by_node}
use Rattle.ct_law_databases.proofs.Law.{LocksEnd}
use Rattle.ct_law_databases.proofs.Kept.{Kept}

restarted_at : (ds : List Database) (k : ℕ) → ((or_untouched (slice_get (map restarted_db ds) k)).store ≡ (or_untouched (slice_get ds k)).store) × ((or_untouched (slice_get (map restarted_db ds) k)).commit ≡ None)
unfolding or_untouched restarted_db untouched
restarted_at [] k = (refl, refl)
restarted_at (d ∷ ds) zero = (refl, refl)
restarted_at (d ∷ ds) (suc k) = restarted_at ds k

restarted_store : (config : Config) (x : Node) (k : ℕ) → (db_at k (restarted config x)).store ≡ (db_at k x).store
unfolding db_at restarted
restarted_store config x k = (restarted_at x.dbs k).0

restarted_commit : (config : Config) (x : Node) (k : ℕ) → (db_at k (restarted config x)).commit ≡ None
unfolding db_at restarted
restarted_commit config x k = (restarted_at x.dbs k).1

-- no commit waits
pub none_waits : (n : ℕ) (members : List ℕ) (d : register.Database) (has : ℕ → ℕ) (o : Option Committing) → o ≡ None → MayWait n members d has o
unfolding MayWait
none_waits n members d has None e = tt
none_waits n members d has (Some z) e = absurd (cc)

module _ (config : Config) (x : Choice) (nodes : ℕ → Node) (r : Lines) (has : Has) (n : ℕ) (h : Holds config nodes (bases r) has) (owns : (db : ℕ) (z : Committing) → (db_at db (nodes n)).commit ≡ Some z → owners config r (r.line n) db ≡ Some n) where
  abbrev y : Node
  y = restarted config (nodes n)

  abbrev then : ℕ → Node
  then = at n y nodes

  abbrev left : Bases
  left = record (bases r) { line = at n 0 r.line }

  left_holds : Holds config then left has
  unfolding restarted LeadStands
  left_holds = record {
    stores = λ m db. by_node (λ (k : ℕ) (z : Node). is_persistent (kind_at config db) ≡ true → r.pline k ≢ 0 → (db_at db z).store ≡ after (has (r.pline k) k db) (r.databases (r.pline k) db)) nodes n y
        (λ kind line. restarted_store config (nodes n) db ∙ h.stores n db kind line) (λ k ne. h.stores k db) m;
    fresh = h.fresh;
    unborn = h.unborn;
    others = h.others;
    counted = h.counted;
    waits = λ m db. by_node (λ (k : ℕ) (z : Node). MayWait k (r.members (at n 0 r.line k)) (r.databases (at n 0 r.line k) db) (λ j. has (at n 0 r.line k) j db) (db_at db z).commit) nodes n y
        (none_waits n _ _ _ _ (restarted_commit config (nodes n) db))
        (λ k ne. subst (λ (l : ℕ). MayWait k (r.members l) (r.databases l db) (λ j. has l j db) (db_at db (nodes k)).commit) (sym (at_other n k 0 r.line ne)) (h.waits k db)) m;
    committing = λ m db. by_node (λ (k : ℕ) (z : Node). at n 0 r.line k ≢ 0 → (r.databases (at n 0 r.line k) db).committer ≡ Some k → is_some (db_at db z).commit ≡ true) nodes n y
        (λ line e. absurd (line (at_same n n 0 r.line refl)))
        (λ k ne. subst (λ (l : ℕ). l ≢ 0 → (r.databases l db).committer ≡ Some k → is_some (db_at db (nodes k)).commit ≡ true) (sym (at_other n k 0 r.line ne)) (h.committing k db)) m;
    leads = λ m. by_node (λ (k : ℕ) (z : Node). LeadStands config left has k z.lead) nodes n y tt
        (λ k ne. lead_later config (bases r) left has has k (nodes k).lead left_grows (λ g db j. (h.counted g db).within j) (h.leads k)) m;
  }
    where
      left_grows : Grow (bases r) left has has
      left_grows = (let g = grow_same (bases r) has in record { born = g.born; databases = g.databases; rises = g.rises; members = g.members })

  left_settles : (later : Gone) → LocksEnd config (bases r) (owners config r) later (Stopped n ∷ []) → (g db : ℕ) → Settles config nodes (bases r) later g db → Settles config then left later g db
  left_settles later ends g db s = ⊎_elim
      (λ (e : (r.databases g db).acked ≡ length (r.databases g db).commits). inl e)
      (λ (o : WaitsIn nodes r.line g db ⊎ (later g (name_of config db) ≡ true)). inr (⊎_elim
      (λ (w : WaitsIn nodes r.line g db). ⊎_elim
      (λ (e : w.0 ≡ n). inr (subst (λ (l : ℕ). later l (name_of config db) ≡ true) (ap r.line (sym e) ∙ w.1) (ends.stopped n db (inl refl) (owns db w.2 (ap (λ (k : ℕ). (db_at db (nodes k)).commit) (sym e) ∙ w.3)))))
      (λ (ne : w.0 ≢ n). inl (w.0, at_other n w.0 0 r.line ne ∙ w.1, w.2, ap (λ (z : Node). (db_at db z).commit) (at_other n w.0 y nodes ne) ∙ w.3)) (cases_eq w.0 n))
      (λ (e : later g (name_of config db) ≡ true). inr e) o)) s

  -- a stop
  pub stop_holds : Kept config x nodes then r has has (Stopped n ∷ []) []
  unfolding AllNeed DatabasesNeed goes_on goes
  stop_holds = record {
    needs = (tt, tt);
    holds = left_holds;
    grow = (let g = grow_same (bases r) has in record { born = g.born; databases = g.databases; rises = g.rises; members = g.members });
    sent = λ f is. absurd is;
    still = λ g m i away. refl;
    settling = λ later ends g db kind. left_settles later ends g db;
    commits = λ g db kind. inl refl;
    heirs = λ l g db k kind e. inl (l, e);
  }
