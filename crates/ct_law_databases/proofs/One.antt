-- A step that changes one database of its node's line is kept.
use Rattle.std.proofs.Common.{◌≡◌, ◌≢◌, ℕ, true, List, length, Option, None, Some, refl, sym, ap, ◌∙◌, subst, inl, ⊎_elim}
use Rattle.std.proofs.lemmas.Bool.{cases_eq}
use Rattle.ct_values.specs.declared.config.Config.{Config}
use Rattle.ct_values.specs.declared.config.DbKind.{DbKind}
use Rattle.ct_values.specs.declared.config.DbKind.TheVariants.{Volatile, ReadOnly, Persistent}
use Rattle.ct_frame.specs.declared.frame.Frame.{Frame}
use Rattle.ct_rules_node.specs.Node.{Node, is_present, is_persistent, db_at}
use Rattle.ct_rules_cluster.specs.Labels.{Label}
use Rattle.ct_register.proofs.Places.{at_same, at_other}
use Rattle.ct_register.specs.Database.{Database}
use Rattle.ct_register.specs.Lines.{Lines}
use Rattle.ct_register.specs.Words.{at}
use Rattle.ct_law_registers.proofs.Parts.{Choice, goes_on, DatabasesNeed, AllNeed}
use Rattle.ct_law_registers.proofs.Facts.{Has, Gone, Bases, bases, owners, WaitsIn, Settles, MailStands, Holds}
use Rattle.ct_law_registers.proofs.Stores.{Grow}
use Rattle.ct_law_databases.proofs.Changes.{IsOther, Changes, by_place, by_node, change_holds, change_grows}
use Rattle.ct_law_databases.proofs.Law.{LocksEnd}
use Rattle.ct_law_databases.proofs.Kept.{Commits, Kept, settles_same}

pub is_kind : (k : Option DbKind) → is_persistent k ≡ true → k ≡ Some Persistent
unfolding is_persistent
is_kind None e = absurd (cc)
is_kind (Some Volatile) e = absurd (cc)
is_kind (Some ReadOnly) e = absurd (cc)
is_kind (Some Persistent) e = refl

-- ---- one more at one place

-- databases with another at one place
abbrev pub with_one : ℕ → ℕ → Database → (ℕ → ℕ → Database) → ℕ → ℕ → Database
with_one g db d dbs = at g (at db d (dbs g)) dbs

pub one_here : (g db : ℕ) (d : Database) (dbs : ℕ → ℕ → Database) → with_one g db d dbs g db ≡ d
one_here g db d dbs = ap (λ (f : ℕ → Database). f db) (at_same g g (at db d (dbs g)) dbs refl) ∙ at_same db db d (dbs g) refl

pub one_there : (g db : ℕ) (d : Database) (dbs : ℕ → ℕ → Database) (h i : ℕ) → IsOther g db h i → with_one g db d dbs h i ≡ dbs h i
one_there g db d dbs h i o = ⊎_elim
    (λ (ne : h ≢ g). ap (λ (f : ℕ → Database). f i) (at_other g h (at db d (dbs g)) dbs ne))
    (λ (ne : i ≢ db). ⊎_elim
    (λ (e : h ≡ g). ap (λ (f : ℕ → Database). f i) (at_same g h (at db d (dbs g)) dbs e) ∙ at_other db i d (dbs g) ne ∙ ap (λ (k : ℕ). dbs k i) (sym e))
    (λ (ne : h ≢ g). ap (λ (f : ℕ → Database). f i) (at_other g h (at db d (dbs g)) dbs ne)) (cases_eq h g)) o

-- what nodes have, with another number at one place
abbrev pub with_has : ℕ → ℕ → ℕ → ℕ → Has → Has
with_has g n db j has = at g (at n (at db j (has g n)) (has g)) has

pub has_here : (g n db j : ℕ) (has : Has) → with_has g n db j has g n db ≡ j
has_here g n db j has = ap (λ (f : ℕ → ℕ → ℕ). f n db) (at_same g g (at n (at db j (has g n)) (has g)) has refl) ∙ ap (λ (f : ℕ → ℕ). f db) (at_same n n (at db j (has g n)) (has g) refl) ∙ at_same db db j (has g n) refl

pub has_there : (g n db j : ℕ) (has : Has) (h i m : ℕ) → IsOther g db h i → with_has g n db j has h m i ≡ has h m i
has_there g n db j has h i m o = ⊎_elim
    (λ (e : h ≡ g). ap (λ (f : ℕ → ℕ → ℕ). f m i) (at_same g h (at n (at db j (has g n)) (has g)) has e) ∙ ⊎_elim
    (λ (f : m ≡ n). ap (λ (k : ℕ → ℕ). k i) (at_same n m (at db j (has g n)) (has g) f) ∙ ⊎_elim
    (λ (ne : h ≢ g). absurd (ne e))
    (λ (ne : i ≢ db). at_other db i j (has g n) ne ∙ ap (λ (k : ℕ). has g k i) (sym f) ∙ ap (λ (k : ℕ). has k m i) (sym e)) o)
    (λ (ne : m ≢ n). ap (λ (k : ℕ → ℕ). k i) (at_other n m (at db j (has g n)) (has g) ne) ∙ ap (λ (k : ℕ). has k m i) (sym e)) (cases_eq m n))
    (λ (ne : h ≢ g). ap (λ (f : ℕ → ℕ → ℕ). f m i) (at_other g h (at n (at db j (has g n)) (has g)) has ne)) (cases_eq h g)

pub has_others : (g n db j : ℕ) (has : Has) (m : ℕ) → m ≢ n → with_has g n db j has g m db ≡ has g m db
has_others g n db j has m ne = ap (λ (f : ℕ → ℕ → ℕ). f m db) (at_same g g (at n (at db j (has g n)) (has g)) has refl) ∙ ap (λ (f : ℕ → ℕ). f db) (at_other n m (at db j (has g n)) (has g) ne)

-- ---- the step

module _ (config : Config) (x : Choice) (nodes : ℕ → Node) (r : Lines) (has more : Has) (n db : ℕ) (y : Node) (dbs : ℕ → ℕ → Database) (ls : List Label) (fs : List Frame) (h : Holds config nodes (bases r) has) (c : Changes config nodes (bases r) has more n db y dbs) where
  abbrev changed : Bases
  changed = record (bases r) { databases = dbs }

  abbrev then : ℕ → Node
  then = at n y nodes

  -- commits that wait elsewhere
  waits_there : (g i : ℕ) → IsOther (r.line n) db g i → WaitsIn nodes r.line g i → WaitsIn then r.line g i
  waits_there g i o w = (
    w.0,
    w.1,
    w.2,
    by_node (λ (k : ℕ) (z : Node). r.line k ≡ g → (db_at i (nodes k)).commit ≡ Some w.2 → (db_at i z).commit ≡ Some w.2) nodes n y
        (λ l e. ⊎_elim (λ (ne : g ≢ r.line n). absurd (ne (sym l))) (λ (ne : i ≢ db). c.other_commit i ne ∙ e) o) (λ k ne l e. e) w.0 w.1 w.3,
  )

  still_there : (g m i : ℕ) → is_present (nodes n).phase ≡ true → (is_present (nodes m).phase ≡ true → r.pline m ≢ g) → more g m i ≡ has g m i
  still_there g m i present away = by_place (λ (l j : ℕ). (is_present (nodes m).phase ≡ true → r.pline m ≢ l) → more l m j ≡ has l m j) (r.line n) db
      (λ out. ⊎_elim
      (λ (e : m ≡ n). absurd (out (ap (λ (k : ℕ). is_present (nodes k).phase) e ∙ present) (ap r.pline e ∙ sym c.installed)))
      (λ (ne : m ≢ n). c.same_has m ne) (cases_eq m n))
      (λ l j o out. c.other_has l j m o) g i away

  -- nothing is taken over
  same_from : (l i : ℕ) → (dbs l i).from ≡ (r.databases l i).from
  same_from = by_place (λ (l i : ℕ). (dbs l i).from ≡ (r.databases l i).from) (r.line n) db c.grown.from (λ l i o. ap (λ (d : Database). d.from) (c.other l i o))

  pub changes_kept : bases (goes_on config x ls r) ≡ changed → AllNeed (DatabasesNeed config x) config x r ls → MailStands config changed more fs → is_present (nodes n).phase ≡ true →
      ((later : Gone) → LocksEnd config (bases r) (owners config r) later ls → Settles config nodes (bases r) later (r.line n) db → Settles config then changed later (r.line n) db) →
      Commits changed more (owners config r) (length (r.databases (r.line n) db).commits) (r.line n) db → Kept config x nodes then r has more ls fs
  changes_kept is needs mail present here commits = record {
    needs = needs;
    holds = subst (λ (b : Bases). Holds config then b more) (sym is) (change_holds config nodes (bases r) has more n db y dbs h c);
    grow = subst (λ (b : Bases). Grow (bases r) b has more) (sym is) (change_grows config nodes (bases r) has more n db y dbs h c);
    sent = subst (λ (b : Bases). MailStands config b more fs) (sym is) mail;
    still = λ g m i away. still_there g m i present away;
    settling = λ later ends g i kind. subst (λ (b : Bases). Settles config nodes (bases r) later g i → Settles config then b later g i) (sym is)
        (by_place (λ (l j : ℕ). Settles config nodes (bases r) later l j → Settles config then changed later l j) (r.line n) db (here later ends)
        (λ l j o. settles_same config nodes then (bases r) changed later l j (c.other l j o) (waits_there l j o)) g i);
    heirs = λ l g i k kind e. inl (l, sym (ap (λ (f : ℕ → Option ℕ). f g) (same_from l i)) ∙ ap (λ (b : Bases). (b.databases l i).from g) (sym is) ∙ e);
    commits = λ g i kind. subst (λ (b : Bases). Commits b more (owners config r) (length (r.databases g i).commits) g i) (sym is)
        (by_place (λ (l j : ℕ). Commits changed more (owners config r) (length (r.databases l j).commits) l j) (r.line n) db commits (λ l j o. inl (ap (λ (d : Database). length d.commits) (c.other l j o))) g i);
  }
