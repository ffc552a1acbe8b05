-- What a step at one node changes of persistent databases: nothing, or one database of its line.
use Rattle.std.proofs.Common.{◌≡◌, ◌≢◌, ℕ, ◌<◌, ◌≤◌, true, false, List, [], Option, None, Some, refl, sym, ap, ◌∙◌, subst, arith, inl, inr, ⊎_elim}
use Rattle.std.specs.Prelude.{◌⊎◌, nat_lt, is_some}
use Rattle.std.proofs.lemmas.Bool.{cases_eq, cases_Bool, ltb-true, ltb-false}
use Rattle.ct_values.specs.declared.config.Config.{Config}
use Rattle.ct_rules_node.specs.Node.{Node, Committing, is_persistent, kind_at, db_at}
use Rattle.ct_register.proofs.Places.{at_same, at_other}
use Rattle.ct_register.specs.Database.{Database}
use Rattle.ct_register.specs.Words.{at}
use Rattle.ct_law_registers.proofs.Facts.{Has, Bases, Counted, Waits, MayWait, LeadStands, Holds, after}
use Rattle.ct_law_registers.proofs.Stores.{Grown, Grow, after_same, grown_same, lead_later}

-- ---- at one place, and at all others

-- another line, or another database
abbrev pub IsOther : ℕ → ℕ → ℕ → ℕ → Type 0
IsOther g db h i = (h ≢ g) ⊎ (i ≢ db)

pub by_place : (P : ℕ → ℕ → Type 0) (g db : ℕ) → P g db → ((h i : ℕ) → IsOther g db h i → P h i) → (h i : ℕ) → P h i
by_place P g db here there h i = ⊎_elim
    (λ (e : h ≡ g). ⊎_elim
    (λ (f : i ≡ db). subst (λ (k : ℕ). P k i) (sym e) (subst (λ (k : ℕ). P g k) (sym f) here))
    (λ (ne : i ≢ db). there h i (inr ne)) (cases_eq i db))
    (λ (ne : h ≢ g). there h i (inl ne)) (cases_eq h g)

pub by_node : (P : ℕ → Node → Type 0) (nodes : ℕ → Node) (n : ℕ) (y : Node) → P n y → ((m : ℕ) → m ≢ n → P m (nodes m)) → (m : ℕ) → P m (at n y nodes m)
by_node P nodes n y own rest m = ⊎_elim
    (λ (e : m ≡ n). subst (P m) (sym (at_same n m y nodes e)) (subst (λ (k : ℕ). P k y) (sym e) own))
    (λ (ne : m ≢ n). subst (P m) (sym (at_other n m y nodes ne)) (rest m ne)) (cases_eq m n)

-- who has a commit of a line has installed it
pub has_installed : (config : Config) (nodes : ℕ → Node) (b : Bases) (has : Has) → Holds config nodes b has → (g m db : ℕ) → has g m db ≢ 0 → g ≤ b.pline m
has_installed config nodes b has h g m db some = ⊎_elim
    (λ (t : nat_lt (b.pline m) g ≡ true). absurd (some (h.fresh g m db (ltb-true (b.pline m) g t))))
    (λ (f : nat_lt (b.pline m) g ≡ false). (let l = ltb-false (b.pline m) g f in omega arith))
    (cases_Bool (nat_lt (b.pline m) g))

-- ---- nothing is changed

-- each database of the node has the same contents and the same waiting commit
pub record SameStores (x y : Node) : Type 0 where
  pub stores : (db : ℕ) → (db_at db y).store ≡ (db_at db x).store
  pub commits : (db : ℕ) → (db_at db y).commit ≡ (db_at db x).commit

pub same_holds : (config : Config) (nodes : ℕ → Node) (b : Bases) (has : Has) (n : ℕ) (y : Node) → SameStores (nodes n) y → LeadStands config b has n y.lead → Holds config nodes b has → Holds config (at n y nodes) b has
same_holds config nodes b has n y same lead h = record {
  stores = λ m db. by_node (λ (k : ℕ) (x : Node). is_persistent (kind_at config db) ≡ true → b.pline k ≢ 0 → (db_at db x).store ≡ after (has (b.pline k) k db) (b.databases (b.pline k) db)) nodes n y
      (λ kind line. same.stores db ∙ h.stores n db kind line) (λ k ne. h.stores k db) m;
  fresh = h.fresh;
  unborn = h.unborn;
  others = h.others;
  counted = h.counted;
  waits = λ m db. by_node (λ (k : ℕ) (x : Node). MayWait k (b.members (b.line k)) (b.databases (b.line k) db) (λ j. has (b.line k) j db) (db_at db x).commit) nodes n y
      (subst (λ (o : Option Committing). MayWait n (b.members (b.line n)) (b.databases (b.line n) db) (λ j. has (b.line n) j db) o) (sym (same.commits db)) (h.waits n db)) (λ k ne. h.waits k db) m;
  committing = λ m db. by_node (λ (k : ℕ) (x : Node). b.line k ≢ 0 → (b.databases (b.line k) db).committer ≡ Some k → is_some (db_at db x).commit ≡ true) nodes n y
      (λ line e. ap is_some (same.commits db) ∙ h.committing n db line e) (λ k ne. h.committing k db) m;
  leads = λ m. by_node (λ (k : ℕ) (x : Node). LeadStands config b has k x.lead) nodes n y lead (λ k ne. h.leads k) m;
}

-- ---- one database of its line

-- What node n makes of a database of its line: y is the node then, dbs are the registers' databases, and more is what nodes have.
pub record Changes (config : Config) (nodes : ℕ → Node) (b : Bases) (has more : Has) (n db : ℕ) (y : Node) (dbs : ℕ → ℕ → Database) : Type 0 where
  -- it has the line, and the line was born
  pub line : b.line n ≢ 0
  pub installed : b.line n ≡ b.pline n
  pub born : b.born (b.line n) ≡ true
  pub kind : is_persistent (kind_at config db) ≡ true
  -- nothing else changes
  pub other : (g i : ℕ) → IsOther (b.line n) db g i → dbs g i ≡ b.databases g i
  pub other_has : (g i m : ℕ) → IsOther (b.line n) db g i → more g m i ≡ has g m i
  pub same_has : (m : ℕ) → m ≢ n → more (b.line n) m db ≡ has (b.line n) m db
  pub other_store : (i : ℕ) → i ≢ db → (db_at i y).store ≡ (db_at i (nodes n)).store
  pub other_commit : (i : ℕ) → i ≢ db → (db_at i y).commit ≡ (db_at i (nodes n)).commit
  pub lead : y.lead ≡ (nodes n).lead
  -- the database grows, and so does what the node has
  pub grown : Grown (b.databases (b.line n) db) (dbs (b.line n) db)
  pub rises : has (b.line n) n db ≤ more (b.line n) n db
  pub counted : Counted (b.members (b.line n)) (dbs (b.line n) db) (λ m. more (b.line n) m db)
  pub store : (db_at db y).store ≡ after (more (b.line n) n db) (dbs (b.line n) db)
  pub waits : MayWait n (b.members (b.line n)) (dbs (b.line n) db) (λ m. more (b.line n) m db) (db_at db y).commit
  -- only this node's commit begins or is answered
  pub committing : (dbs (b.line n) db).committer ≡ Some n → is_some (db_at db y).commit ≡ true
  pub others : (m : ℕ) → m ≢ n → (dbs (b.line n) db).committer ≡ Some m → (b.databases (b.line n) db).committer ≡ Some m
  -- where a commit waits at another node, it still does
  pub still : (m : ℕ) → m ≢ n → (x : Committing) → Waits m (b.members (b.line n)) (b.databases (b.line n) db) (λ k. has (b.line n) k db) x → Waits m (b.members (b.line n)) (dbs (b.line n) db) (λ k. more (b.line n) k db) x

waits_on : (n : ℕ) (members : List ℕ) (d e : Database) (has more : ℕ → ℕ) (o : Option Committing) → ((x : Committing) → Waits n members d has x → Waits n members e more x) → MayWait n members d has o → MayWait n members e more o
unfolding MayWait
waits_on n members d e has more None f h = tt
waits_on n members d e has more (Some x) f h = f x h

module _ (config : Config) (nodes : ℕ → Node) (b : Bases) (has more : Has) (n db : ℕ) (y : Node) (dbs : ℕ → ℕ → Database) (h : Holds config nodes b has) (c : Changes config nodes b has more n db y dbs) where
  -- all that the node had of other databases
  same_after : (g i m : ℕ) → IsOther (b.line n) db g i → after (has g m i) (b.databases g i) ≡ after (more g m i) (dbs g i)
  same_after g i m o = (λ k. after (sym (c.other_has g i m o) k) (sym (c.other g i o) k))

  own_store : (i : ℕ) → is_persistent (kind_at config i) ≡ true → b.pline n ≢ 0 → (db_at i y).store ≡ after (more (b.pline n) n i) (dbs (b.pline n) i)
  own_store i kind line = by_place (λ (g j : ℕ). b.pline n ≡ g → is_persistent (kind_at config j) ≡ true → (db_at j y).store ≡ after (more g n j) (dbs g j)) (b.line n) db
      (λ e k. c.store)
      (λ g j o e k. ⊎_elim
      (λ (ne : g ≢ b.line n). absurd (ne (sym e ∙ sym c.installed)))
      (λ (ne : j ≢ db). c.other_store j ne ∙ h.stores n j k line ∙ subst (λ (l : ℕ). after (has (b.pline n) n j) (b.databases (b.pline n) j) ≡ after (more l n j) (dbs l j)) e (same_after (b.pline n) j n (inr ne))) o)
      (b.pline n) i refl kind

  kept_store : (m : ℕ) → m ≢ n → (i : ℕ) → is_persistent (kind_at config i) ≡ true → b.pline m ≢ 0 → (db_at i (nodes m)).store ≡ after (more (b.pline m) m i) (dbs (b.pline m) i)
  kept_store m ne i kind line = h.stores m i kind line ∙ by_place (λ (g j : ℕ). after (has g m j) (b.databases g j) ≡ after (more g m j) (dbs g j)) (b.line n) db
      (sym (ap (λ (k : ℕ). after k (dbs (b.line n) db)) (c.same_has m ne) ∙ after_same (has (b.line n) m db) (b.databases (b.line n) db) (dbs (b.line n) db) c.grown.seq c.grown.base (c.grown.first (has (b.line n) m db) ((h.counted (b.line n) db).within m))))
      (λ g j o. same_after g j m o) (b.pline m) i

  moved : (m g j : ℕ) (o : Option Committing) → IsOther (b.line n) db g j → MayWait m (b.members g) (b.databases g j) (λ k. has g k j) o → MayWait m (b.members g) (dbs g j) (λ k. more g k j) o
  moved m g j o other w = subst (λ (d : Database). MayWait m (b.members g) d (λ k. more g k j) o) (sym (c.other g j other)) (subst (λ (f : ℕ → ℕ). MayWait m (b.members g) (b.databases g j) f o) (λ t k. sym (c.other_has g j k other) t) w)

  own_waits : (i : ℕ) → MayWait n (b.members (b.line n)) (dbs (b.line n) i) (λ m. more (b.line n) m i) (db_at i y).commit
  own_waits i = ⊎_elim
      (λ (e : i ≡ db). subst (λ (j : ℕ). MayWait n (b.members (b.line n)) (dbs (b.line n) j) (λ m. more (b.line n) m j) (db_at j y).commit) (sym e) c.waits)
      (λ (ne : i ≢ db). subst (λ (o : Option Committing). MayWait n (b.members (b.line n)) (dbs (b.line n) i) (λ m. more (b.line n) m i) o) (sym (c.other_commit i ne)) (moved n (b.line n) i _ (inr ne) (h.waits n i)))
      (cases_eq i db)

  kept_waits : (m : ℕ) → m ≢ n → (i : ℕ) → MayWait m (b.members (b.line m)) (dbs (b.line m) i) (λ k. more (b.line m) k i) (db_at i (nodes m)).commit
  kept_waits m ne i = by_place (λ (g j : ℕ). MayWait m (b.members g) (b.databases g j) (λ k. has g k j) (db_at j (nodes m)).commit → MayWait m (b.members g) (dbs g j) (λ k. more g k j) (db_at j (nodes m)).commit) (b.line n) db
      (waits_on m (b.members (b.line n)) (b.databases (b.line n) db) (dbs (b.line n) db) (λ k. has (b.line n) k db) (λ k. more (b.line n) k db) _ (c.still m ne))
      (λ g j o. moved m g j _ o) (b.line m) i (h.waits m i)

  own_committing : (i : ℕ) → b.line n ≢ 0 → (dbs (b.line n) i).committer ≡ Some n → is_some (db_at i y).commit ≡ true
  own_committing i line e = ⊎_elim
      (λ (same : i ≡ db). subst (λ (j : ℕ). is_some (db_at j y).commit ≡ true) (sym same) (c.committing (subst (λ (j : ℕ). (dbs (b.line n) j).committer ≡ Some n) same e)))
      (λ (ne : i ≢ db). ap is_some (c.other_commit i ne) ∙ h.committing n i line (subst (λ (d : Database). d.committer ≡ Some n) (c.other (b.line n) i (inr ne)) e))
      (cases_eq i db)

  kept_committing : (m : ℕ) → m ≢ n → (i : ℕ) → b.line m ≢ 0 → (dbs (b.line m) i).committer ≡ Some m → is_some (db_at i (nodes m)).commit ≡ true
  kept_committing m ne i line e = h.committing m i line (by_place (λ (g j : ℕ). (dbs g j).committer ≡ Some m → (b.databases g j).committer ≡ Some m) (b.line n) db (c.others m ne)
      (λ g j o f. subst (λ (d : Database). d.committer ≡ Some m) (c.other g j o) f) (b.line m) i e)

  pub change_grows : Grow b (record b { databases = dbs }) has more
  change_grows = record {
    born = λ g e. e;
    databases = λ g i e. by_place (λ (l j : ℕ). Grown (b.databases l j) (dbs l j)) (b.line n) db c.grown (λ l j o. subst (λ (d : Database). Grown (b.databases l j) d) (sym (c.other l j o)) (grown_same (b.databases l j))) g i;
    rises = λ g m i. by_place (λ (l j : ℕ). has l m j ≤ more l m j) (b.line n) db
        (⊎_elim (λ (e : m ≡ n). subst (λ (k : ℕ). has (b.line n) k db ≤ more (b.line n) k db) (sym e) c.rises) (λ (ne : m ≢ n). (let e = c.same_has m ne in omega arith)) (cases_eq m n))
        (λ l j o. (let e = c.other_has l j m o in omega arith)) g i;
    members = λ g e. refl;
  }

  pub change_holds : Holds config (at n y nodes) (record b { databases = dbs }) more
  change_holds = record {
    stores = λ m i. by_node (λ (k : ℕ) (x : Node). is_persistent (kind_at config i) ≡ true → b.pline k ≢ 0 → (db_at i x).store ≡ after (more (b.pline k) k i) (dbs (b.pline k) i)) nodes n y (own_store i) (λ k ne. kept_store k ne i) m;
    fresh = λ g m i below. by_place (λ (l j : ℕ). b.pline m < l → more l m j ≡ 0) (b.line n) db
        (λ low. ⊎_elim
        (λ (e : m ≡ n). absurd (let same : b.pline m ≡ b.line n = ap b.pline e ∙ sym c.installed in omega arith))
        (λ (ne : m ≢ n). c.same_has m ne ∙ h.fresh (b.line n) m db low) (cases_eq m n))
        (λ l j o low. c.other_has l j m o ∙ h.fresh l m j low) g i below;
    unborn = λ g i is. by_place (λ (l j : ℕ). b.born l ≡ false → (dbs l j).commits ≡ []) (b.line n) db
        (λ e. absurd (let k = c.born in cc)) (λ l j o e. ap (λ (d : Database). d.commits) (c.other l j o) ∙ h.unborn l j e) g i is;
    others = λ g i is. by_place (λ (l j : ℕ). is_persistent (kind_at config j) ≡ false → (dbs l j).commits ≡ []) (b.line n) db
        (λ e. absurd (let k = c.kind in cc)) (λ l j o e. ap (λ (d : Database). d.commits) (c.other l j o) ∙ h.others l j e) g i is;
    counted = λ g i. by_place (λ (l j : ℕ). Counted (b.members l) (dbs l j) (λ k. more l k j)) (b.line n) db c.counted
        (λ l j o. subst (λ (d : Database). Counted (b.members l) d (λ k. more l k j)) (sym (c.other l j o)) (subst (λ (f : ℕ → ℕ). Counted (b.members l) (b.databases l j) f) (λ t k. sym (c.other_has l j k o) t) (h.counted l j))) g i;
    waits = λ m i. by_node (λ (k : ℕ) (x : Node). MayWait k (b.members (b.line k)) (dbs (b.line k) i) (λ j. more (b.line k) j i) (db_at i x).commit) nodes n y (own_waits i) (λ k ne. kept_waits k ne i) m;
    committing = λ m i. by_node (λ (k : ℕ) (x : Node). b.line k ≢ 0 → (dbs (b.line k) i).committer ≡ Some k → is_some (db_at i x).commit ≡ true) nodes n y (own_committing i) (λ k ne. kept_committing k ne i) m;
    leads = λ m. lead_later config b (record b { databases = dbs }) has more m _ change_grows (λ g i k. (h.counted g i).within k)
        (by_node (λ (k : ℕ) (x : Node). LeadStands config b has k x.lead) nodes n y (subst (LeadStands config b has n) (sym c.lead) (h.leads n)) (λ k ne. h.leads k) m);
  }
