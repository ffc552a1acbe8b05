-- Nothing changes of persistent databases but what nodes have seen of them.
use Rattle.std.proofs.Common.{◌≡◌, ℕ, ◌≤◌, true, List, length, Option, None, Some, refl, sym, ap, ◌∙◌, arith, inl, inr, ⊎_elim}
use Rattle.std.specs.Prelude.{◌⊎◌, slice_get, take}
use Rattle.ct_values.specs.declared.client.Pair.{Pair}
use Rattle.ct_values.specs.declared.config.Config.{Config}
use Rattle.ct_rules_node.specs.Node.{Node, Committing, name_of}
use Rattle.ct_register.specs.Database.{Database, newest}
use Rattle.ct_law_registers.proofs.Facts.{Has, Gone, Bases, Counted, WaitsIn, Settles, MayWait, Holds, after}
use Rattle.ct_law_registers.proofs.Stores.{Grown, Grow, after_same, lead_later}

-- the second differs from the first in nothing but what nodes have seen
pub record IsAlike (d e : Database) : Type 0 where
  pub seq : e.seq ≡ d.seq
  pub base : e.base ≡ d.base
  pub from : e.from ≡ d.from
  pub commits : e.commits ≡ d.commits
  pub committer : e.committer ≡ d.committer
  pub acked : e.acked ≡ d.acked

pub alike_same : (d : Database) → IsAlike d d
alike_same d = record { seq = refl; base = refl; from = refl; commits = refl; committer = refl; acked = refl }

pub alike_grown : (d e : Database) → IsAlike d e → Grown d e
alike_grown d e p = record {
  seq = p.seq;
  base = p.base;
  from = p.from;
  acked = (let a = p.acked in omega arith);
  commits = λ i ws at. ap (λ (cs : List (List Pair)). slice_get cs i) p.commits ∙ at;
  first = λ j l. ap (take j) p.commits;
}

pub alike_after : (j : ℕ) (d e : Database) → IsAlike d e → after j e ≡ after j d
alike_after j d e p = after_same j d e p.seq p.base (ap (take j) p.commits)

alike_counted : (members : List ℕ) (d e : Database) (has : ℕ → ℕ) → IsAlike d e → ((m : ℕ) → e.seen m ≤ has m) → Counted members d has → Counted members e has
alike_counted members d e has p seen c =
    let count : length e.commits ≡ length d.commits = ap length p.commits in
    let a = p.acked in
    record {
      within = λ n. (let w = c.within n in omega arith);
      known = (let k = c.known in omega arith);
      acked = λ n among. (let k = c.acked n among in omega arith);
      seen = seen;
      begun = λ n f. (let k = c.begun n (sym p.committer ∙ f) in ((let a = p.acked in let l = k.0 in omega arith), k.1 ∙ sym count));
    }

alike_waits : (n : ℕ) (members : List ℕ) (d e : Database) (has : ℕ → ℕ) (o : Option Committing) → IsAlike d e → MayWait n members d has o → MayWait n members e has o
unfolding MayWait
alike_waits n members d e has None p w = tt
alike_waits n members d e has (Some z) p w =
    let count : length e.commits ≡ length d.commits = ap length p.commits in
    record {
      begun = p.committer ∙ w.begun;
      newest = ap newest p.commits ∙ w.newest;
      numbered = (let k = w.numbered in let s = p.seq in omega arith);
      unacknowledged = (let k = w.unacknowledged in let a = p.acked in omega arith);
      some = w.some;
      ascend = w.ascend;
      others = w.others;
      given = λ m among there. w.given m among there ∙ sym count;
    }

module _ (config : Config) (nodes : ℕ → Node) (b : Bases) (has : Has) (dbs : ℕ → ℕ → Database) (alike : (g db : ℕ) → IsAlike (b.databases g db) (dbs g db)) where
  pub alike_grows : Grow b (record b { databases = dbs }) has has
  alike_grows = record { born = λ g e. e; databases = λ g db e. alike_grown (b.databases g db) (dbs g db) (alike g db); rises = λ g n db. omega arith; members = λ g e. refl }

  pub alike_settles : (later : Gone) (g db : ℕ) → Settles config nodes b later g db → Settles config nodes (record b { databases = dbs }) later g db
  alike_settles later g db h = ⊎_elim
      (λ (e : (b.databases g db).acked ≡ length (b.databases g db).commits). inl ((alike g db).acked ∙ e ∙ sym (ap length (alike g db).commits)))
      (λ (o : WaitsIn nodes b.line g db ⊎ (later g (name_of config db) ≡ true)). inr o) h

  pub alike_holds : ((g db m : ℕ) → (dbs g db).seen m ≤ has g m db) → Holds config nodes b has → Holds config nodes (record b { databases = dbs }) has
  alike_holds seen h = record {
    stores = λ n db kind line. h.stores n db kind line ∙ sym (alike_after (has (b.pline n) n db) (b.databases (b.pline n) db) (dbs (b.pline n) db) (alike (b.pline n) db));
    fresh = h.fresh;
    unborn = λ g db e. (alike g db).commits ∙ h.unborn g db e;
    others = λ g db e. (alike g db).commits ∙ h.others g db e;
    counted = λ g db. alike_counted (b.members g) (b.databases g db) (dbs g db) (λ m. has g m db) (alike g db) (seen g db) (h.counted g db);
    waits = λ n db. alike_waits n (b.members (b.line n)) (b.databases (b.line n) db) (dbs (b.line n) db) (λ m. has (b.line n) m db) _ (alike (b.line n) db) (h.waits n db);
    committing = λ n db line e. h.committing n db line (sym (alike (b.line n) db).committer ∙ e);
    leads = λ n. lead_later config b (record b { databases = dbs }) has has n _ alike_grows (λ g db k. (h.counted g db).within k) (h.leads n);
  }
