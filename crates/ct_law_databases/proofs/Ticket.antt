-- A ticket is given: its generation is no line yet, so that its members have nothing to have of it.
use Rattle.std.proofs.Common.{◌≡◌, ◌≢◌, ℕ, true, false, List, [], ◌∷◌, length, Option, None, Some, sym, ap, ◌∙◌, subst, arith, inl, inr, ⊎_elim}
use Rattle.std.specs.Prelude.{◌⊎◌}
use Rattle.std.proofs.lemmas.Bool.{cases_eq}
use Rattle.ct_values.specs.declared.config.Config.{Config}
use Rattle.ct_frame.specs.declared.frame.Frame.{Frame}
use Rattle.ct_rules_node.specs.Node.{Node, Committing, is_among, db_at}
use Rattle.ct_rules_cluster.specs.Labels.{Label, Ticket}
use Rattle.ct_register.proofs.Places.{at_other}
use Rattle.ct_register.specs.Lines.{Lines}
use Rattle.ct_register.specs.Words.{at}
use Rattle.ct_law_registers.proofs.Parts.{Choice, goes, goes_on, DatabasesNeed, AllNeed}
use Rattle.ct_law_registers.proofs.Facts.{Has, Bases, bases, Counted, MayWait, Holds, Heir}
use Rattle.ct_law_registers.proofs.Stores.{Grow, grow_same, lead_later}
use Rattle.ct_law_databases.proofs.Kept.{Kept}

module _ (config : Config) (x : Choice) (nodes : ℕ → Node) (r : Lines) (has : Has) (g n : ℕ) (members : List ℕ) (h : Holds config nodes (bases r) has) (unborn : r.born g ≡ false) where
  abbrev pub told : Lines
  told = goes config x (Ticket g n members) r

  abbrev given : Bases
  given = record (bases r) { members = at g members r.members }

  given_counted : (k db : ℕ) → Counted (at g members r.members k) (r.databases k db) (λ m. has k m db)
  given_counted k db = ⊎_elim
      (λ (e : k ≡ g).
      let c = h.counted k db in
      let none : length (r.databases k db).commits ≡ 0 = ap length (h.unborn k db (ap r.born e ∙ unborn)) in
      let known = c.known in
      record { within = c.within; known = c.known; acked = λ m among. omega arith; seen = c.seen; begun = c.begun })
      (λ (ne : k ≢ g). subst (λ (ms : List ℕ). Counted ms (r.databases k db) (λ m. has k m db)) (sym (at_other g k members r.members ne)) (h.counted k db)) (cases_eq k g)

  none_waits_there : (m k db : ℕ) (ms ns : List ℕ) (o : Option Committing) → (r.databases k db).commits ≡ [] → MayWait m ms (r.databases k db) (λ j. has k j db) o → MayWait m ns (r.databases k db) (λ j. has k j db) o
  unfolding MayWait
  none_waits_there m k db ms ns None none w = tt
  none_waits_there m k db ms ns (Some z) none w = absurd (let l : length (r.databases k db).commits ≡ 0 = ap length none in let u = w.unacknowledged in omega arith)

  given_waits : (m db : ℕ) → MayWait m (at g members r.members (r.line m)) (r.databases (r.line m) db) (λ j. has (r.line m) j db) (db_at db (nodes m)).commit
  given_waits m db = ⊎_elim
      (λ (e : r.line m ≡ g). none_waits_there m (r.line m) db _ _ _ (h.unborn (r.line m) db (ap r.born e ∙ unborn)) (h.waits m db))
      (λ (ne : r.line m ≢ g). subst (λ (ms : List ℕ). MayWait m ms (r.databases (r.line m) db) (λ j. has (r.line m) j db) (db_at db (nodes m)).commit) (sym (at_other g (r.line m) members r.members ne)) (h.waits m db)) (cases_eq (r.line m) g)

  -- the members of a line stay
  same_members : (k : ℕ) → r.born k ≡ true → at g members r.members k ≡ r.members k
  same_members k born = at_other g k members r.members (λ e. absurd (let f : true ≡ false = sym born ∙ ap r.born e ∙ unborn in cc))

  given_grows : Grow (bases r) given has has
  given_grows = (let s = grow_same (bases r) has in record { born = s.born; databases = s.databases; rises = s.rises; members = same_members })

  pub ticket_holds : Holds config nodes (bases told) has
  unfolding goes
  ticket_holds = record {
    stores = h.stores;
    fresh = h.fresh;
    unborn = h.unborn;
    others = h.others;
    counted = given_counted;
    waits = given_waits;
    committing = h.committing;
    leads = λ m. lead_later config (bases r) given has has m (nodes m).lead given_grows (λ k db j. (h.counted k db).within j) (h.leads m);
  }

  -- whatever the step does then, it keeps after the ticket too
  pub ticket_kept : (then : ℕ → Node) (more : Has) (ls : List Label) (fs : List Frame) → Kept config x nodes then told has more ls fs → Kept config x nodes then r has more (Ticket g n members ∷ ls) fs
  unfolding AllNeed DatabasesNeed goes_on goes
  ticket_kept then more ls fs k = record {
    needs = (tt, k.needs);
    holds = k.holds;
    grow = (let s = k.grow in record { born = s.born; databases = s.databases; rises = s.rises; members = λ l born. s.members l born ∙ same_members l born });
    sent = k.sent;
    still = k.still;
    settling = λ later ends l db kind. k.settling later (record { ended = λ m key i. ends.ended m key (inr i); stopped = λ m i j own. ends.stopped m i (inr j) own }) l db kind;
    commits = k.commits;
    heirs = λ l i db j kind e. ⊎_elim
        (λ (o : (m : ℕ) × ((r.databases m db).from i ≡ Some j)). inl o)
        (λ (z : Heir nodes given has i db j). inr (record { node = z.node; born = z.born; member = subst (λ (ms : List ℕ). is_among z.node ms ≡ true) (same_members i z.born) z.member; later = z.later; number = z.number }))
        (k.heirs l i db j kind e);
  }
