-- One database after a commit began, was acknowledged, or was given up: who has how many commits, and who has seen them.
use Rattle.std.proofs.Common.{◌≡◌, ◌≢◌, ℕ, suc, ◌+◌, ◌≤◌, Bool, true, false, cond, not, ◌&&◌, List, [], ◌∷◌, ◌++◌, length, None, refl, sym, ap, ◌∙◌, subst, arith, ⊎_elim}
use Rattle.std.proofs.lemmas.Bool.{cases_eq}
use Rattle.ct_values.specs.declared.client.Pair.{Pair}
use Rattle.ct_persist.specs.Persisted.{Persisted, updated, fits}
use Rattle.ct_rules_node.specs.Node.{Committing, is_among}
use Rattle.ct_register.proofs.Places.{at_same, at_other}
use Rattle.ct_register.specs.Database.{Database, all_seen}
use Rattle.ct_law_registers.proofs.Parts.{begun_in}
use Rattle.ct_law_registers.proofs.Facts.{Counted, Waits, after}
use Rattle.ct_law_registers.proofs.Stores.{Grown, after_same, update_next}
use Rattle.ct_law_databases.proofs.Lists.{length_last, last_at, first_at, first_taken}

-- what one node has changes, and nobody else's
abbrev pub OnlyAt : ℕ → (ℕ → ℕ) → (ℕ → ℕ) → Type 0
OnlyAt n has more = (m : ℕ) → m ≢ n → more m ≡ has m

-- ---- a commit begins

pub begun_grown : (n : ℕ) (ws : List Pair) (d : Database) → Grown d (begun_in n ws d)
begun_grown n ws d = record { seq = refl; base = refl; from = refl; acked = omega arith; commits = λ i cs e. first_at d.commits ws cs i e; first = λ j l. first_taken d.commits ws j l }

-- the committer's own database: the writes of the commit under the next number
pub begun_store : (n : ℕ) (ws : List Pair) (d : Database) (p : Persisted) → p ≡ after (length d.commits) d → fits ws p.pairs ≡ true → updated (p.seq + 1) ws p ≡ after (length d.commits + 1) (begun_in n ws d)
begun_store n ws d p is fit =
    let same : after (length d.commits) (begun_in n ws d) ≡ after (length d.commits) d = after_same (length d.commits) d (begun_in n ws d) refl refl (first_taken d.commits ws (length d.commits) (omega arith)) in
    let whole : p ≡ after (length d.commits) (begun_in n ws d) = is ∙ sym same in
    let base : p.seq ≡ d.seq + length d.commits = ap (λ (q : Persisted). q.seq) is in
    let number : p.seq + 1 ≡ d.seq + suc (length d.commits) = omega arith in
    let last : suc (length d.commits) ≡ length d.commits + 1 = omega arith in
    ap (λ (k : ℕ). updated k ws p) number ∙ ap (λ (q : Persisted). updated (d.seq + suc (length d.commits)) ws q) whole
    ∙ update_next (length d.commits) (begun_in n ws d) ws (last_at d.commits ws) (subst (λ (q : Persisted). fits ws q.pairs ≡ true) whole fit)
    ∙ ap (λ (k : ℕ). after k (begun_in n ws d)) last

pub begun_counted : (n : ℕ) (members : List ℕ) (ws : List Pair) (d : Database) (has more : ℕ → ℕ) → Counted members d has → d.acked ≡ length d.commits → has n ≡ length d.commits → more n ≡ length d.commits + 1 → OnlyAt n has more → Counted members (begun_in n ws d) more
begun_counted n members ws d has more c all own next rest =
    let count = length_last d.commits ws in
    record {
      within = λ m. ⊎_elim (λ (e : m ≡ n). (let k : more m ≡ length d.commits + 1 = ap more e ∙ next in omega arith)) (λ (ne : m ≢ n). (let k = rest m ne in let w = c.within m in omega arith)) (cases_eq m n);
      known = omega arith;
      acked = λ m among. ⊎_elim (λ (e : m ≡ n). (let k : more m ≡ length d.commits + 1 = ap more e ∙ next in omega arith)) (λ (ne : m ≢ n). (let k = rest m ne in let w = c.acked m among in omega arith)) (cases_eq m n);
      seen = λ m. ⊎_elim
          (λ (e : m ≡ n). (let k : more m ≡ length d.commits + 1 = ap more e ∙ next in let s = at_same n m (length (d.commits ++ ws ∷ [])) d.seen e in omega arith))
          (λ (ne : m ≢ n). (let k = rest m ne in let s = at_other n m (length (d.commits ++ ws ∷ [])) d.seen ne in let w = c.seen m in omega arith)) (cases_eq m n);
      begun = λ m e. (let is : n ≡ m = cc in (omega arith, ap more (sym is) ∙ next ∙ sym count));
    }

-- ---- what nodes have rises

pub rise_counted : (n : ℕ) (members : List ℕ) (d : Database) (has more : ℕ → ℕ) → Counted members d has → has n ≤ more n → more n ≤ length d.commits → OnlyAt n has more → Counted members d more
rise_counted n members d has more c up within rest = record {
  within = λ m. ⊎_elim (λ (e : m ≡ n). (let k : more m ≡ more n = ap more e in omega arith)) (λ (ne : m ≢ n). (let k = rest m ne in let w = c.within m in omega arith)) (cases_eq m n);
  known = c.known;
  acked = λ m among. (let w = c.acked m among in let k = risen m in omega arith);
  seen = λ m. (let w = c.seen m in let k = risen m in omega arith);
  begun = λ m e. (
    (c.begun m e).0,
    ⊎_elim
        (λ (is : m ≡ n). (let b = (c.begun m e).1 in let k : more m ≡ more n = ap more is in let l : has m ≡ has n = ap has is in omega arith))
        (λ (ne : m ≢ n). rest m ne ∙ (c.begun m e).1) (cases_eq m n),
  );
}
  where
    risen : (m : ℕ) → has m ≤ more m
    risen m = ⊎_elim (λ (e : m ≡ n). (let k : more m ≡ more n = ap more e in let l : has m ≡ has n = ap has e in omega arith)) (λ (ne : m ≢ n). (let k = rest m ne in omega arith)) (cases_eq m n)

-- a commit that waits still does
pub rise_waits : (n m : ℕ) (members : List ℕ) (d : Database) (has more : ℕ → ℕ) (x : Committing) → has n ≤ more n → more n ≤ length d.commits → OnlyAt n has more → Waits m members d has x → Waits m members d more x
rise_waits n m members d has more x up within rest w = record {
  begun = w.begun;
  newest = w.newest;
  numbered = w.numbered;
  unacknowledged = w.unacknowledged;
  some = w.some;
  ascend = w.ascend;
  others = w.others;
  given = λ k among there. ⊎_elim
      (λ (e : k ≡ n). (let g = w.given k among there in let a : more k ≡ more n = ap more e in let b : has k ≡ has n = ap has e in omega arith))
      (λ (ne : k ≢ n). rest k ne ∙ w.given k among there) (cases_eq k n);
}

-- ---- nodes have seen all

-- who is a member and not missing has all: then nobody has seen more than it has
pub all_seen_within : (members missing : List ℕ) (count : ℕ) (seen has : ℕ → ℕ) → ((m : ℕ) → seen m ≤ has m) → ((m : ℕ) → is_among m members ≡ true → is_among m missing ≡ false → has m ≡ count) → (m : ℕ) → all_seen count members missing seen m ≤ has m
unfolding all_seen
all_seen_within members missing count seen has low given m = by (is_among m members) (is_among m missing) refl refl
  where
    by : (b c : Bool) → is_among m members ≡ b → is_among m missing ≡ c → cond (b && not c) count (seen m) ≤ has m
    by true false e f = (let g = given m e f in omega arith)
    by true true e f = low m
    by false c e f = low m

pub unsure_counted : (members missing : List ℕ) (d : Database) (has : ℕ → ℕ) → Counted members d has → ((m : ℕ) → is_among m members ≡ true → is_among m missing ≡ false → has m ≡ length d.commits) →
    Counted members (record d { committer = None; seen = all_seen (length d.commits) members missing d.seen }) has
unsure_counted members missing d has c given = record { within = c.within; known = c.known; acked = c.acked; seen = all_seen_within members missing (length d.commits) d.seen has c.seen given; begun = λ m e. absurd (cc) }

pub committed_counted : (members : List ℕ) (d : Database) (has : ℕ → ℕ) → Counted members d has → ((m : ℕ) → is_among m members ≡ true → has m ≡ length d.commits) →
    Counted members (record d { committer = None; acked = length d.commits; seen = all_seen (length d.commits) members [] d.seen }) has
committed_counted members d has c given = record {
  within = c.within;
  known = omega arith;
  acked = λ m among. (let g = given m among in omega arith);
  seen = all_seen_within members [] (length d.commits) d.seen has c.seen (λ m among there. given m among);
  begun = λ m e. absurd (cc);
}
