-- What the runs through a round have in common.
use Rattle.std.proofs.Common.{◌≡◌, ◌≢◌, ℕ, ◌≤◌, List, [], ◌∷◌, length, refl}
use Rattle.std.specs.Prelude.{Option, None, Some, true, false}
use Rattle.ct_rules_cluster.specs.Labels.{Ticket}
use Rattle.ct_rules_node.specs.Node.{is_among}
use Rattle.ct_register.specs.Words
use Rattle.ct_register.specs.Register
use Rattle.ct_register.specs.Register.{Register}
use Rattle.ct_register.specs.Database.{Database}
use Rattle.ct_register.specs.Lines
use Rattle.ct_register.specs.Lines.{Lines}
use Rattle.ct_register.specs.Births
use Rattle.ct_register_worked.specs.Runs.{config, both}
use Rattle.ct_register.proofs.Places.{at_all}
use Rattle.ct_register.proofs.Small.{nought, below_next, up_to}
use Rattle.ct_register.proofs.Ways.{labels_after}

-- nobody owns any record
abbrev pub Unowned : (ℕ → ℕ → List ℕ → Register) → Type 0
Unowned records = (l db : ℕ) (key : List ℕ) → (records l db key).owner ≡ None

pub unowned_at : (g : ℕ) (new : ℕ → List ℕ → Register) (old : ℕ → ℕ → List ℕ → Register) → ((db : ℕ) (key : List ℕ) → (new db key).owner ≡ None) → Unowned old → Unowned (Words.at g new old)
unowned_at g new old none all = at_all (λ (f : ℕ → List ℕ → Register). (db : ℕ) (key : List ℕ) → (f db key).owner ≡ None) g new old none all

pub unowned_by : (n : ℕ) (records : ℕ → ℕ → List ℕ → Register) → Unowned records → (l db : ℕ) (key : List ℕ) → (records l db key).owner ≢ Some n
unowned_by n records all l db key = λ e. (let f = all l db key in absurd (cc))

pub nobody : (n : ℕ) → Register.owner_without n None ≡ None
unfolding Register.owner_without
nobody n = refl

pub two_not_zero : ◌≢◌ {A = ℕ} 2 0
two_not_zero = λ e. cc

-- nobody has seen more versions than there are
abbrev pub SeenWithin : Register → Type 0
SeenWithin x = (m : ℕ) → x.seen m ≤ length x.versions

-- a round from line 1, of a state in which no commit was made
pub births : (r : Lines) (h : ℕ) (ms : List ℕ) (counts : ℕ → List ℕ → ℕ) (m : ℕ) → r.leader 2 ≡ Some h → r.members 2 ≡ ms → r.born 2 ≡ false → is_among m ms ≡ true → r.had 2 m 1 ≡ true →
    ((db : ℕ) (key : List ℕ) → counts db key ≤ length (r.records 1 db key).versions) → ((db k : ℕ) (key : List ℕ) → is_among k ms ≡ true → (r.records 1 db key).seen k ≤ counts db key) →
    Births.Birth r 2 h ms 1 counts
births r h ms counts m given named unborn among had within seen = record {
  given = given;
  named = named;
  unborn = unborn;
  older = below_next 1;
  greatest = λ k is low. up_to _ _ low;
  had = (m, among, had);
  within = λ db key _. within db key;
  seen = λ db k key _ is _. seen db k key is;
}

pub persistent_births : (r : Lines) (ms : List ℕ) (kept : ℕ → ℕ) (m : ℕ) → is_among m ms ≡ true → r.phad 2 m 1 ≡ true → ((db : ℕ) → kept db ≤ length (r.databases 1 db).commits) →
    ((db : ℕ) → (r.databases 1 db).acked ≤ kept db) → ((db k : ℕ) → is_among k ms ≡ true → (r.databases 1 db).seen k ≤ kept db) → Births.PersistentBirth r 2 ms 1 kept
persistent_births r ms kept m among had within acked seen = record {
  older = below_next 1;
  greatest = λ k is low. up_to _ _ low;
  had = (m, among, had);
  within = within;
  acked = acked;
  seen = λ db k is _. seen db k is;
}

-- ---- a round of both nodes from the opening

unfoldable pub both_front : Lines
both_front = labels_after (Ticket 2 0 both ∷ []) (Lines.opening config)

pub both_births : Births.Birth both_front 2 0 both 1 (λ _ _. 0)
unfolding both_front Words.at is_among
both_births = births both_front 0 both (λ _ _. 0) 0 refl refl refl refl refl (λ db key. nought _) (λ db k key _. nought 0)

pub both_persistent : Births.PersistentBirth both_front 2 both 1 (λ _. 0)
unfolding both_front Words.at is_among
both_persistent = persistent_births both_front both (λ _. 0) 0 refl refl (λ db. nought _) (λ db. nought 0) (λ db k _. nought 0)

unfoldable pub both_born : Lines
both_born = Births.born_of 2 1 (λ _ _. 0) 1 (λ _. 0) both_front

pub both_unowned : Unowned both_born.records
unfolding both_born both_front Words.at
both_unowned = unowned_at 2 (λ db key. both_born.records 2 db key) (λ _ _ _. Register.newborn []) (λ db key. refl) (λ l db key. refl)

unfoldable pub both_one : Lines
both_one = Lines.joined 2 0 both_born

pub both_one_unowned : Unowned both_one.records
unfolding both_one
both_one_unowned = unowned_at 2 (λ db key. Register.joined_by 0 (both_born.records 2 db key)) both_born.records (both_unowned 2) both_unowned

-- ---- what newer lines took over of a commit

-- the database 2 of each line that took over from line g has its commits up to this number
abbrev pub TookAll : ℕ → ℕ → (ℕ → ℕ → Database) → Type 0
TookAll g number f = (l k : ℕ) → (f l 2).from g ≡ Some k → number ≤ k

pub took_all : (g number l : ℕ) (dbs : ℕ → Database) (f : ℕ → ℕ → Database) → ((k : ℕ) → (dbs 2).from g ≡ Some k → number ≤ k) → TookAll g number f → TookAll g number (Words.at l dbs f)
took_all g number l dbs f own rest = at_all (λ (dbs : ℕ → Database). (k : ℕ) → (dbs 2).from g ≡ Some k → number ≤ k) l dbs f own rest

pub of_none : (number : ℕ) (o : Option ℕ) → o ≡ None → (k : ℕ) → o ≡ Some k → number ≤ k
of_none number o none k some = absurd (cc)
