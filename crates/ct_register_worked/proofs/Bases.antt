-- The runs that are legal, and what the registers show then: a commit, and a round after it.
use Rattle.std.proofs.Common.{◌≡◌, ◌≢◌, ℕ, ◌≤◌, true, List, [], ◌∷◌, length, refl, sym, subst, arith}
use Rattle.std.specs.Prelude.{None, Some}
use Rattle.ct_values.specs.declared.client.Answer.TheVariants as answer
use Rattle.ct_persist.specs.Updates
use Rattle.ct_persist.specs.Persisted
use Rattle.ct_rules_node.specs.Node.{is_among, has_records, kind_at, kind_in, name_in, name_of}
use Rattle.ct_register.specs.Words
use Rattle.ct_register.specs.Register
use Rattle.ct_register.specs.Register.{Register}
use Rattle.ct_register.specs.Database
use Rattle.ct_register.specs.Database.{Database}
use Rattle.ct_register.specs.Lines
use Rattle.ct_register.specs.Lines.{Lines}
use Rattle.ct_register.specs.Births
use Rattle.ct_rules_cluster.specs.Labels.{Ticket, Stopped}
use Rattle.ct_register_worked.specs.Runs.{config, x, both, one_write, locks_database, begins, is_unsure, ends_database, UnsureMayBeLost, UnsureMayBeKept, AcknowledgedAsTakenOver}
use Rattle.ct_register.proofs.Places.{Everywhere, everywhere_at, at_all, at_twice, at_key_twice, of_one, of_two}
use Rattle.ct_register.proofs.Small.{one_not_zero, nought, same, below_next}
use Rattle.ct_register.proofs.Ways.{labels_after, database_after, begun_after}
use Rattle.ct_register.proofs.Formed.{all_seen_counted}
use Rattle.ct_register_worked.proofs.Rounds.{Unowned, unowned_at, unowned_by, nobody, births, persistent_births, TookAll, took_all, of_none}

-- nobody has seen any version
abbrev pub SeenNone : Register → Type 0
SeenNone x = (m : ℕ) → x.seen m ≤ 0

-- as many commits are acknowledged, and seen by each node, as there are at most
abbrev pub Within : Database → Type 0
Within d = (d.acked ≤ length d.commits) × ((m : ℕ) → d.seen m ≤ length d.commits)

-- ---- a commit that is unsure

locked : Register
locked = Register.owned_by 0 (Register.newborn [])

locked_line : ℕ → List ℕ → Register
locked_line = Words.at 0 (Words.at_key (112 ∷ []) locked (λ _. Register.newborn [])) (λ _ _. Register.newborn [])

locked_seen : SeenNone locked
unfolding locked
locked_seen = at_all (λ (c : ℕ). c ≤ 0) 0 0 (λ _. 0) (nought 0) (λ _. nought 0)

locked_line_seen : Everywhere SeenNone locked_line
unfolding locked_line
locked_line_seen = everywhere_at SeenNone 0 (112 ∷ []) locked (λ _ _. Register.newborn []) locked_seen (λ _ _ m. nought 0)

ended_seen : Everywhere SeenNone (Words.at 0 (Words.at_key (112 ∷ []) (Register.released locked) (locked_line 0)) locked_line)
ended_seen = everywhere_at SeenNone 0 (112 ∷ []) (Register.released locked) locked_line locked_seen locked_line_seen

begun_line : ℕ → Database
begun_line = Words.at 2 (begun_after 0 one_write (Database.newborn 0 [] (λ _. None))) (λ _. Database.newborn 0 [] (λ _. None))

unsure : Database
unsure = database_after both (answer.Unsure 1 (1 ∷ [])) (begun_after 0 one_write (Database.newborn 0 [] (λ _. None)))

begun_seen : (m : ℕ) → (begun_after 0 one_write (Database.newborn 0 [] (λ _. None))).seen m ≤ 1
begun_seen = at_all (λ (c : ℕ). c ≤ 1) 0 1 (λ _. 0) (same 1) (λ _. nought 1)

unsure_within : (db : ℕ) → Within (Words.at 2 unsure begun_line db)
unfolding unsure begun_line
unsure_within = at_all Within 2 unsure begun_line (nought 1, all_seen_counted 1 both (1 ∷ []) _ begun_seen) (at_all Within 2 (begun_after 0 one_write (Database.newborn 0 [] (λ _. None))) (λ _. Database.newborn 0 [] (λ _. None)) (nought 1, begun_seen) (λ _. (nought 0, λ m. nought 0)))

begun_within : (db : ℕ) → Within (begun_line db)
unfolding begun_line
begun_within = at_all Within 2 (begun_after 0 one_write (Database.newborn 0 [] (λ _. None))) (λ _. Database.newborn 0 [] (λ _. None)) (nought 1, begun_seen) (λ _. (nought 0, λ m. nought 0))

-- ---- a round that keeps it

kept_front : Lines
kept_front = labels_after (locks_database 0 ∷ begins 0 ∷ is_unsure 0 1 (1 ∷ []) ∷ ends_database 0 ∷ Ticket 2 1 both ∷ []) (Lines.opening config)

all_commits : Lines → ℕ → ℕ
all_commits r db = length (r.databases 1 db).commits

kept_births : Births.Birth kept_front 2 1 both 1 (λ _ _. 0)
unfolding kept_front locked_line locked Words.at Words.at_key is_among
kept_births = births kept_front 1 both (λ _ _. 0) 0 refl refl refl refl refl (λ db key. nought _) (λ db k key _. ended_seen db key k)

kept_persistent : Births.PersistentBirth kept_front 2 both 1 (all_commits kept_front)
unfolding kept_front all_commits unsure begun_line Words.at is_among
kept_persistent = persistent_births kept_front both (all_commits kept_front) 0 refl refl (λ db. same _) (λ db. (unsure_within db).0) (λ db k is. (unsure_within db).1 k)

-- who had locked it does so no more
ended_unowned : Everywhere (λ r. r.owner ≡ None) (Words.at 0 (Words.at_key (112 ∷ []) (Register.released locked) (locked_line 0)) locked_line)
unfolding locked_line Words.at
ended_unowned = at_twice (λ (f : List ℕ → Register). (k : List ℕ) → (f k).owner ≡ None) 0 (Words.at_key (112 ∷ []) (Register.released locked) (Words.at_key (112 ∷ []) locked (λ _. Register.newborn []))) (Words.at_key (112 ∷ []) locked (λ _. Register.newborn [])) (λ _ _. Register.newborn [])
    (at_key_twice (λ (r : Register). r.owner ≡ None) (112 ∷ []) (Register.released locked) locked (λ _. Register.newborn []) refl (λ _. refl)) (λ _ _. refl)

ended_records : ℕ → ℕ → List ℕ → Register
ended_records = Words.at 1 (Words.at 0 (Words.at_key (112 ∷ []) (Register.released locked) (locked_line 0)) locked_line) (Words.at 1 locked_line (λ _ _ _. Register.newborn []))

ended_records_unowned : Unowned ended_records
unfolding ended_records
ended_records_unowned = at_twice (λ (f : ℕ → List ℕ → Register). (db : ℕ) (key : List ℕ) → (f db key).owner ≡ None) 1 (Words.at 0 (Words.at_key (112 ∷ []) (Register.released locked) (locked_line 0)) locked_line) locked_line (λ _ _ _. Register.newborn []) ended_unowned (λ _ _ _. refl)

kept_born : Lines
kept_born = Births.born_of 2 1 (λ _ _. 0) 1 (all_commits kept_front) kept_front

kept_unowned : Unowned kept_born.records
unfolding kept_born kept_front ended_records locked_line locked Words.at Words.at_key
kept_unowned = unowned_at 2 (λ db key. kept_born.records 2 db key) ended_records (λ db key. refl) ended_records_unowned

pub unsure_may_be_kept : UnsureMayBeKept
unfolding kept_born kept_front all_commits Words.at Words.at_key is_among Database.newest Database.all_seen Lines.also_had Register.reading kind_at kind_in name_in name_of has_records Updates.contents Persisted.written
unsure_may_be_kept =
    (_, (_, (one_not_zero, refl, _, (refl, refl, refl), refl), (_, (one_not_zero, refl, _, (refl, refl, refl), refl), (_, (refl, tt, (one_not_zero, refl, _, (record { begun = refl; newest = refl; unacknowledged = below_next 0; numbered = refl }, ((λ e. cc), refl, refl), refl), refl)), (_, (one_not_zero, refl, _, (refl, refl), refl), (_, (refl, tt, refl), (kept_born, ((λ _ _. 0), all_commits kept_front, kept_births, kept_persistent, refl), (Lines.joined 2 1 kept_born, (refl, refl, below_next 1, unowned_by 1 kept_born.records kept_unowned, refl), refl))))))), ((refl, refl, refl, refl), refl, refl))

-- ---- a round that loses it

lost_front : Lines
lost_front = labels_after (locks_database 0 ∷ begins 0 ∷ is_unsure 0 1 (1 ∷ []) ∷ ends_database 0 ∷ Stopped 0 ∷ Ticket 2 1 (1 ∷ []) ∷ []) (Lines.opening config)

stopped_seen : Everywhere SeenNone (λ db key. Register.left_by 0 (Words.at 0 (Words.at_key (112 ∷ []) (Register.released locked) (locked_line 0)) locked_line db key))
stopped_seen db key = at_all (λ (c : ℕ). c ≤ 0) 0 0 (Words.at 0 (Words.at_key (112 ∷ []) (Register.released locked) (locked_line 0)) locked_line db key).seen (nought 0) (ended_seen db key)

lost_births : Births.Birth lost_front 2 1 (1 ∷ []) 1 (λ _ _. 0)
unfolding lost_front locked_line locked Words.at Words.at_key is_among
lost_births = births lost_front 1 (1 ∷ []) (λ _ _. 0) 1 refl refl refl refl refl (λ db key. nought _) (λ db k key _. stopped_seen db key k)

lost_seen : (db : ℕ) → (Words.at 2 unsure begun_line db).seen 1 ≤ 0
unfolding unsure begun_line Words.at Database.all_seen is_among
lost_seen = at_all (λ (d : Database). d.seen 1 ≤ 0) 2 unsure begun_line (nought 0) (at_all (λ (d : Database). d.seen 1 ≤ 0) 2 (begun_after 0 one_write (Database.newborn 0 [] (λ _. None))) (λ _. Database.newborn 0 [] (λ _. None)) (nought 0) (λ _. nought 0))

lost_persistent : Births.PersistentBirth lost_front 2 (1 ∷ []) 1 (λ _. 0)
unfolding lost_front unsure begun_line Words.at is_among
lost_persistent = persistent_births lost_front (1 ∷ []) (λ _. 0) 1 refl refl (λ db. nought _) (at_all (λ (d : Database). d.acked ≤ 0) 2 unsure begun_line (nought 0) (at_all (λ (d : Database). d.acked ≤ 0) 2 (begun_after 0 one_write (Database.newborn 0 [] (λ _. None))) (λ _. Database.newborn 0 [] (λ _. None)) (nought 0) (λ _. nought 0)))
    (λ db k among. of_one (λ k. (lost_front.databases 1 db).seen k ≤ 0) 1 (lost_seen db) k among)

lost_born : Lines
lost_born = Births.born_of 2 1 (λ _ _. 0) 1 (λ _. 0) lost_front

stopped_unowned : Everywhere (λ r. r.owner ≡ None) (λ db key. Register.left_by 0 (Words.at 0 (Words.at_key (112 ∷ []) (Register.released locked) (locked_line 0)) locked_line db key))
stopped_unowned db key =
    subst (λ o. Register.owner_without 0 o ≡ None) (sym (ended_unowned db key)) (nobody 0)

lost_unowned : Unowned lost_born.records
unfolding lost_born lost_front ended_records locked_line locked Words.at Words.at_key
lost_unowned = unowned_at 2 (λ db key. lost_born.records 2 db key) _ (λ db key. refl) (unowned_at 1 _ ended_records stopped_unowned ended_records_unowned)

pub unsure_may_be_lost : UnsureMayBeLost
unfolding lost_born lost_front Words.at Words.at_key is_among Database.newest Database.all_seen Lines.also_had Register.reading kind_at kind_in name_in name_of has_records Updates.contents Persisted.written Register.owner_without
unsure_may_be_lost =
    (_, (_, (one_not_zero, refl, _, (refl, refl, refl), refl), (_, (one_not_zero, refl, _, (refl, refl, refl), refl), (_, (refl, tt, (one_not_zero, refl, _, (record { begun = refl; newest = refl; unacknowledged = below_next 0; numbered = refl }, ((λ e. cc), refl, refl), refl), refl)), (_, (one_not_zero, refl, _, (refl, refl), refl), (_, refl, (_, (refl, tt, refl), (lost_born, ((λ _ _. 0), (λ _. 0), lost_births, lost_persistent, refl), (Lines.joined 2 1 lost_born, (refl, refl, below_next 1, unowned_by 1 lost_born.records lost_unowned, refl), refl)))))))), ((refl, refl, refl, refl), refl, refl))

-- ---- a commit that is acknowledged once a member has left for a line that took it over

taken_front : Lines
taken_front = labels_after (Ticket 2 1 (1 ∷ []) ∷ locks_database 0 ∷ begins 0 ∷ []) (Lines.opening config)

taken_births : Births.Birth taken_front 2 1 (1 ∷ []) 1 (λ _ _. 0)
unfolding taken_front locked_line locked Words.at Words.at_key is_among
taken_births = births taken_front 1 (1 ∷ []) (λ _ _. 0) 1 refl refl refl refl refl (λ db key. nought _) (λ db k key _. locked_line_seen db key k)

taken_persistent : Births.PersistentBirth taken_front 2 (1 ∷ []) 1 (all_commits taken_front)
unfolding taken_front all_commits begun_line Words.at is_among
taken_persistent = persistent_births taken_front (1 ∷ []) (all_commits taken_front) 1 refl refl (λ db. same _) (λ db. (begun_within db).0) (λ db k is. (begun_within db).1 k)

taken_born : Lines
taken_born = Births.born_of 2 1 (λ _ _. 0) 1 (all_commits taken_front) taken_front

-- node 0 has the lock, and node 1 has none
locked_not_one : Everywhere (λ r. r.owner ≢ Some 1) locked_line
unfolding locked_line locked
locked_not_one = everywhere_at (λ r. r.owner ≢ Some 1) 0 (112 ∷ []) locked (λ _ _. Register.newborn []) (λ e. cc) (λ _ _ e. cc)

-- node 1 owns nothing
abbrev NotOne : (ℕ → List ℕ → Register) → Type 0
NotOne records = Everywhere (λ r. r.owner ≢ Some 1) records

taken_unowned : (l db : ℕ) (key : List ℕ) → (taken_born.records l db key).owner ≢ Some 1
unfolding taken_born taken_front locked_line locked Words.at Words.at_key
taken_unowned = at_all NotOne 2 (λ db key. taken_born.records 2 db key) (Words.at 1 locked_line (λ _ _ _. Register.newborn [])) (λ db key e. cc)
    (at_all NotOne 1 locked_line (λ _ _ _. Register.newborn []) locked_not_one (λ _ db key e. cc))

taken_one : Lines
taken_one = Lines.joined 2 1 taken_born

one_in_two : 1 ≤ 2
one_in_two = omega arith

all_there : (m : ℕ) → is_among m both ≡ true → 1 ≤ taken_one.pline m
unfolding taken_one taken_born taken_front Words.at
all_there = of_two (λ m. 1 ≤ taken_one.pline m) (same 1) one_in_two

some_one : (k : ℕ) → Some 1 ≡ Some k → 1 ≤ k
some_one k e = let is : 1 ≡ k = cc in subst (λ n. 1 ≤ n) is (same 1)

-- line 2 alone took over from line 1
all_took : TookAll 1 1 taken_one.databases
unfolding taken_one taken_born taken_front all_commits begun_line Words.at
all_took = took_all 1 1 2 (λ db. taken_one.databases 2 db) taken_born.databases some_one
    (took_all 1 1 2 (λ db. taken_born.databases 2 db) taken_front.databases some_one
    (took_all 1 1 1 begun_line (λ _ _. Database.newborn 0 [] (λ _. None)) (of_none 1 None refl) (λ l. of_none 1 None refl)))

pub acknowledged_as_taken_over : AcknowledgedAsTakenOver
unfolding taken_one taken_born taken_front all_commits Words.at Words.at_key is_among Database.newest Database.all_seen Lines.also_had Register.reading kind_at kind_in name_in name_of has_records Updates.contents Persisted.written
acknowledged_as_taken_over =
    (_, (_, (refl, tt, refl), (_, (one_not_zero, refl, _, (refl, refl, refl), refl), (_, (one_not_zero, refl, _, (refl, refl, refl), refl), (taken_born, ((λ _ _. 0), all_commits taken_front, taken_births, taken_persistent, refl), (taken_one, (refl, refl, below_next 1, taken_unowned, refl), (_, (refl, (all_there, all_took), (one_not_zero, refl, _, (record { begun = refl; newest = refl; unacknowledged = below_next 0; numbered = refl }, refl), refl)), refl)))))), ((refl, refl, refl, refl), (refl, refl, refl, refl), refl))
