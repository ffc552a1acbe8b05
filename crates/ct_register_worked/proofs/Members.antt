-- The runs that are legal, and what the registers show then: a commit, and the members of its line.
use Rattle.std.proofs.Common.{◌≡◌, ℕ, ◌≤◌, true, [], ◌∷◌, refl}
use Rattle.std.specs.Prelude.{None}
use Rattle.ct_rules_node.specs.Node.{is_among, has_records, kind_at, kind_in, name_in, name_of}
use Rattle.ct_register.specs.Words
use Rattle.ct_register.specs.Register
use Rattle.ct_register.specs.Database
use Rattle.ct_register.specs.Database.{Database}
use Rattle.ct_register.specs.Lines
use Rattle.ct_register.specs.Lines.{Lines}
use Rattle.ct_register.specs.Births
use Rattle.ct_rules_cluster.specs.Labels.{Ticket}
use Rattle.ct_register_worked.specs.Runs.{config, both, locks_database, begins, AcknowledgedOnceInstalled, UnsureBeforeInstalled, UnsureWithoutMember}
use Rattle.ct_register.proofs.Places.{of_two}
use Rattle.ct_register.proofs.Small.{one_not_zero, nought, same, below_next}
use Rattle.ct_register.proofs.Ways.{labels_after}
use Rattle.ct_register_worked.proofs.Rounds.{Unowned, unowned_at, unowned_by, two_not_zero, births, persistent_births, both_front, both_births, both_persistent, both_born, both_unowned, both_one, both_one_unowned, TookAll, took_all, of_none}

-- ---- all members of line 2 have installed it, or one has not

both_two : Lines
both_two = Lines.joined 2 1 both_one

all_there : (m : ℕ) → is_among m both ≡ true → 2 ≤ both_two.pline m
unfolding both_two both_one both_born both_front Words.at
all_there = of_two (λ m. 2 ≤ both_two.pline m) (same 2) (same 2)

begun : Lines
begun = labels_after (locks_database 0 ∷ begins 0 ∷ []) both_two

-- no line took over from line 2
none_took : TookAll 2 1 begun.databases
unfolding begun both_two both_one both_born both_front Words.at
none_took = took_all 2 1 2 (λ db. begun.databases 2 db) both_two.databases (of_none 1 None refl)
    (took_all 2 1 2 (λ db. both_two.databases 2 db) both_one.databases (of_none 1 None refl)
    (took_all 2 1 2 (λ db. both_one.databases 2 db) both_born.databases (of_none 1 None refl)
    (took_all 2 1 2 (λ db. both_born.databases 2 db) both_front.databases (of_none 1 None refl) (λ l. of_none 1 None refl))))

pub acknowledged_once_installed : AcknowledgedOnceInstalled
unfolding begun both_two both_one both_born both_front Words.at Words.at_key is_among Database.newest Database.all_seen Lines.also_had Register.reading kind_at kind_in name_in name_of has_records Births.birth_list Births.taken_over Births.unless_empty
acknowledged_once_installed =
    (_, (_, (refl, tt, refl), (both_born, ((λ _ _. 0), (λ _. 0), both_births, both_persistent, refl), (both_one, (refl, refl, below_next 1, unowned_by 0 both_born.records both_unowned, refl), (both_two, (refl, refl, below_next 1, unowned_by 1 both_one.records both_one_unowned, refl), (_, (two_not_zero, refl, _, (refl, refl, refl), refl), (begun, (two_not_zero, refl, _, (refl, refl, refl), refl), (_, (refl, (all_there, none_took), (two_not_zero, refl, _, (record { begun = refl; newest = refl; unacknowledged = below_next 0; numbered = refl }, refl), refl)), refl))))))), (refl, refl, refl, refl))

pub unsure_before_installed : UnsureBeforeInstalled
unfolding both_one both_born both_front Words.at Words.at_key is_among Database.newest Database.all_seen Lines.also_had Register.reading kind_at kind_in name_in name_of has_records Births.birth_list Births.taken_over Births.unless_empty
unsure_before_installed =
    (_, (_, (refl, tt, refl), (both_born, ((λ _ _. 0), (λ _. 0), both_births, both_persistent, refl), (both_one, (refl, refl, below_next 1, unowned_by 0 both_born.records both_unowned, refl), (_, (two_not_zero, refl, _, (refl, refl, refl), refl), (_, (two_not_zero, refl, _, (refl, refl, refl), refl), (_, (refl, tt, (two_not_zero, refl, _, (record { begun = refl; newest = refl; unacknowledged = below_next 0; numbered = refl }, ((λ e. cc), refl, refl), refl), refl)), refl)))))), (refl, refl, refl, refl))

-- ---- a member has left for a line that took over nothing of the commit

left_front : Lines
left_front = labels_after (Ticket 2 1 (1 ∷ []) ∷ []) (Lines.opening config)

left_births : Births.Birth left_front 2 1 (1 ∷ []) 1 (λ _ _. 0)
unfolding left_front Words.at is_among
left_births = births left_front 1 (1 ∷ []) (λ _ _. 0) 1 refl refl refl refl refl (λ db key. nought _) (λ db k key _. nought 0)

left_persistent : Births.PersistentBirth left_front 2 (1 ∷ []) 1 (λ _. 0)
unfolding left_front Words.at is_among
left_persistent = persistent_births left_front (1 ∷ []) (λ _. 0) 1 refl refl (λ db. nought _) (λ db. nought 0) (λ db k _. nought 0)

left_born : Lines
left_born = Births.born_of 2 1 (λ _ _. 0) 1 (λ _. 0) left_front

left_unowned : Unowned left_born.records
unfolding left_born left_front Words.at
left_unowned = unowned_at 2 (λ db key. left_born.records 2 db key) (λ _ _ _. Register.newborn []) (λ db key. refl) (λ l db key. refl)

pub unsure_without_member : UnsureWithoutMember
unfolding left_born left_front Words.at Words.at_key is_among Database.newest Database.all_seen Lines.also_had Register.reading kind_at kind_in name_in name_of has_records
unsure_without_member =
    (_, (_, (refl, tt, refl), (left_born, ((λ _ _. 0), (λ _. 0), left_births, left_persistent, refl), (Lines.joined 2 1 left_born, (refl, refl, below_next 1, unowned_by 1 left_born.records left_unowned, refl), (_, (one_not_zero, refl, _, (refl, refl, refl), refl), (_, (one_not_zero, refl, _, (refl, refl, refl), refl), (_, (refl, tt, (one_not_zero, refl, _, (record { begun = refl; newest = refl; unacknowledged = below_next 0; numbered = refl }, ((λ e. cc), refl, refl), refl), refl)), refl)))))), ((refl, refl, refl, refl), (refl, refl, refl, refl)))
