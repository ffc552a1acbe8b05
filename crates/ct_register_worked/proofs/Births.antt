-- The runs that are legal, and what the registers show then: runs through a round.
use Rattle.std.proofs.Common.{◌≡◌, ℕ, ◌≤◌, List, [], ◌∷◌, length, refl, inl}
use Rattle.std.specs.Prelude.{None, true}
use Rattle.ct_rules_node.specs.Node.{is_among, has_records, kind_at, kind_in}
use Rattle.ct_register.specs.Words
use Rattle.ct_register.specs.Register
use Rattle.ct_register.specs.Register.{Register}
use Rattle.ct_register.specs.Lines
use Rattle.ct_register.specs.Lines.{Lines}
use Rattle.ct_register.specs.Births
use Rattle.ct_rules_cluster.specs.Labels.{Ticket, Stopped}
use Rattle.ct_register_worked.specs.Runs.{config, a, x, both, writes, RoundKeeps, RoundEmpties, RoundMayLose}
use Rattle.ct_register.proofs.Places.{everywhere_at, at_all, of_two, of_one}
use Rattle.ct_register.proofs.Small.{one_not_zero, nought, same, below_next}
use Rattle.ct_register.proofs.Ways.{labels_after}
use Rattle.ct_register_worked.proofs.Rounds.{Unowned, SeenWithin, unowned_at, unowned_by, nobody, two_not_zero, births, persistent_births}

-- ---- a round that keeps

kept_front : Lines
kept_front = labels_after (writes 0 x ∷ Ticket 2 1 both ∷ []) (Lines.opening config)

all_versions : Lines → ℕ → List ℕ → ℕ
all_versions r db key = length (r.records 1 db key).versions

wrote : ℕ → List ℕ → Register
wrote n v = Register.with_version n v (Register.newborn [])

seen_wrote : (n : ℕ) (v : List ℕ) → SeenWithin (wrote n v)
unfolding wrote
seen_wrote n v = at_all (λ (c : ℕ). c ≤ 1) n 1 (λ _. 0) (same 1) (λ _. nought 1)

kept_births : Births.Birth kept_front 2 1 both 1 (all_versions kept_front)
unfolding kept_front all_versions wrote Words.at is_among
kept_births =
    births kept_front 1 both (all_versions kept_front) 0 refl refl refl refl refl (λ db key. same _) (λ db k key _. everywhere_at SeenWithin 1 a (wrote 0 x) (λ _ _. Register.newborn []) (seen_wrote 0 x) (λ _ _ m. nought 0) db key k)

kept_persistent : Births.PersistentBirth kept_front 2 both 1 (λ db. 0)
unfolding kept_front is_among Words.at
kept_persistent = persistent_births kept_front both (λ db. 0) 0 refl refl (λ db. nought 0) (λ db. nought 0) (λ db k is. nought 0)

kept_born : Lines
kept_born = Births.born_of 2 1 (all_versions kept_front) 1 (λ db. 0) kept_front

kept_unowned : Unowned kept_born.records
unfolding kept_born kept_front wrote
kept_unowned =
    unowned_at 2 _ _ (λ db key. refl) (unowned_at 1 _ _ (everywhere_at (λ r. r.owner ≡ None) 1 a (wrote 0 x) (λ _ _. Register.newborn []) refl (λ _ _. refl)) (λ l db key. refl))

kept_one : Lines
kept_one = Lines.joined 2 0 kept_born

kept_two : Lines
kept_two = Lines.joined 2 1 kept_one

kept_one_unowned : Unowned kept_one.records
unfolding kept_one
kept_one_unowned = unowned_at 2 _ _ (kept_unowned 2) kept_unowned

kept_thawed : (m : ℕ) → is_among m both ≡ true → kept_two.installed 2 m ≡ true
unfolding kept_two kept_one kept_born kept_front Words.at
kept_thawed = of_two (λ m. kept_two.installed 2 m ≡ true) refl refl

pub round_keeps : RoundKeeps
unfolding kept_two kept_one kept_born kept_front all_versions Words.at Words.at_key is_among Lines.also_had Register.reading kind_at kind_in has_records Births.birth_list Births.taken_over Births.unless_empty
round_keeps =
    (_, (_, (one_not_zero, refl, _, (refl, refl), refl), (_, (refl, tt, refl), (kept_born, (all_versions kept_front, (λ db. 0), kept_births, kept_persistent, refl), (kept_one, (refl, refl, below_next 1, unowned_by 0 kept_born.records kept_unowned, refl), (kept_two, (refl, refl, below_next 1, unowned_by 1 kept_one.records kept_one_unowned, refl), (_, (two_not_zero, refl, kept_thawed, refl), (_, (two_not_zero, refl, kept_thawed, refl), (_, (two_not_zero, refl, _, (refl, refl, refl), refl), refl)))))))), (refl, refl, refl, refl))

-- ---- a round that loses what nobody saw who is there

lost_front : Lines
lost_front = labels_after (writes 1 x ∷ Stopped 1 ∷ Ticket 2 0 (0 ∷ []) ∷ []) (Lines.opening config)

lost_births : Births.Birth lost_front 2 0 (0 ∷ []) 1 (λ _ _. 0)
unfolding lost_front wrote Words.at is_among
lost_births =
    births lost_front 0 (0 ∷ []) (λ _ _. 0) 0 refl refl refl refl refl (λ db key. nought _) (λ db k key among. of_one (λ k. (lost_front.records 1 db key).seen k ≤ 0) 0
    (everywhere_at (λ r. r.seen 0 ≤ 0) 1 a (wrote 1 x) (λ _ _. Register.newborn []) (nought 0) (λ _ _. nought 0) db key) k among)

lost_persistent : Births.PersistentBirth lost_front 2 (0 ∷ []) 1 (λ db. 0)
unfolding lost_front is_among Words.at
lost_persistent = persistent_births lost_front (0 ∷ []) (λ db. 0) 0 refl refl (λ db. nought 0) (λ db. nought 0) (λ db k is. nought 0)

lost_born : Lines
lost_born = Births.born_of 2 1 (λ _ _. 0) 1 (λ db. 0) lost_front

lost_unowned : Unowned lost_born.records
unfolding lost_born lost_front wrote Words.at
lost_unowned =
    unowned_at 2 _ _ (λ db key. refl) (unowned_at 1 _ _ (everywhere_at (λ r. Register.owner_without 1 r.owner ≡ None) 1 a (wrote 1 x) (λ _ _. Register.newborn []) (nobody 1) (λ _ _. nobody 1)) (unowned_at 1 _ _ (everywhere_at (λ r. r.owner ≡ None) 1 a (wrote 1 x) (λ _ _. Register.newborn []) refl (λ _ _. refl)) (λ l db key. refl)))

pub round_may_lose : RoundMayLose
unfolding lost_born lost_front Words.at Words.at_key is_among Lines.also_had Register.reading kind_at kind_in has_records Births.birth_list Births.taken_over Births.unless_empty Register.owner_without
round_may_lose =
    (_, (_, (one_not_zero, refl, _, (refl, refl), refl), (_, refl, (_, (refl, tt, refl), (lost_born, ((λ _ _. 0), (λ db. 0), lost_births, lost_persistent, refl), (Lines.joined 2 0 lost_born, (refl, refl, below_next 1, unowned_by 0 lost_born.records lost_unowned, refl), (_, (two_not_zero, refl, of_one (λ m. (Lines.joined 2 0 lost_born).installed 2 m ≡ true) 0 refl, refl), (_, inl (two_not_zero, refl, _, (tt, refl, refl), refl), refl))))))), (refl, refl, refl, refl))

-- ---- a round that takes nothing over

empty_front : Lines
empty_front = labels_after (writes 0 [] ∷ Ticket 2 1 both ∷ []) (Lines.opening config)

empty_births : Births.Birth empty_front 2 1 both 1 (all_versions empty_front)
unfolding empty_front all_versions wrote Words.at is_among
empty_births =
    births empty_front 1 both (all_versions empty_front) 0 refl refl refl refl refl (λ db key. same _) (λ db k key _. everywhere_at SeenWithin 1 a (wrote 0 []) (λ _ _. Register.newborn []) (seen_wrote 0 []) (λ _ _ m. nought 0) db key k)

empty_persistent : Births.PersistentBirth empty_front 2 both 1 (λ db. 0)
unfolding empty_front is_among Words.at
empty_persistent = persistent_births empty_front both (λ db. 0) 0 refl refl (λ db. nought 0) (λ db. nought 0) (λ db k is. nought 0)

pub round_empties : RoundEmpties
unfolding empty_front all_versions Words.at Words.at_key is_among Register.reading kind_at kind_in has_records Births.birth_list Births.taken_over Births.unless_empty
round_empties =
    (_, (_, (one_not_zero, refl, _, (refl, refl), refl), (_, (refl, tt, refl), (Births.born_of 2 1 (all_versions empty_front) 1 (λ db. 0) empty_front, (all_versions empty_front, (λ db. 0), empty_births, empty_persistent, refl), refl))), (refl, refl, refl, refl))
