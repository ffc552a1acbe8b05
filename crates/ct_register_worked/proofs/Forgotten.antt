-- The runs that are refused: runs through a round.
use Rattle.std.proofs.Common.{◌≡◌, ℕ, zero, suc, ◌∙◌, ap, true, false, ◌+◌, ◌≤◌, List, [], ◌∷◌, length, refl, sym, arith, ⊎_elim, subst}
use Rattle.std.specs.Prelude.{nat_eq, nat_lt, if◌then◌else◌, ◌++◌, take, Option, Some}
use Rattle.std.proofs.lemmas.Bool.{cond_both}
use Rattle.ct_values.specs.Words.{or_empty}
use Rattle.ct_values.specs.declared.client.Answer.TheVariants as answer
use Rattle.ct_values.specs.declared.client.ClientOp.TheVariants as op
use Rattle.ct_frame.specs.declared.event.Note.TheVariants as note
use Rattle.ct_store.specs.Map.{Pairs, look}
use Rattle.ct_persist.specs.Updates
use Rattle.ct_persist.specs.Persisted
use Rattle.ct_rules_cluster.specs.Labels.{Label, Noted, Ticket, Stopped}
use Rattle.ct_rules_node.specs.Node.{is_among, has_records, kind_at, kind_in, name_in, name_of, is_persistent}
use Rattle.ct_register.specs.Words
use Rattle.ct_register.specs.Register
use Rattle.ct_register.specs.Database
use Rattle.ct_register.specs.Database.{Database}
use Rattle.ct_register.specs.Lines
use Rattle.ct_register.specs.Lines.{Lines}
use Rattle.ct_register.specs.Births
use Rattle.ct_register.specs.Legal
use Rattle.ct_register_worked.specs.Runs.{config, functions, a, x, both, one_write, locks, reads, writes, locks_database, unlocks_database, begins, commits, reads_database, round, installs, thaws}
use Rattle.ct_register_worked.specs.Refused.{RoundForgets, RoundForgetsCommit, RoundOfAnother, RoundOfOtherMembers, RoundFromNowhere, RoundFromNothing, SecondRound, InstalledTwice, InstalledUnderLock, ThawedTooEarly, PersistentParentTooOld, InstalledByAnother, InstalledUnborn, AcknowledgedWithoutMember, AcknowledgedBeforeInstalled, AnsweredAfterOldRead, OldReadAfterCommit, OldReadOfOwn, OldReadAfterRead}
use Rattle.ct_register.proofs.Ways.{labels_after, leave_no_choice, refused_after}
use Rattle.ct_register.proofs.Small.{one_not_zero, not_below, below_next}
use Rattle.ct_register_worked.proofs.Refusals.{from_opening, read_of_record}

-- the registers after these labels, a birth, and those
abbrev pub born_after : List Label → ℕ → ℕ → List Label → (ℕ → List ℕ → ℕ) → (ℕ → ℕ) → Lines
born_after front p q back counts kept = labels_after back (Births.born_of 2 p counts q kept (labels_after front (Lines.opening config)))

-- whatever a round takes over, the rest is refused then
pub through_round : (front : List Label) (h : ℕ) (ms : List ℕ) (p q : ℕ) (back rest : List Label) (s : Lines) → leave_no_choice config front ≡ true → leave_no_choice config back ≡ true →
    ((counts : ℕ → List ℕ → ℕ) (kept : ℕ → ℕ) → Births.Birth (labels_after front (Lines.opening config)) 2 h ms p counts → Births.PersistentBirth (labels_after front (Lines.opening config)) 2 ms q kept →
    Legal.AcceptsLabels config functions (born_after front p q back counts kept) rest s → ⊥) →
    Legal.Legal config functions (front ++ Noted h (note.Round 2 ms p q) ∷ (back ++ rest)) s → ⊥
through_round front h ms p q back rest s c e refused = refused_after config functions front (Noted h (note.Round 2 ms p q) ∷ (back ++ rest)) (Lines.opening config) s c (λ k.
    refused_after config functions back rest (Births.born_of 2 p k.1.0 q k.1.1 (labels_after front (Lines.opening config))) s e (refused k.1.0 k.1.1 k.1.2 k.1.3) (subst (λ m. Legal.AcceptsLabels config functions m (back ++ rest) s) k.1.4 k.2))

pub round_of_another : RoundOfAnother
unfolding Words.at
round_of_another s = through_round (Ticket 2 0 both ∷ []) 1 both 1 1 [] [] s refl refl (λ counts kept b d h. (let e : Some 0 ≡ Some 1 = b.given in absurd (cc)))

one_not_two : both ≡ 0 ∷ [] → ⊥
one_not_two e = absurd (cc)

pub round_of_other_members : RoundOfOtherMembers
unfolding Words.at
round_of_other_members s = through_round (Ticket 2 0 both ∷ []) 0 (0 ∷ []) 1 1 [] [] s refl refl (λ counts kept b d h. one_not_two b.named)

not_two : (m : ℕ) → nat_eq (if nat_lt m 2 then 1 else 0) 2 ≡ true → ⊥
not_two m is = cond_both (nat_lt m 2) 1 0 (λ l. nat_eq l 2 ≡ true → ⊥) (λ _ e. absurd (cc)) (λ _ e. absurd (cc)) is

pub round_from_nowhere : RoundFromNowhere
unfolding Words.at
round_from_nowhere s = from_opening (Ticket 2 0 both ∷ Ticket 3 0 both ∷ []) (Noted 0 (note.Round 3 both 2 1) ∷ []) s refl (λ h. (let had = h.1.2.had in not_two had.0 had.2))

pub not_one : 1 ≤ 0 → ⊥
not_one h = absurd (omega arith)

pub round_from_nothing : RoundFromNothing
unfolding Words.at is_among
round_from_nothing s = through_round (Ticket 2 0 both ∷ Stopped 1 ∷ []) 0 both 0 1 [] [] s refl refl (λ counts kept b d h. not_one (b.greatest 0 refl (below_next 1)))

not_two_one : 2 ≤ 1 → ⊥
not_two_one h = absurd (omega arith)

-- the persistent line of who has stopped stays
pub persistent_parent_too_old : PersistentParentTooOld
unfolding Words.at is_among
persistent_parent_too_old s = through_round (Ticket 2 0 both ∷ []) 0 both 1 1 (installs 0 ∷ Stopped 0 ∷ Ticket 3 1 both ∷ []) (Noted 1 (note.Round 3 both 1 1) ∷ []) s refl refl (λ counts kept b d h. not_two_one (h.1.3.greatest 0 refl (below_next 2)))

pub second_round : SecondRound
unfolding Words.at
second_round s = through_round (Ticket 2 0 both ∷ []) 0 both 1 1 [] (round 0 both ∷ []) s refl refl (λ counts kept b d h. (let e : true ≡ false = h.1.2.unborn in absurd (cc)))

pub installed_by_another : InstalledByAnother
unfolding Words.at is_among
installed_by_another s = through_round (Ticket 2 0 (0 ∷ []) ∷ []) 0 (0 ∷ []) 1 1 [] (installs 1 ∷ []) s refl refl (λ counts kept b d h. (let e : false ≡ true = h.1.1 in absurd (cc)))

pub installed_unborn : InstalledUnborn
unfolding Words.at
installed_unborn s = from_opening (Ticket 2 0 both ∷ []) (installs 0 ∷ []) s refl (λ h. (let e : false ≡ true = h.1.0 in absurd (cc)))

pub installed_twice : InstalledTwice
unfolding Words.at
installed_twice s = through_round (Ticket 2 0 both ∷ []) 0 both 1 1 (installs 0 ∷ Stopped 0 ∷ []) (installs 0 ∷ []) s refl refl (λ counts kept b d h. not_below h.1.2)

pub installed_under_lock : InstalledUnderLock
unfolding Words.at Words.at_key
installed_under_lock s = through_round (Ticket 2 0 both ∷ []) 0 both 1 1 (locks 1 [] ∷ []) (installs 1 ∷ []) s refl refl (λ counts kept b d h. h.1.3 1 1 a refl)

pub thawed_too_early : ThawedTooEarly
unfolding Words.at is_among
thawed_too_early s = through_round (Ticket 2 0 both ∷ []) 0 both 1 1 (installs 0 ∷ []) (thaws 0 ∷ []) s refl refl (λ counts kept b d h. (let e : false ≡ true = h.1.2 1 refl in absurd (cc)))

-- ---- acknowledged, though a member lacks it

one_below : (j : ℕ) → 1 ≤ 0 + j → j ≤ 0 → ⊥
one_below j low high = absurd (omega arith)

pub acknowledged_without_member : AcknowledgedWithoutMember
unfolding Words.at Words.at_key
acknowledged_without_member s = through_round (Ticket 2 1 (1 ∷ []) ∷ []) 1 (1 ∷ []) 1 1 (installs 1 ∷ locks_database 0 ∷ begins 0 ∷ []) (commits 0 1 ∷ []) s refl refl (λ counts kept b d h. one_below (kept 2) (h.1.1.1 2 (0 + kept 2) refl) (d.within 2))

pub acknowledged_before_installed : AcknowledgedBeforeInstalled
unfolding Words.at Words.at_key is_among
acknowledged_before_installed s = through_round (Ticket 2 0 both ∷ []) 0 both 1 1 (installs 0 ∷ locks_database 0 ∷ begins 0 ∷ []) (commits 0 1 ∷ []) s refl refl (λ counts kept b d h. not_two_one (h.1.1.0 1 refl))

-- ---- what is not forgotten

one : (c : ℕ) → 1 ≤ c → c ≤ 1 → c ≡ 1
one c low high = omega arith

all_kept : (c : ℕ) → c ≡ 1 → Register.reading (Births.taken_over c (x ∷ [])) ≡ x
unfolding Register.reading Births.taken_over Births.unless_empty
all_kept c is = subst (λ c. Register.reading (Births.taken_over c (x ∷ [])) ≡ x) (sym is) refl

empty_not_x : [] ≡ x → ⊥
empty_not_x e = absurd (cc)

-- a read of the record answers its reading
reads_reading : (n : ℕ) (v : List ℕ) (r s : Lines) → Legal.AcceptsLabel config functions r (reads n v) s → v ≡ Register.reading (r.records (r.line n) 1 a).versions
reads_reading n v r s h = (read_of_record n v r s h).3.1

-- a read of the persistent database, which is not one of a record
read_of_database : (n : ℕ) (v : List ℕ) (r s : Lines) → Legal.AcceptsLabel config functions r (reads_database n v) s → Legal.AtDatabase config n 2 (Database.AcceptsRead n a v) r s
unfolding kind_at kind_in has_records
read_of_database n v r s h = ⊎_elim (λ (p : Legal.AtRecord config n 2 a (Register.Accepts functions n (op.Read 2 a) (answer.Read v)) r s). (let e : false ≡ true = p.1 in absurd (cc)))
    (λ (p : Legal.AtDatabase config n 2 (Database.AcceptsRead n a v) r s). p) h

pub round_forgets : RoundForgets
unfolding Words.at Words.at_key is_among Births.birth_list kind_at kind_in has_records is_persistent
round_forgets s = through_round (writes 0 x ∷ reads 1 x ∷ Stopped 0 ∷ Ticket 2 1 (1 ∷ []) ∷ []) 1 (1 ∷ []) 1 1 (installs 1 ∷ thaws 1 ∷ []) (reads 1 [] ∷ []) s refl refl (λ counts kept b d h.
    (let lost : [] ≡ Register.reading (Births.taken_over (counts 1 a) (x ∷ [])) = reads_reading 1 [] (born_after (writes 0 x ∷ reads 1 x ∷ Stopped 0 ∷ Ticket 2 1 (1 ∷ []) ∷ []) 1 1 (installs 1 ∷ thaws 1 ∷ []) counts kept) h.0 h.1 in
    let count : counts 1 a ≡ 1 = one (counts 1 a) (b.seen 1 1 a one_not_zero refl refl) (b.within 1 a one_not_zero) in
    empty_not_x (subst (λ v. [] ≡ v) (all_kept (counts 1 a) count) lost)))

-- a read of the database answers its value after some number of commits
reads_value : (n : ℕ) (v : List ℕ) (r s : Lines) → Legal.AcceptsLabel config functions r (reads_database n v) s →
    (j : ℕ) × ((r.databases (r.line n) 2).acked ≤ j) × ((r.databases (r.line n) 2).seen n ≤ j) × (j ≤ length (r.databases (r.line n) 2).commits) × (v ≡ Database.value_after j a (r.databases (r.line n) 2))
reads_value n v r s h = let k = (read_of_database n v r s h).3 in (k.0, k.1, k.2, k.3, k.4)

value_after_one : (j : ℕ) → j ≡ 1 → or_empty (look a (Updates.contents (take j (one_write ∷ [])) [])) ≡ x
unfolding Updates.contents Persisted.written or_empty
value_after_one j is = subst (λ j. or_empty (look a (Updates.contents (take j (one_write ∷ [])) [])) ≡ x) (sym is) refl

committed_front : Lines
committed_front = labels_after (locks_database 0 ∷ begins 0 ∷ commits 0 1 ∷ []) (Lines.opening config)

pub old_read_after_commit : OldReadAfterCommit
unfolding Words.at committed_front
old_read_after_commit s = from_opening (locks_database 0 ∷ begins 0 ∷ commits 0 1 ∷ []) (reads_database 1 [] ∷ []) s refl
    (λ h. (let k = reads_value 1 [] committed_front h.0 h.1 in empty_not_x (subst (λ v. [] ≡ v) (value_after_one k.0 (one k.0 k.1 k.3)) k.4)))

begun_front : Lines
begun_front = labels_after (locks_database 0 ∷ begins 0 ∷ []) (Lines.opening config)

-- a read moves no lock
owner_stays : (n : ℕ) (d : Database) (r s : Lines) → s ≡ Lines.with_database (r.line 1) 2 d r → Legal.lock_owner config (s.line n) 2 s ≡ Legal.lock_owner config (r.line n) 2 r
owner_stays n d r s is = ap (λ (s : Lines). Legal.lock_owner config (s.line n) 2 s) is

-- node 1 has the lock in place of the committer
moved_front : Lines
moved_front = labels_after (locks_database 0 ∷ begins 0 ∷ unlocks_database 0 ∷ locks_database 1 ∷ []) (Lines.opening config)

moved_owner : Legal.lock_owner config (moved_front.line 0) 2 moved_front ≡ Some 1
unfolding Words.at Words.at_key name_of name_in moved_front
moved_owner = refl

another_owner : (o : Option ℕ) → o ≡ Some 1 → o ≡ Some 0 → ⊥
another_owner o one zeroth = absurd (cc)

pub answered_after_old_read : AnsweredAfterOldRead
unfolding moved_front
answered_after_old_read s = from_opening (locks_database 0 ∷ begins 0 ∷ unlocks_database 0 ∷ locks_database 1 ∷ []) (reads_database 1 [] ∷ commits 0 1 ∷ reads_database 0 x ∷ []) s refl (λ h.
    (let p = read_of_database 1 [] moved_front h.0 h.1 in another_owner _ (owner_stays 0 p.2 moved_front h.0 p.4 ∙ moved_owner) h.2.1.0))

pub old_read_of_own : OldReadOfOwn
unfolding Words.at begun_front
old_read_of_own s = from_opening (locks_database 0 ∷ begins 0 ∷ []) (reads_database 0 [] ∷ []) s refl
    (λ h. (let k = reads_value 0 [] begun_front h.0 h.1 in empty_not_x (subst (λ v. [] ≡ v) (value_after_one k.0 (one k.0 k.2 k.3)) k.4)))

-- the commit that has begun, and that node 1 has read of it, or not
read_front : ℕ → Lines
read_front j = Lines.with_database 1 2 (record (begun_front.databases 1 2) { seen = Words.at 1 j (begun_front.databases 1 2).seen }) begun_front

-- who reads the value has seen the commit
one_seen : (j : ℕ) → j ≤ 1 → x ≡ or_empty (look a (Updates.contents (take j (one_write ∷ [])) [])) → j ≡ 1
unfolding Updates.contents or_empty
one_seen zero low e = absurd (empty_not_x (sym e))
one_seen (suc zero) low e = refl
one_seen (suc (suc j)) low e = absurd (omega arith)

second_read : (j : ℕ) (m : Lines) → j ≡ 1 → Legal.AcceptsLabel config functions (read_front j) (reads_database 1 []) m → ⊥
unfolding Words.at begun_front read_front
second_read j m is h = (let k = reads_value 1 [] (read_front j) m h in empty_not_x (subst (λ v. [] ≡ v) (value_after_one k.0 (one k.0 (subst (λ i. i ≤ k.0) is k.2) k.3)) k.4))

pub old_read_after_read : OldReadAfterRead
unfolding Words.at begun_front read_front
old_read_after_read s = from_opening (locks_database 0 ∷ begins 0 ∷ []) (reads_database 1 x ∷ reads_database 1 [] ∷ []) s refl (λ h.
    (let p = read_of_database 1 x begun_front h.0 h.1 in
    let same : h.0 ≡ read_front p.3.0 = p.4 ∙ ap (λ (d : Database). Lines.with_database 1 2 d begun_front) p.3.5 in
    second_read p.3.0 h.2.0 (one_seen p.3.0 p.3.3 p.3.4) (subst (λ (r : Lines). Legal.AcceptsLabel config functions r (reads_database 1 []) h.2.0) same h.2.1)))

none : (j : ℕ) → j ≤ 0 → j ≡ 0
none j low = omega arith

base_of_none : (j : ℕ) (base : Pairs (List ℕ)) → j ≡ 0 → or_empty (look a (Updates.contents (take j []) base)) ≡ or_empty (look a base)
unfolding Updates.contents
base_of_none j base is = subst (λ j. or_empty (look a (Updates.contents (take j []) base)) ≡ or_empty (look a base)) (sym is) refl

abbrev pub forgetting : List Label
forgetting = locks_database 0 ∷ begins 0 ∷ commits 0 1 ∷ Stopped 0 ∷ Ticket 2 1 (1 ∷ []) ∷ []

pub round_forgets_commit : RoundForgetsCommit
unfolding Words.at is_among
round_forgets_commit s = through_round forgetting 1 (1 ∷ []) 1 1 (installs 1 ∷ []) (reads_database 1 [] ∷ []) s refl refl (λ counts kept b d h.
    (let k = reads_value 1 [] (born_after forgetting 1 1 (installs 1 ∷ []) counts kept) h.0 h.1 in
    let based : [] ≡ or_empty (look a (Updates.contents (take (kept 2) (one_write ∷ [])) [])) = subst (λ v. [] ≡ v) (base_of_none k.0 _ (none k.0 k.3)) k.4 in
    empty_not_x (subst (λ v. [] ≡ v) (value_after_one (kept 2) (one (kept 2) (d.acked 2) (d.within 2))) based)))
