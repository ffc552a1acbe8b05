-- The runs that are refused.
use Rattle.std.proofs.Common.{◌≡◌, ℕ, true, false, List, [], ◌∷◌, refl, ap, arith, ⊎_elim}
use Rattle.std.specs.Prelude.{◌++◌, Some, Result, Err}
use Rattle.ct_call.specs.declared.fault.CallFault.{CallFault}
use Rattle.ct_call.specs.declared.fault.CallFault.TheVariants as fault
use Rattle.ct_values.specs.declared.client.Answer.TheVariants as answer
use Rattle.ct_values.specs.declared.client.ClientOp.TheVariants as op
use Rattle.ct_values.specs.declared.client.Why.TheVariants as why
use Rattle.ct_rules_cluster.specs.Labels.{Label, Answered, Unasked, Ticket, Yielded, Stopped}
use Rattle.ct_rules_cluster.specs.Traces.{asked_in, closed, closed_by, answer_label, label_of, line_labels}
use Rattle.ct_register.specs.Words
use Rattle.ct_register.specs.Register
use Rattle.ct_register.specs.Database
use Rattle.ct_register.specs.Lines
use Rattle.ct_register.specs.Lines.{Lines}
use Rattle.ct_register.specs.Legal
use Rattle.ct_register_worked.specs.Runs.{config, functions, a, x, y, both, locks, reads, writes, stores, unlocks, appends, is_too_long, vacuums, ends, locks_database, unlocks_database, begins, commits, is_unsure, refuses, reads_database}
use Rattle.ct_register_worked.specs.Refused.{SecondLock, OldRead, ReadUnderLock, WriteUnderLock, StoreOfNoOwner, UnlockOfNoOwner, WrongAnswer, VacuumOfValue, ReadAfterStop, VacuumedUnderLock, EndedUnlocked, WrongLength, TooLongUnderLock, WriteKeptEmpty, LockAnsweredAgain, AnsweredAfterRefusal, AnsweredAfterStop, CommitUnlocked, CommitBesideAnother, WrongNumber, AcknowledgedTwice, CommitOfAnother, UnsureOfNobody, AnsweredWithoutLock, UnsureOfOwn, UnsureOfNoMember, UnsureTwice, UnsureAnew, RefusedAfterBegin, TicketWhileHeld, TicketLeftOut, YieldedByAnother}
use Rattle.ct_register.proofs.Ways
use Rattle.ct_register.proofs.Ways.{labels_after, refused_after}
use Rattle.ct_register.proofs.Small.{one_not_zero, some_not_none, none_not_some}
use Rattle.ct_rules_node.specs.Node.{is_among, kind_at, kind_in, name_in, name_of}

-- these labels come first, and the rest is refused then
pub from_opening : (front rest : List Label) (s : Lines) → Ways.leave_no_choice config front ≡ true → (Legal.AcceptsLabels config functions (labels_after front (Lines.opening config)) rest s → ⊥) → Legal.Legal config functions (front ++ rest) s → ⊥
from_opening front rest s no_choice refused = refused_after config functions front rest (Lines.opening config) s no_choice refused

-- a read of a record, of a database that is not persistent
pub read_of_record : (n : ℕ) (v : List ℕ) (r s : Lines) → Legal.AcceptsLabel config functions r (reads n v) s → Legal.AtRecord config n 1 a (Register.Accepts functions n (op.Read 1 a) (answer.Read v)) r s
unfolding kind_at kind_in
read_of_record n v r s h = ⊎_elim (λ (p : Legal.AtRecord config n 1 a (Register.Accepts functions n (op.Read 1 a) (answer.Read v)) r s). p)
    (λ (p : Legal.AtDatabase config n 1 (Database.AcceptsRead n a v) r s). (let e = p.1 in absurd (cc))) h

pub second_lock : SecondLock
unfolding Words.at Words.at_key
second_lock s = from_opening (locks 0 [] ∷ []) (locks 1 [] ∷ []) s refl (λ h. some_not_none h.1.3.0)

pub old_read : OldRead
unfolding Words.at Words.at_key Register.reading kind_at kind_in
old_read s = from_opening (writes 0 x ∷ []) (reads 1 [] ∷ []) s refl (λ h. (let e : [] ≡ x = (read_of_record _ _ _ _ h.1).3.1 in absurd (cc)))

pub read_under_lock : ReadUnderLock
unfolding Words.at Words.at_key kind_at kind_in
read_under_lock s = from_opening (locks 0 [] ∷ []) (reads 1 [] ∷ []) s refl (λ h. (let e : ◌≡◌ {A = ℕ} 0 1 = (read_of_record _ _ _ _ h.1).3.0 in absurd (cc)))

pub write_under_lock : WriteUnderLock
unfolding Words.at Words.at_key
write_under_lock s = from_opening (locks 0 [] ∷ []) (writes 1 x ∷ []) s refl (λ h. some_not_none h.1.3.0)

pub store_of_no_owner : StoreOfNoOwner
unfolding Words.at Words.at_key
store_of_no_owner s = from_opening (locks 0 [] ∷ []) (stores 1 x ∷ []) s refl (λ h. (let e : Some 0 ≡ Some 1 = h.1.3.0 in absurd (cc)))

pub unlock_of_no_owner : UnlockOfNoOwner
unfolding Words.at Words.at_key
unlock_of_no_owner s = from_opening (locks 0 [] ∷ unlocks 0 ∷ []) (unlocks 0 ∷ []) s refl (λ h. none_not_some h.1.3.0)

pub wrong_answer : WrongAnswer
unfolding Words.at Words.at_key Register.reading
wrong_answer s = from_opening (writes 0 x ∷ []) (appends 1 y y ∷ []) s refl (λ h. (let e = h.1.3.1 in absurd (cc)))

pub vacuum_of_value : VacuumOfValue
unfolding Words.at Words.at_key Register.reading
vacuum_of_value s = from_opening (writes 0 x ∷ []) (vacuums 1 ∷ []) s refl (λ h. (let e : x ≡ [] = h.1.3.1 in absurd (cc)))

pub read_after_stop : ReadAfterStop
unfolding Words.at kind_at kind_in
read_after_stop s = from_opening (Stopped 0 ∷ []) (reads 0 [] ∷ []) s refl (λ h. (read_of_record _ _ _ _ h.1).0 refl)

pub commit_unlocked : CommitUnlocked
unfolding name_of name_in
commit_unlocked s h = none_not_some h.1.3.0

pub commit_beside_another : CommitBesideAnother
unfolding Words.at
commit_beside_another s = from_opening (locks_database 0 ∷ begins 0 ∷ []) (begins 0 ∷ []) s refl (λ h. (let e : ◌≡◌ {A = ℕ} 0 1 = h.1.3.1 in absurd (cc)))

pub wrong_number : WrongNumber
unfolding Words.at
wrong_number s = from_opening (locks_database 0 ∷ begins 0 ∷ []) (commits 0 2 ∷ []) s refl (λ h. (let e : ◌≡◌ {A = ℕ} 2 1 = h.1.2.3.0.numbered in absurd (cc)))

pub acknowledged_twice : AcknowledgedTwice
unfolding Words.at
acknowledged_twice s = from_opening (locks_database 0 ∷ begins 0 ∷ commits 0 1 ∷ []) (commits 0 1 ∷ []) s refl (λ h. none_not_some h.1.2.3.0.begun)

pub commit_of_another : CommitOfAnother
unfolding Words.at
commit_of_another s = from_opening (locks_database 0 ∷ begins 0 ∷ []) (commits 1 1 ∷ []) s refl (λ h. (let e : Some 0 ≡ Some 1 = h.1.2.3.0.begun in absurd (cc)))

pub unsure_of_nobody : UnsureOfNobody
unsure_of_nobody s = from_opening (locks_database 0 ∷ begins 0 ∷ []) (is_unsure 0 1 [] ∷ []) s refl (λ h. h.1.2.3.1.0 refl)

pub answered_without_lock : AnsweredWithoutLock
unfolding Words.at Words.at_key name_of name_in
answered_without_lock s = from_opening (locks_database 0 ∷ begins 0 ∷ unlocks_database 0 ∷ locks_database 1 ∷ []) (commits 0 1 ∷ []) s refl (λ h. (let e : Some 1 ≡ Some 0 = h.1.0 in absurd (cc)))

pub unsure_of_own : UnsureOfOwn
unfolding Words.at is_among
unsure_of_own s = from_opening (locks_database 0 ∷ begins 0 ∷ []) (is_unsure 0 1 (0 ∷ []) ∷ []) s refl (λ h. (let e : false ≡ true = h.1.2.3.1.2 in absurd (cc)))

pub unsure_of_no_member : UnsureOfNoMember
unfolding Words.at is_among
unsure_of_no_member s = from_opening (locks_database 0 ∷ begins 0 ∷ []) (is_unsure 0 1 (99 ∷ []) ∷ []) s refl (λ h. (let e : false ≡ true = h.1.2.3.1.2 in absurd (cc)))

pub unsure_twice : UnsureTwice
unsure_twice s = from_opening (locks_database 0 ∷ begins 0 ∷ []) (is_unsure 0 1 (1 ∷ 1 ∷ []) ∷ []) s refl (λ h. (let e : false ≡ true = h.1.2.3.1.1 in absurd (cc)))

pub unsure_anew : UnsureAnew
unfolding Words.at
unsure_anew s = from_opening (locks_database 0 ∷ begins 0 ∷ is_unsure 0 1 (1 ∷ []) ∷ []) (is_unsure 0 1 (1 ∷ []) ∷ []) s refl (λ h. none_not_some h.1.2.3.0.begun)

pub refused_after_begin : RefusedAfterBegin
unfolding Words.at Words.at_key kind_at kind_in
refused_after_begin s = from_opening (locks_database 0 ∷ begins 0 ∷ []) (refuses 0 why.NotServing ∷ reads_database 0 x ∷ []) s refl (λ h. (let e : why.NotServing ≡ why.CommitPending = h.1.0 (one_not_zero, refl, refl) in absurd (cc)))

pub ticket_while_held : TicketWhileHeld
ticket_while_held s = from_opening (Ticket 2 0 both ∷ []) (Ticket 3 1 both ∷ []) s refl (λ h. (let e : ◌≡◌ {A = ℕ} 0 1 = h.1.1 in absurd (cc)))

pub ticket_left_out : TicketLeftOut
ticket_left_out s h = let e : ◌≡◌ {A = ℕ} 3 2 = h.1.0 in absurd (cc)

pub yielded_by_another : YieldedByAnother
yielded_by_another s = from_opening (Ticket 2 0 both ∷ []) (Yielded 1 ∷ []) s refl (λ h. (let e : Some 0 ≡ Some 1 = h.1.0 in absurd (cc)))

pub vacuumed_under_lock : VacuumedUnderLock
unfolding Words.at Words.at_key
vacuumed_under_lock s = from_opening (locks 0 [] ∷ []) (vacuums 1 ∷ []) s refl (λ h. some_not_none h.1.3.0)

pub ended_unlocked : EndedUnlocked
unfolding Words.at Words.at_key
ended_unlocked s = from_opening (locks 0 [] ∷ unlocks 0 ∷ []) (ends 0 ∷ []) s refl (λ h. none_not_some h.1.3.0)

abbrev length_in : Result (List ℕ) CallFault → ℕ
length_in (Err (fault.TooLong m)) = m
length_in r = 0

lengths_differ : ◌≡◌ {A = Result (List ℕ) CallFault} (Err (fault.TooLong 1200)) (Err (fault.TooLong 1199)) → ⊥
lengths_differ e = absurd (let k : ◌≡◌ {A = ℕ} 1200 1199 = ap length_in e in omega arith)

pub wrong_length : WrongLength
wrong_length s h = lengths_differ h.1.3.1

pub too_long_under_lock : TooLongUnderLock
unfolding Words.at Words.at_key
too_long_under_lock s = from_opening (locks 0 [] ∷ []) (is_too_long 1 1200 ∷ []) s refl (λ h. some_not_none h.1.3.0)

-- ---- calls

pub write_kept_empty : WriteKeptEmpty
unfolding Words.at Words.at_key Register.reading kind_at kind_in asked_in closed closed_by answer_label label_of line_labels
write_kept_empty s = from_opening (writes 1 x ∷ []) (reads 0 [] ∷ []) s refl (λ h. (let e : [] ≡ x = (read_of_record _ _ _ _ h.1).3.1 in absurd (cc)))

pub lock_answered_again : LockAnsweredAgain
unfolding asked_in closed closed_by answer_label label_of line_labels
lock_answered_again s = from_opening (locks 0 [] ∷ stores 0 x ∷ unlocks 0 ∷ []) (Unasked 1 (answer.Locked x) ∷ []) s refl (λ h. h.1)

pub answered_after_refusal : AnsweredAfterRefusal
unfolding asked_in closed closed_by answer_label label_of line_labels
answered_after_refusal s = from_opening (Answered 0 (op.Lock 1 a) (answer.Refused why.NotServing) ∷ []) (Unasked 1 (answer.Locked []) ∷ []) s refl (λ h. h.1)

pub answered_after_stop : AnsweredAfterStop
unfolding asked_in closed closed_by answer_label label_of line_labels
answered_after_stop s = from_opening (Stopped 0 ∷ []) (Unasked 1 (answer.Refused why.NotServing) ∷ []) s refl (λ h. h.1)
