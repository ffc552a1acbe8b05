-- The runs that are legal, and what the registers show then: runs in one line.
use Rattle.std.proofs.Common.{◌≡◌, ℕ, ◌≤◌, true, [], refl, sym, subst, inl, inr}
use Rattle.std.specs.Prelude.{None}
use Rattle.ct_values.specs.Words.{or_empty}
use Rattle.ct_persist.specs.Updates
use Rattle.ct_persist.specs.Persisted
use Rattle.ct_rules_node.specs.Node.{is_among, has_records, kind_at, kind_in, name_in, name_of}
use Rattle.ct_register.specs.Words
use Rattle.ct_register.specs.Register
use Rattle.ct_register.specs.Database
use Rattle.ct_register.specs.Database.{Database}
use Rattle.ct_register.specs.Lines
use Rattle.ct_register_worked.specs.Runs.{config, both, one_write, LockMoves, ReadersSee, FunctionsAnswer, VacuumForgets, StopEndsLocks, RefusalsChangeNothing, TicketsCount, CommitIsRead, AnsweredUnderLock, LockMovesAfterAnswer, AnotherIsRefused, UnsureIsOpen}
use Rattle.ct_register.proofs.Places.{at_same, of_two}
use Rattle.ct_register.proofs.Ways.{begun_after}
use Rattle.ct_register.proofs.Small.{one_not_zero, nought, same, below_next}
use Rattle.ct_register_worked.proofs.Rounds.{TookAll, took_all, of_none}

pub lock_moves : LockMoves
unfolding Words.at Words.at_key Register.reading kind_at kind_in has_records
lock_moves =
    (_, (_, (one_not_zero, refl, _, (refl, refl, refl), refl), (_, (one_not_zero, refl, _, (refl, refl), refl), (_, (one_not_zero, refl, _, (refl, refl), refl), (_, (one_not_zero, refl, _, (refl, refl, refl), refl), refl)))), (refl, refl, refl, refl))

pub readers_see : ReadersSee
unfolding Words.at Words.at_key Register.reading kind_at kind_in has_records
readers_see =
    (_, (_, (one_not_zero, refl, _, (refl, refl), refl), (_, inl (one_not_zero, refl, _, (tt, refl, refl), refl), (_, (one_not_zero, refl, _, (refl, refl), refl), (_, (one_not_zero, refl, _, (refl, refl, refl), refl), (_, inl (one_not_zero, refl, _, (refl, refl, refl), refl), refl))))), (refl, refl, refl, refl))

pub functions_answer : FunctionsAnswer
unfolding Words.at Words.at_key Register.reading kind_at kind_in has_records
functions_answer =
    (_, (_, (one_not_zero, refl, _, (refl, refl), refl), (_, (one_not_zero, refl, _, (refl, refl, refl), refl), (_, (one_not_zero, refl, _, (refl, refl, refl), refl), refl))), (refl, refl, refl, refl))

pub vacuum_forgets : VacuumForgets
unfolding Words.at Words.at_key Register.reading kind_at kind_in has_records
vacuum_forgets =
    (_, (_, (one_not_zero, refl, _, (refl, refl), refl), (_, inl (one_not_zero, refl, _, (tt, refl, refl), refl), (_, (one_not_zero, refl, _, (refl, refl), refl), (_, (one_not_zero, refl, _, (refl, refl, refl), refl), (_, inl (one_not_zero, refl, _, (tt, refl, refl), refl), refl))))), (refl, refl, refl, refl))

pub stop_ends_locks : StopEndsLocks
unfolding Words.at Words.at_key Register.reading Register.owner_without kind_at kind_in has_records
stop_ends_locks =
    (_, (_, (one_not_zero, refl, _, (refl, refl, refl), refl), (_, (one_not_zero, refl, _, (refl, refl), refl), (_, refl, (_, (one_not_zero, refl, _, (refl, refl, refl), refl), refl)))), (refl, refl, refl, refl))

pub refusals_change_nothing : RefusalsChangeNothing
unfolding Words.at Words.at_key Register.reading Register.owner_without kind_at kind_in has_records
refusals_change_nothing = (_, (_, refl, (_, (tt, refl), (_, (one_not_zero, refl, _, (refl, refl, refl), refl), refl))), (refl, refl, refl, refl))

pub tickets_count : TicketsCount
unfolding Register.owner_without
tickets_count = (_, (_, (refl, tt, refl), (_, (refl, refl, refl), (_, (refl, refl), (_, (refl, tt, refl), (_, refl, (_, (refl, tt, refl), refl)))))), (refl, refl))

all_there : (m : ℕ) → is_among m both ≡ true → 1 ≤ (Lines.opening config).pline m
all_there = of_two (λ m. 1 ≤ (Lines.opening config).pline m) (same 1) (same 1)

-- the databases of the run: one commit began, and node 1 read none of it, and node 0 that
abbrev opened : ℕ → ℕ → Database
opened l db = Database.newborn 0 [] (λ _. None)

abbrev with_this : Database → (ℕ → ℕ → Database) → ℕ → ℕ → Database
with_this d f = Words.at 1 (Words.at 2 d (f 1)) f

abbrev just_begun : Database
just_begun = begun_after 0 one_write (Database.newborn 0 [] (λ _. None))

abbrev once_read : Database
once_read = record just_begun { seen = Words.at 1 0 just_begun.seen }

abbrev twice_read : Database
twice_read = record once_read { seen = Words.at 0 1 once_read.seen }

-- no line took over from line 1, and with another database of line 1 that did not none did
abbrev TookNothing : (ℕ → ℕ → Database) → Type 0
TookNothing f = TookAll 1 1 f

took_nothing : (d : Database) (f : ℕ → ℕ → Database) → d.from 1 ≡ None → TookNothing f → TookNothing (with_this d f)
took_nothing d f own rest = took_all 1 1 1 (Words.at 2 d (f 1)) f (of_none 1 ((Words.at 2 d (f 1) 2).from 1) (subst (λ (e : Database). e.from 1 ≡ None) (sym (at_same 2 2 d (f 1) refl)) own)) rest

took_none : TookNothing opened
took_none l = of_none 1 None refl

pub commit_is_read : CommitIsRead
unfolding Words.at Words.at_key is_among Database.newest or_empty Database.all_seen kind_at kind_in name_in name_of has_records Updates.contents Persisted.written Register.reading
commit_is_read =
    (_, (_, (one_not_zero, refl, _, (refl, refl, refl), refl), (_, (one_not_zero, refl, _, (refl, refl, refl), refl), (_, inr (one_not_zero, refl, _, (0, nought 0, nought 0, nought 1, refl, refl), refl), (_, inr (one_not_zero, refl, _, (1, nought 1, same 1, same 1, refl, refl), refl), (_, (refl, (all_there, took_nothing twice_read (with_this once_read (with_this just_begun opened)) refl (took_nothing once_read (with_this just_begun opened) refl (took_nothing just_begun opened refl took_none))), (one_not_zero, refl, _, (record { begun = refl; newest = refl; unacknowledged = below_next 0; numbered = refl }, refl), refl)), (_, inr (one_not_zero, refl, _, (1, same 1, same 1, same 1, refl, refl), refl), refl)))))), (refl, refl, refl, refl))

pub answered_under_lock : AnsweredUnderLock
unfolding Words.at Words.at_key is_among Database.newest or_empty Database.all_seen kind_at kind_in name_in name_of has_records Updates.contents Persisted.written Register.reading
answered_under_lock =
    (_, (_, (one_not_zero, refl, _, (refl, refl, refl), refl), (_, (one_not_zero, refl, _, (refl, refl, refl), refl), (_, inr (one_not_zero, refl, _, (0, nought 0, nought 0, nought 1, refl, refl), refl), (_, (refl, (all_there, took_nothing once_read (with_this just_begun opened) refl (took_nothing just_begun opened refl took_none)), (one_not_zero, refl, _, (record { begun = refl; newest = refl; unacknowledged = below_next 0; numbered = refl }, refl), refl)), (_, inr (one_not_zero, refl, _, (1, same 1, same 1, same 1, refl, refl), refl), refl))))), (refl, refl, refl, refl))

pub lock_moves_after_answer : LockMovesAfterAnswer
unfolding Words.at Words.at_key is_among Database.newest or_empty Database.all_seen kind_at kind_in name_in name_of has_records Updates.contents Persisted.written Register.reading
lock_moves_after_answer =
    (_, (_, (one_not_zero, refl, _, (refl, refl, refl), refl), (_, (one_not_zero, refl, _, (refl, refl, refl), refl), (_, (refl, (all_there, took_nothing just_begun opened refl took_none), (one_not_zero, refl, _, (record { begun = refl; newest = refl; unacknowledged = below_next 0; numbered = refl }, refl), refl)), (_, (one_not_zero, refl, _, (refl, refl), refl), (_, (one_not_zero, refl, _, (refl, refl, refl), refl), (_, inr (one_not_zero, refl, _, (1, same 1, same 1, same 1, refl, refl), refl), refl)))))), (refl, refl, refl, refl))

pub another_is_refused : AnotherIsRefused
unfolding Words.at Words.at_key or_empty kind_at kind_in name_in name_of has_records Updates.contents Persisted.written Register.reading
another_is_refused =
    (_, (_, (one_not_zero, refl, _, (refl, refl, refl), refl), (_, (one_not_zero, refl, _, (refl, refl, refl), refl), (_, ((λ k. refl), refl), (_, inr (one_not_zero, refl, _, (1, nought 1, same 1, same 1, refl, refl), refl), refl)))), (refl, refl, refl, refl))

pub unsure_is_open : UnsureIsOpen
unfolding Words.at Words.at_key is_among Database.newest or_empty Database.all_seen kind_at kind_in name_in name_of has_records Updates.contents Persisted.written Register.reading
unsure_is_open =
    (_, (_, (one_not_zero, refl, _, (refl, refl, refl), refl), (_, (one_not_zero, refl, _, (refl, refl, refl), refl), (_, (refl, tt, (one_not_zero, refl, _, (record { begun = refl; newest = refl; unacknowledged = below_next 0; numbered = refl }, ((λ e. cc), refl, refl), refl), refl)), (_, (one_not_zero, refl, _, (refl, refl), refl), (_, inr (one_not_zero, refl, _, (0, nought 0, nought 0, nought 1, refl, refl), refl), refl))))), (refl, refl, refl, refl))
