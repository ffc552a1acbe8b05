-- What the tests say of journals.
use Rattle.std.proofs.Common.{◌≡◌, ℕ, zero, suc, ◌+◌, ◌-◌, ◌^◌, ◌<◌, ◌≤◌, nat_lt, Bool, true, false, if◌then◌else◌, List, [], ◌∷◌, length, arith, refl}
use Rattle.std.proofs.lemmas.Bool.{and_parts}
use Rattle.std.specs.List.{list_all}
use Rattle.ct_frame.specs.Fields.{ascends}
use Rattle.ct_journal.specs.Order.{AreInOrder, all_entries, count_arrived, entries_of, is_arrival, numbers_of_calls, or_no_entries}
use Rattle.ct_journal.specs.declared.journal.Journal.{Journal}
use Rattle.ct_journal.specs.declared.journal.JournalEntry.{JournalEntry}
use Rattle.ct_journal_order.specs.Order.{AllStand, IsOrderOf, StandBy, calls_rise, left_over, tally_of}

all_rise : (js : List Journal) → ((n : ℕ) → ascends nat_lt (numbers_of_calls (entries_of js n)) ≡ true) → list_all calls_rise js ≡ true
unfolding entries_of or_no_entries
all_rise [] h = refl
all_rise (j ∷ js) h = let a = h 0 in let b = all_rise js (λ n. h (suc n)) in cc

rise_all : (js : List Journal) → list_all calls_rise js ≡ true → (n : ℕ) → ascends nat_lt (numbers_of_calls (entries_of js n)) ≡ true
unfolding entries_of or_no_entries numbers_of_calls
rise_all [] h n = refl
rise_all (j ∷ js) h zero = (and_parts (calls_rise j) (list_all calls_rise js) h).0
rise_all (j ∷ js) h (suc n) = rise_all js (and_parts (calls_rise j) (list_all calls_rise js) h).1 n

few_arrive : (xs : List JournalEntry) → count_arrived xs ≤ length xs
unfolding count_arrived
few_arrive [] = omega arith
few_arrive (x ∷ xs) = by (is_arrival x.event) (few_arrive xs)
  where
    by : (b : Bool) → count_arrived xs ≤ length xs → (if b then 1 + count_arrived xs else count_arrived xs) ≤ suc (length xs)
    by true h = omega arith
    by false h = omega arith

pub not_few : (js : List Journal) → 2 ^ 61 ≤ (tally_of (all_entries js)).all → AreInOrder js → ⊥
not_few js l a = let f = a.few in omega arith

pub not_rising : (js : List Journal) → list_all calls_rise js ≡ false → AreInOrder js → ⊥
not_rising js e a = let h = all_rise js a.calls in cc

pub not_standing : (js : List Journal) → (AllStand js → ⊥) → AreInOrder js → ⊥
not_standing js none a = none (record { order = a.order; by = record { end = a.end; stand = a.stand; whole = a.whole } })

pub is_order : (js : List Journal) (ns : List ℕ) → (tally_of (all_entries js)).all < 2 ^ 61 → list_all calls_rise js ≡ true → StandBy js ns → IsOrderOf js ns
is_order js ns l rise a = record { in_order = record { order = ns; end = a.end; stand = a.stand; whole = a.whole; calls = rise_all js rise; few = omega arith }; same = refl }

pub is_answer : (js : List Journal) (count : ℕ) → AreInOrder js → count ≡ (tally_of (all_entries js)).sent - (tally_of (all_entries js)).arrived → AreInOrder js × (count ≡ left_over js)
is_answer js count a is = (a, let l = a.few in let few = few_arrive (all_entries js) in omega arith)
