-- Whether journals are settled.
use Rattle.std.proofs.Common.{◌≡◌, ◌≢◌, ◌∙◌, ℕ, zero, suc, ◌<◌, ◌≤◌, ◌⊎◌, ⊎_elim, nat_le, Bool, true, false, List, [], ◌∷◌, length, refl, sym, arith}
use Rattle.std.proofs.lemmas.Bool.{leb-false, leb-true, or_cases, or_parts}
use Rattle.std.specs.Prelude.{MatchBool}
use Rattle.std.specs.List.{list_any}
use Rattle.ct_script.specs.Cues.{most_entries}
use Rattle.ct_journal.specs.Order.{AreInOrder, entries_of, or_no_entries}
use Rattle.ct_journal.specs.declared.journal.Journal.{Journal}
use Rattle.ct_journal_order.specs.Order.{left_over}
use Rattle.ct_troupe_threads.specs.Threaded.{AreSettled, has_most_entries}

-- where a journal has all entries that a node takes, not all have fewer
one_has_most : (js : List Journal) → list_any has_most_entries js ≡ true → ((n : ℕ) → length (entries_of js n) < most_entries) → ⊥
unfolding has_most_entries entries_of or_no_entries
one_has_most [] h few = cc
one_has_most (j ∷ js) h few = ⊎_elim
    (λ (here : has_most_entries j ≡ true). (let l = leb-true most_entries (length j.entries) here in let k = few 0 in absurd (omega arith)))
    (λ (later : list_any has_most_entries js ≡ true). one_has_most js later (λ n. few (suc n)))
    (or_cases (has_most_entries j) (list_any has_most_entries js) h)

none_has_most : (js : List Journal) → list_any has_most_entries js ≡ false → (n : ℕ) → length (entries_of js n) < most_entries
unfolding has_most_entries entries_of or_no_entries
none_has_most [] h n = omega arith
none_has_most (j ∷ js) h zero = leb-false most_entries (length j.entries) (or_parts (has_most_entries j) (list_any has_most_entries js) h).0
none_has_most (j ∷ js) h (suc n) = none_has_most js (or_parts (has_most_entries j) (list_any has_most_entries js) h).1 n

pub all_arrived : (js : List Journal) → AreInOrder js → 0 ≡ left_over js → AreSettled js
all_arrived js order is = record { in_order = order; arrived = λ few. sym is }

some_has_most : (js : List Journal) → AreInOrder js → list_any has_most_entries js ≡ true → AreSettled js
some_has_most js order some = record { in_order = order; arrived = λ few. absurd (one_has_most js some few) }

not_arrived : (js : List Journal) (left : ℕ) → left ≡ left_over js → left ≢ 0 → list_any has_most_entries js ≡ false → AreSettled js → ⊥
not_arrived js left is some none h = some (is ∙ h.arrived (none_has_most js none))

pub settled_by_most : (js : List Journal) (left : ℕ) (most : Bool) → AreInOrder js → left ≡ left_over js → left ≢ 0 → most ≡ list_any has_most_entries js → MatchBool most (AreSettled js) (AreSettled js → ⊥)
settled_by_most js left true order is some most = some_has_most js order (sym most)
settled_by_most js left false order is some most = not_arrived js left is some (sym most)

pub not_in_order : (js : List Journal) → (AreInOrder js → ⊥) → AreSettled js → ⊥
not_in_order js none h = none h.in_order
