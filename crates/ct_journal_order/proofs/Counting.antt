-- What is counted entry by entry is what the whole list has.
use Rattle.std.proofs.Common.{◌≡◌, ℕ, ◌+◌, ◌-◌, ◌^◌, ◌<◌, ◌≤◌, nat_lt, Bool, true, false, if◌then◌else◌, List, [], ◌∷◌, ◌++◌, length, drop, get_or, Option, None, Some, arith, refl, sym, ap, ◌∙◌, subst}
use Rattle.std.proofs.lemmas.List.{drop_all, drop_more}
use Rattle.ct_frame.specs.Fields.{ascends, ascends_after}
use Rattle.ct_journal.specs.Order.{all_entries, count_arrived, count_sent, is_arrival}
use Rattle.ct_journal.specs.declared.journal.Journal.{Journal}
use Rattle.ct_journal.specs.declared.journal.JournalEntry.{JournalEntry}
use Rattle.ct_journal_order.specs.Order.{all_counted, capped, counted, tally_of}
use Rattle.ct_journal_order.specs.declared.counts.Tally.{Tally}

-- do these numbers rise strictly, after the one before them?
abbrev pub ascends_from : Option ℕ → List ℕ → Bool
ascends_from None ns = ascends nat_lt ns
ascends_from (Some n) ns = ascends_after nat_lt n ns

pub counted_append : (xs ys : List JournalEntry) (t : Tally) → all_counted (xs ++ ys) t ≡ all_counted ys (all_counted xs t)
counted_append [] ys t = refl
counted_append (x ∷ xs) ys t = counted_append xs ys (counted x t)

counted_all : (xs : List JournalEntry) (t : Tally) → t.all ≤ 2 ^ 64 - 1 → (all_counted xs t).all ≡ capped (t.all + (length xs + count_sent xs))
unfolding count_sent
counted_all [] t l = omega arith
counted_all (x ∷ xs) t l = let h = counted_all xs (counted x t) (omega arith) in omega arith

counted_sent : (xs : List JournalEntry) (t : Tally) → t.sent ≤ 2 ^ 64 - 1 → (all_counted xs t).sent ≡ capped (t.sent + count_sent xs)
unfolding count_sent
counted_sent [] t l = omega arith
counted_sent (x ∷ xs) t l = let h = counted_sent xs (counted x t) (omega arith) in omega arith

one_arrival : (b : Bool) (a n r : ℕ) → a ≤ 2 ^ 64 - 1 → r ≡ capped ((if b then capped (a + 1) else a) + n) → r ≡ capped (a + (if b then 1 + n else n))
one_arrival true a n r l h = omega arith
one_arrival false a n r l h = h

still_capped : (b : Bool) (a : ℕ) → a ≤ 2 ^ 64 - 1 → (if b then capped (a + 1) else a) ≤ 2 ^ 64 - 1
still_capped true a l = omega arith
still_capped false a l = l

counted_arrived : (xs : List JournalEntry) (t : Tally) → t.arrived ≤ 2 ^ 64 - 1 → (all_counted xs t).arrived ≡ capped (t.arrived + count_arrived xs)
unfolding count_arrived
counted_arrived [] t l = omega arith
counted_arrived (x ∷ xs) t l =
    one_arrival (is_arrival x.event) t.arrived (count_arrived xs) (all_counted xs (counted x t)).arrived l (counted_arrived xs (counted x t) (still_capped (is_arrival x.event) t.arrived l))

same_tally : (t : Tally) (a s r : ℕ) → t.all ≡ a → t.sent ≡ s → t.arrived ≡ r → t ≡ record { all = a; sent = s; arrived = r }
same_tally t a s r ea es er =
    ap (λ (n : ℕ). record { all = n; sent = t.sent; arrived = t.arrived }) ea ∙ (ap (λ (n : ℕ). record { all = a; sent = n; arrived = t.arrived }) es ∙ ap (λ (n : ℕ). record { all = a; sent = s; arrived = n }) er)

pub counted_is : (xs : List JournalEntry) → all_counted xs (record { all = 0; sent = 0; arrived = 0 }) ≡ tally_of xs
counted_is xs =
    let zero_tally : Tally = record { all = 0; sent = 0; arrived = 0 } in
    let a = counted_all xs zero_tally (omega arith) in
    let s = counted_sent xs zero_tally (omega arith) in
    let r = counted_arrived xs zero_tally (omega arith) in
    same_tally (all_counted xs zero_tally) _ _ _ (omega arith) (omega arith) (omega arith)

-- ---- journal by journal

pub of_next : (js : List Journal) (i : ℕ) (j : Journal) (t r u : Tally) → i < length js → j ≡ get_or js i j → r ≡ all_counted j.entries t → all_counted (all_entries (drop i js)) t ≡ u → all_counted (all_entries (drop (i + 1) js)) r ≡ u
unfolding all_entries
of_next js i j t r u l is counts h =
    let rest : List Journal = drop (i + 1) js in
    let e : drop i js ≡ j ∷ rest = drop_more js i j l ∙ ap (λ (a : Journal). a ∷ rest) (sym is) in
    let k : all_counted (all_entries (j ∷ rest)) t ≡ u = subst (λ (xs : List Journal). all_counted (all_entries xs) t ≡ u) e h in
    ap (λ (v : Tally). all_counted (all_entries rest) v) counts ∙ (sym (counted_append j.entries (all_entries rest) t) ∙ k)

pub of_end : (js : List Journal) (i : ℕ) (t : Tally) → length js ≤ i → all_counted (all_entries (drop i js)) t ≡ all_counted (all_entries js) (record { all = 0; sent = 0; arrived = 0 }) → t ≡ tally_of (all_entries js)
unfolding all_entries
of_end js i t l h = subst (λ (xs : List Journal). all_counted (all_entries xs) t ≡ all_counted (all_entries js) (record { all = 0; sent = 0; arrived = 0 })) (drop_all i js l) h ∙ counted_is (all_entries js)
