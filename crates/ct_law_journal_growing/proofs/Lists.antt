-- Journals with one entry more, and lists with one item changed.
use Rattle.std.proofs.Common.{◌≡◌, ◌≢◌, ℕ, zero, suc, ◌+◌, ◌<◌, List, [], ◌∷◌, ◌++◌, length, set, take, Some, append_assoc, arith, refl, sym, ap, ◌∙◌, if◌then◌else◌, Bool, true, false}
use Rattle.std.proofs.lemmas.List.{length-append}
use Rattle.std.specs.Prelude.{slice_get, nat_eq}
use Rattle.ct_frame.specs.declared.frame.Frame.{Frame}
use Rattle.ct_journal.specs.Order.{all_entries, arrived_from, count_arrived, count_sent, entries_of, frames_in, frames_to, is_arrival, is_from, or_no_entries, sent_to}
use Rattle.ct_journal.specs.declared.journal.Journal.{Journal}
use Rattle.ct_journal.specs.declared.journal.JournalEntry.{JournalEntry}
use Rattle.ct_law_journal_growing.specs.Growing.{grown}

-- ---- lists

pub got_set : {A : Type 0} (xs : List A) (n : ℕ) (x : A) → n < length xs → slice_get (set xs n x) n ≡ Some x
got_set [] n x l = absurd (omega arith)
got_set (y ∷ ys) zero x l = refl
got_set (y ∷ ys) (suc n) x l = got_set ys n x (omega arith)

pub got_other : {A : Type 0} (xs : List A) (n m : ℕ) (x : A) → m ≢ n → slice_get (set xs n x) m ≡ slice_get xs m
got_other [] n m x ne = refl
got_other (y ∷ ys) zero zero x ne = absurd (ne refl)
got_other (y ∷ ys) zero (suc m) x ne = refl
got_other (y ∷ ys) (suc n) zero x ne = refl
got_other (y ∷ ys) (suc n) (suc m) x ne = got_other ys n m x (λ e. ne (ap suc e))

pub got_before : {A : Type 0} (xs ys : List A) (k : ℕ) (m : A) → slice_get xs k ≡ Some m → slice_get (xs ++ ys) k ≡ Some m
got_before [] ys k m e = absurd (cc)
got_before (x ∷ xs) ys zero m e = e
got_before (x ∷ xs) ys (suc k) m e = got_before xs ys k m e

pub got_after : {A : Type 0} (xs : List A) (x : A) (ys : List A) → slice_get (xs ++ x ∷ ys) (length xs) ≡ Some x
got_after [] x ys = refl
got_after (y ∷ xs) x ys = got_after xs x ys

pub take_all : {A : Type 0} (xs : List A) → take (length xs) xs ≡ xs
take_all [] = refl
take_all {A = A} (x ∷ xs) = ap (λ (ys : List A). x ∷ ys) (take_all xs)

pub append_nil : {A : Type 0} (xs : List A) → xs ++ [] ≡ xs
append_nil [] = refl
append_nil {A = A} (x ∷ xs) = ap (λ (ys : List A). x ∷ ys) (append_nil xs)

-- ---- journals with one entry more

pub grown_length : (n : ℕ) (x : JournalEntry) (js : List Journal) → length (grown n x js) ≡ length js
unfolding grown
grown_length n x [] = refl
grown_length zero x (j ∷ js) = refl
grown_length (suc n) x (j ∷ js) = ap suc (grown_length n x js)

pub grown_own : (n : ℕ) (x : JournalEntry) (js : List Journal) → n < length js → entries_of (grown n x js) n ≡ entries_of js n ++ x ∷ []
unfolding grown entries_of or_no_entries
grown_own n x [] l = absurd (omega arith)
grown_own zero x (j ∷ js) l = refl
grown_own (suc n) x (j ∷ js) l = grown_own n x js (omega arith)

pub grown_other : (n m : ℕ) (x : JournalEntry) (js : List Journal) → m ≢ n → entries_of (grown n x js) m ≡ entries_of js m
unfolding grown entries_of or_no_entries
grown_other n m x [] ne = refl
grown_other zero zero x (j ∷ js) ne = absurd (ne refl)
grown_other zero (suc m) x (j ∷ js) ne = refl
grown_other (suc n) zero x (j ∷ js) ne = refl
grown_other (suc n) (suc m) x (j ∷ js) ne = grown_other n m x js (λ e. ne (ap suc e))

-- who has an entry has a journal
pub has_journal : (js : List Journal) (n k : ℕ) (x : JournalEntry) → slice_get (entries_of js n) k ≡ Some x → n < length js
unfolding entries_of or_no_entries
has_journal [] n k x e = absurd (cc)
has_journal (j ∷ js) zero k x e = omega arith
has_journal (j ∷ js) (suc n) k x e = let l = has_journal js n k x e in omega arith

pub no_entries : (js : List Journal) → ((n : ℕ) → entries_of js n ≡ []) → all_entries js ≡ []
unfolding all_entries entries_of or_no_entries
no_entries [] none = refl
no_entries (j ∷ js) none = let own : j.entries ≡ [] = none 0 in let more = no_entries js (λ n. none (suc n)) in ap (λ (xs : List JournalEntry). xs ++ all_entries js) own ∙ more

-- ---- what entries count

pub frames_to_more : (n : ℕ) (fs gs : List Frame) → frames_to n (fs ++ gs) ≡ frames_to n fs ++ frames_to n gs
unfolding frames_to
frames_to_more n [] gs = refl
frames_to_more n (f ∷ fs) gs = by (nat_eq f.receiver n) (frames_to_more n fs gs)
  where
    by : (b : Bool) → frames_to n (fs ++ gs) ≡ frames_to n fs ++ frames_to n gs → (if b then f ∷ frames_to n (fs ++ gs) else frames_to n (fs ++ gs)) ≡ (if b then f ∷ frames_to n fs else frames_to n fs) ++ frames_to n gs
    by true e = ap (λ (hs : List Frame). f ∷ hs) e
    by false e = e

pub sent_more : (n : ℕ) (xs ys : List JournalEntry) → sent_to n (xs ++ ys) ≡ sent_to n xs ++ sent_to n ys
unfolding sent_to
sent_more n [] ys = refl
sent_more n (x ∷ xs) ys = ap (λ (fs : List Frame). frames_to n (frames_in x.outs) ++ fs) (sent_more n xs ys) ∙ sym (append_assoc (frames_to n (frames_in x.outs)) (sent_to n xs) (sent_to n ys))

pub sent_one : (n : ℕ) (xs : List JournalEntry) (x : JournalEntry) → sent_to n (xs ++ x ∷ []) ≡ sent_to n xs ++ frames_to n (frames_in x.outs)
unfolding sent_to
sent_one n xs x = sent_more n xs (x ∷ []) ∙ ap (λ (fs : List Frame). sent_to n xs ++ fs) (append_nil (frames_to n (frames_in x.outs)))

pub arrived_one : (s : ℕ) (xs : List JournalEntry) (x : JournalEntry) → arrived_from s (xs ++ x ∷ []) ≡ arrived_from s xs + (if is_from s x.event then 1 else 0)
unfolding arrived_from
arrived_one s [] x = by (is_from s x.event)
  where
    by : (b : Bool) → (if b then 1 + 0 else 0) ≡ 0 + (if b then 1 else 0)
    by true = refl
    by false = refl
arrived_one s (y ∷ ys) x = by (is_from s y.event) (arrived_one s ys x)
  where
    by : (b : Bool) → arrived_from s (ys ++ x ∷ []) ≡ arrived_from s ys + (if is_from s x.event then 1 else 0) → (if b then 1 + arrived_from s (ys ++ x ∷ []) else arrived_from s (ys ++ x ∷ [])) ≡ (if b then 1 + arrived_from s ys else arrived_from s ys) + (if is_from s x.event then 1 else 0)
    by true e = omega arith
    by false e = e

sent_all : (xs ys : List JournalEntry) → count_sent (xs ++ ys) ≡ count_sent xs + count_sent ys
unfolding count_sent
sent_all [] ys = omega arith
sent_all (x ∷ xs) ys = let e = sent_all xs ys in omega arith

arrived_all : (xs ys : List JournalEntry) → count_arrived (xs ++ ys) ≡ count_arrived xs + count_arrived ys
unfolding count_arrived
arrived_all [] ys = omega arith
arrived_all (x ∷ xs) ys = by (is_arrival x.event) (arrived_all xs ys)
  where
    by : (b : Bool) → count_arrived (xs ++ ys) ≡ count_arrived xs + count_arrived ys → (if b then 1 + count_arrived (xs ++ ys) else count_arrived (xs ++ ys)) ≡ (if b then 1 + count_arrived xs else count_arrived xs) + count_arrived ys
    by true e = omega arith
    by false e = e

arrived_in : (x : JournalEntry) → count_arrived (x ∷ []) ≡ (if is_arrival x.event then 1 else 0)
unfolding count_arrived
arrived_in x = by (is_arrival x.event)
  where
    by : (b : Bool) → (if b then 1 + 0 else 0) ≡ (if b then 1 else 0)
    by true = refl
    by false = refl

sent_in : (x : JournalEntry) → count_sent (x ∷ []) ≡ length (frames_in x.outs)
unfolding count_sent
sent_in x = omega arith

pub grown_sent : (n : ℕ) (x : JournalEntry) (js : List Journal) → n < length js → count_sent (all_entries (grown n x js)) ≡ count_sent (all_entries js) + length (frames_in x.outs)
unfolding grown all_entries
grown_sent n x [] l = absurd (omega arith)
grown_sent zero x (j ∷ js) l = omega (arith, sent_all (j.entries ++ x ∷ []) (all_entries js), sent_all j.entries (x ∷ []), sent_all j.entries (all_entries js), sent_in x)
grown_sent (suc n) x (j ∷ js) l = omega (arith, sent_all j.entries (all_entries (grown n x js)), sent_all j.entries (all_entries js), grown_sent n x js (omega arith))

pub grown_arrived : (n : ℕ) (x : JournalEntry) (js : List Journal) → n < length js → count_arrived (all_entries (grown n x js)) ≡ count_arrived (all_entries js) + (if is_arrival x.event then 1 else 0)
unfolding grown all_entries
grown_arrived n x [] l = absurd (omega arith)
grown_arrived zero x (j ∷ js) l = omega (arith, arrived_all (j.entries ++ x ∷ []) (all_entries js), arrived_all j.entries (x ∷ []), arrived_all j.entries (all_entries js), arrived_in x)
grown_arrived (suc n) x (j ∷ js) l = omega (arith, arrived_all j.entries (all_entries (grown n x js)), arrived_all j.entries (all_entries js), grown_arrived n x js (omega arith))

pub grown_count : (n : ℕ) (x : JournalEntry) (js : List Journal) → n < length js → length (all_entries (grown n x js)) ≡ length (all_entries js) + 1
unfolding grown all_entries
grown_count n x [] l = absurd (omega arith)
grown_count zero x (j ∷ js) l = omega (arith, length-append (j.entries ++ x ∷ []) (all_entries js), length-append j.entries (x ∷ []), length-append j.entries (all_entries js))
grown_count (suc n) x (j ∷ js) l = omega (arith, length-append j.entries (all_entries (grown n x js)), length-append j.entries (all_entries js), grown_count n x js (omega arith))
