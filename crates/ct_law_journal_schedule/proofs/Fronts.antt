-- What an entry more makes of a front: what stands in the list of its node, and what is left.
use Rattle.std.proofs.Common.{◌≡◌, ◌≢◌, ℕ, zero, suc, ◌+◌, ◌<◌, List, [], ◌∷◌, ◌++◌, length, set, drop, take, Some, append-nil, append_assoc, true, false, length-append, arith, refl, sym, ap, ◌∙◌}
use Rattle.std.proofs.lemmas.List.{drop_all}
use Rattle.std.specs.Prelude.{slice_get}
use Rattle.ct_frame.specs.declared.event.Event.{Event}
use Rattle.ct_frame.specs.declared.frame.Frame.{Frame}
use Rattle.ct_rules_node.specs.Node.{or_zero}
use Rattle.ct_journal.specs.Order.{Front, all_entries, arrived_from, count_sent, entries_of, first_front, frames_in, frames_to, front_after, is_from, next_entry, or_no_entries, past_of, sent_to, taken_of}
use Rattle.ct_journal.specs.declared.journal.Journal.{Journal}
use Rattle.ct_journal.specs.declared.journal.JournalEntry.{JournalEntry}
use Rattle.ct_journal.proofs.Ends.{none_taken, is_there, taken_other, taken_own}

-- the entries of node n that do not stand in the list so far
unfoldable pub rest_of : List Journal → Front → ℕ → List JournalEntry
rest_of js f n = drop (taken_of f n) (entries_of js n)

-- ---- lists

drop_next : (xs : List JournalEntry) (k : ℕ) (x : JournalEntry) → slice_get xs k ≡ Some x → drop k xs ≡ x ∷ drop (k + 1) xs
drop_next [] k x e = absurd (cc)
drop_next (y ∷ ys) zero x e = cc
drop_next (y ∷ ys) (suc k) x e = (let more : suc (k + 1) ≡ suc k + 1 = omega arith in drop_next ys k x e ∙ ap (λ (m : ℕ). x ∷ drop m (y ∷ ys)) more)

pub take_next : (xs : List JournalEntry) (k : ℕ) (x : JournalEntry) → slice_get xs k ≡ Some x → take (k + 1) xs ≡ take k xs ++ x ∷ []
take_next [] k x e = absurd (cc)
take_next (y ∷ ys) zero x e = cc
take_next (y ∷ ys) (suc k) x e = (let more : suc k + 1 ≡ suc (k + 1) = omega arith in ap (λ (m : ℕ). take m (y ∷ ys)) more) ∙ ap (λ (l : List JournalEntry). y ∷ l) (take_next ys k x e)

-- ---- one entry more

pub has_journal : (js : List Journal) (f : Front) (n : ℕ) (x : JournalEntry) → next_entry js f n ≡ Some x → n < length js
unfolding next_entry entries_of
has_journal js f n x next = is_there js n (taken_of f n) x next

pub rest_own : (js : List Journal) (f : Front) (n : ℕ) (x : JournalEntry) → n < length f.taken → next_entry js f n ≡ Some x → rest_of js f n ≡ x ∷ rest_of js (front_after n x.event f) n
unfolding rest_of next_entry
rest_own js f n x l next = drop_next (entries_of js n) (taken_of f n) x next ∙ ap (λ (k : ℕ). x ∷ drop k (entries_of js n)) (sym (taken_own f n x.event l))

pub rest_other : (js : List Journal) (f : Front) (n m : ℕ) (e : Event) → m ≢ n → rest_of js (front_after n e f) m ≡ rest_of js f m
unfolding rest_of
rest_other js f n m e ne = ap (λ (k : ℕ). drop k (entries_of js m)) (taken_other f n m e ne)

pub past_own : (js : List Journal) (f : Front) (n : ℕ) (x : JournalEntry) → n < length f.taken → next_entry js f n ≡ Some x → past_of js (front_after n x.event f) n ≡ past_of js f n ++ x ∷ []
unfolding past_of next_entry
past_own js f n x l next = ap (λ (k : ℕ). take k (entries_of js n)) (taken_own f n x.event l) ∙ take_next (entries_of js n) (taken_of f n) x next

pub past_other : (js : List Journal) (f : Front) (n m : ℕ) (e : Event) → m ≢ n → past_of js (front_after n e f) m ≡ past_of js f m
unfolding past_of
past_other js f n m e ne = ap (λ (k : ℕ). take k (entries_of js m)) (taken_other f n m e ne)

-- at first nothing stands in the list
pub rest_first : (js : List Journal) (n : ℕ) → rest_of js (first_front js) n ≡ entries_of js n
unfolding rest_of first_front taken_of
rest_first js n = ap (λ (k : ℕ). drop k (entries_of js n)) (none_taken (length js) n)

pub past_first : (js : List Journal) (n : ℕ) → past_of js (first_front js) n ≡ []
unfolding past_of first_front taken_of
past_first js n = ap (λ (k : ℕ). take k (entries_of js n)) (none_taken (length js) n)

-- in the end nothing is left
pub rest_whole : (js : List Journal) (f : Front) (n : ℕ) → taken_of f n ≡ length (entries_of js n) → rest_of js f n ≡ []
unfolding rest_of
rest_whole js f n whole = drop_all (taken_of f n) (entries_of js n) (omega arith)

-- ---- what entries send and take

pub sent_more : (n : ℕ) (xs : List JournalEntry) (x : JournalEntry) → sent_to n (xs ++ x ∷ []) ≡ sent_to n xs ++ frames_to n (frames_in x.outs)
unfolding sent_to
sent_more n [] x = append-nil (frames_to n (frames_in x.outs))
sent_more n (y ∷ ys) x =
    let own : List Frame = frames_to n (frames_in y.outs) in
    ap (λ (fs : List Frame). own ++ fs) (sent_more n ys x) ∙ sym (append_assoc own (sent_to n ys) (frames_to n (frames_in x.outs)))

pub arrived_more : (s : ℕ) (xs : List JournalEntry) (x : JournalEntry) → is_from s x.event ≡ true → arrived_from s (xs ++ x ∷ []) ≡ arrived_from s xs + 1
unfolding arrived_from
arrived_more s [] x is = grind arith
arrived_more s (y ∷ ys) x is = grind (arith, arrived_more s ys x is)

pub arrived_same : (s : ℕ) (xs : List JournalEntry) (x : JournalEntry) → is_from s x.event ≡ false → arrived_from s (xs ++ x ∷ []) ≡ arrived_from s xs
unfolding arrived_from
arrived_same s [] x is = grind arith
arrived_same s (y ∷ ys) x is = grind (arith, arrived_same s ys x is)

-- ---- how much is left

-- so many entries, and messages that they send
unfoldable pub weight : List JournalEntry → ℕ
weight xs = length xs + count_sent xs

-- so many entries that do not stand in the list so far, and messages that they send
unfoldable pub left_of : List Journal → List ℕ → ℕ
left_of [] ts = 0
left_of (j ∷ js) [] = weight j.entries + left_of js []
left_of (j ∷ js) (t ∷ ts) = weight (drop t j.entries) + left_of js ts

left_set : (js : List Journal) (ts : List ℕ) (n : ℕ) (x : JournalEntry) → n < length ts → slice_get (or_no_entries (slice_get js n)) (or_zero (slice_get ts n)) ≡ Some x →
    left_of js ts ≡ 1 + length (frames_in x.outs) + left_of js (set ts n (or_zero (slice_get ts n) + 1))
unfolding left_of or_no_entries or_zero weight count_sent
left_set [] ts n x l e = absurd (cc)
left_set (j ∷ js) [] n x l e = absurd (omega arith)
left_set (j ∷ js) (t ∷ ts) zero x l e = rw (drop_next j.entries t x e) (omega arith)
left_set (j ∷ js) (t ∷ ts) (suc n) x l e = let r = left_set js ts n x (omega arith) e in omega arith

pub left_after : (js : List Journal) (f : Front) (n : ℕ) (x : JournalEntry) → n < length f.taken → next_entry js f n ≡ Some x → left_of js f.taken ≡ 1 + length (frames_in x.outs) + left_of js (front_after n x.event f).taken
unfolding next_entry entries_of taken_of front_after
left_after js f n x l next = left_set js f.taken n x l next

pub sent_both : (xs ys : List JournalEntry) → count_sent (xs ++ ys) ≡ count_sent xs + count_sent ys
unfolding count_sent
sent_both [] ys = omega arith
sent_both (x ∷ xs) ys = let r = sent_both xs ys in omega arith

pub left_first : (js : List Journal) → left_of js (first_front js).taken ≡ length (all_entries js) + count_sent (all_entries js)
unfolding left_of all_entries weight first_front count_sent
left_first [] = refl
left_first (j ∷ js) = let r = left_first js in let l = length-append j.entries (all_entries js) in let s = sent_both j.entries (all_entries js) in omega arith
