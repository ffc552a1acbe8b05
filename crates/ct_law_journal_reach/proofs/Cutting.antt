-- Journals that are cut, and what their first entries hold.
use Rattle.std.proofs.Common.{◌≡◌, ◌≢◌, ℕ, zero, suc, ◌+◌, ◌<◌, ◌≤◌, ◌||◌, Bool, true, false, List, [], ◌∷◌, ◌++◌, length, map, take, Some, arith, refl, sym, ap, ◌∙◌, subst, ⊎_elim, ◌⊎◌, inl, inr}
use Rattle.std.proofs.lemmas.Bool.{cases_Bool, or_left, or_right, eq-eqb, eqb-true}
use Rattle.std.proofs.lemmas.List.{length-set, length-replicate, take_all}
use Rattle.std.specs.Prelude.{slice_get}
use Rattle.std.specs.List.{list_any}
use Rattle.ct_frame.specs.declared.event.Event.{Event}
use Rattle.ct_frame.specs.declared.event.Event.TheVariants as event
use Rattle.ct_rules_node.specs.Node.{or_zero}
use Rattle.ct_journal.specs.Order.{entries_of, or_no_entries}
use Rattle.ct_journal.specs.Schedules.{entry_under, event_under, has_call, is_call}
use Rattle.ct_journal.specs.declared.journal.Journal.{Journal}
use Rattle.ct_journal.specs.declared.journal.JournalEntry.{JournalEntry}
use Rattle.ct_journal.proofs.Ends.{got_set, got_other, none_taken}
use Rattle.ct_law_journal_reach.specs.Counts.{count_at, cut_journal, cut_to, has_ticket, begins_round, with_one_more}
use Rattle.ct_law_journal_reach.specs.Making.{no_counts}

-- ---- lists

pub take_none : (k : ℕ) (xs : List JournalEntry) → xs ≡ [] → take k xs ≡ []
take_none zero xs e = refl
take_none (suc k) [] e = refl
take_none (suc k) (x ∷ xs) e = absurd (cc)

pub got_within : (xs : List JournalEntry) (k : ℕ) (x : JournalEntry) → slice_get xs k ≡ Some x → k < length xs
got_within [] k x e = absurd (cc)
got_within (y ∷ ys) zero x e = omega arith
got_within (y ∷ ys) (suc k) x e = let l = got_within ys k x e in omega arith

pub got_at : (xs : List JournalEntry) (k : ℕ) → k < length xs → (x : JournalEntry) × (slice_get xs k ≡ Some x)
got_at [] k l = absurd (omega arith)
got_at (y ∷ ys) zero l = (y, refl)
got_at (y ∷ ys) (suc k) l = got_at ys k (omega arith)

-- ---- counts

pub no_count : (js : List Journal) (n : ℕ) → count_at (no_counts js) n ≡ 0
unfolding count_at no_counts
no_count js n = none_taken (length js) n

pub no_counts_size : (js : List Journal) → length (no_counts js) ≡ length js
unfolding no_counts
no_counts_size js = length-replicate (length js) 0

pub more_own : (ts : List ℕ) (n : ℕ) → n < length ts → count_at (with_one_more ts n) n ≡ count_at ts n + 1
unfolding count_at with_one_more or_zero
more_own ts n l = ap or_zero (got_set ts n (or_zero (slice_get ts n) + 1) l)

pub more_other : (ts : List ℕ) (n m : ℕ) → m ≢ n → count_at (with_one_more ts n) m ≡ count_at ts m
unfolding count_at with_one_more
more_other ts n m ne = ap or_zero (got_other ts n m (or_zero (slice_get ts n) + 1) ne)

pub more_size : (ts : List ℕ) (n : ℕ) → length (with_one_more ts n) ≡ length ts
unfolding with_one_more
more_size ts n = length-set ts n (count_at ts n + 1)

-- ---- entries

pub entries_cut : (js : List Journal) (ts : List ℕ) (n : ℕ) → entries_of (cut_to js ts) n ≡ take (count_at ts n) (entries_of js n)
unfolding entries_of or_no_entries cut_to cut_journal count_at or_zero
entries_cut [] ts n = sym (take_none (or_zero (slice_get ts n)) [] refl)
entries_cut (j ∷ js) [] zero = refl
entries_cut (j ∷ js) [] (suc n) = entries_cut js [] n
entries_cut (j ∷ js) (t ∷ ts) zero = refl
entries_cut (j ∷ js) (t ∷ ts) (suc n) = entries_cut js ts n

-- who has entries has a journal
pub is_there : (js : List Journal) (n k : ℕ) (x : JournalEntry) → slice_get (entries_of js n) k ≡ Some x → n < length js
unfolding entries_of or_no_entries
is_there [] n k x e = absurd (cc)
is_there (j ∷ js) zero k x e = omega arith
is_there (j ∷ js) (suc n) k x e = let l = is_there js n k x e in omega arith

pub none_there : (js : List Journal) (n : ℕ) → length js ≤ n → entries_of js n ≡ []
unfolding entries_of or_no_entries
none_there [] n l = refl
none_there (j ∷ js) zero l = absurd (omega arith)
none_there (j ∷ js) (suc n) l = none_there js n (omega arith)

pub own_entries : (js : List Journal) (n : ℕ) (j : Journal) → slice_get js n ≡ Some j → entries_of js n ≡ j.entries
unfolding entries_of or_no_entries
own_entries js n j is = ap or_no_entries is

-- ---- calls and tickets

-- among entries, those that are first too
any_first : (p : JournalEntry → Bool) (k l : ℕ) (xs : List JournalEntry) → k ≤ l → list_any p (take k xs) ≡ true → list_any p (take l xs) ≡ true
any_first p zero l xs le h = absurd (cc)
any_first p (suc k) zero xs le h = absurd (omega arith)
any_first p (suc k) (suc l) [] le h = h
any_first p (suc k) (suc l) (x ∷ xs) le h = ⊎_elim
    (λ (own : p x ≡ true). or_left (p x) (list_any p (take l xs)) own)
    (λ (no : p x ≡ false). or_right (p x) (list_any p (take l xs)) (any_first p k l xs (omega arith) (ap (λ (b : Bool). b || list_any p (take k xs)) (sym no) ∙ h)))
    (cases_Bool (p x))

any_append : (p : JournalEntry → Bool) (xs ys : List JournalEntry) → list_any p (xs ++ ys) ≡ (list_any p xs || list_any p ys)
any_append p [] ys = refl
any_append p (x ∷ xs) ys = ap (λ (b : Bool). p x || b) (any_append p xs ys) ∙ sym (or_assoc (p x) (list_any p xs) (list_any p ys))
  where
    or_assoc : (a b c : Bool) → ((a || b) || c) ≡ (a || (b || c))
    or_assoc true b c = refl
    or_assoc false b c = refl

pub ticket_first : (t k l : ℕ) (xs : List JournalEntry) → k ≤ l → has_ticket t (take k xs) ≡ true → has_ticket t (take l xs) ≡ true
unfolding has_ticket
ticket_first t k l xs le h = any_first (λ (x : JournalEntry). begins_round t x.event) k l xs le h

pub call_first : (a k l : ℕ) (xs : List JournalEntry) → k ≤ l → has_call a (take k xs) ≡ true → has_call a (take l xs) ≡ true
unfolding has_call
call_first a k l xs le h = any_first (λ (x : JournalEntry). is_call a x.event) k l xs le h

pub ticket_whole : (t k : ℕ) (xs : List JournalEntry) → has_ticket t (take k xs) ≡ true → has_ticket t xs ≡ true
ticket_whole t k xs h = ⊎_elim
    (λ (l : k ≤ length xs). subst (λ (ys : List JournalEntry). has_ticket t ys ≡ true) (take_all (length xs) xs (omega arith)) (ticket_first t k (length xs) xs l h))
    (λ (g : length xs ≤ k). subst (λ (ys : List JournalEntry). has_ticket t ys ≡ true) (take_all k xs g) h)
    (either k (length xs))
  where
    either : (a b : ℕ) → (a ≤ b) ⊎ (b ≤ a)
    either a zero = inr (omega arith)
    either zero (suc b) = inl (omega arith)
    either (suc a) (suc b) = ⊎_elim (λ (l : a ≤ b). inl (omega arith)) (λ (g : b ≤ a). inr (omega arith)) (either a b)

pub ticket_more : (t : ℕ) (xs ys : List JournalEntry) → has_ticket t (xs ++ ys) ≡ (has_ticket t xs || has_ticket t ys)
unfolding has_ticket
ticket_more t xs ys = any_append (λ (x : JournalEntry). begins_round t x.event) xs ys

pub call_more : (a : ℕ) (xs ys : List JournalEntry) → has_call a (xs ++ ys) ≡ (has_call a xs || has_call a ys)
unfolding has_call
call_more a xs ys = any_append (λ (x : JournalEntry). is_call a x.event) xs ys

round_under : (f : ℕ → ℕ) (t : ℕ) (e : Event) → begins_round t (event_under f e) ≡ begins_round t e
unfolding begins_round event_under
round_under f t (event.Client call o) = refl
round_under f t (event.Arrive m) = refl
round_under f t event.Retry = refl
round_under f t (event.Vacuum db) = refl
round_under f t (event.BeginRound ticket members) = refl
round_under f t (event.BeginTakeover able) = refl

-- tickets are no numbers of calls
pub ticket_under : (f : ℕ → ℕ) (t : ℕ) (xs : List JournalEntry) → has_ticket t (map (entry_under f) xs) ≡ has_ticket t xs
unfolding has_ticket entry_under
ticket_under f t [] = refl
ticket_under f t (x ∷ xs) = (λ i. round_under f t x.event i || ticket_under f t xs i)

-- a call under its new number
call_now : (f : ℕ → ℕ) (a : ℕ) (e : Event) → is_call a e ≡ true → is_call (f a) (event_under f e) ≡ true
unfolding is_call event_under
call_now f a (event.Client call o) h = eq-eqb (f call) (f a) (ap f (eqb-true call a h))
call_now f a _ h = absurd (cc)

pub call_under : (f : ℕ → ℕ) (a : ℕ) (xs : List JournalEntry) → has_call a xs ≡ true → has_call (f a) (map (entry_under f) xs) ≡ true
unfolding has_call entry_under
call_under f a [] h = absurd (cc)
call_under f a (x ∷ xs) h = ⊎_elim
    (λ (own : is_call a x.event ≡ true). or_left (is_call (f a) (event_under f x.event)) (list_any (λ (y : JournalEntry). is_call (f a) y.event) (map (entry_under f) xs)) (call_now f a x.event own))
    (λ (no : is_call a x.event ≡ false). or_right (is_call (f a) (event_under f x.event)) (list_any (λ (y : JournalEntry). is_call (f a) y.event) (map (entry_under f) xs))
    (call_under f a xs (ap (λ (b : Bool). b || list_any (λ (y : JournalEntry). is_call a y.event) xs) (sym no) ∙ h)))
    (cases_Bool (is_call a x.event))
