-- The numbers that the cluster gives to calls.
use Rattle.std.proofs.Common.{◌≡◌, ◌≢◌, ℕ, suc, ◌+◌, ◌<◌, ◌≤◌, ◌&&◌, ◌||◌, Bool, true, false, cond, List, [], ◌∷◌, length, arith, refl, sym, ap, ◌∙◌, subst, ⊎_elim}
use Rattle.std.proofs.lemmas.Bool.{and_parts, cases_Bool, cases_eq, cond_both, eq-eqb, eqb-true, ne_eqb, ltb-true, or_right}
use Rattle.std.specs.Prelude.{nat_eq, nat_lt, if◌then◌else◌}
use Rattle.ct_frame.specs.Fields.{ascends, ascends_after}
use Rattle.ct_frame.specs.declared.event.Event.{Event}
use Rattle.ct_frame.specs.declared.event.Event.TheVariants as event
use Rattle.ct_journal.specs.Order.{numbers_of_calls}
use Rattle.ct_journal.specs.Schedules.{Noted, has_call, is_call, made_at}
use Rattle.ct_journal.specs.declared.journal.JournalEntry.{JournalEntry}
use Rattle.ct_journal.proofs.Computed.{not_made}

-- how many calls were asked once an event has come
unfoldable pub asked_after : Event → ℕ → ℕ
asked_after (event.Client call o) k = k + 1
asked_after _ k = k

-- is it the entry of node n with this call?
unfoldable pub is_asked : ℕ → ℕ → Noted → Bool
is_asked n call x = nat_eq x.node n && is_call call x.entry.event

-- the number of the call of node n among all calls of these entries, where the first gets the number after k
unfoldable pub number_in : ℕ → List Noted → ℕ → ℕ → ℕ
number_in k [] n call = 0
number_in k (x ∷ xs) n call = if is_asked n call x then k + 1 else number_in (asked_after x.entry.event k) xs n call

-- ---- the calls of a journal

-- a client call stands first, or an event that is none
data First (x : JournalEntry) (xs : List JournalEntry) : Type 0 where
  asks : (call : ℕ) → numbers_of_calls (x ∷ xs) ≡ call ∷ numbers_of_calls xs → ((a : ℕ) → is_call a x.event ≡ nat_eq call a) → ((k : ℕ) → asked_after x.event k ≡ k + 1) → First x xs
  asks_none : numbers_of_calls (x ∷ xs) ≡ numbers_of_calls xs → ((a : ℕ) → is_call a x.event ≡ false) → ((k : ℕ) → asked_after x.event k ≡ k) → First x xs

first_of_calls : (x : JournalEntry) (xs : List JournalEntry) → First x xs
unfolding numbers_of_calls is_call asked_after
first_of_calls x xs = by x.event refl
  where
    by : (e : Event) → x.event ≡ e → First x xs
    by (event.Client call o) is = asks call (rw is) (λ a. rw is) (λ k. rw is)
    by (event.Arrive m) is = asks_none (rw is) (λ a. rw is) (λ k. rw is)
    by event.Retry is = asks_none (rw is) (λ a. rw is) (λ k. rw is)
    by (event.Vacuum db) is = asks_none (rw is) (λ a. rw is) (λ k. rw is)
    by (event.BeginRound t members) is = asks_none (rw is) (λ a. rw is) (λ k. rw is)
    by (event.BeginTakeover able) is = asks_none (rw is) (λ a. rw is) (λ k. rw is)

pub call_later : (a : ℕ) (x : JournalEntry) (xs : List JournalEntry) → has_call a xs ≡ true → has_call a (x ∷ xs) ≡ true
unfolding has_call
call_later a x xs h = or_right (is_call a x.event) (has_call a xs) h

-- a call that is not the first one is later
not_first : (a : ℕ) (x : JournalEntry) (xs : List JournalEntry) → has_call a (x ∷ xs) ≡ true → is_call a x.event ≡ false → has_call a xs ≡ true
unfolding has_call
not_first a x xs h other = ap (λ (b : Bool). b || has_call a xs) (sym other) ∙ h

ascends_later : (c : ℕ) (ns : List ℕ) → ascends_after nat_lt c ns ≡ true → ascends nat_lt ns ≡ true
ascends_later c [] h = refl
ascends_later c (n ∷ ns) h = (and_parts (nat_lt c n) (ascends_after nat_lt n ns) h).1

pub calls_later : (x : JournalEntry) (xs : List JournalEntry) → ascends nat_lt (numbers_of_calls (x ∷ xs)) ≡ true → ascends nat_lt (numbers_of_calls xs) ≡ true
calls_later x xs h = by (first_of_calls x xs)
  where
    by : First x xs → ascends nat_lt (numbers_of_calls xs) ≡ true
    by (asks call is named counted) = ascends_later call (numbers_of_calls xs) (subst (λ (ns : List ℕ). ascends nat_lt ns ≡ true) is h)
    by (asks_none is named counted) = subst (λ (ns : List ℕ). ascends nat_lt ns ≡ true) is h

-- calls that ascend after one are above it
above : (c a : ℕ) (xs : List JournalEntry) → ascends_after nat_lt c (numbers_of_calls xs) ≡ true → has_call a xs ≡ true → c < a
unfolding has_call
above c a [] asc h = absurd (cc)
above c a (x ∷ xs) asc h = by (first_of_calls x xs) (λ d. above d a xs)
  where
    by : First x xs → ((d : ℕ) → ascends_after nat_lt d (numbers_of_calls xs) ≡ true → has_call a xs ≡ true → d < a) → c < a
    by (asks call is named counted) more = (
        let p = and_parts (nat_lt c call) (ascends_after nat_lt call (numbers_of_calls xs)) (subst (λ (ns : List ℕ). ascends_after nat_lt c ns ≡ true) is asc) in
        let l = ltb-true c call p.0 in
        ⊎_elim
        (λ (own : is_call a x.event ≡ true). (let e = eqb-true call a (sym (named a) ∙ own) in omega arith))
        (λ (no : is_call a x.event ≡ false). (let m = more call p.1 (not_first a x xs h no) in omega arith))
        (cases_Bool (is_call a x.event)))
    by (asks_none is named counted) more = more c (subst (λ (ns : List ℕ). ascends_after nat_lt c ns ≡ true) is asc) (not_first a x xs h (named a))

one_call : (a b : ℕ) (x : JournalEntry) (xs : List JournalEntry) → is_call a x.event ≡ true → is_call b x.event ≡ true → a ≡ b
one_call a b x xs is also = by (first_of_calls x xs)
  where
    by : First x xs → a ≡ b
    by (asks call e named counted) = sym (eqb-true call a (sym (named a) ∙ is)) ∙ eqb-true call b (sym (named b) ∙ also)
    by (asks_none e named counted) = absurd (let f = named a in cc)

asked_is : (a k : ℕ) (x : JournalEntry) (xs : List JournalEntry) → is_call a x.event ≡ true → asked_after x.event k ≡ k + 1
asked_is a k x xs is = by (first_of_calls x xs)
  where
    by : First x xs → asked_after x.event k ≡ k + 1
    by (asks call e named counted) = counted k
    by (asks_none e named counted) = absurd (let f = named a in cc)

first_least : (c a : ℕ) (x : JournalEntry) (xs : List JournalEntry) → ascends nat_lt (numbers_of_calls (x ∷ xs)) ≡ true → is_call c x.event ≡ true → has_call a xs ≡ true → c < a
first_least c a x xs asc is h = by (first_of_calls x xs)
  where
    by : First x xs → c < a
    by (asks call e named counted) = (let l = above call a xs (subst (λ (ns : List ℕ). ascends nat_lt ns ≡ true) e asc) h in let q = eqb-true call c (sym (named c) ∙ is) in omega arith)
    by (asks_none e named counted) = absurd (let f = named c in cc)

-- the call that stands first stands nowhere later
pub first_once : (a : ℕ) (x : JournalEntry) (xs : List JournalEntry) → ascends nat_lt (numbers_of_calls (x ∷ xs)) ≡ true → has_call a xs ≡ true → is_call a x.event ≡ false
first_once a x xs asc h = by (first_of_calls x xs)
  where
    by : First x xs → is_call a x.event ≡ false
    by (asks call is named counted) = named a ∙ ne_eqb call a (λ e. absurd (let l = above call a xs (subst (λ (ns : List ℕ). ascends nat_lt ns ≡ true) is asc) h in omega arith))
    by (asks_none is named counted) = named a

-- ---- the numbers among all calls

pub made_own : (n : ℕ) (x : Noted) (xs : List Noted) → x.node ≡ n → made_at n (x ∷ xs) ≡ x.entry ∷ made_at n xs
unfolding made_at
made_own n x xs same = ap (λ (b : Bool). cond b (x.entry ∷ made_at n xs) (made_at n xs)) (eq-eqb x.node n same)

-- another call than the first gets its number later
pub number_later : (k : ℕ) (x : Noted) (xs : List Noted) (n a : ℕ) → is_asked n a x ≡ false → number_in k (x ∷ xs) n a ≡ number_in (asked_after x.entry.event k) xs n a
unfolding number_in
number_later k x xs n a other = ap (λ (b : Bool). cond b (k + 1) (number_in (asked_after x.entry.event k) xs n a)) other

pub number_now : (k : ℕ) (x : Noted) (xs : List Noted) (n a : ℕ) → is_asked n a x ≡ true → number_in k (x ∷ xs) n a ≡ k + 1
unfolding number_in
number_now k x xs n a own = ap (λ (b : Bool). cond b (k + 1) (number_in (asked_after x.entry.event k) xs n a)) own

pub other_asks : (n a : ℕ) (x : Noted) → x.node ≢ n → is_asked n a x ≡ false
unfolding is_asked
other_asks n a x ne = ap (λ (b : Bool). b && is_call a x.entry.event) (ne_eqb x.node n ne)

pub own_asks : (n a : ℕ) (x : Noted) → x.node ≡ n → is_asked n a x ≡ is_call a x.entry.event
unfolding is_asked
own_asks n a x same = ap (λ (b : Bool). b && is_call a x.entry.event) (eq-eqb x.node n same)

pub asked_more : (e : Event) (k : ℕ) → k ≤ asked_after e k
unfolding asked_after
asked_more (event.Client call o) k = omega arith
asked_more _ k = omega arith

pub asked_most : (e : Event) (k : ℕ) → asked_after e k ≤ k + 1
unfolding asked_after
asked_most (event.Client call o) k = omega arith
asked_most _ k = omega arith

pub number_few : (k : ℕ) (xs : List Noted) (n a : ℕ) → number_in k xs n a ≤ k + length xs
unfolding number_in
number_few k [] n a = omega arith
number_few k (x ∷ xs) n a = cond_both (is_asked n a x) (k + 1) (number_in (asked_after x.entry.event k) xs n a) (λ (m : ℕ). m ≤ k + suc (length xs))
    (λ _. omega arith)
    (λ _. (let f = number_few (asked_after x.entry.event k) xs n a in let m = asked_most x.entry.event k in omega arith))

number_more : (k : ℕ) (xs : List Noted) (n a : ℕ) → has_call a (made_at n xs) ≡ true → k < number_in k xs n a
unfolding number_in made_at has_call
number_more k [] n a h = absurd (cc)
number_more k (x ∷ xs) n a h = cond_both (is_asked n a x) (k + 1) (number_in (asked_after x.entry.event k) xs n a) (λ (m : ℕ). k < m)
    (λ _. omega arith)
    (λ no. (
    let later : has_call a (made_at n xs) ≡ true = ⊎_elim
    (λ (same : x.node ≡ n). not_first a x.entry (made_at n xs) (subst (λ (l : List JournalEntry). has_call a l ≡ true) (made_own n x xs same) h) (sym (own_asks n a x same) ∙ no))
    (λ (ne : x.node ≢ n). subst (λ (l : List JournalEntry). has_call a l ≡ true) (not_made n x xs ne) h)
    (cases_eq x.node n) in
    let f = number_more (asked_after x.entry.event k) xs n a later in
    let m = asked_more x.entry.event k in
    omega arith))

pub numbers_rise : (k : ℕ) (xs : List Noted) (n a b : ℕ) → ascends nat_lt (numbers_of_calls (made_at n xs)) ≡ true → has_call a (made_at n xs) ≡ true → has_call b (made_at n xs) ≡ true → a < b → number_in k xs n a < number_in k xs n b
unfolding made_at has_call
numbers_rise k [] n a b asc ha hb l = absurd (cc)
numbers_rise k (x ∷ xs) n a b asc ha hb l = ⊎_elim
    (λ (own : x.node ≡ n). (
    let same = made_own n x xs own in
    let asc2 = subst (λ (l : List JournalEntry). ascends nat_lt (numbers_of_calls l) ≡ true) same asc in
    let ha2 = subst (λ (l : List JournalEntry). has_call a l ≡ true) same ha in
    let hb2 = subst (λ (l : List JournalEntry). has_call b l ≡ true) same hb in
    ⊎_elim
    (λ (first : is_call a x.entry.event ≡ true). ⊎_elim
    (λ (too : is_call b x.entry.event ≡ true). absurd (let e = one_call a b x.entry (made_at n xs) first too in omega arith))
    (λ (no : is_call b x.entry.event ≡ false). (
    let ea = number_now k x xs n a (own_asks n a x own ∙ first) in
    let eb = number_later k x xs n b (own_asks n b x own ∙ no) in
    let m = number_more (asked_after x.entry.event k) xs n b (not_first b x.entry (made_at n xs) hb2 no) in
    let c = asked_is a k x.entry (made_at n xs) first in
    omega arith))
    (cases_Bool (is_call b x.entry.event)))
    (λ (later : is_call a x.entry.event ≡ false). (
    let ha3 = not_first a x.entry (made_at n xs) ha2 later in
    ⊎_elim
    (λ (first : is_call b x.entry.event ≡ true). absurd (let e = first_least b a x.entry (made_at n xs) asc2 first ha3 in omega arith))
    (λ (no : is_call b x.entry.event ≡ false). (
    let ea = number_later k x xs n a (own_asks n a x own ∙ later) in
    let eb = number_later k x xs n b (own_asks n b x own ∙ no) in
    let r = numbers_rise (asked_after x.entry.event k) xs n a b (calls_later x.entry (made_at n xs) asc2) ha3 (not_first b x.entry (made_at n xs) hb2 no) l in
    omega arith))
    (cases_Bool (is_call b x.entry.event))))
    (cases_Bool (is_call a x.entry.event))))
    (λ (ne : x.node ≡ n → ⊥). (
    let same = not_made n x xs ne in
    let r = numbers_rise (asked_after x.entry.event k) xs n a b
    (subst (λ (l : List JournalEntry). ascends nat_lt (numbers_of_calls l) ≡ true) same asc)
    (subst (λ (l : List JournalEntry). has_call a l ≡ true) same ha)
    (subst (λ (l : List JournalEntry). has_call b l ≡ true) same hb) l in
    let ea = number_later k x xs n a (other_asks n a x ne) in
    let eb = number_later k x xs n b (other_asks n b x ne) in
    omega arith))
    (cases_eq x.node n)
