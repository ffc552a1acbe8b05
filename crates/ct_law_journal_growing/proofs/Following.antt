-- A node follows its script, item by item.
use Rattle.std.proofs.Common.{◌≡◌, ℕ, zero, suc, ◌+◌, ◌≤◌, ◌⊎◌, inl, inr, ⊎_elim, nat_eq, nat_lt, true, ◌&&◌, List, [], ◌∷◌, ◌++◌, length, take, drop, max, Option, Some, None, append_assoc, refl, sym, ap, ◌∙◌, subst, arith}
use Rattle.std.proofs.lemmas.Bool.{and_parts, eqb-true, eq-eqb, lt-ltb}
use Rattle.std.proofs.lemmas.List.{append-nil, take-append-drop}
use Rattle.std.specs.Prelude.{slice_get}
use Rattle.std.specs.List.{list_all}
use Rattle.ct_frame.specs.Fields.{ascends, ascends_after}
use Rattle.ct_frame.specs.declared.event.Event.{Event}
use Rattle.ct_frame.specs.declared.event.Event.TheVariants as event
use Rattle.ct_frame.specs.declared.event.Out.{Out}
use Rattle.ct_script.specs.declared.plan.PlanItem.{PlanItem}
use Rattle.ct_script.specs.declared.plan.PlanItem.TheVariants.{Call, Round}
use Rattle.ct_script.specs.Cues.{IsWaiting, begun, cue_after, cue_over, first_cue, greatest_call, is_played, item_of, item_unless, items_in, most_entries, next_item, number_of_call, with_item}
use Rattle.ct_script.specs.declared.cue.Cue.{Cue}
use Rattle.ct_journal.specs.Order.{numbers_of_calls}
use Rattle.ct_journal.specs.declared.journal.JournalEntry.{JournalEntry}
use Rattle.ct_law_journal_growing.specs.Following.{Follows, TakesNext, counts_up}
use Rattle.ct_law_journal_growing.specs.CueLaws.{EndsScripted, FollowsCalls, FollowsFirst, FollowsOn, FollowsRising}

-- ---- numbers that count up

-- the last of these numbers, or this one
last_of : ℕ → List ℕ → ℕ
last_of last [] = last
last_of last (n ∷ ns) = last_of n ns

counts_parts : (last n : ℕ) (ns : List ℕ) → counts_up last (n ∷ ns) ≡ true → (n ≡ last + 1) × (counts_up n ns ≡ true)
unfolding counts_up
counts_parts last n ns h = let p = and_parts (nat_eq n (last + 1)) (counts_up n ns) h in (eqb-true n (last + 1) p.0, p.1)

counts_more : (last n : ℕ) (ns : List ℕ) → counts_up last ns ≡ true → n ≡ last_of last ns + 1 → counts_up last (ns ++ n ∷ []) ≡ true
unfolding counts_up last_of
counts_more last n [] h e = (λ i. eq-eqb n (last + 1) e i && true)
counts_more last n (m ∷ ns) h e = let p = and_parts (nat_eq m (last + 1)) (counts_up m ns) h in (λ i. p.0 i && counts_more m n ns p.1 e i)

counted_rise : (last : ℕ) (ns : List ℕ) → counts_up last ns ≡ true → ascends_after nat_lt last ns ≡ true
unfolding counts_up
counted_rise last [] h = refl
counted_rise last (n ∷ ns) h = let p = counts_parts last n ns h in (λ i. lt-ltb last n (let e = p.0 in omega arith) i && counted_rise n ns p.1 i)

counted_ascend : (last : ℕ) (ns : List ℕ) → counts_up last ns ≡ true → ascends nat_lt ns ≡ true
counted_ascend last [] h = refl
counted_ascend last (n ∷ ns) h = counted_rise n ns (counts_parts last n ns h).1

-- ---- one entry more

over_more : (xs : List JournalEntry) (x : JournalEntry) (c : Cue) → cue_over (xs ++ x ∷ []) c ≡ cue_after x (cue_over xs c)
unfolding cue_over
over_more [] x c = refl
over_more (y ∷ ys) x c = over_more ys x (cue_after y c)

item_first : (o : Option PlanItem) (all is more : List PlanItem) → all ≡ is ++ more → with_item o all ≡ with_item o is ++ more
unfolding with_item
item_first None all is more e = e
item_first (Some i) all is more e = ap (λ (js : List PlanItem). i ∷ js) e

items_more : (xs : List JournalEntry) (x : JournalEntry) → items_in (xs ++ x ∷ []) ≡ items_in xs ++ with_item (item_of x.event) []
unfolding items_in
items_more [] x = refl
items_more (y ∷ ys) x = item_first (item_of y.event) (items_in (ys ++ x ∷ [])) (items_in ys) (with_item (item_of x.event) []) (items_more ys x)

played_more : (xs : List JournalEntry) (x : JournalEntry) → list_all (λ y. is_played y.event) xs ≡ true → is_played x.event ≡ true → list_all (λ y. is_played y.event) (xs ++ x ∷ []) ≡ true
played_more [] x h e = (λ i. e i && true)
played_more (y ∷ ys) x h e = let p = and_parts (is_played y.event) (list_all (λ z. is_played z.event) ys) h in (λ i. p.0 i && played_more ys x p.1 e i)

-- the number of a call, where the event is one
own_numbers : Event → List ℕ
own_numbers (event.Client call o) = call ∷ []
own_numbers _ = []

numbers_of : (e : Event) (outs : List Out) (xs : List JournalEntry) → numbers_of_calls (record { event = e; outs = outs } ∷ xs) ≡ own_numbers e ++ numbers_of_calls xs
unfolding numbers_of_calls own_numbers
numbers_of (event.Client call o) outs xs = refl
numbers_of (event.Arrive f) outs xs = refl
numbers_of event.Retry outs xs = refl
numbers_of (event.Vacuum db) outs xs = refl
numbers_of (event.BeginRound ticket members) outs xs = refl
numbers_of (event.BeginTakeover able) outs xs = refl

numbers_first : (x : JournalEntry) (xs : List JournalEntry) → numbers_of_calls (x ∷ xs) ≡ own_numbers x.event ++ numbers_of_calls xs
numbers_first x xs = numbers_of x.event x.outs xs

no_numbers : numbers_of_calls [] ≡ []
unfolding numbers_of_calls
no_numbers = refl

numbers_more : (xs : List JournalEntry) (x : JournalEntry) → numbers_of_calls (xs ++ x ∷ []) ≡ numbers_of_calls xs ++ own_numbers x.event
numbers_more [] x = numbers_first x [] ∙ ap (λ (ns : List ℕ). own_numbers x.event ++ ns) no_numbers ∙ append-nil (own_numbers x.event) ∙ ap (λ (ns : List ℕ). ns ++ own_numbers x.event) (sym no_numbers)
numbers_more (y ∷ ys) x =
    numbers_first y (ys ++ x ∷ []) ∙ ap (λ (ns : List ℕ). own_numbers y.event ++ ns) (numbers_more ys x) ∙ sym (append_assoc (own_numbers y.event) (numbers_of_calls ys) (own_numbers x.event))
    ∙ ap (λ (ns : List ℕ). ns ++ own_numbers x.event) (sym (numbers_first y ys))

-- ---- the number of a cue

last_more : (last : ℕ) (ns ms : List ℕ) → last_of last (ns ++ ms) ≡ last_of (last_of last ns) ms
unfolding last_of
last_more last [] ms = refl
last_more last (n ∷ ns) ms = last_more n ns ms

after_calls_of : (e : Event) (outs : List Out) (c : Cue) → (cue_after (record { event = e; outs = outs }) c).calls ≡ last_of c.calls (own_numbers e)
unfolding cue_after begun own_numbers last_of
after_calls_of (event.Client call o) outs c = refl
after_calls_of (event.Arrive f) outs c = refl
after_calls_of event.Retry outs c = refl
after_calls_of (event.Vacuum db) outs c = refl
after_calls_of (event.BeginRound ticket members) outs c = refl
after_calls_of (event.BeginTakeover able) outs c = refl

over_calls : (xs : List JournalEntry) (c : Cue) → (cue_over xs c).calls ≡ last_of c.calls (numbers_of_calls xs)
unfolding cue_over last_of
over_calls [] c = ap (λ (ns : List ℕ). last_of c.calls ns) (sym no_numbers)
over_calls (x ∷ xs) c =
    over_calls xs (cue_after x c) ∙ ap (λ (n : ℕ). last_of n (numbers_of_calls xs)) (after_calls_of x.event x.outs c) ∙ sym (last_more c.calls (own_numbers x.event) (numbers_of_calls xs))
    ∙ ap (λ (ns : List ℕ). last_of c.calls ns) (sym (numbers_first x xs))

-- a bound of the numbers that count up from here
IsLast : ℕ → ℕ → List ℕ → Type 0
IsLast greatest last ns = (greatest ≤ last_of last ns) × (last ≤ last_of last ns)

one_greater : (e : Event) (greatest last : ℕ) (ns : List ℕ) → ((n : ℕ) → counts_up n ns ≡ true → IsLast greatest n ns) → counts_up last (own_numbers e ++ ns) ≡ true → IsLast (max (number_of_call e) greatest) last (own_numbers e ++ ns)
unfolding IsLast own_numbers number_of_call last_of
one_greater (event.Client call o) greatest last ns all h =
    let p = counts_parts last call ns h in
    let l = all call p.1 in
    let e = p.0 in
    let a = l.0 in
    let b = l.1 in
    (omega arith, omega arith)
one_greater (event.Arrive f) greatest last ns all h = let l = all last h in let a = l.0 in let b = l.1 in (omega arith, b)
one_greater event.Retry greatest last ns all h = let l = all last h in let a = l.0 in let b = l.1 in (omega arith, b)
one_greater (event.Vacuum db) greatest last ns all h = let l = all last h in let a = l.0 in let b = l.1 in (omega arith, b)
one_greater (event.BeginRound ticket members) greatest last ns all h = let l = all last h in let a = l.0 in let b = l.1 in (omega arith, b)
one_greater (event.BeginTakeover able) greatest last ns all h = let l = all last h in let a = l.0 in let b = l.1 in (omega arith, b)

last_of_none : (n : ℕ) → IsLast 0 n []
unfolding IsLast last_of
last_of_none n = (omega arith, omega arith)

greatest_last : (xs : List JournalEntry) (last : ℕ) → counts_up last (numbers_of_calls xs) ≡ true → IsLast (greatest_call xs) last (numbers_of_calls xs)
unfolding greatest_call
greatest_last [] last h = subst (λ (ns : List ℕ). IsLast 0 last ns) (sym no_numbers) (last_of_none last)
greatest_last (x ∷ xs) last h =
    subst (λ (ns : List ℕ). IsLast (max (number_of_call x.event) (greatest_call xs)) last ns) (sym (numbers_first x xs))
    (one_greater x.event (greatest_call xs) last (numbers_of_calls xs) (λ n g. greatest_last xs n g) (subst (λ (ns : List ℕ). counts_up last ns ≡ true) (numbers_first x xs) h))

greatest_more : (xs ys : List JournalEntry) → greatest_call (xs ++ ys) ≡ max (greatest_call xs) (greatest_call ys)
unfolding greatest_call
greatest_more [] ys = omega arith
greatest_more (x ∷ xs) ys = let e = greatest_more xs ys in omega arith

last_is : (last greatest : ℕ) (ns : List ℕ) → IsLast greatest last ns → (greatest ≤ last_of last ns) × (last ≤ last_of last ns)
unfolding IsLast
last_is last greatest ns h = h

first_calls : (before : List JournalEntry) → (first_cue before).calls ≡ greatest_call before
unfolding first_cue
first_calls before = refl

calls_of_cue : (script : List PlanItem) (before since : List JournalEntry) (cue : Cue) → Follows script before since cue → cue.calls ≡ last_of (first_cue before).calls (numbers_of_calls since)
calls_of_cue script before since cue h = ap (λ (c : Cue). c.calls) h.cue_is ∙ over_calls since (first_cue before)

pub follows_calls : FollowsCalls
follows_calls script before since cue h =
    let l = last_is (first_cue before).calls (greatest_call since) (numbers_of_calls since) (greatest_last since (first_cue before).calls h.numbers) in
    let a = l.0 in
    let b = l.1 in
    let c = calls_of_cue script before since cue h in
    let d = first_calls before in
    let e = greatest_more before since in
    omega arith

-- ---- first

pub follows_first : FollowsFirst
unfolding items_in first_cue cue_over counts_up numbers_of_calls
follows_first script before = record { cue_is = refl; items = refl; played = refl; numbers = refl }

-- ---- on

pub got_item : (w : Option ℕ) (k : ℕ) (script : List PlanItem) (i : PlanItem) → item_unless w k script ≡ Some i → slice_get script k ≡ Some i
unfolding item_unless
got_item None k script i e = e
got_item (Some call) k script i e = absurd (cc)

take_suc : (k : ℕ) (xs : List PlanItem) (x : PlanItem) → slice_get xs k ≡ Some x → take (suc k) xs ≡ take k xs ++ x ∷ []
take_suc k [] x e = absurd (cc)
take_suc zero (y ∷ ys) x e = cc
take_suc (suc k) (y ∷ ys) x e = ap (λ (zs : List PlanItem). y ∷ zs) (take_suc k ys x e)

take_one : (k : ℕ) (xs : List PlanItem) (x : PlanItem) → slice_get xs k ≡ Some x → take (k + 1) xs ≡ take k xs ++ x ∷ []
take_one k xs x e = let same : k + 1 ≡ suc k = omega arith in ap (λ (n : ℕ). take n xs) same ∙ take_suc k xs x e

pub next_got : (script : List PlanItem) (cue : Cue) (i : PlanItem) → next_item script cue ≡ Some i → slice_get script cue.taken ≡ Some i
unfolding next_item
next_got script cue i e = got_item cue.waits cue.taken script i e

items_after : (e : Event) (outs : List Out) (script is : List PlanItem) (cue : Cue) → TakesNext script cue e → is ≡ take cue.taken script → is ++ with_item (item_of e) [] ≡ take (cue_after (record { event = e; outs = outs }) cue).taken script
unfolding TakesNext item_of with_item cue_after begun
items_after (event.Client call o) outs script is cue may same = ap (λ (js : List PlanItem). js ++ Call o ∷ []) same ∙ sym (take_one cue.taken script (Call o) (next_got script cue (Call o) may.1))
items_after (event.Arrive f) outs script is cue may same = append-nil is ∙ same
items_after event.Retry outs script is cue may same = absurd may
items_after (event.Vacuum db) outs script is cue may same = absurd may
items_after (event.BeginRound ticket members) outs script is cue may same = ap (λ (js : List PlanItem). js ++ Round members ∷ []) same ∙ sym (take_one cue.taken script (Round members) (next_got script cue (Round members) may))
items_after (event.BeginTakeover able) outs script is cue may same = absurd may

played_next : (script : List PlanItem) (cue : Cue) (e : Event) → TakesNext script cue e → is_played e ≡ true
unfolding TakesNext is_played
played_next script cue (event.Client call o) may = refl
played_next script cue (event.Arrive f) may = refl
played_next script cue event.Retry may = absurd may
played_next script cue (event.Vacuum db) may = absurd may
played_next script cue (event.BeginRound ticket members) may = refl
played_next script cue (event.BeginTakeover able) may = absurd may

numbers_next : (e : Event) (script : List PlanItem) (cue : Cue) (last : ℕ) (ns : List ℕ) → TakesNext script cue e → cue.calls ≡ last_of last ns → counts_up last ns ≡ true → counts_up last (ns ++ own_numbers e) ≡ true
unfolding TakesNext own_numbers
numbers_next (event.Client call o) script cue last ns may is h = counts_more last call ns h (may.0 ∙ ap (λ (n : ℕ). n + 1) is)
numbers_next (event.Arrive f) script cue last ns may is h = subst (λ (ms : List ℕ). counts_up last ms ≡ true) (sym (append-nil ns)) h
numbers_next event.Retry script cue last ns may is h = absurd may
numbers_next (event.Vacuum db) script cue last ns may is h = absurd may
numbers_next (event.BeginRound ticket members) script cue last ns may is h = subst (λ (ms : List ℕ). counts_up last ms ≡ true) (sym (append-nil ns)) h
numbers_next (event.BeginTakeover able) script cue last ns may is h = absurd may

pub follows_on : FollowsOn
follows_on script before since cue x h may = record {
  cue_is = ap (λ (c : Cue). cue_after x c) h.cue_is ∙ sym (over_more since x (first_cue before));
  items = items_more since x ∙ items_after x.event x.outs script (items_in since) cue may h.items;
  played = played_more since x h.played (played_next script cue x.event may);
  numbers = subst (λ (ns : List ℕ). counts_up (first_cue before).calls ns ≡ true) (sym (numbers_more since x))
      (numbers_next x.event script cue (first_cue before).calls (numbers_of_calls since) may (calls_of_cue script before since cue h) h.numbers);
}

-- ---- in the end

none_left : (k : ℕ) (xs : List PlanItem) → slice_get xs k ≡ None → drop k xs ≡ []
none_left zero [] e = refl
none_left (suc k) [] e = refl
none_left zero (x ∷ xs) e = absurd (cc)
none_left (suc k) (x ∷ xs) e = none_left k xs e

ends_by : (w : Option ℕ) (k : ℕ) (script : List PlanItem) (cue : Cue) → cue.waits ≡ w → item_unless w k script ≡ None → (drop k script ≡ []) ⊎ IsWaiting cue
unfolding item_unless IsWaiting
ends_by None k script cue is e = inl (none_left k script e)
ends_by (Some call) k script cue is e = inr (call, is)

next_none : (script : List PlanItem) (cue : Cue) → next_item script cue ≡ None → (drop cue.taken script ≡ []) ⊎ IsWaiting cue
unfolding next_item
next_none script cue e = ends_by cue.waits cue.taken script cue refl e

pub ends_scripted : EndsScripted
ends_scripted script entries cue h end = record {
  rest = drop cue.taken script;
  taken = ap (λ (is : List PlanItem). is ++ drop cue.taken script) h.items ∙ take-append-drop cue.taken script;
  played = h.played;
  held_up = ⊎_elim
      (λ (none : next_item script cue ≡ None). ⊎_elim
      (λ (all : drop cue.taken script ≡ []). inl all)
      (λ (waits : IsWaiting cue). inr (inl (subst (λ (c : Cue). IsWaiting c) h.cue_is waits)))
      (next_none script cue none))
      (λ (full : most_entries ≤ length entries). inr (inr full))
      end;
}

pub follows_rising : FollowsRising
follows_rising script entries cue h = counted_ascend (first_cue []).calls (numbers_of_calls entries) h.numbers
