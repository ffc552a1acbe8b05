-- A list of entries stays as it is while journals get more at their ends.
use Rattle.std.proofs.Common.{◌≡◌, ℕ, ◌+◌, ◌<◌, ◌≤◌, ⊎_elim, List, [], ◌∷◌, ◌++◌, length, take, Some, arith, refl, sym, ap, ◌∙◌, subst}
use Rattle.std.proofs.lemmas.Bool.{cases_eq}
use Rattle.std.proofs.lemmas.List.{take-append-le}
use Rattle.std.proofs.lemmas.Option.{slice_get_within}
use Rattle.std.specs.Prelude.{replicate, slice_get}
use Rattle.ct_frame.specs.declared.event.Event.{Event}
use Rattle.ct_frame.specs.declared.event.Event.TheVariants as event
use Rattle.ct_journal.specs.Order.{Front, MayStand, Stand, entries_of, first_front, front_after, next_entry, past_of, taken_of}
use Rattle.ct_journal.specs.declared.journal.Journal.{Journal}
use Rattle.ct_journal.specs.declared.journal.JournalEntry.{JournalEntry}
use Rattle.ct_journal.proofs.Ends.{none_taken, replicated, size_after, taken_other, taken_own}
use Rattle.ct_law_journal_growing.specs.Growing.{grown}
use Rattle.ct_law_journal_growing.proofs.Lists.{append_nil, got_before, grown_other, grown_own, has_journal}

-- each journal has the entries of the other, and perhaps more behind them
abbrev pub IsFrontOf : List Journal → List Journal → Type 0
IsFrontOf js ks = (n : ℕ) → (more : List JournalEntry) × (entries_of ks n ≡ entries_of js n ++ more)

pub grown_front : (n : ℕ) (x : JournalEntry) (js : List Journal) → n < length js → IsFrontOf js (grown n x js)
grown_front n x js l m = ⊎_elim
    (λ (same : m ≡ n). (x ∷ [], subst (λ (k : ℕ). entries_of (grown n x js) k ≡ entries_of js k ++ x ∷ []) (sym same) (grown_own n x js l)))
    (λ (ne : m ≡ n → ⊥). ([], grown_other n m x js ne ∙ sym (append_nil (entries_of js m))))
    (cases_eq m n)

-- ---- one entry more in a front

pub first_none : (js : List Journal) (m : ℕ) → taken_of (first_front js) m ≡ 0
unfolding first_front taken_of
first_none js m = none_taken (length js) m

pub first_places : (js : List Journal) → length (first_front js).taken ≡ length js
unfolding first_front
first_places js = replicated (length js) 0

pub first_ticket : (js : List Journal) → (first_front js).ticket ≡ 1
unfolding first_front
first_ticket js = refl

pub first_same : (js ks : List Journal) → length ks ≡ length js → first_front ks ≡ first_front js
unfolding first_front
first_same js ks e = ap (λ (k : ℕ). record { taken = replicate k 0; ticket = 1 }) e

-- ---- what stands still stands

-- a front that has no more than there is
abbrev pub IsBelow : List Journal → Front → Type 0
IsBelow js f = (n : ℕ) → taken_of f n ≤ length (entries_of js n)

pub first_below : (js : List Journal) → IsBelow js (first_front js)
first_below js n = let z = first_none js n in omega arith

next_within : (js : List Journal) (f : Front) (n : ℕ) (x : JournalEntry) → next_entry js f n ≡ Some x → taken_of f n < length (entries_of js n)
unfolding next_entry
next_within js f n x next = slice_get_within (entries_of js n) (taken_of f n) x next

next_place : (js : List Journal) (f : Front) (n : ℕ) (x : JournalEntry) → next_entry js f n ≡ Some x → length f.taken ≡ length js → n < length f.taken
unfolding next_entry
next_place js f n x next size = let l = has_journal js n (taken_of f n) x next in omega arith

below_after : (js : List Journal) (f : Front) (n : ℕ) (x : JournalEntry) → next_entry js f n ≡ Some x → IsBelow js f → length f.taken ≡ length js → IsBelow js (front_after n x.event f)
below_after js f n x next below size m = ⊎_elim
    (λ (same : m ≡ n). subst (λ (k : ℕ). taken_of (front_after n x.event f) k ≤ length (entries_of js k)) (sym same) (let o = taken_own f n x.event (next_place js f n x next size) in let w = next_within js f n x next in omega arith))
    (λ (ne : m ≡ n → ⊥). (let o = taken_other f n m x.event ne in let b = below m in omega arith))
    (cases_eq m n)

past_same : (js ks : List Journal) (f : Front) (n : ℕ) → IsFrontOf js ks → IsBelow js f → past_of ks f n ≡ past_of js f n
unfolding past_of
past_same js ks f n front below =
    let w = front n in
    ap (λ (xs : List JournalEntry). take (taken_of f n) xs) w.1 ∙ take-append-le (taken_of f n) (entries_of js n) w.0 (below n)

next_same : (js ks : List Journal) (f : Front) (n : ℕ) (x : JournalEntry) → IsFrontOf js ks → next_entry js f n ≡ Some x → next_entry ks f n ≡ Some x
unfolding next_entry
next_same js ks f n x front next =
    let w = front n in
    subst (λ (xs : List JournalEntry). slice_get xs (taken_of f n) ≡ Some x) (sym w.1) (got_before (entries_of js n) w.0 (taken_of f n) x next)

pub may_same : (js ks : List Journal) (f : Front) (n : ℕ) (e : Event) → IsFrontOf js ks → IsBelow js f → MayStand js f n e → MayStand ks f n e
unfolding MayStand
may_same js ks f n (event.Client call o) front below may = tt
may_same js ks f n (event.Arrive m) front below may = let a = past_same js ks f m.sender front below in let b = past_same js ks f n front below in cc
may_same js ks f n event.Retry front below may = may
may_same js ks f n (event.Vacuum db) front below may = may
may_same js ks f n (event.BeginRound t members) front below may = may
may_same js ks f n (event.BeginTakeover able) front below may = may

pub still_stand : (js ks : List Journal) (ns : List ℕ) (f g : Front) → IsFrontOf js ks → IsBelow js f → length f.taken ≡ length js → Stand js f ns g → Stand ks f ns g
unfolding Stand
still_stand js ks [] f g front below size s = s
still_stand js ks (n ∷ ns) f g front below size s = (
  s.0,
  next_same js ks f n s.0 front s.1,
  may_same js ks f n s.0.event front below s.2,
  still_stand js ks ns (front_after n s.0.event f) g front (below_after js f n s.0 s.1 below size) (size_after f n s.0.event ∙ size) s.3,
)

-- one entry more, behind the others
pub one_more : (js : List Journal) (ns : List ℕ) (f g : Front) (n : ℕ) (x : JournalEntry) → Stand js f ns g → next_entry js g n ≡ Some x → MayStand js g n x.event → Stand js f (ns ++ n ∷ []) (front_after n x.event g)
unfolding Stand
one_more js [] f g n x s next may = subst (λ (h : Front). Stand js h (n ∷ []) (front_after n x.event g)) (sym s) (x, next, may, refl)
one_more js (m ∷ ns) f g n x s next may = (s.0, s.1, s.2, one_more js ns (front_after m s.0.event f) g n x s.3 next may)
