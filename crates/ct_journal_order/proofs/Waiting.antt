-- What an entry waits for is exactly what lets it stand.
use Rattle.std.proofs.Common.{◌≡◌, ℕ, zero, suc, ◌+◌, ◌≤◌, ⊎_elim, Bool, true, false, nat_eq, if◌then◌else◌, List, [], ◌∷◌, ◌++◌, length, set, add-one, take, drop, map, Option, None, Some, arith, refl, sym, ap, ◌∙◌, subst}
use Rattle.std.proofs.lemmas.Bool.{eqb-true, eqb-false}
use Rattle.std.proofs.lemmas.List.{append-nil, append_assoc, drop_all, take_at}
use Rattle.std.proofs.lemmas.Option.{same_Some}
use Rattle.std.specs.Prelude.{slice_get}
use Rattle.ct_values.specs.declared.client.ClientOp.{ClientOp}
use Rattle.ct_frame.specs.declared.event.Event.{Event}
use Rattle.ct_frame.specs.declared.event.Event.TheVariants as event
use Rattle.ct_frame.specs.declared.frame.Frame.{Frame}
use Rattle.ct_rules_node.specs.Node.{is_among}
use Rattle.ct_journal.specs.Order.{Front, MayStand, arrived_from, entries_of, is_from, or_no_entries, past_of, sent_to, taken_of, ticket_after}
use Rattle.ct_journal.specs.declared.journal.Journal.{Journal}
use Rattle.ct_journal.specs.declared.journal.JournalEntry.{JournalEntry}
use Rattle.ct_journal_order.proofs.Lettering.{sent_when, told_when}
use Rattle.ct_journal_order.specs.Demands.{AreWaited, IsMet, Waits, WaitsToArrive, letters_after, ticket_with}
use Rattle.ct_journal_order.specs.Letters.{Despatched, despatched, first_from, first_of, letters_of, or_none, rest_of, taken_from, without}
use Rattle.ct_journal_order.specs.declared.demand.Demand.{Demand}
use Rattle.ct_journal_order.specs.declared.demand.Demand.TheVariants.{Free, Entries, Ticket, Never}

-- with so many entries of its node in the list, an entry with this event may stand exactly where the demand is met
pub record IsDemand (js : List Journal) (n i : ℕ) (e : Event) (d : Demand) : Type 0 where
  pub only : (f : Front) → taken_of f n ≡ i → MayStand js f n e → IsMet f d
  pub enough : (f : Front) → taken_of f n ≡ i → IsMet f d → MayStand js f n e
  pub ticket : (f : Front) → IsMet f d → ticket_after e f.ticket ≡ ticket_with d f.ticket

-- ---- one event

free_demand : (js : List Journal) (n i call : ℕ) (o : ClientOp) → IsDemand js n i (event.Client call o) Free
unfolding MayStand ticket_after
free_demand js n i call o = record { only = λ f t may. tt; enough = λ f t met. tt; ticket = λ f met. refl }

no_demand : (js : List Journal) (n i : ℕ) (e : Event) → ((f : Front) → taken_of f n ≡ i → MayStand js f n e → ⊥) → IsDemand js n i e Never
no_demand js n i e never = record { only = λ f t may. never f t may; enough = λ f t met. absurd met; ticket = λ f met. absurd met }

round_demand : (js : List Journal) (n i t : ℕ) (ms : List ℕ) (b : Bool) → is_among n ms ≡ b → IsDemand js n i (event.BeginRound t ms) (if b then Ticket t else Never)
unfolding MayStand ticket_after
round_demand js n i t ms true is = record { only = λ f k may. may.0; enough = λ f k met. (met, is); ticket = λ f met. refl }
round_demand js n i t ms false is = no_demand js n i (event.BeginRound t ms) (λ f k may. (let m = may.1 in absurd (cc)))

past_is : (js : List Journal) (f : Front) (n : ℕ) (before rest : List JournalEntry) → entries_of js n ≡ before ++ rest → taken_of f n ≡ length before → past_of js f n ≡ before
unfolding past_of
past_is js f n before rest is t = ap (λ (k : ℕ). take k (entries_of js n)) t ∙ (ap (λ (xs : List JournalEntry). take (length before) xs) is ∙ take_at before rest (length before) refl)

may_told : (js : List Journal) (f : Front) (n : ℕ) (m : Frame) (before : List JournalEntry) → past_of js f n ≡ before → MayStand js f n (event.Arrive m) →
    (l : Despatched) × (slice_get (despatched n 0 (entries_of js m.sender)) (arrived_from m.sender before) ≡ Some l) × (l.frame ≡ m) × (l.count ≤ taken_of f m.sender)
unfolding MayStand past_of
may_told js f n m before is may =
    let r = told_when n 0 (taken_of f m.sender) (entries_of js m.sender) (arrived_from m.sender before) m
    (subst (λ (b : List JournalEntry). slice_get (sent_to n (take (taken_of f m.sender) (entries_of js m.sender))) (arrived_from m.sender b) ≡ Some m) is may) in
    (r.0, r.1, r.2, omega (arith, r.3))

told_may : (js : List Journal) (f : Front) (n : ℕ) (m : Frame) (before : List JournalEntry) (l : Despatched) → past_of js f n ≡ before → slice_get (despatched n 0 (entries_of js m.sender)) (arrived_from m.sender before) ≡ Some l → l.frame ≡ m → l.count ≤ taken_of f m.sender →
    MayStand js f n (event.Arrive m)
unfolding MayStand past_of
told_may js f n m before l is got same le =
    subst (λ (b : List JournalEntry). slice_get (sent_to n (take (taken_of f m.sender) (entries_of js m.sender))) (arrived_from m.sender b) ≡ Some m) (sym is)
    (sent_when n 0 (taken_of f m.sender) (entries_of js m.sender) (arrived_from m.sender before) l got (omega arith) ∙ ap (λ (g : Frame). Some g) same)

due_demand : (js : List Journal) (n : ℕ) (m : Frame) (before rest : List JournalEntry) (l : Despatched) → entries_of js n ≡ before ++ rest → slice_get (despatched n 0 (entries_of js m.sender)) (arrived_from m.sender before) ≡ Some l → l.frame ≡ m →
    IsDemand js n (length before) (event.Arrive m) (Entries m.sender l.count)
unfolding ticket_after
due_demand js n m before rest l is got same = record {
  only = λ f t may. (let r = may_told js f n m before (past_is js f n before rest is t) may in let c = ap (λ (d : Despatched). d.count) (same_Some r.0 l (sym r.1 ∙ got)) in omega (arith, r.3));
  enough = λ f t met. told_may js f n m before l (past_is js f n before rest is t) got same met;
  ticket = λ f met. refl;
}

arrive_demand : (js : List Journal) (n : ℕ) (m : Frame) (before rest : List JournalEntry) (first : Option Despatched) (d : Demand) → entries_of js n ≡ before ++ rest →
    slice_get (despatched n 0 (entries_of js m.sender)) (arrived_from m.sender before) ≡ first → WaitsToArrive m first d → IsDemand js n (length before) (event.Arrive m) d
arrive_demand js n m before rest None d is got w =
    subst (λ (c : Demand). IsDemand js n (length before) (event.Arrive m) c) (sym w)
    (no_demand js n (length before) (event.Arrive m) (λ f t may. (let r = may_told js f n m before (past_is js f n before rest is t) may in let g = r.1 in absurd (cc))))
arrive_demand js n m before rest (Some l) d is got w = ⊎_elim
    (λ (here : (l.frame ≡ m) × (d ≡ Entries m.sender l.count)). subst (λ (c : Demand). IsDemand js n (length before) (event.Arrive m) c) (sym here.1) (due_demand js n m before rest l is got here.0))
    (λ (other : (l.frame ≡ m → ⊥) × (d ≡ Never)). subst (λ (c : Demand). IsDemand js n (length before) (event.Arrive m) c) (sym other.1)
    (no_demand js n (length before) (event.Arrive m) (λ f t may. (
    let r = may_told js f n m before (past_is js f n before rest is t) may in
    other.0 (ap (λ (g : Despatched). g.frame) (same_Some l r.0 (sym got ∙ r.1)) ∙ r.2)))))
    w

-- ---- the messages that are left

-- of each sender, those are left that had not arrived
pub record Left (js : List Journal) (n : ℕ) (before : List JournalEntry) (all : List (List Despatched)) : Type 0 where
  pub each : (s : ℕ) → or_none (slice_get all s) ≡ drop (arrived_from s before) (despatched n 0 (entries_of js s))

first_left : (n : ℕ) (js : List Journal) (s : ℕ) → or_none (slice_get (map (letters_of n) js) s) ≡ despatched n 0 (entries_of js s)
unfolding entries_of or_no_entries
first_left n [] s = refl
first_left n (j ∷ js) zero = refl
first_left n (j ∷ js) (suc s) = first_left n js s

pub left_first : (js : List Journal) (n : ℕ) → Left js n [] (map (letters_of n) js)
unfolding arrived_from
left_first js n = record { each = λ s. first_left n js s }

first_drop : (k : ℕ) (ls : List Despatched) → first_of (drop k ls) ≡ slice_get ls k
first_drop zero [] = refl
first_drop zero (l ∷ ls) = refl
first_drop (suc k) [] = refl
first_drop (suc k) (l ∷ ls) = first_drop k ls

rest_drop : (k : ℕ) (ls : List Despatched) → rest_of (drop k ls) ≡ drop (suc k) ls
rest_drop zero [] = refl
rest_drop zero (l ∷ ls) = refl
rest_drop (suc k) [] = refl
rest_drop (suc k) (l ∷ ls) = rest_drop k ls

arrived_more : (s : ℕ) (before : List JournalEntry) (x : JournalEntry) → arrived_from s (before ++ x ∷ []) ≡ (if is_from s x.event then arrived_from s before + 1 else arrived_from s before)
unfolding arrived_from
arrived_more s [] x = refl
arrived_more s (y ∷ before) x = by (is_from s y.event) (is_from s x.event) (arrived_more s before x)
  where
    by : (b c : Bool) → arrived_from s (before ++ x ∷ []) ≡ (if c then arrived_from s before + 1 else arrived_from s before) →
        (if b then 1 + arrived_from s (before ++ x ∷ []) else arrived_from s (before ++ x ∷ [])) ≡ (if c then (if b then 1 + arrived_from s before else arrived_from s before) + 1 else (if b then 1 + arrived_from s before else arrived_from s before))
    by true true h = omega arith
    by true false h = omega arith
    by false true h = h
    by false false h = h

got_own : (all : List (List Despatched)) (n : ℕ) (ls rs : List Despatched) → slice_get all n ≡ Some ls → slice_get (set all n rs) n ≡ Some rs
got_own [] n ls rs e = absurd (cc)
got_own (a ∷ all) zero ls rs e = refl
got_own (a ∷ all) (suc n) ls rs e = got_own all n ls rs e

got_other : (all : List (List Despatched)) (n m : ℕ) (rs : List Despatched) → (m ≡ n → ⊥) → slice_get (set all n rs) m ≡ slice_get all m
got_other [] n m rs ne = refl
got_other (a ∷ all) zero zero rs ne = absurd (ne refl)
got_other (a ∷ all) zero (suc m) rs ne = refl
got_other (a ∷ all) (suc n) zero rs ne = refl
got_other (a ∷ all) (suc n) (suc m) rs ne = got_other all n m rs (λ e. ne (ap suc e))

own_rest : (all : List (List Despatched)) (s : ℕ) (o : Option (List Despatched)) → slice_get all s ≡ o → or_none (slice_get (without all s o) s) ≡ rest_of (or_none o)
own_rest all s None is = ap or_none is
own_rest all s (Some ls) is = ap or_none (got_own all s ls (rest_of ls) is)

other_rest : (all : List (List Despatched)) (s m : ℕ) (o : Option (List Despatched)) → (m ≡ s → ⊥) → slice_get (without all s o) m ≡ slice_get all m
other_rest all s m None ne = refl
other_rest all s m (Some ls) ne = got_other all s m (rest_of ls) ne

left_by : (all : List (List Despatched)) (e : Event) (s k : ℕ) (ls : List Despatched) → or_none (slice_get all s) ≡ drop k ls → or_none (slice_get (letters_after e all) s) ≡ drop (if is_from s e then k + 1 else k) ls
unfolding is_from
left_by all (event.Client call o) s k ls h = h
left_by all event.Retry s k ls h = h
left_by all (event.Vacuum db) s k ls h = h
left_by all (event.BeginRound t ms) s k ls h = h
left_by all (event.BeginTakeover able) s k ls h = h
left_by all (event.Arrive m) s k ls h = by (nat_eq m.sender s) refl
  where
    by : (b : Bool) → nat_eq m.sender s ≡ b → or_none (slice_get (taken_from all m.sender) s) ≡ drop (if b then k + 1 else k) ls
    by true is = let same : m.sender ≡ s = eqb-true _ _ is in
        subst (λ (t : ℕ). or_none (slice_get (taken_from all t) s) ≡ drop (k + 1) ls) (sym same)
        (own_rest all s (slice_get all s) refl ∙ (ap rest_of h ∙ (rest_drop k ls ∙ ap (λ (j : ℕ). drop j ls) (sym (add-one k)))))
    by false is = ap or_none (other_rest all m.sender s (slice_get all m.sender) (λ e. eqb-false _ _ is (sym e))) ∙ h

pub left_after : (js : List Journal) (n : ℕ) (before : List JournalEntry) (all : List (List Despatched)) (x : JournalEntry) → Left js n before all → Left js n (before ++ x ∷ []) (letters_after x.event all)
left_after js n before all x h = record {
  each = λ s.
      left_by all x.event s (arrived_from s before) (despatched n 0 (entries_of js s)) (h.each s) ∙ ap (λ (k : ℕ). drop k (despatched n 0 (entries_of js s))) (sym (arrived_more s before x));
}

-- ---- all entries of a node

event_demand : (js : List Journal) (n : ℕ) (before rest : List JournalEntry) (all : List (List Despatched)) (e : Event) (d : Demand) → entries_of js n ≡ before ++ rest → Left js n before all → Waits n e all d → IsDemand js n (length before) e d
unfolding MayStand
event_demand js n before rest all (event.Client call o) d is h w = subst (λ (c : Demand). IsDemand js n (length before) (event.Client call o) c) (sym w) (free_demand js n (length before) call o)
event_demand js n before rest all (event.Arrive m) d is h w =
    arrive_demand js n m before rest (first_from all m.sender) d is (sym (first_drop (arrived_from m.sender before) (despatched n 0 (entries_of js m.sender))) ∙ ap first_of (sym (h.each m.sender))) w
event_demand js n before rest all event.Retry d is h w = subst (λ (c : Demand). IsDemand js n (length before) event.Retry c) (sym w) (no_demand js n (length before) event.Retry (λ f t may. may))
event_demand js n before rest all (event.Vacuum db) d is h w = subst (λ (c : Demand). IsDemand js n (length before) (event.Vacuum db) c) (sym w) (no_demand js n (length before) (event.Vacuum db) (λ f t may. may))
event_demand js n before rest all (event.BeginRound t ms) d is h w = subst (λ (c : Demand). IsDemand js n (length before) (event.BeginRound t ms) c) (sym w) (round_demand js n (length before) t ms (is_among n ms) refl)
event_demand js n before rest all (event.BeginTakeover able) d is h w = subst (λ (c : Demand). IsDemand js n (length before) (event.BeginTakeover able) c) (sym w) (no_demand js n (length before) (event.BeginTakeover able) (λ f t may. may))

pub waited_count : (n : ℕ) (xs : List JournalEntry) (all : List (List Despatched)) (ds : List Demand) → AreWaited n xs all ds → length ds ≡ length xs
waited_count n [] all ds w = ap length w
waited_count n (x ∷ xs) all [] w = absurd w
waited_count n (x ∷ xs) all (d ∷ ds) w = ap suc (waited_count n xs (letters_after x.event all) ds w.1)

count_one : (before : List JournalEntry) (y : JournalEntry) (i : ℕ) → length (before ++ y ∷ []) + i ≡ length before + suc i
count_one [] y i = omega arith
count_one (x ∷ before) y i = let h = count_one before y i in omega arith

pub waited_at : (js : List Journal) (n : ℕ) (before xs : List JournalEntry) (all : List (List Despatched)) (ds : List Demand) → entries_of js n ≡ before ++ xs → Left js n before all → AreWaited n xs all ds →
    (i : ℕ) (x : JournalEntry) (d : Demand) → slice_get xs i ≡ Some x → slice_get ds i ≡ Some d → IsDemand js n (length before + i) x.event d
waited_at js n before [] all ds is h w i x d ex ed = absurd (cc)
waited_at js n before (y ∷ xs) all [] is h w i x d ex ed = absurd w
waited_at js n before (y ∷ xs) all (c ∷ ds) is h w zero x d ex ed =
    subst (λ (k : ℕ). IsDemand js n k x.event d) (let z : length before ≡ length before + 0 = omega arith in z)
    (subst (λ (a : JournalEntry). IsDemand js n (length before) a.event d) (same_Some y x ex)
    (subst (λ (b : Demand). IsDemand js n (length before) y.event b) (same_Some c d ed) (event_demand js n before (y ∷ xs) all y.event c is h w.0)))
waited_at js n before (y ∷ xs) all (c ∷ ds) is h w (suc i) x d ex ed =
    subst (λ (k : ℕ). IsDemand js n k x.event d) (count_one before y i)
    (waited_at js n (before ++ y ∷ []) xs (letters_after y.event all) ds (is ∙ sym (append_assoc before (y ∷ []) xs)) (left_after js n before all y h) w.1 i x d ex ed)

pub waited_end : (n i : ℕ) (xs : List JournalEntry) (first now : List (List Despatched)) (ds : List Demand) → length xs ≤ i → ((more : List Demand) → AreWaited n (drop i xs) now more → AreWaited n xs first (ds ++ more)) → AreWaited n xs first ds
waited_end n i xs first now ds le h =
    let e : drop i xs ≡ [] = drop_all i xs le in
    subst (λ (cs : List Demand). AreWaited n xs first cs) (append-nil ds) (h [] (subst (λ (ys : List JournalEntry). AreWaited n ys now []) (sym e) refl))

pub demands_end : (n i : ℕ) (js : List Journal) (xs : List JournalEntry) (first now : List (List Despatched)) (ds r : List Demand) → xs ≡ entries_of js n → first ≡ map (letters_of n) js → r ≡ ds → length xs ≤ i →
    ((more : List Demand) → AreWaited n (drop i xs) now more → AreWaited n xs first (ds ++ more)) → AreWaited n (entries_of js n) (map (letters_of n) js) r
demands_end n i js xs first now ds r ex ef er le h =
    subst (λ (c : List Demand). AreWaited n (entries_of js n) (map (letters_of n) js) c) (sym er)
    (subst (λ (a : List (List Despatched)). AreWaited n (entries_of js n) a ds) ef
    (subst (λ (ys : List JournalEntry). AreWaited n ys first ds) ex (waited_end n i xs first now ds le h)))
