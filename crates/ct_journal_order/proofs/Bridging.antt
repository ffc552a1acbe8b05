-- Lists that meet the demands are those in which each entry may stand.
use Rattle.std.proofs.Common.{◌≡◌, ℕ, zero, suc, ◌+◌, ◌<◌, ◌≤◌, ⊎_elim, List, [], ◌∷◌, ◌++◌, length, map, Option, Some, arith, refl, sym, ap, ◌∙◌, subst}
use Rattle.std.proofs.lemmas.Bool.{cases_lt}
use Rattle.std.specs.Prelude.{slice_get}
use Rattle.ct_journal.proofs.Ends.{any_way_ends}
use Rattle.ct_journal.specs.Going.{IsStuck}
use Rattle.ct_journal.specs.Order.{Front, Stand, entries_of, first_front, front_after, next_entry, or_no_entries, taken_of}
use Rattle.ct_journal.specs.declared.journal.Journal.{Journal}
use Rattle.ct_journal.specs.declared.journal.JournalEntry.{JournalEntry}
use Rattle.ct_journal_order.proofs.Waiting.{IsDemand, left_first, waited_at, waited_count}
use Rattle.ct_journal_order.specs.Demands.{AllHeld, AllWaited, AreWaited, Ends, HasAll, IsHeld, IsMet, Meets, demands_at, front_with, next_demand, none_stands, or_free}
use Rattle.ct_journal_order.specs.Letters.{letters_of}
use Rattle.ct_journal_order.specs.Order.{AllStand, StandBy}
use Rattle.ct_journal_order.specs.declared.demand.Demand.{Demand}
use Rattle.ct_journal_order.proofs.Meeting.{past_end, got_short}

none_past : (js : List Journal) (n : ℕ) → length js ≤ n → entries_of js n ≡ []
unfolding entries_of or_no_entries
none_past [] n l = refl
none_past (j ∷ js) zero l = absurd (omega arith)
none_past (j ∷ js) (suc n) l = none_past js n (omega arith)

same_count : (js : List Journal) (all : List (List Demand)) → AllWaited js all → (n : ℕ) → length (demands_at all n) ≡ length (entries_of js n)
same_count js all w n = ⊎_elim
    (λ (l : n < length js). waited_count n (entries_of js n) (map (letters_of n) js) (demands_at all n) (w.each n l))
    (λ (l : length js ≤ n). (let c = w.count in ap length (past_end all n (omega arith)) ∙ sym (ap length (none_past js n l))))
    (cases_lt n (length js))

has_entry : (xs : List JournalEntry) (i : ℕ) → i < length xs → (x : JournalEntry) × (slice_get xs i ≡ Some x)
has_entry [] i l = absurd (omega arith)
has_entry (x ∷ xs) zero l = (x, refl)
has_entry (x ∷ xs) (suc i) l = has_entry xs i (omega arith)

has_demand : (ds : List Demand) (i : ℕ) → i < length ds → (d : Demand) × (slice_get ds i ≡ Some d)
has_demand [] i l = absurd (omega arith)
has_demand (d ∷ ds) zero l = (d, refl)
has_demand (d ∷ ds) (suc i) l = has_demand ds i (omega arith)

short_entry : (xs : List JournalEntry) (i : ℕ) (x : JournalEntry) → slice_get xs i ≡ Some x → i < length xs
short_entry [] i x e = absurd (cc)
short_entry (y ∷ xs) zero x e = omega arith
short_entry (y ∷ xs) (suc i) x e = let l = short_entry xs i x e in omega arith

entry_at : (js : List Journal) (all : List (List Demand)) (f : Front) (n : ℕ) (d : Demand) → AllWaited js all → next_demand all f n ≡ Some d → (x : JournalEntry) × (next_entry js f n ≡ Some x)
unfolding next_entry
entry_at js all f n d w e = let l = got_short (demands_at all n) (taken_of f n) d e in let c = same_count js all w n in has_entry (entries_of js n) (taken_of f n) (omega arith)

demand_at : (js : List Journal) (all : List (List Demand)) (f : Front) (n : ℕ) (x : JournalEntry) → AllWaited js all → next_entry js f n ≡ Some x → (d : Demand) × (next_demand all f n ≡ Some d)
unfolding next_entry
demand_at js all f n x w e = let l = short_entry (entries_of js n) (taken_of f n) x e in let c = same_count js all w n in has_demand (demands_at all n) (taken_of f n) (omega arith)

is_demand : (js : List Journal) (all : List (List Demand)) (f : Front) (n : ℕ) (x : JournalEntry) (d : Demand) → AllWaited js all → next_entry js f n ≡ Some x → next_demand all f n ≡ Some d → IsDemand js n (taken_of f n) x.event d
unfolding next_entry
is_demand js all f n x d w ex ed = ⊎_elim
    (λ (l : n < length js). subst (λ (k : ℕ). IsDemand js n k x.event d) (let z : 0 + taken_of f n ≡ taken_of f n = omega arith in z)
    (waited_at js n [] (entries_of js n) (map (letters_of n) js) (demands_at all n) refl (left_first js n) (w.each n l) (taken_of f n) x d ex ed))
    (λ (l : length js ≤ n). absurd (let e = subst (λ (xs : List JournalEntry). slice_get xs (taken_of f n) ≡ Some x) (none_past js n l) ex in cc))
    (cases_lt n (length js))

same_front : (js : List Journal) (f : Front) (n : ℕ) (x : JournalEntry) (d : Demand) → IsDemand js n (taken_of f n) x.event d → IsMet f d → front_with n d f ≡ front_after n x.event f
unfolding front_after
same_front js f n x d h met = ap (λ (t : ℕ). record { taken = (front_with n d f).taken; ticket = t }) (sym (h.ticket f met))

pub meets_stand : (js : List Journal) (all : List (List Demand)) → AllWaited js all → (ns : List ℕ) (f g : Front) → Meets all f ns g → Stand js f ns g
unfolding Meets Stand
meets_stand js all w [] f g m = m
meets_stand js all w (n ∷ ns) f g m =
    let x = entry_at js all f n m.0 w m.1 in
    let h = is_demand js all f n x.0 m.0 w x.1 m.1 in
    (x.0, x.1, h.enough f refl m.2, meets_stand js all w ns (front_after n x.0.event f) g (subst (λ (k : Front). Meets all k ns g) (same_front js f n x.0 m.0 h m.2) m.3))

held_stuck : (js : List Journal) (all : List (List Demand)) (f : Front) → AllWaited js all → AllHeld all f → IsStuck js f
unfolding IsHeld
held_stuck js all f w held = λ n x e may. (let d = demand_at js all f n x w e in held n d.0 d.1 ((is_demand js all f n x d.0 w e d.1).only f refl may))

opens : (js : List Journal) (all : List (List Demand)) → AllWaited js all → none_stands (length all) ≡ first_front js
unfolding first_front
opens js all w = ap (λ (k : ℕ). none_stands k) w.count

ends_stand : (js : List Journal) (all : List (List Demand)) (g : Front) (order : List ℕ) → AllWaited js all → Ends all g order → Stand js (first_front js) order g
ends_stand js all g order w e =
    subst (λ (ns : List ℕ). Stand js (first_front js) ns g) (sym e.noted) (meets_stand js all w e.leads.order (first_front js) g (subst (λ (f : Front). Meets all f e.leads.order g) (opens js all w) e.leads.meets))

-- where the test of the front finds all entries, they stand in the order in which they were put
pub stands : (js : List Journal) (all : List (List Demand)) (g : Front) (order : List ℕ) → AllWaited js all → Ends all g order → HasAll all g → StandBy js order
stands js all g order w e h = record { end = g; stand = ends_stand js all g order w e; whole = λ n. h n ∙ same_count js all w n }

-- where it does not, they stand in none
pub stand_not : (js : List Journal) (all : List (List Demand)) (g : Front) (order : List ℕ) → AllWaited js all → Ends all g order → (HasAll all g → ⊥) → AllStand js → ⊥
stand_not js all g order w e not a = not (λ n. (any_way_ends js a.order order a.by.end g a.by.stand a.by.whole (ends_stand js all g order w e) (held_stuck js all g w e.held) n ∙ sym (same_count js all w n)))

got_last : (all : List (List Demand)) (ds : List Demand) → slice_get (all ++ ds ∷ []) (length all) ≡ Some ds
got_last [] ds = refl
got_last (a ∷ all) ds = got_last all ds

got_before : (all : List (List Demand)) (ds : List Demand) (n : ℕ) → n < length all → slice_get (all ++ ds ∷ []) n ≡ slice_get all n
got_before [] ds n l = absurd (omega arith)
got_before (a ∷ all) ds zero l = refl
got_before (a ∷ all) ds (suc n) l = got_before all ds n (omega arith)

-- one node more
pub waited_more : (js : List Journal) (all : List (List Demand)) (ds : List Demand) (k : ℕ) → length all ≡ k → ((n : ℕ) → n < k → AreWaited n (entries_of js n) (map (letters_of n) js) (demands_at all n)) → AreWaited k (entries_of js k) (map (letters_of k) js) ds →
    (n : ℕ) → n < k + 1 → AreWaited n (entries_of js n) (map (letters_of n) js) (demands_at (all ++ ds ∷ []) n)
waited_more js all ds k count below here n l = ⊎_elim
    (λ (m : n < k). subst (λ (o : Option (List Demand)). AreWaited n (entries_of js n) (map (letters_of n) js) (or_free o)) (sym (got_before all ds n (omega arith))) (below n m))
    (λ (m : k ≤ n). (
    let same : length all ≡ n = omega arith in
    let same_k : k ≡ n = omega arith in
    subst (λ (o : Option (List Demand)). AreWaited n (entries_of js n) (map (letters_of n) js) (or_free o)) (sym (subst (λ (i : ℕ). slice_get (all ++ ds ∷ []) i ≡ Some ds) same (got_last all ds)))
    (subst (λ (i : ℕ). AreWaited i (entries_of js i) (map (letters_of i) js) ds) same_k here)))
    (cases_lt n k)
