-- How far steps are made, node by node of the order.
use Rattle.std.proofs.Common.{◌≡◌, ℕ, zero, suc, ◌+◌, ◌^◌, ◌<◌, ◌≤◌, List, [], ◌∷◌, ◌++◌, length, drop, get_or, drop-cons, add-one, replicate, Option, None, Some, append-nil, append_assoc, length-append, arith, refl, sym, ap, ◌∙◌, subst}
use Rattle.std.proofs.lemmas.List.{drop_all, length-replicate}
use Rattle.std.proofs.lemmas.Option.{slice_get_within}
use Rattle.std.specs.Prelude.{slice_get}
use Rattle.ct_call.specs.Rules.{Rules}
use Rattle.ct_values.specs.declared.config.Config.{Config}
use Rattle.ct_rules_cluster.specs.declared.step.Step.{Step}
use Rattle.ct_journal.specs.Order.{AreInOrder, Front, all_entries, count_sent, entries_of, first_front, frames_in, front_after, next_entry, or_no_entries, taken_of}
use Rattle.ct_journal.specs.declared.journal.Journal.{Journal}
use Rattle.ct_journal.specs.declared.journal.JournalEntry.{JournalEntry}
use Rattle.ct_journal_join.specs.Passing.{AgreesWith, MayPass, Queueing}
use Rattle.ct_journal_join.specs.Queues.{Carry}
use Rattle.ct_law_journal_schedule.proofs.Fronts.{has_journal, left_after, left_first, left_of}
use Rattle.ct_journal.specs.Schedules.{IsSchedule}
use Rattle.ct_journal.proofs.Ends.{size_after}
use Rattle.ct_law_journal_schedule.proofs.Scheduled.{in_order_is_scheduled}
use Rattle.ct_law_journal_schedule.specs.Laws.{AreRuns}
use Rattle.ct_law_journal_schedule.specs.Scheduling.{Carried, Scheduling, carried_after, carried_of, first_scheduling, holder_after, schedule_from, schedule_of, scheduling_after, scheduling_next, steps_next}

-- each journal has its place, and what was sent and what is left are few
pub record Fits (js : List Journal) (k : Scheduling) : Type 0 where
  pub size : length k.front.taken ≡ length js
  pub few : k.sent + left_of js k.front.taken < 2 ^ 61

-- ---- at first

pub first_agrees : (js : List Journal) (taken : List ℕ) (outgoing : List (List (List ℕ))) → taken ≡ replicate (length js) 0 → Carry (length js) outgoing [] →
    AgreesWith (first_scheduling js) (record { front = record { taken = taken; ticket = 1 }; sent = 0; outgoing = outgoing; holder = None })
unfolding first_scheduling first_front
first_agrees js taken outgoing none h = record {
  front = ap (λ (ts : List ℕ). record { taken = ts; ticket = 1 }) none;
  sent = refl;
  carried = subst (λ (n : ℕ). Carry n outgoing []) (sym (ap length none ∙ length-replicate (length js) 0)) h;
  holder = refl;
}

pub first_fits : (js : List Journal) → length (all_entries js) + count_sent (all_entries js) < 2 ^ 61 → Fits js (first_scheduling js)
unfolding first_scheduling first_front
first_fits js few = record { size = length-replicate (length js) 0; few = (let l = left_first js in omega arith) }

-- ---- one entry more

entries_few : (js : List Journal) (n : ℕ) → length (or_no_entries (slice_get js n)) ≤ length (all_entries js)
unfolding or_no_entries all_entries
entries_few [] n = omega arith
entries_few (j ∷ js) zero = let l = length-append j.entries (all_entries js) in omega arith
entries_few (j ∷ js) (suc n) = let l = length-append j.entries (all_entries js) in let r = entries_few js n in omega arith

has_place : (js : List Journal) (k : Scheduling) (n : ℕ) (x : JournalEntry) → Fits js k → next_entry js k.front n ≡ Some x → n < length k.front.taken
has_place js k n x h next = let l = has_journal js k.front n x next in let s = h.size in omega arith

pub may_pass : (js : List Journal) (k : Scheduling) (q : Queueing) (n : ℕ) (o : Option JournalEntry) → next_entry js k.front n ≡ o → AgreesWith k q → Fits js k → length (all_entries js) + count_sent (all_entries js) < 2 ^ 61 → MayPass n o q
unfolding next_entry entries_of
may_pass js k q n None next a h few = tt
may_pass js k q n (Some x) next a h few =
    let place = has_place js k n x h next in
    let l = slice_get_within (or_no_entries (slice_get js n)) (taken_of k.front n) x next in
    let e = entries_few js n in
    let m = left_after js k.front n x place next in
    let f = h.few in
    let same : length q.front.taken ≡ length k.front.taken = ap (λ (g : Front). length g.taken) a.front in
    let count : taken_of q.front n ≡ taken_of k.front n = ap (λ (g : Front). taken_of g n) a.front in
    let sent = a.sent in
    let size = a.carried.size in
    (omega arith, omega arith, omega arith, omega arith)

pub next_fits : (js : List Journal) (k : Scheduling) (n : ℕ) (o : Option JournalEntry) → next_entry js k.front n ≡ o → Fits js k → Fits js (scheduling_next n o k)
unfolding scheduling_next scheduling_after
next_fits js k n None next h = h
next_fits js k n (Some x) next h = record {
  size = size_after k.front n x.event ∙ h.size;
  few = (let m = left_after js k.front n x (has_place js k n x h next) next in let f = h.few in omega arith);
}

-- what agrees still does, once an entry is passed
pub passed : (n : ℕ) (x : JournalEntry) (k : Scheduling) (q r : Queueing) → AgreesWith k q → r.front ≡ front_after n x.event q.front → r.sent ≡ q.sent + length (frames_in x.outs) → r.holder ≡ holder_after n x.event q.holder →
    ((nodes : ℕ) (ms : List Carried) → Carry nodes q.outgoing ms → Carry nodes r.outgoing (carried_after n x.event ms ++ carried_of n (q.sent + 1) (frames_in x.outs))) → AgreesWith (scheduling_after n x k) r
unfolding scheduling_after
passed n x k q r a front sent holder carried = record {
  front = front ∙ ap (front_after n x.event) a.front;
  sent = sent ∙ ap (λ (m : ℕ). m + length (frames_in x.outs)) a.sent;
  carried = subst (λ (m : ℕ). Carry m r.outgoing (carried_after n x.event k.carried ++ carried_of n (k.sent + 1) (frames_in x.outs))) (sym (ap (λ (f : Front). length f.taken) front ∙ size_after q.front n x.event))
      (subst (λ (m : ℕ). Carry (length q.front.taken) r.outgoing (carried_after n x.event k.carried ++ carried_of n (m + 1) (frames_in x.outs))) a.sent (carried (length q.front.taken) k.carried a.carried));
  holder = holder ∙ ap (holder_after n x.event) a.holder;
}

-- the steps so far and those that are left are all, once the steps for one entry more are made
pub next_steps : (js : List Journal) (k : Scheduling) (order : List ℕ) (i d : ℕ) (xs all : List Step) → i < length order → all ≡ xs ++ schedule_from js k (drop i order) →
    (let n = get_or order i d in let o = next_entry js k.front n in all ≡ (xs ++ steps_next n o k) ++ schedule_from js (scheduling_next n o k) (drop (i + 1) order))
unfolding schedule_from
next_steps js k order i d xs all l e =
    let n : ℕ = get_or order i d in
    let o : Option JournalEntry = next_entry js k.front n in
    e ∙ ap (λ (ns : List ℕ). xs ++ schedule_from js k ns) (drop-cons order i d l ∙ ap (λ (m : ℕ). n ∷ drop m order) (sym (add-one i)))
    ∙ sym (append_assoc xs (steps_next n o k) (schedule_from js (scheduling_next n o k) (drop (i + 1) order)))

-- ---- the loop

-- the steps so far and those that are left are all
pub record GoesOn (js : List Journal) (q : Queueing) (left : List ℕ) (xs all : List Step) : Type 0 where
  pub made : Scheduling
  pub agrees : AgreesWith made q
  pub steps : all ≡ xs ++ schedule_from js made left
  pub fits : Fits js made

pub starts : (js : List Journal) (q : Queueing) (order : List ℕ) (xs : List Step) → AgreesWith (first_scheduling js) q → xs ≡ [] → length (all_entries js) + count_sent (all_entries js) < 2 ^ 61 → GoesOn js q order xs (schedule_of js order)
unfolding schedule_of
starts js q order xs first none few = record {
  made = first_scheduling js;
  agrees = first;
  steps = ap (λ (ys : List Step). ys ++ schedule_from js (first_scheduling js) order) (sym none);
  fits = first_fits js few;
}

pub may_advance : (js : List Journal) (q : Queueing) (n : ℕ) (left : List ℕ) (xs all : List Step) → GoesOn js q left xs all → length (all_entries js) + count_sent (all_entries js) < 2 ^ 61 → MayPass n (next_entry js q.front n) q
may_advance js q n left xs all g few = may_pass js g.made q n (next_entry js q.front n) (ap (λ (f : Front). next_entry js f n) (sym g.agrees.front)) g.agrees g.fits few

pub goes_on : (js : List Journal) (q r : Queueing) (order : List ℕ) (i d : ℕ) (xs ys : List Step) → i < length order → GoesOn js q (drop i order) xs (schedule_of js order) →
    ((k : Scheduling) → AgreesWith k q → ys ≡ xs ++ steps_next (get_or order i d) (next_entry js k.front (get_or order i d)) k) → ((k : Scheduling) → AgreesWith k q → AgreesWith (scheduling_next (get_or order i d) (next_entry js k.front (get_or order i d)) k) r) →
    GoesOn js r (drop (i + 1) order) ys (schedule_of js order)
goes_on js q r order i d xs ys l g more next = record {
  made = scheduling_next n (next_entry js k.front n) k;
  agrees = next k g.agrees;
  steps = next_steps js k order i d xs (schedule_of js order) l g.steps ∙ ap (λ (zs : List Step). zs ++ schedule_from js (scheduling_next n (next_entry js k.front n) k) (drop (i + 1) order)) (sym (more k g.agrees));
  fits = next_fits js k n (next_entry js k.front n) refl g.fits;
}
  where
    n : ℕ
    n = get_or order i d

    k : Scheduling
    k = g.made

pub ends : (js : List Journal) (q : Queueing) (order : List ℕ) (i : ℕ) (xs : List Step) → length order ≤ i → GoesOn js q (drop i order) xs (schedule_of js order) → xs ≡ schedule_of js order
unfolding schedule_from
ends js q order i xs l g = sym (g.steps ∙ ap (λ (ns : List ℕ). xs ++ schedule_from js g.made ns) (drop_all i order l) ∙ append-nil xs)

-- ---- the whole

pub so_scheduled : (js : List Journal) (order : List ℕ) (ss : List Step) → ss ≡ schedule_of js order → (c : Config) (rules : Rules) → AreRuns c rules js → (x : AreInOrder js) → x.order ≡ order → IsSchedule c rules js ss
so_scheduled js order ss is c rules runs x same = subst (λ (l : List Step). IsSchedule c rules js l) (ap (schedule_of js) same ∙ sym is) (in_order_is_scheduled c rules js runs x)
