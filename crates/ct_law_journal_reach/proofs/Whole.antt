-- Where all entries are made, the journals have a schedule, and else none; of journals in order all are made.
use Rattle.std.proofs.Common.{◌≡◌, ℕ, zero, suc, ◌+◌, ◌<◌, ◌≤◌, true, false, List, [], ◌∷◌, length, map, Some, arith, refl, sym, ap, ◌∙◌, subst, ⊎_elim}
use Rattle.std.proofs.lemmas.Bool.{cases_eq, eqb-true, or_cases}
use Rattle.std.proofs.lemmas.List.{length-map, length-replicate, take_all}
use Rattle.ct_call.specs.Rules.{Rules}
use Rattle.ct_values.specs.declared.config.Config.{Config}
use Rattle.ct_frame.specs.declared.event.Event.{Event}
use Rattle.ct_frame.specs.declared.event.Event.TheVariants as event
use Rattle.ct_rules_node.specs.Node.{or_zero}
use Rattle.ct_rules_cluster.specs.declared.step.Step.{Step}
use Rattle.ct_journal.specs.Order.{Front, MayStand, Stand, entries_of, first_front, front_after, next_entry, or_no_entries, past_of, taken_of, ticket_after}
use Rattle.ct_journal.specs.Schedules.{IsRenumbered, IsSchedule, made_at}
use Rattle.ct_journal.specs.declared.journal.Journal.{Journal}
use Rattle.ct_journal.specs.declared.journal.JournalEntry.{JournalEntry}
use Rattle.ct_journal.proofs.Ends.{size_after}
use Rattle.ct_law_journal_schedule.proofs.Fronts.{has_journal, past_first, past_other, past_own}
use Rattle.ct_law_journal_schedule.proofs.Scheduled.{in_order_is_scheduled}
use Rattle.ct_law_journal_schedule.specs.Scheduling.{schedule_of}
use Rattle.ct_law_journal_reach.specs.Counts.{AreAll, AreReached, count_at, cut_to, has_ticket, begins_round}
use Rattle.ct_law_journal_reach.specs.Laws.{AllIsScheduled, InOrderHaveOwnTickets, InOrderIsNeverStuck, LessIsStuck}
use Rattle.ct_law_journal_reach.proofs.Cutting.{entries_cut, ticket_more}

-- ---- all entries

all_cut : (js : List Journal) (ts : List ℕ) → AreAll js ts → (n : ℕ) → entries_of (cut_to js ts) n ≡ entries_of js n
all_cut js ts all n = entries_cut js ts n ∙ take_all (count_at ts n) (entries_of js n) (let e = all n in omega arith)

pub all_is_scheduled : AllIsScheduled
all_is_scheduled c rules js ss w ts h all = record { made = h.made; takes = h.takes; journals = λ n. subst (λ (xs : List JournalEntry). IsRenumbered xs (made_at n h.made)) (all_cut js ts all n) (h.journals n) }

-- the counts of all entries
whole : List Journal → List ℕ
whole js = map (λ (j : Journal). length j.entries) js

whole_is : (js : List Journal) → AreAll js (whole js)
unfolding whole count_at or_zero entries_of or_no_entries
whole_is [] n = refl
whole_is (j ∷ js) zero = refl
whole_is (j ∷ js) (suc n) = whole_is js n

whole_size : (js : List Journal) → length (whole js) ≡ length js
unfolding whole
whole_size js = length-map js (λ (j : Journal). length j.entries)

-- a schedule of journals reaches all their entries
all_reached : (c : Config) (rules : Rules) (js : List Journal) (ss : List Step) → IsSchedule c rules js ss → AreReached c rules js (whole js)
all_reached c rules js ss s = record {
  steps = ss;
  size = whole_size js;
  within = λ n. (let e = whole_is js n in omega arith);
  schedule = record { made = s.made; takes = s.takes; journals = λ n. subst (λ (xs : List JournalEntry). IsRenumbered xs (made_at n s.made)) (sym (all_cut js (whole js) (whole_is js) n)) (s.journals n) };
}

pub less_is_stuck : LessIsStuck
less_is_stuck c rules js ss ts n g less s = (let m = g.most (whole js) (all_reached c rules js ss s) n in let e = whole_is js n in omega (arith, m, e, less))

-- ---- journals in order

pub in_order_is_never_stuck : InOrderIsNeverStuck
in_order_is_never_stuck c rules js ts runs o g n =
    let m = g.most (whole js) (all_reached c rules js (schedule_of js o.order) (in_order_is_scheduled c rules js runs o)) n in
    let e = whole_is js n in
    let w = g.reached.within n in
    omega (arith, m, e, w)

-- What holds of each front that is reached: the tickets of its rounds are not above its last one, and none stands in two journals
record Apart (js : List Journal) (f : Front) : Type 0 where
  size : length f.taken ≡ length js
  past : (t n : ℕ) → has_ticket t (past_of js f n) ≡ true → t ≤ f.ticket
  own : (t n m : ℕ) → has_ticket t (past_of js f n) ≡ true → has_ticket t (past_of js f m) ≡ true → n ≡ m

no_ticket : (js : List Journal) (t n : ℕ) → has_ticket t (past_of js (first_front js) n) ≡ true → ⊥
unfolding has_ticket
no_ticket js t n has = let e = ap (has_ticket t) (past_first js n) in cc

apart_first : (js : List Journal) → Apart js (first_front js)
unfolding first_front
apart_first js = record {
  size = length-replicate (length js) 0;
  past = λ t n has. absurd (no_ticket js t n has);
  own = λ t n m one two. absurd (no_ticket js t n one);
}

-- the round that comes has the ticket after the last one
next_ticket : (js : List Journal) (f : Front) (n t : ℕ) (e : Event) → MayStand js f n e → begins_round t e ≡ true → (t ≡ f.ticket + 1) × (ticket_after e f.ticket ≡ t)
unfolding MayStand begins_round ticket_after
next_ticket js f n t (event.BeginRound u members) may is = (let same = eqb-true u t is in let num = may.0 in omega arith, eqb-true u t is)
next_ticket js f n t _ may is = absurd (cc)

ticket_grows : (js : List Journal) (f : Front) (n : ℕ) (e : Event) → MayStand js f n e → f.ticket ≤ (front_after n e f).ticket
unfolding MayStand ticket_after front_after
ticket_grows js f n (event.BeginRound u members) may = (let num = may.0 in omega arith)
ticket_grows js f n _ may = omega arith

module _ (js : List Journal) (f : Front) (n : ℕ) (x : JournalEntry) (h : Apart js f) (next : next_entry js f n ≡ Some x) (may : MayStand js f n x.event) where
  abbrev after : Front
  after = front_after n x.event f

  has_place : n < length f.taken
  has_place = let l = has_journal js f n x next in let s = h.size in omega (arith, l, s)

  -- a ticket of the front after stood before, or is that of the entry that comes
  data Which (t m : ℕ) : Type 0 where
    before : has_ticket t (past_of js f m) ≡ true → Which t m
    now : m ≡ n → begins_round t x.event ≡ true → Which t m

  which : (t m : ℕ) → has_ticket t (past_of js after m) ≡ true → Which t m
  unfolding has_ticket
  which t m has = ⊎_elim
      (λ (e : m ≡ n). ⊎_elim
      (λ (old : has_ticket t (past_of js f n) ≡ true). before (subst (λ (i : ℕ). has_ticket t (past_of js f i) ≡ true) (sym e) old))
      (λ (new : has_ticket t (x ∷ []) ≡ true). now e (⊎_elim (λ (y : begins_round t x.event ≡ true). y) (λ (no : false ≡ true). absurd (cc)) (or_cases (begins_round t x.event) false new)))
      (or_cases (has_ticket t (past_of js f n)) (has_ticket t (x ∷ [])) (sym (ticket_more t (past_of js f n) (x ∷ [])) ∙ sym (ap (has_ticket t) (past_own js f n x has_place next)) ∙ subst (λ (i : ℕ). has_ticket t (past_of js after i) ≡ true) e has)))
      (λ (ne : m ≡ n → ⊥). before (sym (ap (has_ticket t) (past_other js f n m x.event ne)) ∙ has))
      (cases_eq m n)

  apart_after : Apart js after
  unfolding front_after
  apart_after = record { size = size_after f n x.event ∙ h.size; past = λ t m has. past t m (which t m has); own = λ t m l one two. own t m l (which t m one) (which t l two) }
    where
      past : (t m : ℕ) → Which t m → t ≤ after.ticket
      past t m (before old) = (let p = h.past t m old in let g = ticket_grows js f n x.event may in omega arith)
      past t m (now e is) = (let p = next_ticket js f n t x.event may is in let q = p.1 in omega arith)

      own : (t m l : ℕ) → Which t m → Which t l → m ≡ l
      own t m l (before one) (before two) = h.own t m l one two
      own t m l (before one) (now e is) = absurd (let p = h.past t m one in let q = (next_ticket js f n t x.event may is).0 in omega arith)
      own t m l (now e is) (before two) = absurd (let p = h.past t l two in let q = (next_ticket js f n t x.event may is).0 in omega arith)
      own t m l (now e is) (now d too) = e ∙ sym d

apart_all : (js : List Journal) (order : List ℕ) (f g : Front) → Apart js f → Stand js f order g → Apart js g
unfolding Stand
apart_all js [] f g h s = subst (λ (e : Front). Apart js e) s h
apart_all js (n ∷ ns) f g h s = apart_all js ns (front_after n s.0.event f) g (apart_after js f n s.0 h s.1 s.2) s.3

pub in_order_have_own_tickets : InOrderHaveOwnTickets
unfolding past_of
in_order_have_own_tickets js o t n m one two =
    let a = apart_all js o.order (first_front js) o.end (apart_first js) o.stand in
    a.own t n m (ap (has_ticket t) (whole_past n) ∙ one) (ap (has_ticket t) (whole_past m) ∙ two)
  where
    whole_past : (i : ℕ) → past_of js o.end i ≡ entries_of js i
    whole_past i = take_all (taken_of o.end i) (entries_of js i) (let e = o.whole i in omega arith)
