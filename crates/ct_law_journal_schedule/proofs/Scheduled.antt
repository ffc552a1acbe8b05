-- Journals in order that are runs have a schedule.
use Rattle.std.proofs.Common.{◌≡◌, ℕ, zero, suc, ◌^◌, ◌<◌, ◌≤◌, true, List, [], ◌∷◌, ◌++◌, length, map, replicate, Option, Some, arith, refl, sym, ap, ◌∙◌, subst, ⊎_elim}
use Rattle.std.proofs.lemmas.Bool.{cases_eq}
use Rattle.std.proofs.lemmas.List.{length-replicate}
use Rattle.std.specs.Prelude.{nat_lt, slice_get}
use Rattle.ct_call.specs.Rules.{Rules}
use Rattle.ct_values.specs.declared.config.Config.{Config}
use Rattle.ct_frame.specs.Fields.{ascends}
use Rattle.ct_rules_node.specs.Node.{Node}
use Rattle.ct_rules_node.specs.Node as node
use Rattle.ct_rules_cluster.specs.Cluster.{Cluster, everyone, node_at, opening, or_absent}
use Rattle.ct_journal.specs.Order.{AreInOrder, Front, Stand, arrived_from, entries_of, first_front, front_after, next_entry, numbers_of_calls, or_no_entries, past_of, sent_to, taken_of}
use Rattle.ct_journal.specs.Runs.{IsRun}
use Rattle.ct_journal.specs.Schedules.{IsSchedule, Noted, entry_under, has_call, made_at, made_by, none_made, with_made}
use Rattle.ct_journal.specs.declared.journal.Journal.{Journal}
use Rattle.ct_journal.specs.declared.journal.JournalEntry.{JournalEntry}
use Rattle.ct_journal.proofs.Computed.{not_made}
use Rattle.ct_journal.proofs.Ends.{size_after}
use Rattle.ct_law_journal_numbers.proofs.Runs.{journals_renumbered, sends_renumbered}
use Rattle.ct_law_journal_numbers.specs.Laws.{JournalsRenumbered, SendsRenumbered}
use Rattle.ct_law_journal_numbers.specs.Renumbered.{node_under}
use Rattle.ct_law_journal_schedule.proofs.Carrying.{Rising, between}
use Rattle.ct_law_journal_schedule.proofs.Fronts.{has_journal, left_after, left_first, left_of, past_first, rest_first, rest_of, rest_other, rest_own, rest_whole}
use Rattle.ct_law_journal_schedule.proofs.Numbering.{made_own, number_few, number_in, numbers_rise}
use Rattle.ct_law_journal_schedule.proofs.Queues.{Mailed, Queue}
use Rattle.ct_law_journal_schedule.proofs.Walking.{Reached, Runs, given, goes, goes_on}
use Rattle.ct_law_journal_schedule.specs.Laws.{AreRuns, InOrderIsScheduled}
use Rattle.ct_law_journal_schedule.specs.Scheduling.{Scheduling, first_scheduling, schedule_from, schedule_of, scheduling_after, scheduling_next, steps_next}

-- ---- the entries in their order

-- the entries that stand from one front to another
unfoldable pub laid : (js : List Journal) (f : Front) (order : List ℕ) (g : Front) → Stand js f order g → List Noted
unfolding Stand
laid js f [] g s = []
laid js f (n ∷ ns) g s = record { node = n; entry = s.0 } ∷ laid js (front_after n s.0.event f) ns g s.3

-- the node of an entry that comes has a place in the front
has_place : (js : List Journal) (f : Front) (n : ℕ) (x : JournalEntry) → length f.taken ≡ length js → next_entry js f n ≡ Some x → n < length f.taken
has_place js f n x size next = let l = has_journal js f n x next in omega (arith, l, size)

laid_at : (js : List Journal) (f : Front) (order : List ℕ) (g : Front) (s : Stand js f order g) (n : ℕ) → length f.taken ≡ length js → taken_of g n ≡ length (entries_of js n) → made_at n (laid js f order g s) ≡ rest_of js f n
unfolding Stand laid made_at
laid_at js f [] g s n size whole = sym (ap (λ (f : Front). rest_of js f n) s ∙ rest_whole js g n whole)
laid_at js f (m ∷ ns) g s n size whole =
    let x : JournalEntry = s.0 in
    let head : Noted = record { node = m; entry = x } in
    let more : List Noted = laid js (front_after m x.event f) ns g s.3 in
    let r : made_at n more ≡ rest_of js (front_after m x.event f) n = laid_at js (front_after m x.event f) ns g s.3 n (size_after f m x.event ∙ size) whole in
    ⊎_elim
    (λ (same : m ≡ n). made_own n head more same ∙ ap (λ (l : List JournalEntry). x ∷ l) r ∙ subst (λ (i : ℕ). x ∷ rest_of js (front_after m x.event f) i ≡ rest_of js f i) same (sym (rest_own js f m x (has_place js f m x size s.1) s.1)))
    (λ (ne : m ≡ n → ⊥). not_made n head more ne ∙ r ∙ rest_other js f m n x.event (λ q. ne (sym q)))
    (cases_eq m n)

laid_few : (js : List Journal) (f : Front) (order : List ℕ) (g : Front) (s : Stand js f order g) → length f.taken ≡ length js → length (laid js f order g s) ≤ left_of js f.taken
unfolding Stand laid
laid_few js f [] g s size = omega arith
laid_few js f (m ∷ ns) g s size =
    let r = laid_few js (front_after m s.0.event f) ns g s.3 (size_after f m s.0.event ∙ size) in
    let l = left_after js f m s.0 (has_place js f m s.0 size s.1) s.1 in
    omega arith

-- ---- the steps make them

-- an entry with the numbers that the cluster gives to the calls of its node
unfoldable renumbered : (ℕ → ℕ → ℕ) → Noted → Noted
renumbered number y = record { node = y.node; entry = entry_under (number y.node) y.entry }

renumbered_at : (number : ℕ → ℕ → ℕ) (n : ℕ) (ys : List Noted) → made_at n (map (renumbered number) ys) ≡ map (entry_under (number n)) (made_at n ys)
unfolding made_at renumbered
renumbered_at number n [] = refl
renumbered_at number n (y ∷ ys) = ⊎_elim
    (λ (same : y.node ≡ n). made_own n (renumbered number y) (map (renumbered number) ys) same
    ∙ subst (λ (i : ℕ). entry_under (number y.node) y.entry ∷ made_at n (map (renumbered number) ys) ≡ entry_under (number i) y.entry ∷ map (entry_under (number n)) (made_at n ys)) same
    (ap (λ (l : List JournalEntry). entry_under (number y.node) y.entry ∷ l) (renumbered_at number n ys))
    ∙ ap (map (entry_under (number n))) (sym (made_own n y ys same)))
    (λ (ne : y.node ≡ n → ⊥). not_made n (renumbered number y) (map (renumbered number) ys) ne ∙ renumbered_at number n ys ∙ ap (map (entry_under (number n))) (sym (not_made n y ys ne)))
    (cases_eq y.node n)

walk : (c : Config) (rules : Rules) (js : List Journal) (number : ℕ → ℕ → ℕ) → SendsRenumbered → length js ≡ c.nodes → (order : List ℕ) (w : Cluster) (k : Scheduling) (g : Front) (s : Stand js k.front order g) →
    Reached c rules js number w k (laid js k.front order g s) → made_by c rules (Some w) (schedule_from js k order) ≡ Some (map (renumbered number) (laid js k.front order g s))
unfolding Stand laid schedule_from steps_next scheduling_next scheduling_after made_by none_made with_made renumbered given entry_under
walk c rules js number sends count [] w k g s h = refl
walk c rules js number sends count (n ∷ ns) w k g s h =
    let x : JournalEntry = s.0 in
    let ys : List Noted = laid js (front_after n x.event k.front) ns g s.3 in
    let go = goes c rules js number sends count w k n x ys h s.1 s.2 in
    let on = goes_on c rules js number sends count w k n x ys h s.1 s.2 go in
    ap (λ (o : Option JournalEntry). made_by c rules (Some w) (steps_next n o k ++ schedule_from js (scheduling_next n o k) ns)) s.1
    ∙ go.makes (schedule_from js (scheduling_after n x k) ns)
    ∙ ap (with_made (renumbered number (record { node = n; entry = x }) ∷ [])) (walk c rules js number sends count ns _ (scheduling_after n x k) g s.3 on)

-- ---- the opening

at_each : (A : Type 0) (k n : ℕ) (x : A) → n < k → slice_get (replicate k x) n ≡ Some x
at_each A zero n x l = absurd (omega arith)
at_each A (suc k) zero x l = refl
at_each A (suc k) (suc n) x l = at_each A k n x (omega arith)

pub has_entries : (js : List Journal) (n : ℕ) → n < length js → (j : Journal) × (slice_get js n ≡ Some j)
has_entries [] n l = absurd (omega arith)
has_entries (j ∷ js) zero l = (j, refl)
has_entries (j ∷ js) (suc n) l = has_entries js n (omega arith)

module _ (sends : SendsRenumbered) (renumbers : JournalsRenumbered) (c : Config) (rules : Rules) (js : List Journal) (runs : AreRuns c rules js) (o : AreInOrder js) where
  -- all entries, in their order
  all : List Noted
  all = laid js (first_front js) o.order o.end o.stand

  -- the number of a call of node n is its place among the calls of all nodes
  number : ℕ → ℕ → ℕ
  number n call = number_in 0 all n call

  first_size : length (first_front js).taken ≡ length js
  unfolding first_front
  first_size = length-replicate (length js) 0

  all_at : (n : ℕ) → made_at n all ≡ entries_of js n
  unfolding all
  all_at n = laid_at js (first_front js) o.order o.end o.stand n first_size (o.whole n) ∙ rest_first js n

  all_few : length all < 2 ^ 61
  unfolding all
  all_few = let f = laid_few js (first_front js) o.order o.end o.stand first_size in let l = left_first js in let b = o.few in omega arith

  rises : (n a b : ℕ) → has_call a (entries_of js n) ≡ true → has_call b (entries_of js n) ≡ true → a < b → number n a < number n b
  unfolding number
  rises n a b ha hb l = numbers_rise 0 all n a b
      (subst (λ (xs : List JournalEntry). ascends nat_lt (numbers_of_calls xs) ≡ true) (sym (all_at n)) (o.calls n))
      (subst (λ (xs : List JournalEntry). has_call a xs ≡ true) (sym (all_at n)) ha)
      (subst (λ (xs : List JournalEntry). has_call b xs ≡ true) (sym (all_at n)) hb) l

  few : (n call : ℕ) → number n call < 2 ^ 62
  unfolding number
  few n call = let f = number_few 0 all n call in let a = all_few in omega arith

  journal_runs : (n : ℕ) (j : Journal) → slice_get js n ≡ Some j → Runs c rules js number n (node.opening c (everyone c)) (entries_of js n)
  unfolding entries_of or_no_entries
  journal_runs n j is =
      let r = runs.each n j is in
      let own : entries_of js n ≡ j.entries = ap or_no_entries is in
      let end : Node = node_under (number n) r.end in
      let run = renumbers c rules j (number n) r.end
      (λ a b ha hb l. rises n a b (subst (λ (xs : List JournalEntry). has_call a xs ≡ true) (sym own) ha) (subst (λ (xs : List JournalEntry). has_call b xs ≡ true) (sym own) hb) l)
      (λ call ha. few n call) r.runs in
      subst (λ (xs : List JournalEntry). Runs c rules js number n (node.opening c (everyone c)) xs) (sym own)
      (record { end = end; runs = subst (λ (i : ℕ). IsRun c rules i (node.opening c (everyone c)) (map (entry_under (number n)) j.entries) end) r.node run })

  first_ticket : 1 ≡ (first_front js).ticket
  unfolding first_front
  first_ticket = refl

  first_mail : Mailed [] [] (past_of js (first_front js)) (past_of js (first_front js))
  unfolding Mailed between sent_to arrived_from
  first_mail s n =
      subst (λ (xs : List JournalEntry). Queue [] [] (sent_to n xs) (arrived_from s (past_of js (first_front js) n))) (sym (past_first js s))
      (subst (λ (xs : List JournalEntry). Queue [] [] [] (arrived_from s xs)) (sym (past_first js n)) (record { gone = []; left = []; whole = refl; count = refl; wait = refl }))

  opens_at : (n : ℕ) → n < c.nodes → Runs c rules js number n (or_absent (slice_get (replicate c.nodes (node.opening c (everyone c))) n)) (rest_of js (first_front js) n)
  unfolding or_absent
  opens_at n l =
      let j = has_entries js n (let q = runs.count in omega arith) in
      subst (λ (x : Option Node). Runs c rules js number n (or_absent x) (rest_of js (first_front js) n)) (sym (at_each Node c.nodes n (node.opening c (everyone c)) l))
      (subst (λ (xs : List JournalEntry). Runs c rules js number n (node.opening c (everyone c)) xs) (sym (rest_first js n)) (journal_runs n j.0 j.1))

  opens : Reached c rules js number (opening c) (first_scheduling js) all
  unfolding opening first_scheduling node_at number Rising
  opens = record {
    taken = first_size;
    count = length-replicate c.nodes (node.opening c (everyone c));
    up = refl;
    runs = opens_at;
    sent = refl;
    ticket = first_ticket;
    holder = refl;
    member = λ h is. absurd (cc);
    rising = omega arith;
    mail = first_mail;
    ascend = λ n. subst (λ (xs : List JournalEntry). ascends nat_lt (numbers_of_calls xs) ≡ true) (sym (rest_first js n)) (o.calls n);
    asked = λ n call has. refl;
    few = (let l = left_first js in let b = o.few in omega arith);
  }

  scheduled : IsSchedule c rules js (schedule_of js o.order)
  unfolding schedule_of first_scheduling all
  scheduled = record {
    made = map (renumbered number) all;
    takes = walk c rules js number sends runs.count o.order (opening c) (first_scheduling js) o.end o.stand opens;
    journals = λ n. (record {
      number = number n;
      rises = rises n;
      same = ap (map (entry_under (number n))) (sym (all_at n)) ∙ sym (renumbered_at number n all);
    });
  }

-- At the opening nothing is made, and each call of all entries has a number among all calls
pub record Starts (c : Config) (rules : Rules) (js : List Journal) (o : AreInOrder js) : Type 0 where
  pub number : ℕ → ℕ → ℕ
  pub reached : Reached c rules js number (opening c) (first_scheduling js) (laid js (first_front js) o.order o.end o.stand)

pub starts : (c : Config) (rules : Rules) (js : List Journal) → AreRuns c rules js → (o : AreInOrder js) → Starts c rules js o
unfolding all
starts c rules js runs o = record { number = number sends_renumbered journals_renumbered c rules js runs o; reached = opens sends_renumbered journals_renumbered c rules js runs o }

pub in_order_is_scheduled : InOrderIsScheduled
in_order_is_scheduled c rules js runs o = scheduled sends_renumbered journals_renumbered c rules js runs o
