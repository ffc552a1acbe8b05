-- Where no next entry may be made, no schedule makes more entries of any journal.
use Rattle.std.proofs.Common.{◌≡◌, ℕ, zero, suc, ◌+◌, ◌^◌, ◌<◌, ◌≤◌, Bool, true, false, not, List, [], ◌∷◌, ◌++◌, length, map, take, Some, append-nil, append_assoc, length-append, arith, refl, sym, ap, ◌∙◌, subst, ⊎_elim}
use Rattle.std.proofs.lemmas.Bool.{and_from, cases_eq, cases_lt, eq-eqb, lt-ltb, or_left, or_right}
use Rattle.std.proofs.lemmas.List.{length-map, length-take-le}
use Rattle.std.specs.List.{list_all}
use Rattle.std.specs.Prelude.{nat_lt, slice_get}
use Rattle.ct_call.specs.Rules.{Rules}
use Rattle.ct_values.specs.declared.client.ClientOp.{ClientOp}
use Rattle.ct_values.specs.declared.config.Config.{Config}
use Rattle.ct_frame.specs.declared.event.Event.{Event}
use Rattle.ct_frame.specs.declared.event.Event.TheVariants as event
use Rattle.ct_frame.specs.declared.frame.Frame.{Frame}
use Rattle.ct_rules_node.specs.Node.{Node, is_serving}
use Rattle.ct_rules_node.specs.Refusals.{first_of, refused_if}
use Rattle.ct_rules_cluster.specs.Cluster.{Cluster, Sent, able_from, is_up, node_at, opening, sent_at}
use Rattle.ct_rules_cluster.specs.Faults.{fault_of, leads, no_such_db, no_such_node, node_down, not_leader, not_serving, wrong_kind}
use Rattle.ct_rules_cluster.specs.declared.step.Step.{Step}
use Rattle.ct_rules_cluster.specs.declared.step.StepFault.TheVariants as fault
use Rattle.ct_journal.specs.Order.{entries_of}
use Rattle.ct_journal.specs.Schedules.{IsRenumbered, Noted, entry_under, event_under, given_by, has_call, is_call, made_at, made_by, none_made, noted_of}
use Rattle.ct_journal.specs.declared.journal.Journal.{Journal}
use Rattle.ct_journal.specs.declared.journal.JournalEntry.{JournalEntry}
use Rattle.ct_law_journal_numbers.specs.Renumbered.{node_under}
use Rattle.ct_law_journal_schedule.specs.Laws.{AreRuns}
use Rattle.ct_law_journal_schedule.proofs.Fronts.{take_next}
use Rattle.ct_law_journal_schedule.proofs.Numbering.{made_own}
use Rattle.ct_law_journal_reach.specs.Counts.{AreNotTooMany, HaveOwnTickets, AreReached, count_at, cut_to, entry_after, has_ticket, begins_round}
use Rattle.ct_law_journal_reach.specs.Laws.{HeldIsGreatest, NoneMayGo}
use Rattle.ct_law_journal_reach.specs.Making.{HasMade, MayGo}
use Rattle.ct_law_journal_reach.proofs.Cutting.{call_first, call_more, call_under, entries_cut, is_there, none_there, take_none, ticket_first, ticket_more, ticket_under, ticket_whole}
use Rattle.ct_law_journal_reach.proofs.Playing.{first_run, state_is}
use Rattle.ct_law_journal_reach.proofs.Sending.{Has, Kept, has_sent, sent_at_one, sent_first, sent_has, sent_in, sent_of_one, sent_under}
use Rattle.ct_law_journal_reach.proofs.Steps.{Comes}
use Rattle.ct_law_journal_reach.proofs.Told.{ArePlaced, First, Goes, Told, Went, goes, made_else, made_first, made_more, made_now, nothing, placed_parts, sent_by, something, told_all, told_none, ups}
use Rattle.ct_law_journal_reach.proofs.Weights.{made_few}

-- ---- lists

-- the first of entries that are renumbered
head_of : (g : JournalEntry → JournalEntry) (u : ℕ) (all xs ys : List JournalEntry) → xs ++ ys ≡ map g (take u all) → (length xs ≤ u) × (xs ≡ map g (take (length xs) all))
head_of g u all [] ys e = (omega arith, refl)
head_of g zero all (x ∷ xs) ys e = absurd (cc)
head_of g (suc u) [] (x ∷ xs) ys e = absurd (cc)
head_of g (suc u) (a ∷ all) (x ∷ xs) ys e =
    let now : x ≡ g a = cc in
    let later : xs ++ ys ≡ map g (take u all) = cc in
    let r = head_of g u all xs ys later in
    (omega (arith, r.0), (λ i. now i ∷ r.1 i))

-- and the entry after them
next_of : (g : JournalEntry → JournalEntry) (u : ℕ) (all xs ys : List JournalEntry) (x : JournalEntry) → xs ++ x ∷ ys ≡ map g (take u all) → (a : JournalEntry) × (slice_get all (length xs) ≡ Some a) × (x ≡ g a) × (length xs < u)
next_of g zero all [] ys x e = absurd (cc)
next_of g (suc u) [] [] ys x e = absurd (cc)
next_of g (suc u) (a ∷ all) [] ys x e = (a, refl, (cc), omega arith)
next_of g zero all (y ∷ xs) ys x e = absurd (cc)
next_of g (suc u) [] (y ∷ xs) ys x e = absurd (cc)
next_of g (suc u) (a ∷ all) (y ∷ xs) ys x e =
    let later : xs ++ x ∷ ys ≡ map g (take u all) = cc in
    let r = next_of g u all xs ys x later in
    (r.0, r.1, r.2, omega (arith, r.3))

able_below : (i : ℕ) (bs : List Bool) (n : ℕ) → i + length bs ≤ n → list_all (λ (m : ℕ). nat_lt m n) (able_from i bs) ≡ true
unfolding able_from
able_below i [] n l = refl
able_below i (true ∷ bs) n l = and_from (nat_lt i n) (list_all (λ (m : ℕ). nat_lt m n) (able_from (i + 1) bs)) (lt-ltb i n (omega arith)) (able_below (i + 1) bs n (omega arith))
able_below i (false ∷ bs) n l = able_below (i + 1) bs n (omega arith)

-- ---- made entries

-- entries that are made of the first of each journal are of nodes that are there
pub first_placed : (c : Config) (js : List Journal) (ms : List Noted) (k : ℕ → ℕ) → length js ≡ c.nodes → ((n : ℕ) → IsRenumbered (take (k n) (entries_of js n)) (made_at n ms)) → ArePlaced c ms
first_placed c js ms k count r n g = sym (r n).same ∙ ap (map (entry_under (r n).number)) (take_none (k n) (entries_of js n) (none_there js n (omega arith)))

-- what is renumbered, with as many entries as were made
pub cut_renumbered : (js : List Journal) (ts : List ℕ) (ms : List Noted) → ((n : ℕ) → IsRenumbered (entries_of (cut_to js ts) n) (made_at n ms)) → (n : ℕ) → IsRenumbered (take (count_at ts n) (entries_of js n)) (made_at n ms)
cut_renumbered js ts ms r n = subst (λ (xs : List JournalEntry). IsRenumbered xs (made_at n ms)) (entries_cut js ts n) (r n)

-- ---- another schedule

module _ (c : Config) (rules : Rules) (js : List Journal) (runs : AreRuns c rules js) (not_many : AreNotTooMany js) (own : HaveOwnTickets js) (ss : List Step) (w : Cluster) (ts : List ℕ) (h : HasMade c rules js ss w ts) (us : List ℕ) (r : AreReached c rules js us) where
  abbrev entries : ℕ → List JournalEntry
  entries n = entries_of js n

  abbrev count : ℕ → ℕ
  count n = count_at ts n

  abbrev all : List Noted
  all = r.schedule.made

  here : (n : ℕ) → IsRenumbered (take (count n) (entries n)) (made_at n h.made)
  here = cut_renumbered js ts h.made h.journals

  there : (n : ℕ) → IsRenumbered (take (count_at us n) (entries n)) (made_at n all)
  there = cut_renumbered js us all r.schedule.journals

  told : Told c rules w h.made
  told = told_all c rules ss (opening c) w [] h.made (told_none c rules) (first_placed c js h.made count runs.count here) h.takes h.ends

  few : length h.made + length (sent_by h.made) < 2 ^ 61
  few = made_few c js h.made count not_many runs.count (first_placed c js h.made count runs.count here) here

  all_placed : ArePlaced c all
  all_placed = first_placed c js all (λ n. count_at us n) runs.count there

  all_few : length all + length (sent_by all) < 2 ^ 61
  all_few = made_few c js all (λ n. count_at us n) not_many runs.count all_placed there

  -- The other schedule has made as many entries of node m, of no node more, and makes the next one of m
  module _ (v : Cluster) (ms later : List Noted) (hv : Told c rules v ms) (within : (n : ℕ) → length (made_at n ms) ≤ count n) (m : ℕ) (x : JournalEntry) (is : ms ++ record { node = m; entry = x } ∷ later ≡ all) (full : length (made_at m ms) ≡ count m) where
    abbrev so_far : ℕ → ℕ
    so_far n = length (made_at n ms)

    f : ℕ → ℕ
    f = (there m).number

    parts : (n : ℕ) → made_at n ms ++ made_at n (record { node = m; entry = x } ∷ later) ≡ map (entry_under (there n).number) (take (count_at us n) (entries n))
    parts n = sym (made_more n ms (record { node = m; entry = x } ∷ later)) ∙ ap (made_at n) is ∙ sym (there n).same

    head : (n : ℕ) → (so_far n ≤ count_at us n) × (made_at n ms ≡ map (entry_under (there n).number) (take (so_far n) (entries n)))
    head n = head_of (entry_under (there n).number) (count_at us n) (entries n) (made_at n ms) (made_at n (record { node = m; entry = x } ∷ later)) (parts n)

    mine : (a : JournalEntry) × (slice_get (entries m) (so_far m) ≡ Some a) × (x ≡ entry_under f a) × (so_far m < count_at us m)
    unfolding f
    mine = next_of (entry_under (there m).number) (count_at us m) (entries m) (made_at m ms) (made_at m later) x
        (subst (λ (l : List JournalEntry). made_at m ms ++ l ≡ map (entry_under (there m).number) (take (count_at us m) (entries m))) (made_own m (record { node = m; entry = x }) later refl) (parts m))

    renumbered : (n : ℕ) → IsRenumbered (take (so_far n) (entries n)) (made_at n ms)
    renumbered n = record {
      number = (there n).number;
      rises = λ a b ha hb l. (there n).rises a b (call_first a (so_far n) (count_at us n) (entries n) (head n).0 ha) (call_first b (so_far n) (count_at us n) (entries n) (head n).0 hb) l;
      same = sym (head n).1;
    }

    few_too : v.calls < 2 ^ 62
    few_too = let k = hv.calls in let a = length-append ms (record { node = m; entry = x } ∷ later) in let e = ap length is in let q = all_few in omega arith

    few_here : w.calls < 2 ^ 62
    few_here = let k = told.calls in let q = few in omega arith

    is_node : m < c.nodes
    is_node = let l = is_there js m (so_far m) mine.0 mine.1 in let q = runs.count in omega (arith, l, q)

    -- the next entry of the journal
    a : JournalEntry
    a = mine.0

    next : entry_after js ts m ≡ Some a
    unfolding entry_after a
    next = ap (slice_get (entries m)) (sym full) ∙ mine.1

    given : x.event ≡ event_under f a.event
    unfolding a entry_under
    given = ap (λ (y : JournalEntry). y.event) mine.2

    -- the entries of m so far, and this one
    more : take (so_far m + 1) (entries m) ≡ take (so_far m) (entries m) ++ a ∷ []
    unfolding a
    more = take_next (entries m) (so_far m) mine.0 mine.1

    -- node m is in the same state, apart from the numbers of calls
    same_state : (n : Node) × (node_at m w ≡ node_under (here m).number n) × (node_at m v ≡ node_under f n)
    unfolding f there cut_renumbered renumbered
    same_state = (
      (first_run c rules js runs m is_node (count m)).0,
      state_is c rules js runs m is_node (count m) w h.made told (here m) few_here,
      subst (λ (k : ℕ). (ren : IsRenumbered (take k (entries m)) (made_at m ms)) → node_at m v ≡ node_under ren.number (first_run c rules js runs m is_node k).0) full
          (λ ren. state_is c rules js runs m is_node (so_far m) v ms hv ren few_too)
          (subst (λ (k : ℕ). IsRenumbered (take k (entries m)) (made_at m ms)) full (renumbered m)),
    )

    same_phase : (node_at m w).phase ≡ (node_at m v).phase
    unfolding node_under
    same_phase = ap (λ (n : Node). n.phase) same_state.1 ∙ sym (ap (λ (n : Node). n.phase) same_state.2)

    same_generation : (node_at m w).generation ≡ (node_at m v).generation
    unfolding node_under
    same_generation = ap (λ (n : Node). n.generation) same_state.1 ∙ sym (ap (λ (n : Node). n.generation) same_state.2)

    same_lead : (node_at m w).lead ≡ (node_at m v).lead
    unfolding node_under
    same_lead = ap (λ (n : Node). n.lead) same_state.1 ∙ sym (ap (λ (n : Node). n.lead) same_state.2)

    same_up : is_up m w ≡ is_up m v
    same_up = ups c rules w h.made told m is_node ∙ sym (ups c rules v ms hv m is_node)

    -- a ticket of an entry that was made stands among those that these steps have made
    ticket_here : (n t : ℕ) → has_ticket t (made_at n ms) ≡ true → has_ticket t (made_at n h.made) ≡ true
    ticket_here n t has =
        let one : has_ticket t (take (so_far n) (entries n)) ≡ true = sym (ticket_under (there n).number t (take (so_far n) (entries n))) ∙ sym (ap (has_ticket t) (head n).1) ∙ has in
        ap (has_ticket t) (sym (here n).same) ∙ ticket_under (here n).number t (take (count n) (entries n)) ∙ ticket_first t (so_far n) (count n) (entries n) (within n) one

    tickets_here : v.ticket ≤ w.ticket
    tickets_here = ⊎_elim
        (λ (above : 1 < v.ticket). (let g = hv.given v.ticket above (omega arith) in told.past g.0 v.ticket (ticket_here g.0 v.ticket g.1)))
        (λ (low : v.ticket ≤ 1). (let o = told.first in omega arith))
        (cases_lt 1 v.ticket)

    -- the ticket of the round that comes is not given here
    tickets_there : (t : ℕ) (members : List ℕ) → a.event ≡ event.BeginRound t members → t ≡ v.ticket + 1 → w.ticket ≤ v.ticket
    unfolding begins_round has_ticket
    tickets_there t members begins num = ⊎_elim
        (λ (above : v.ticket < w.ticket). absurd (
        let one = hv.first in
        let g = told.given t (omega arith) (omega arith) in
        let there_too : has_ticket t (take (count g.0) (entries g.0)) ≡ true = sym (ticket_under (here g.0).number t (take (count g.0) (entries g.0))) ∙ ap (has_ticket t) (here g.0).same ∙ g.1 in
        let own_now : has_ticket t (a ∷ []) ≡ true = or_left (begins_round t a.event) false (ap (begins_round t) begins ∙ eq-eqb t t refl) in
        let mine_too : has_ticket t (take (so_far m + 1) (entries m)) ≡ true = ap (has_ticket t) more ∙ ticket_more t (take (so_far m) (entries m)) (a ∷ []) ∙ or_right (has_ticket t (take (so_far m) (entries m))) (has_ticket t (a ∷ [])) own_now in
        let same : g.0 ≡ m = own t g.0 m (ticket_whole t (count g.0) (entries g.0) there_too) (ticket_whole t (so_far m + 1) (entries m) mine_too) in
        let old : has_ticket t (take (count m) (entries m)) ≡ true = subst (λ (i : ℕ). has_ticket t (take (count i) (entries i)) ≡ true) same there_too in
        let old2 : has_ticket t (take (so_far m) (entries m)) ≡ true = subst (λ (k : ℕ). has_ticket t (take k (entries m)) ≡ true) (sym full) old in
        let p = hv.past m t (ap (has_ticket t) (head m).1 ∙ ticket_under (there m).number t (take (so_far m) (entries m)) ∙ old2) in
        omega arith))
        (λ (no : w.ticket ≤ v.ticket). no)
        (cases_lt v.ticket w.ticket)

    call_above : (call : ℕ) (o : ClientOp) → a.event ≡ event.Client call o → f call ≡ v.calls + 1 → (b : ℕ) → has_call b (entries_of (cut_to js ts) m) ≡ true → b < call
    unfolding is_call has_call f
    call_above call o asks num b has =
        let old : has_call b (take (so_far m) (entries m)) ≡ true = subst (λ (k : ℕ). has_call b (take k (entries m)) ≡ true) (sym full) (sym (ap (has_call b) (entries_cut js ts m)) ∙ has) in
        let most = hv.numbers m ((there m).number b) (ap (has_call ((there m).number b)) (head m).1 ∙ call_under (there m).number b (take (so_far m) (entries m)) old) in
        let own_now : has_call call (a ∷ []) ≡ true = or_left (is_call call a.event) false (ap (is_call call) asks ∙ eq-eqb call call refl) in
        let new : has_call call (take (so_far m + 1) (entries m)) ≡ true = ap (has_call call) more ∙ call_more call (take (so_far m) (entries m)) (a ∷ []) ∙ or_right (has_call call (take (so_far m) (entries m))) (has_call call (a ∷ [])) own_now in
        let wide : so_far m + 1 ≤ count_at us m = (let l = mine.3 in omega arith) in
        ⊎_elim
        (λ (l : b < call). l)
        (λ (g : call ≤ b). absurd (⊎_elim
        (λ (e : call ≡ b). (let same = ap (there m).number e in omega arith))
        (λ (ne : call ≡ b → ⊥). (
        let l = (there m).rises call b (call_first call (so_far m + 1) (count_at us m) (entries m) wide new) (call_first b (so_far m) (count_at us m) (entries m) (head m).0 old) (⊎_elim (λ (lt : call < b). lt) (λ (ge : b ≤ call). absurd (ne (omega arith))) (cases_lt call b)) in
        omega arith))
        (cases_eq call b)))
        (cases_lt b call)

    message_here : (k : ℕ) (s : Sent) (d : Frame) → sent_at k v ≡ Some s → s.frame ≡ d → Kept w d
    message_here k s d at frame =
        let one : Has d (sent_by ms) = subst (λ (g : Frame). Has g (sent_by ms)) frame (subst (λ (fs : List Frame). Has s.frame fs) hv.sent (sent_has v k s at)) in
        let n = sent_at_one d ms one in
        let old : Has d (sent_in (take (so_far n.0) (entries n.0))) = subst (λ (fs : List Frame). Has d fs) (ap sent_in (head n.0).1 ∙ sent_under (there n.0).number (take (so_far n.0) (entries n.0))) n.1 in
        let wide = sent_first d (so_far n.0) (count n.0) (entries n.0) (within n.0) old in
        let made : Has d (sent_in (made_at n.0 h.made)) = subst (λ (fs : List Frame). Has d fs) (sym (sent_under (here n.0).number (take (count n.0) (entries n.0))) ∙ ap sent_in (here n.0).same) wide in
        has_sent w d h.kept (subst (λ (fs : List Frame). Has d fs) (sym told.sent) (sent_of_one d n.0 h.made made))

    -- so it may be made here too
    goes_here : (e : Event) → a.event ≡ e → Comes c v m (event_under f e) → (k : ℕ) × (MayGo c js w ts m e k)
    unfolding Comes event_under MayGo fault_of node_down not_serving not_leader
    goes_here (event.Client call o) is comes = (0, call_above call o is comes)
    goes_here (event.Arrive d) is comes = (let k = message_here comes.0 comes.1 d comes.2 comes.3 in (k.number, (k.sent, k.is, k.frame, k.kept)))
    goes_here event.Retry is comes = (0, tt)
    goes_here (event.Vacuum db) is comes = (
      0,
      (λ i. first_of (no_such_node c m ∷ refused_if (not (same_up i)) (fault.NodeDown m) ∷ no_such_db c db ∷ wrong_kind c db ∷ refused_if (not (is_serving (same_phase i))) (fault.NotServing m) ∷ [])) ∙ comes,
    )
    goes_here (event.BeginRound t members) is comes = (0, (let l = tickets_here in let g = tickets_there t members is comes in omega (arith, l, g, comes)))
    goes_here (event.BeginTakeover able) is comes = (
      0,
      (
        ap (λ (l : List ℕ). list_all (λ (k : ℕ). nat_lt k c.nodes) l) comes.0 ∙ able_below 0 v.able c.nodes (let l = hv.able in omega arith),
        (λ i. first_of (no_such_node c m ∷ refused_if (not (same_up i)) (fault.NodeDown m) ∷ refused_if (not (is_serving (same_phase i))) (fault.NotServing m)
            ∷ refused_if (not (leads (same_generation i) (same_lead i))) (fault.NotLeader m) ∷ [])) ∙ comes.1,
      ),
    )

    blocked : NoneMayGo c js w ts → Comes c v m x.event → ⊥
    blocked held comes = (let g = goes_here a.event refl (subst (λ (e : Event). Comes c v m e) given comes) in held m g.0 a next g.1)

  -- along the other schedule
  no_more : NoneMayGo c js w ts → (steps : List Step) (v : Cluster) (ms rest : List Noted) → Told c rules v ms → made_by c rules (Some v) steps ≡ Some rest → ms ++ rest ≡ all → ((n : ℕ) → length (made_at n ms) ≤ count n) → (n : ℕ) → length (made_at n all) ≤ count n
  unfolding made_by none_made
  no_more held [] v ms rest hv makes is within n =
      let none : [] ≡ rest = cc in
      let same : ms ≡ all = sym (append-nil ms) ∙ ap (λ (l : List Noted). ms ++ l) none ∙ is in
      subst (λ (l : List Noted). length (made_at n l) ≤ count n) same (within n)
  no_more held (s ∷ steps) v ms rest hv makes is within n = by (λ hn more. no_more held steps fst.next (ms ++ ys) fst.later hn fst.makes whole more n) (goes c rules v ms s fst.next hv placed.0 fst.after)
    where
      fst : First c rules v s steps rest
      fst = made_first c rules v s steps rest makes

      ys : List Noted
      ys = map (noted_of c rules v) (given_by v s)

      whole : ms ++ ys ++ fst.later ≡ all
      whole = append_assoc ms ys fst.later ∙ ap (λ (l : List Noted). ms ++ l) (sym fst.is) ∙ is

      placed : ArePlaced c ys × ArePlaced c fst.later
      placed = placed_parts c ys fst.later (subst (λ (l : List Noted). ArePlaced c l) fst.is (placed_parts c ms rest (subst (λ (l : List Noted). ArePlaced c l) (sym is) all_placed)).1)

      by : (Told c rules fst.next (ms ++ ys) → ((i : ℕ) → length (made_at i (ms ++ ys)) ≤ count i) → length (made_at n all) ≤ count n) → Goes c rules v ms ys fst.next → length (made_at n all) ≤ count n
      by go g = at g.went
        where
          at : Went c rules v ys fst.next → length (made_at n all) ≤ count n
          at (nothing none) = go g.told (λ i. subst (λ (l : List Noted). length (made_at i l) ≤ count i) (sym (ap (λ (l : List Noted). ms ++ l) none ∙ append-nil ms)) (within i))
          at (something m x l these comes) = go g.told (λ i. subst (λ (l : List Noted). length (made_at i (ms ++ l)) ≤ count i) (sym these) (⊎_elim
              (λ (same : i ≡ m). subst (λ (j : ℕ). length (made_at j (ms ++ record { node = m; entry = x } ∷ [])) ≤ count j) (sym same)
              (subst (λ (xs : List JournalEntry). length xs ≤ count m) (sym (made_now m ms x)) (⊎_elim
              (λ (less : length (made_at m ms) < count m). (let q = length-append (made_at m ms) (x ∷ []) in omega arith))
              (λ (no_less : count m ≤ length (made_at m ms)). absurd (
              let b = within m in
              blocked v ms fst.later hv within m x
              (ap (λ (l : List Noted). ms ++ l) (sym (ap (λ (l : List Noted). l ++ fst.later) these)) ∙ sym (append_assoc ms ys fst.later) ∙ whole)
              (omega arith) held comes))
              (cases_lt (length (made_at m ms)) (count m)))))
              (λ (ne : i ≡ m → ⊥). subst (λ (xs : List JournalEntry). length xs ≤ count i) (sym (made_else m i ms x ne)) (within i))
              (cases_eq i m)))

  none_first : (n : ℕ) → length (made_at n []) ≤ count n
  unfolding made_at
  none_first n = omega arith

  most : NoneMayGo c js w ts → (n : ℕ) → count_at us n ≤ count_at ts n
  most held n =
      let m = no_more held r.steps (opening c) [] all (told_none c rules) r.schedule.takes refl none_first n in
      let l : length (made_at n all) ≡ count_at us n = ap length (sym (there n).same) ∙ length-map (take (count_at us n) (entries n)) (entry_under (there n).number) ∙ length-take-le (count_at us n) (entries n) (r.within n) in
      omega arith

-- ---- the law

pub held_is_greatest : HeldIsGreatest
held_is_greatest c rules js ss w ts runs not_many own h held = record {
  reached = record { steps = ss; size = h.size; within = h.within; schedule = record { made = h.made; takes = h.takes; journals = h.journals } };
  most = λ us r. most c rules js runs not_many own ss w ts h us r held;
}
