-- The cluster goes along with journals in order, entry by entry.
use Rattle.std.proofs.Common.{◌≡◌, ◌≢◌, ℕ, zero, suc, ◌+◌, ◌^◌, ◌<◌, ◌≤◌, ◌&&◌, Bool, true, false, List, [], ◌∷◌, ◌++◌, length, map, set, replicate, Option, Some, append_assoc, length-append, length-set, arith, refl, sym, ap, ap₂, ◌∙◌, subst, ⊎_elim}
use Rattle.std.proofs.lemmas.Bool.{and_parts, cases_eq, eq-eqb, eqb-true, lt-ltb, or_left}
use Rattle.std.proofs.lemmas.List.{length-map}
use Rattle.std.specs.List.{list_all}
use Rattle.std.specs.Prelude.{nat_eq, nat_lt, slice_get}
use Rattle.ct_call.specs.Rules.{Rules}
use Rattle.ct_values.specs.declared.client.ClientOp.{ClientOp}
use Rattle.ct_values.specs.declared.config.Config.{Config}
use Rattle.ct_frame.specs.Fields.{ascends, well_formed}
use Rattle.ct_frame.specs.declared.event.Event.{Event}
use Rattle.ct_frame.specs.declared.event.Event.TheVariants as event
use Rattle.ct_frame.specs.declared.frame.Frame.{Frame}
use Rattle.ct_rules_node.specs.Coming.{is_after_pending, is_allowed_op, may_come}
use Rattle.ct_rules_node.specs.Node.{Node, is_among}
use Rattle.ct_rules_node.specs.Steps.{stepped}
use Rattle.ct_rules_node.specs.Turn.{Turn}
use Rattle.ct_rules_cluster.specs.Cluster.{Cluster, Delivered, Sent, is_true, is_up, node_at, or_absent}
use Rattle.ct_rules_cluster.specs.Steps.{frames_of, is_counted, lines_of}
use Rattle.ct_rules_cluster.specs.declared.step.Line.{Line}
use Rattle.ct_rules_cluster.specs.declared.step.Line.TheVariants as line
use Rattle.ct_rules_cluster.specs.declared.step.Step.{Step}
use Rattle.ct_rules_cluster.specs.declared.step.Step.TheVariants as step
use Rattle.ct_journal.specs.Order.{Front, MayStand, frames_in, front_after, is_from, next_entry, numbers_of_calls, past_of, ticket_after}
use Rattle.ct_journal.specs.Runs.{IsEntry, IsRun}
use Rattle.ct_journal.specs.Schedules.{Noted, entry_under, event_under, has_call, is_call, out_under}
use Rattle.ct_journal.specs.declared.journal.Journal.{Journal}
use Rattle.ct_journal.specs.declared.journal.JournalEntry.{JournalEntry}
use Rattle.ct_journal.proofs.Ends.{size_after}
use Rattle.ct_law_journal_numbers.specs.Laws.{SendsRenumbered}
use Rattle.ct_law_journal_schedule.proofs.Carrying.{Rising, rising_more, sent_rising, still_rising, waiting}
use Rattle.ct_law_journal_schedule.proofs.Fronts.{has_journal, left_after, left_of, past_other, past_own, rest_of, rest_other, rest_own}
use Rattle.ct_law_journal_schedule.proofs.Numbering.{asked_after, call_later, calls_later, first_once, number_in, number_later, number_now, other_asks, own_asks}
use Rattle.ct_law_journal_schedule.proofs.Queues.{Mailed, frames_wait, message_comes, messages_go, none_comes}
use Rattle.ct_law_journal_schedule.proofs.Taking.{Makes, Prints, became, client_makes, client_prints, message_makes, message_prints, own_lines, round_makes, round_prints, yield_lines}
use Rattle.ct_law_journal_schedule.specs.Scheduling.{Carried, Scheduling, carried_after, carried_of, holder_after, scheduling_after, steps_for, yields}

-- ---- an event under another number

ticket_under : (f : ℕ → ℕ) (e : Event) (last : ℕ) → ticket_after (event_under f e) last ≡ ticket_after e last
unfolding ticket_after event_under
ticket_under f (event.Client call o) last = refl
ticket_under f (event.Arrive m) last = refl
ticket_under f event.Retry last = refl
ticket_under f (event.Vacuum db) last = refl
ticket_under f (event.BeginRound t members) last = refl
ticket_under f (event.BeginTakeover able) last = refl

holder_under : (f : ℕ → ℕ) (n : ℕ) (e : Event) (h : Option ℕ) → holder_after n (event_under f e) h ≡ holder_after n e h
unfolding holder_after event_under
holder_under f n (event.Client call o) h = refl
holder_under f n (event.Arrive m) h = refl
holder_under f n event.Retry h = refl
holder_under f n (event.Vacuum db) h = refl
holder_under f n (event.BeginRound t members) h = refl
holder_under f n (event.BeginTakeover able) h = refl

pub asked_under : (f : ℕ → ℕ) (e : Event) (k : ℕ) → asked_after (event_under f e) k ≡ asked_after e k
unfolding asked_after event_under
asked_under f (event.Client call o) k = refl
asked_under f (event.Arrive m) k = refl
asked_under f event.Retry k = refl
asked_under f (event.Vacuum db) k = refl
asked_under f (event.BeginRound t members) k = refl
asked_under f (event.BeginTakeover able) k = refl

-- an event is no call and no round, or one of them
one_more : (js : List Journal) (f : Front) (n : ℕ) (e : Event) (k : ℕ) → MayStand js f n e → asked_after e k + ticket_after e f.ticket ≤ k + f.ticket + 1
unfolding MayStand asked_after ticket_after
one_more js f n (event.Client call o) k may = omega arith
one_more js f n (event.BeginRound t members) k may = (let same = may.0 in omega arith)
one_more js f n _ k may = omega arith

-- who holds the lock then is a node where all that may are
pub still_node : (n bound : ℕ) (e : Event) (h : Option ℕ) → n < bound → ((i : ℕ) → h ≡ Some i → i < bound) → (i : ℕ) → holder_after n e h ≡ Some i → i < bound
unfolding holder_after
still_node n bound (event.BeginRound t members) h l old i is = (let same : n ≡ i = cc in omega arith)
still_node n bound _ h l old i is = old i is

carried_rising : (n j : ℕ) (e : Event) (ms : List Carried) → Rising 1 ms j → Rising 1 (carried_after n e ms) j
unfolding carried_after
carried_rising n j (event.Arrive m) ms r = still_rising m.sender n 1 j ms r
carried_rising n j _ ms r = r

-- ---- lists

pub node_own : (n : ℕ) (x : Node) (xs : List Node) → n < length xs → or_absent (slice_get (set xs n x) n) ≡ x
unfolding or_absent
node_own n x [] l = absurd (omega arith)
node_own zero x (y ∷ ys) l = refl
node_own (suc n) x (y ∷ ys) l = node_own n x ys (omega arith)

pub node_other : (n m : ℕ) (x : Node) (xs : List Node) → m ≢ n → slice_get (set xs n x) m ≡ slice_get xs m
node_other n m x [] ne = refl
node_other zero zero x (y ∷ ys) ne = absurd (ne refl)
node_other zero (suc m) x (y ∷ ys) ne = refl
node_other (suc n) zero x (y ∷ ys) ne = refl
node_other (suc n) (suc m) x (y ∷ ys) ne = node_other n m x ys (λ e. ne (ap suc e))

pub all_true : (k n : ℕ) → n < k → is_true (slice_get (replicate k true) n) ≡ true
unfolding is_true
all_true zero n l = absurd (omega arith)
all_true (suc k) zero l = refl
all_true (suc k) (suc n) l = all_true k n (omega arith)

-- ---- the cluster goes along

module _ (c : Config) (rules : Rules) (js : List Journal) (number : ℕ → ℕ → ℕ) where
  -- a node in this state makes these entries, with the numbers that the cluster gives to its calls
  pub record Runs (n : ℕ) (old : Node) (xs : List JournalEntry) : Type 0 where
    pub end : Node
    pub runs : IsRun c rules n old (map (entry_under (number n)) xs) end

  -- What holds of the cluster once steps are made so far, where these entries come next: each node is where its run has come to,
  -- and of the messages those wait that have not arrived
  pub record Reached (w : Cluster) (k : Scheduling) (ys : List Noted) : Type 0 where
    pub taken : length k.front.taken ≡ length js
    pub count : length w.nodes ≡ c.nodes
    pub up : w.running ≡ replicate c.nodes true
    pub runs : (n : ℕ) → n < c.nodes → Runs n (node_at n w) (rest_of js k.front n)
    pub sent : length w.sent ≡ k.sent
    pub ticket : w.ticket ≡ k.front.ticket
    pub holder : w.holder ≡ k.holder
    pub member : (h : ℕ) → k.holder ≡ Some h → h < c.nodes
    pub rising : Rising 1 k.carried (k.sent + 1)
    pub mail : Mailed w.sent k.carried (past_of js k.front) (past_of js k.front)
    pub ascend : (n : ℕ) → ascends nat_lt (numbers_of_calls (rest_of js k.front n)) ≡ true
    pub asked : (n call : ℕ) → has_call call (rest_of js k.front n) ≡ true → number n call ≡ number_in w.calls ys n call
    pub few : length w.sent + w.calls + w.ticket + left_of js k.front.taken < 2 ^ 62

  -- the node's turn on an entry, once it is in this state
  abbrev pub turn_of : ℕ → JournalEntry → Node → Turn
  turn_of n x next = record { node = next; outs = map (out_under (number n)) x.outs; spent = false }

  module _ (sends : SendsRenumbered) (count : length js ≡ c.nodes) (w : Cluster) (k : Scheduling) (n : ℕ) (x : JournalEntry) (ys : List Noted)
      (h : Reached w k (record { node = n; entry = x } ∷ ys)) (next : next_entry js k.front n ≡ Some x) (may : MayStand js k.front n x.event) where
    -- what is given to the node
    unfoldable pub given : Event
    given = event_under (number n) x.event

    -- the front once the entry stands in the list
    unfoldable pub after : Front
    after = front_after n x.event k.front

    there : n < length js
    there = has_journal js k.front n x next

    is_node : n < c.nodes
    is_node = let l = there in omega (arith, l, count)

    has_place : n < length k.front.taken
    has_place = let l = there in let t = h.taken in omega arith

    ups : (m : ℕ) → m < c.nodes → is_up m w ≡ true
    unfolding is_up
    ups m l = ap (λ (bs : List Bool). is_true (slice_get bs m)) h.up ∙ all_true c.nodes m l

    -- the entry, and the run after it
    record Begins : Type 0 where
      state : Node
      entry : IsEntry c rules n (node_at n w) (entry_under (number n) x) state
      later : Runs n state (rest_of js after n)

    begins : Begins
    unfolding IsRun after
    begins =
        let r = h.runs n is_node in
        let run = subst (λ (xs : List JournalEntry). IsRun c rules n (node_at n w) (map (entry_under (number n)) xs) r.end) (rest_own js k.front n x has_place next) r.runs in
        record { state = run.0; entry = run.1; later = record { end = r.end; runs = run.2 } }

    frames : (state : Node) → length (frames_of (turn_of n x state).outs) ≡ length (frames_in x.outs)
    frames state = ap length (frames_wait (turn_of n x state).outs) ∙ length-map (frames_in (turn_of n x state).outs) waiting ∙ ap length (sends (number n) x.outs)

    few_after : (state : Node) (ss : List Sent) → length ss ≡ length w.sent → (let v = became n given (turn_of n x state) ss w in length v.sent + v.calls + v.ticket + left_of js after.taken < 2 ^ 62)
    unfolding became given after
    few_after state ss size =
        let f = h.few in
        let a = length-append ss (frames_of (turn_of n x state).outs) in
        let b = frames state in
        let l = left_after js k.front n x has_place next in
        let o = one_more js k.front n x.event w.calls may in
        let t = ap (ticket_after x.event) h.ticket in
        let u = ticket_under (number n) x.event w.ticket in
        let q = asked_under (number n) x.event w.calls in
        let s = h.ticket in
        omega arith

    counted_after : (state : Node) (ss : List Sent) → length ss ≡ length w.sent → is_counted (became n given (turn_of n x state) ss w) ≡ true
    unfolding is_counted
    counted_after state ss size =
        let f = few_after state ss size in
        let v : Cluster = became n given (turn_of n x state) ss w in
        rw (lt-ltb (length v.sent) (2 ^ 62) (omega arith), lt-ltb v.ticket (2 ^ 62) (omega arith), lt-ltb v.calls (2 ^ 62) (omega arith))

    -- what a step of the cluster makes of it for the entry
    pub record Goes : Type 0 where
      pub state : Node
      pub later : Runs n state (rest_of js after n)
      pub sent : List Sent
      pub size : length sent ≡ length w.sent
      pub mail : Mailed sent (carried_after n x.event k.carried) (past_of js k.front) (past_of js after)
      pub makes : Makes c rules w (steps_for n x.event k) n given (turn_of n x state) (became n given (turn_of n x state) sent w)
      pub prints : Prints c rules w (steps_for n x.event k) n given (own_lines n given w.holder ++ lines_of n (length sent + 1) (turn_of n x state).outs) (became n given (turn_of n x state) sent w)

    past_own_is : past_of js after n ≡ past_of js k.front n ++ x ∷ []
    unfolding after
    past_own_is = past_own js k.front n x has_place next

    past_other_is : (b : ℕ) → b ≢ n → past_of js after b ≡ past_of js k.front b
    unfolding after
    past_other_is b ne = past_other js k.front n b x.event ne

    pub goes_on : (s : Goes) → Reached (became n given (turn_of n x s.state) s.sent w) (scheduling_after n x k) ys
    unfolding became scheduling_after after given node_at front_after ticket_after
    goes_on s =
        let t : Turn = turn_of n x s.state in
        let v : Cluster = became n given t s.sent w in
        let fs : List Sent = map waiting (frames_in x.outs) in
        let news : frames_of t.outs ≡ fs = frames_wait t.outs ∙ ap (map waiting) (sends (number n) x.outs) in
        record {
          taken = size_after k.front n x.event ∙ h.taken;
          count = length-set w.nodes n s.state ∙ h.count;
          up = h.up;
          runs = runs;
          sent = length-append s.sent (frames_of t.outs) ∙ ap₂ (λ a b. a + b) (s.size ∙ h.sent) (frames s.state);
          ticket = ticket_under (number n) x.event w.ticket ∙ ap (ticket_after x.event) h.ticket;
          holder = holder_under (number n) n x.event w.holder ∙ ap (holder_after n x.event) h.holder;
          member = still_node n c.nodes x.event k.holder is_node h.member;
          rising = rising_more 1 (k.sent + 1) (k.sent + length (frames_in x.outs) + 1) (carried_after n x.event k.carried) (carried_of n (k.sent + 1) (frames_in x.outs)) (carried_rising n (k.sent + 1) x.event k.carried h.rising)
              (subst (λ (j : ℕ). Rising (k.sent + 1) (carried_of n (k.sent + 1) (frames_in x.outs)) j) (omega arith) (sent_rising n (k.sent + 1) (frames_in x.outs)));
          mail = subst (λ (i : ℕ). Mailed (s.sent ++ frames_of t.outs) (carried_after n x.event k.carried ++ carried_of n (i + 1) (frames_in x.outs)) (past_of js after) (past_of js after)) (s.size ∙ h.sent)
              (subst (λ (l : List Sent). Mailed (s.sent ++ l) (carried_after n x.event k.carried ++ carried_of n (length s.sent + 1) (frames_in x.outs)) (past_of js after) (past_of js after)) (sym news)
              (messages_go s.sent (carried_after n x.event k.carried) (past_of js k.front) (past_of js after) n x past_own_is past_other_is s.mail));
          ascend = ascend;
          asked = asked;
          few = few_after s.state s.sent s.size;
        }
      where
        at : (m : ℕ) → m ≡ n → node_at m (became n given (turn_of n x s.state) s.sent w) ≡ s.state
        at m same = ap (λ (i : ℕ). or_absent (slice_get (set w.nodes n s.state) i)) same ∙ node_own n s.state w.nodes (let q = h.count in let l = is_node in omega arith)

        runs : (m : ℕ) → m < c.nodes → Runs m (node_at m (became n given (turn_of n x s.state) s.sent w)) (rest_of js after m)
        runs m l = ⊎_elim
            (λ (same : m ≡ n). subst (λ (y : Node). Runs m y (rest_of js after m)) (sym (at m same)) (subst (λ (i : ℕ). Runs i s.state (rest_of js after i)) (sym same) s.later))
            (λ (ne : m ≡ n → ⊥). subst (λ (xs : List JournalEntry). Runs m (or_absent (slice_get (set w.nodes n s.state) m)) xs) (sym (rest_other js k.front n m x.event ne))
            (subst (λ (o : Option Node). Runs m (or_absent o) (rest_of js k.front m)) (sym (node_other n m s.state w.nodes ne)) (h.runs m l)))
            (cases_eq m n)

        first : ascends nat_lt (numbers_of_calls (x ∷ rest_of js after n)) ≡ true
        first = subst (λ (xs : List JournalEntry). ascends nat_lt (numbers_of_calls xs) ≡ true) (rest_own js k.front n x has_place next) (h.ascend n)

        ascend : (m : ℕ) → ascends nat_lt (numbers_of_calls (rest_of js after m)) ≡ true
        ascend m = ⊎_elim
            (λ (same : m ≡ n). subst (λ (i : ℕ). ascends nat_lt (numbers_of_calls (rest_of js after i)) ≡ true) (sym same) (calls_later x (rest_of js after n) first))
            (λ (ne : m ≡ n → ⊥). subst (λ (xs : List JournalEntry). ascends nat_lt (numbers_of_calls xs) ≡ true) (sym (rest_other js k.front n m x.event ne)) (h.ascend m))
            (cases_eq m n)

        asked : (m call : ℕ) → has_call call (rest_of js after m) ≡ true → number m call ≡ number_in (asked_after given w.calls) ys m call
        asked m call has = subst (λ (i : ℕ). number m call ≡ number_in i ys m call) (sym (asked_under (number n) x.event w.calls)) (⊎_elim
            (λ (same : m ≡ n). (
            let has2 : has_call call (rest_of js after n) ≡ true = subst (λ (i : ℕ). has_call call (rest_of js after i) ≡ true) same has in
            let all : has_call call (rest_of js k.front n) ≡ true = subst (λ (xs : List JournalEntry). has_call call xs ≡ true) (sym (rest_own js k.front n x has_place next)) (call_later call x (rest_of js after n) has2) in
            subst (λ (i : ℕ). number i call ≡ number_in (asked_after x.event w.calls) ys i call) (sym same)
            (h.asked n call all ∙ number_later w.calls (record { node = n; entry = x }) ys n call (own_asks n call (record { node = n; entry = x }) refl ∙ first_once call x (rest_of js after n) first has2))))
            (λ (ne : m ≡ n → ⊥). h.asked m call (subst (λ (xs : List JournalEntry). has_call call xs ≡ true) (rest_other js k.front n m x.event ne) has) ∙
            number_later w.calls (record { node = n; entry = x }) ys m call (other_asks m call (record { node = n; entry = x }) (λ q. ne (sym q))))
            (cases_eq m n))

    -- ---- each event

    module _ (b : Begins) where
      abbrev t : Turn
      t = turn_of n x b.state

      own_turn : (d : Event) → given ≡ d → stepped c rules n d (node_at n w) ≡ Some t
      unfolding given entry_under
      own_turn d is = subst (λ (d : Event). stepped c rules n d (node_at n w) ≡ Some t) is b.entry.steps

      own_coming : (d : Event) → given ≡ d → may_come c n (node_at n w) d ≡ true
      unfolding given entry_under
      own_coming d is = subst (λ (d : Event). may_come c n (node_at n w) d ≡ true) is b.entry.coming

      own_counted : (d : Event) → given ≡ d → (ss : List Sent) → length ss ≡ length w.sent → is_counted (became n d t ss w) ≡ true
      own_counted d is ss size = subst (λ (d : Event). is_counted (became n d t ss w) ≡ true) is (counted_after b.state ss size)

      -- the steps for the event make what is to be made, where these do
      own_makes : (d : Event) → given ≡ d → (ss : List Sent) (steps : List Step) → steps_for n x.event k ≡ steps → Makes c rules w steps n d t (became n d t ss w) → Makes c rules w (steps_for n x.event k) n given t (became n given t ss w)
      own_makes d is ss steps these m = subst (λ (xs : List Step). Makes c rules w xs n given t (became n given t ss w)) (sym these) (subst (λ (d : Event). Makes c rules w steps n d t (became n d t ss w)) (sym is) m)

      own_prints : (d : Event) → given ≡ d → (ss : List Sent) (steps : List Step) → steps_for n x.event k ≡ steps → Prints c rules w steps n d (own_lines n d w.holder ++ lines_of n (length ss + 1) t.outs) (became n d t ss w)
          → Prints c rules w (steps_for n x.event k) n given (own_lines n given w.holder ++ lines_of n (length ss + 1) t.outs) (became n given t ss w)
      own_prints d is ss steps these p =
          subst (λ (xs : List Step). Prints c rules w xs n given (own_lines n given w.holder ++ lines_of n (length ss + 1) t.outs) (became n given t ss w)) (sym these)
          (subst (λ (d : Event). Prints c rules w steps n d (own_lines n d w.holder ++ lines_of n (length ss + 1) t.outs) (became n d t ss w)) (sym is) p)

      calls : (call : ℕ) (o : ClientOp) → x.event ≡ event.Client call o → Goes
      unfolding given event_under may_come steps_for carried_after after is_from is_call has_call own_lines
      calls call o is =
          let own : is_call call x.event ≡ true = ap (is_call call) is ∙ eq-eqb call call refl in
          let has : has_call call (rest_of js k.front n) ≡ true = subst (λ (xs : List JournalEntry). has_call call xs ≡ true) (sym (rest_own js k.front n x has_place next)) (or_left (is_call call x.event) (has_call call (rest_of js after n)) own) in
          let head : Noted = record { node = n; entry = x } in
          let num : number n call ≡ w.calls + 1 = h.asked n call has ∙ number_now w.calls head ys n call (own_asks n call head refl ∙ own) in
          let d : Event = event.Client (w.calls + 1) o in
          let ev : given ≡ d = ap (event_under (number n)) is ∙ ap (λ (q : ℕ). event.Client q o) num in
          record {
            state = b.state;
            later = b.later;
            sent = w.sent;
            size = refl;
            mail = subst (λ (d : Event). Mailed w.sent (carried_after n d k.carried) (past_of js k.front) (past_of js after)) (sym is)
                (none_comes w.sent k.carried (past_of js k.front) (past_of js after) n x past_own_is past_other_is (λ a. ap (is_from a) is) h.mail);
            makes = own_makes d ev w.sent (step.Client n o ∷ []) (ap (λ (d : Event). steps_for n d k) is)
                (client_makes c rules w n o t (and_parts (is_allowed_op o) (is_after_pending (w.calls + 1) (node_at n w)) (own_coming d ev)).0 is_node (ups n is_node) (own_turn d ev) (own_counted d ev w.sent refl));
            prints = own_prints d ev w.sent (step.Client n o ∷ []) (ap (λ (d : Event). steps_for n d k) is)
                (client_prints c rules w n o t (and_parts (is_allowed_op o) (is_after_pending (w.calls + 1) (node_at n w)) (own_coming d ev)).0 is_node (ups n is_node) (own_turn d ev) (own_counted d ev w.sent refl));
          }

      arrives : (m : Frame) → x.event ≡ event.Arrive m → Goes
      unfolding given event_under may_come steps_for carried_after after MayStand own_lines
      arrives m is =
          let ev : given ≡ event.Arrive m = ap (event_under (number n)) is in
          let r : m.receiver ≡ n = eqb-true m.receiver n (and_parts (well_formed m) (nat_eq m.receiver n) (own_coming (event.Arrive m) ev)).1 in
          let stands : MayStand js k.front n (event.Arrive m) = subst (λ (d : Event). MayStand js k.front n d) is may in
          let comes = message_comes w.sent k.carried (k.sent + 1) (past_of js k.front) (past_of js after) n m x is past_own_is past_other_is h.rising stands h.mail in
          let y : Sent = record { frame = m; fate = Delivered } in
          let ss : List Sent = set w.sent comes.before y in
          let size : length ss ≡ length w.sent = length-set w.sent comes.before y in
          record {
            state = b.state;
            later = b.later;
            sent = ss;
            size = size;
            mail = subst (λ (d : Event). Mailed ss (carried_after n d k.carried) (past_of js k.front) (past_of js after)) (sym is) comes.mail;
            makes = own_makes (event.Arrive m) ev ss (step.Deliver (suc comes.before) ∷ []) (ap (λ (d : Event). steps_for n d k) is ∙ ap (λ (q : ℕ). step.Deliver q ∷ []) comes.first)
                (subst (λ (q : ℕ). Makes c rules w (step.Deliver (suc comes.before) ∷ []) q (event.Arrive m) t (became q (event.Arrive m) t ss w)) r
                (message_makes c rules w comes.before m t comes.is (ups m.receiver (let l = is_node in omega (arith, l, r)))
                (subst (λ (q : ℕ). stepped c rules q (event.Arrive m) (node_at q w) ≡ Some t) (sym r) (own_turn (event.Arrive m) ev))
                (subst (λ (q : ℕ). is_counted (became q (event.Arrive m) t ss w) ≡ true) (sym r) (own_counted (event.Arrive m) ev ss size))));
            prints = own_prints (event.Arrive m) ev ss (step.Deliver (suc comes.before) ∷ []) (ap (λ (d : Event). steps_for n d k) is ∙ ap (λ (q : ℕ). step.Deliver q ∷ []) comes.first)
                (subst (λ (q : ℕ). Prints c rules w (step.Deliver (suc comes.before) ∷ []) q (event.Arrive m) (lines_of q (length ss + 1) t.outs) (became q (event.Arrive m) t ss w)) r
                (message_prints c rules w comes.before m t comes.is (ups m.receiver (let l = is_node in omega (arith, l, r)))
                (subst (λ (q : ℕ). stepped c rules q (event.Arrive m) (node_at q w) ≡ Some t) (sym r) (own_turn (event.Arrive m) ev))
                (subst (λ (q : ℕ). is_counted (became q (event.Arrive m) t ss w) ≡ true) (sym r) (own_counted (event.Arrive m) ev ss size))));
          }

      begins_round : (ticket : ℕ) (members : List ℕ) → x.event ≡ event.BeginRound ticket members → Goes
      unfolding given event_under may_come steps_for carried_after after MayStand is_from own_lines
      begins_round ticket members is =
          let stands : MayStand js k.front n (event.BeginRound ticket members) = subst (λ (d : Event). MayStand js k.front n d) is may in
          let d : Event = event.BeginRound (w.ticket + 1) members in
          let num : ticket ≡ w.ticket + 1 = stands.0 ∙ ap (λ (q : ℕ). q + 1) (sym h.ticket) in
          let ev : given ≡ d = ap (event_under (number n)) is ∙ ap (λ (q : ℕ). event.BeginRound q members) num in
          let p = and_parts (ascends nat_lt members && list_all (λ m. nat_lt m c.nodes) members) (is_among n members) (own_coming d ev) in
          let q = and_parts (ascends nat_lt members) (list_all (λ m. nat_lt m c.nodes) members) p.0 in
          record {
            state = b.state;
            later = b.later;
            sent = w.sent;
            size = refl;
            mail = subst (λ (d : Event). Mailed w.sent (carried_after n d k.carried) (past_of js k.front) (past_of js after)) (sym is)
                (none_comes w.sent k.carried (past_of js k.front) (past_of js after) n x past_own_is past_other_is (λ a. ap (is_from a) is) h.mail);
            makes = own_makes d ev w.sent (yields n w.holder ++ step.Recover n members ∷ []) (ap (λ (d : Event). steps_for n d k) is ∙ ap (λ (i : Option ℕ). yields n i ++ step.Recover n members ∷ []) (sym h.holder))
                (round_makes c rules w n members t q.0 q.1 p.1 is_node (λ i held. h.member i (sym h.holder ∙ held)) ups (own_turn d ev) (own_counted d ev w.sent refl));
            prints = own_prints d ev w.sent (yields n w.holder ++ step.Recover n members ∷ []) (ap (λ (d : Event). steps_for n d k) is ∙ ap (λ (i : Option ℕ). yields n i ++ step.Recover n members ∷ []) (sym h.holder))
                (subst (λ (ls : List Line). Prints c rules w (yields n w.holder ++ step.Recover n members ∷ []) n d ls (became n d t w.sent w)) (sym (append_assoc (yield_lines n w.holder) (line.Ticket (w.ticket + 1) n ∷ []) (lines_of n (length w.sent + 1) t.outs)))
                (round_prints c rules w n members t q.0 q.1 p.1 is_node (λ i held. h.member i (sym h.holder ∙ held)) ups (own_turn d ev) (own_counted d ev w.sent refl)));
          }

      goes_at : (d : Event) → x.event ≡ d → MayStand js k.front n d → Goes
      unfolding MayStand
      goes_at (event.Client call o) is stands = calls call o is
      goes_at (event.Arrive m) is stands = arrives m is
      goes_at event.Retry is stands = absurd stands
      goes_at (event.Vacuum db) is stands = absurd stands
      goes_at (event.BeginRound ticket members) is stands = begins_round ticket members is
      goes_at (event.BeginTakeover able) is stands = absurd stands

    -- Each entry that comes next is made by the steps for it, and the cluster goes on
    pub goes : Goes
    goes = goes_at begins x.event refl may
