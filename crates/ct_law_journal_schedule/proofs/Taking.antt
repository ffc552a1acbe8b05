-- Steps of a schedule that are taken, each of which makes one entry of a node.
use Rattle.std.proofs.Common.{◌≡◌, ℕ, zero, suc, ◌+◌, ◌<◌, Bool, true, cond, not, List, [], ◌∷◌, ◌++◌, length, set, Option, None, Some, Result, Ok, Err, refl, sym, ap, ◌∙◌, subst, ⊎_elim}
use Rattle.std.proofs.lemmas.Bool.{and_parts, cases_eq, eq-eqb, lt-ltb, ne_eqb}
use Rattle.std.specs.List.{list_all}
use Rattle.std.specs.Prelude.{nat_eq, nat_lt}
use Rattle.ct_values.specs.Words.{is_this_node}
use Rattle.ct_call.specs.Rules.{Rules}
use Rattle.ct_values.specs.declared.client.ClientOp.{ClientOp}
use Rattle.ct_values.specs.declared.config.Config.{Config}
use Rattle.ct_frame.specs.Fields.{ascends}
use Rattle.ct_frame.specs.declared.event.Event.{Event}
use Rattle.ct_frame.specs.declared.event.Event.TheVariants as event
use Rattle.ct_frame.specs.declared.frame.Frame.{Frame}
use Rattle.ct_rules_node.specs.Coming.{is_allowed_op}
use Rattle.ct_rules_node.specs.Node.{is_among}
use Rattle.ct_rules_node.specs.Refusals.{first_of, refused_if}
use Rattle.ct_rules_node.specs.Steps.{stepped}
use Rattle.ct_rules_node.specs.Turn.{Turn}
use Rattle.ct_rules_cluster.specs.Cluster.{Cluster, Delivered, Sent, is_up, is_waiting, is_waiting_fate, node_at, sent_at}
use Rattle.ct_rules_cluster.specs.Faults.{fault_of, is_allowed, lock_held, no_such_node, no_such_nodes, node_down, not_holder, not_member, not_waiting}
use Rattle.ct_rules_cluster.specs.Steps.{Stepped, applied, deliver, done, fed, fed_of, frames_of, if_counted, is_counted, lines_of, put, recover, steps, steps_or, with_fate, with_node}
use Rattle.ct_rules_cluster.specs.Traces.{OpenCall, Ran, after, closed_by, closed_by_all, opened, ran, ran_one, taken}
use Rattle.ct_rules_cluster.specs.declared.step.Line.{Line}
use Rattle.ct_rules_cluster.specs.declared.step.Line.TheVariants as line
use Rattle.ct_rules_cluster.specs.declared.step.Step.{Step}
use Rattle.ct_rules_cluster.specs.declared.step.Step.TheVariants as step
use Rattle.ct_rules_cluster.specs.declared.step.StepFault.{StepFault}
use Rattle.ct_rules_cluster.specs.declared.step.StepFault.TheVariants as fault
use Rattle.ct_journal.specs.Order.{ticket_after}
use Rattle.ct_journal.specs.Schedules.{Noted, after_step, arrival_of, cluster_in, given_by, keeps_all_up, made_by, noted_of, outs_in, with_made}
use Rattle.ct_law_journal_schedule.proofs.Carrying.{got, waiting}
use Rattle.ct_law_journal_schedule.proofs.Numbering.{asked_after}
use Rattle.ct_law_journal_schedule.specs.Scheduling.{holder_after, yields}

-- the cluster once node n has taken this turn on an event, where these are the messages that were sent before
unfoldable pub became : ℕ → Event → Turn → List Sent → Cluster → Cluster
became n e t ss w = record w { nodes = set w.nodes n t.node; sent = ss ++ frames_of t.outs; holder = holder_after n e w.holder; ticket = ticket_after e w.ticket; calls = asked_after e w.calls }

-- these steps make one entry of a node, whatever steps come after them
abbrev pub Makes : Config → Rules → Cluster → List Step → ℕ → Event → Turn → Cluster → Type 0
Makes c rules w ss n e t v = (rest : List Step) → made_by c rules (Some w) (ss ++ rest) ≡ with_made (record { node = n; entry = record { event = e; outs = t.outs } } ∷ []) (made_by c rules (Some v) rest)

-- the calls that are open once an event has come to node n
unfoldable pub asked_by : ℕ → Event → List OpenCall → List OpenCall
asked_by n (event.Client call o) log = record { call = call; node = n; asked = o } ∷ log
asked_by n _ log = log

-- the line of the node that gives the recovery lock back before node n takes it
unfoldable pub yield_lines : ℕ → Option ℕ → List Line
yield_lines n None = []
yield_lines n (Some h) = cond (nat_eq h n) [] (line.Yielded h ∷ [])

-- the lines of the steps for an event before those of what node n does
unfoldable pub own_lines : ℕ → Event → Option ℕ → List Line
own_lines n (event.BeginRound ticket members) h = yield_lines n h ++ line.Ticket ticket n ∷ []
own_lines n _ h = []

-- these steps print these lines and lead to this cluster, whatever calls are open and whatever steps come after them
pub record Prints (c : Config) (rules : Rules) (w : Cluster) (ss : List Step) (n : ℕ) (e : Event) (lines : List Line) (v : Cluster) : Type 0 where
  pub lines_are : (log : List OpenCall) (rest : List Step) → (ran c rules w log (ss ++ rest)).lines ≡ lines ++ (ran c rules v (closed_by_all lines (asked_by n e log)) rest).lines
  pub cluster_is : (log : List OpenCall) (rest : List Step) → (ran c rules w log (ss ++ rest)).cluster ≡ (ran c rules v (closed_by_all lines (asked_by n e log)) rest).cluster
  pub log_is : (log : List OpenCall) (rest : List Step) → (ran c rules w log (ss ++ rest)).log ≡ (ran c rules v (closed_by_all lines (asked_by n e log)) rest).log

-- ---- a step that is taken

pub after_taken : (c : Config) (rules : Rules) (w : Cluster) (s : Step) (x : Stepped) → keeps_all_up s ≡ true → is_allowed s ≡ true → fault_of c w s ≡ None → steps c rules w s ≡ Ok x → after_step c rules w s ≡ Some x.cluster
unfolding after_step cluster_in applied steps_or
after_taken c rules w s x ups allowed none taken = rw (ups, allowed, none, taken)

applied_so : (c : Config) (rules : Rules) (w : Cluster) (s : Step) (r : Result Stepped StepFault) → fault_of c w s ≡ None → steps c rules w s ≡ r → applied c rules w s ≡ r
unfolding applied steps_or
applied_so c rules w s r none taken = rw (none, taken) refl

taken_now : (c : Config) (rules : Rules) (w : Cluster) (log : List OpenCall) (s : Step) (x : Stepped) → is_allowed s ≡ true → applied c rules w s ≡ Ok x → ran_one c rules w log s ≡ taken w log s (Ok x)
unfolding ran_one
taken_now c rules w log s x allowed took = rw (allowed, took) refl

one_prints : (c : Config) (rules : Rules) (w : Cluster) (s : Step) (n : ℕ) (e : Event) (x : Stepped) → is_allowed s ≡ true → applied c rules w s ≡ Ok x → ((log : List OpenCall) → opened w s log ≡ asked_by n e log) → Prints c rules w (s ∷ []) n e x.lines x.cluster
unfolding ran after taken
one_prints c rules w s n e x allowed took opens = record {
  lines_are = λ log rest. ap (λ (q : Ran). q.lines ++ (ran c rules q.cluster q.log rest).lines) (taken_now c rules w log s x allowed took)
      ∙ ap (λ (l : List OpenCall). x.lines ++ (ran c rules x.cluster (closed_by_all x.lines l) rest).lines) (opens log);
  cluster_is = λ log rest. ap (λ (q : Ran). (ran c rules q.cluster q.log rest).cluster) (taken_now c rules w log s x allowed took)
      ∙ ap (λ (l : List OpenCall). (ran c rules x.cluster (closed_by_all x.lines l) rest).cluster) (opens log);
  log_is = λ log rest. ap (λ (q : Ran). (ran c rules q.cluster q.log rest).log) (taken_now c rules w log s x allowed took)
      ∙ ap (λ (l : List OpenCall). (ran c rules x.cluster (closed_by_all x.lines l) rest).log) (opens log);
}

pub fed_counted : (c : Config) (rules : Rules) (n : ℕ) (e : Event) (own : List Line) (v : Cluster) (t : Turn) → stepped c rules n e (node_at n v) ≡ Some t → is_counted (put n t own v).cluster ≡ true → fed c rules n e own v ≡ Ok (put n t own v)
unfolding fed fed_of if_counted
fed_counted c rules n e own v t turn counted = ap (fed_of n own v) turn ∙ ap (λ (b : Bool). cond b (Ok (put n t own v)) (Err fault.Exhausted)) counted

one_made : (c : Config) (rules : Rules) (w v : Cluster) (s : Step) (n : ℕ) (e : Event) (t : Turn) → after_step c rules w s ≡ Some v → given_by w s ≡ record { node = n; event = e } ∷ [] → stepped c rules n e (node_at n w) ≡ Some t → Makes c rules w (s ∷ []) n e t v
unfolding made_by noted_of outs_in
one_made c rules w v s n e t after given turn rest = rw (after, given, turn)

pub with_none : (o : Option (List Noted)) → with_made [] o ≡ o
unfolding with_made
with_none None = refl
with_none (Some xs) = refl

nothing_made : (c : Config) (rules : Rules) (w v : Cluster) (s : Step) → after_step c rules w s ≡ Some v → given_by w s ≡ [] → (rest : List Step) → made_by c rules (Some w) (s ∷ rest) ≡ made_by c rules (Some v) rest
unfolding made_by
nothing_made c rules w v s after given rest = rw (after, given) (with_none (made_by c rules (Some v) rest))

-- ---- a call

pub client_makes : (c : Config) (rules : Rules) (w : Cluster) (n : ℕ) (o : ClientOp) (t : Turn) → is_allowed_op o ≡ true → n < c.nodes → is_up n w ≡ true → stepped c rules n (event.Client (w.calls + 1) o) (node_at n w) ≡ Some t →
    is_counted (became n (event.Client (w.calls + 1) o) t w.sent w) ≡ true → Makes c rules w (step.Client n o ∷ []) n (event.Client (w.calls + 1) o) t (became n (event.Client (w.calls + 1) o) t w.sent w)
unfolding became put with_node steps keeps_all_up is_allowed given_by fault_of first_of refused_if no_such_node node_down holder_after ticket_after asked_after node_at
client_makes c rules w n o t allowed there up turn counted =
    one_made c rules w (became n (event.Client (w.calls + 1) o) t w.sent w) (step.Client n o) n (event.Client (w.calls + 1) o) t
    (after_taken c rules w (step.Client n o) (put n t [] (record w { calls = w.calls + 1 })) refl allowed (rw (lt-ltb n c.nodes there, up))
    (fed_counted c rules n (event.Client (w.calls + 1) o) [] (record w { calls = w.calls + 1 }) t turn counted))
    refl turn

pub client_prints : (c : Config) (rules : Rules) (w : Cluster) (n : ℕ) (o : ClientOp) (t : Turn) → is_allowed_op o ≡ true → n < c.nodes → is_up n w ≡ true → stepped c rules n (event.Client (w.calls + 1) o) (node_at n w) ≡ Some t →
    is_counted (became n (event.Client (w.calls + 1) o) t w.sent w) ≡ true → Prints c rules w (step.Client n o ∷ []) n (event.Client (w.calls + 1) o) (lines_of n (length w.sent + 1) t.outs) (became n (event.Client (w.calls + 1) o) t w.sent w)
unfolding became put with_node steps is_allowed fault_of first_of refused_if no_such_node node_down holder_after ticket_after asked_after node_at opened asked_by
client_prints c rules w n o t allowed there up turn counted =
    one_prints c rules w (step.Client n o) n (event.Client (w.calls + 1) o) (put n t [] (record w { calls = w.calls + 1 })) allowed
    (applied_so c rules w (step.Client n o) _ (rw (lt-ltb n c.nodes there, up)) (fed_counted c rules n (event.Client (w.calls + 1) o) [] (record w { calls = w.calls + 1 }) t turn counted))
    (λ log. refl)

-- ---- a message

got_sent : (k : ℕ) (w : Cluster) → sent_at k w ≡ got w.sent k
unfolding sent_at got
got_sent zero w = refl
got_sent (suc k) w = refl

pub message_makes : (c : Config) (rules : Rules) (w : Cluster) (k : ℕ) (m : Frame) (t : Turn) → got w.sent (suc k) ≡ Some (waiting m) → is_up m.receiver w ≡ true → stepped c rules m.receiver (event.Arrive m) (node_at m.receiver w) ≡ Some t →
    is_counted (became m.receiver (event.Arrive m) t (set w.sent k (record { frame = m; fate = Delivered })) w) ≡ true →
    Makes c rules w (step.Deliver (suc k) ∷ []) m.receiver (event.Arrive m) t (became m.receiver (event.Arrive m) t (set w.sent k (record { frame = m; fate = Delivered })) w)
unfolding became put with_node steps deliver with_fate keeps_all_up is_allowed given_by arrival_of fault_of not_waiting is_waiting is_waiting_fate refused_if holder_after ticket_after asked_after node_at
message_makes c rules w k m t waits up turn counted =
    let is : sent_at (suc k) w ≡ Some (waiting m) = got_sent (suc k) w ∙ waits in
    let v : Cluster = record w { sent = set w.sent k (record { frame = m; fate = Delivered }) } in
    one_made c rules w (became m.receiver (event.Arrive m) t v.sent w) (step.Deliver (suc k)) m.receiver (event.Arrive m) t
    (after_taken c rules w (step.Deliver (suc k)) (put m.receiver t [] v) refl refl (rw is) (rw (is, up) (fed_counted c rules m.receiver (event.Arrive m) [] v t turn counted)))
    (rw is) turn

pub message_prints : (c : Config) (rules : Rules) (w : Cluster) (k : ℕ) (m : Frame) (t : Turn) → got w.sent (suc k) ≡ Some (waiting m) → is_up m.receiver w ≡ true → stepped c rules m.receiver (event.Arrive m) (node_at m.receiver w) ≡ Some t →
    is_counted (became m.receiver (event.Arrive m) t (set w.sent k (record { frame = m; fate = Delivered })) w) ≡ true →
    Prints c rules w (step.Deliver (suc k) ∷ []) m.receiver (event.Arrive m) (lines_of m.receiver (length (set w.sent k (record { frame = m; fate = Delivered })) + 1) t.outs) (became m.receiver (event.Arrive m) t (set w.sent k (record { frame = m; fate = Delivered })) w)
unfolding became put with_node steps deliver with_fate is_allowed fault_of not_waiting is_waiting is_waiting_fate refused_if holder_after ticket_after asked_after node_at opened asked_by
message_prints c rules w k m t waits up turn counted =
    let is : sent_at (suc k) w ≡ Some (waiting m) = got_sent (suc k) w ∙ waits in
    let v : Cluster = record w { sent = set w.sent k (record { frame = m; fate = Delivered }) } in
    one_prints c rules w (step.Deliver (suc k)) m.receiver (event.Arrive m) (put m.receiver t [] v) refl
    (applied_so c rules w (step.Deliver (suc k)) _ (rw is) (rw (is, up) (fed_counted c rules m.receiver (event.Arrive m) [] v t turn counted)))
    (λ log. refl)

-- ---- a round

all_nodes : (c : Config) (ns : List ℕ) → list_all (λ m. nat_lt m c.nodes) ns ≡ true → no_such_nodes c ns ≡ None
unfolding no_such_nodes
all_nodes c [] h = refl
all_nodes c (n ∷ ns) h = let p = and_parts (nat_lt n c.nodes) (list_all (λ m. nat_lt m c.nodes) ns) h in rw p.0 (all_nodes c ns p.1)

recover_makes : (c : Config) (rules : Rules) (w : Cluster) (n : ℕ) (members : List ℕ) (t : Turn) → ascends nat_lt members ≡ true → list_all (λ m. nat_lt m c.nodes) members ≡ true → is_among n members ≡ true →
    n < c.nodes → is_up n w ≡ true → lock_held n w.holder ≡ None → stepped c rules n (event.BeginRound (w.ticket + 1) members) (node_at n w) ≡ Some t →
    is_counted (became n (event.BeginRound (w.ticket + 1) members) t w.sent w) ≡ true →
    Makes c rules w (step.Recover n members ∷ []) n (event.BeginRound (w.ticket + 1) members) t (became n (event.BeginRound (w.ticket + 1) members) t w.sent w)
unfolding became put with_node steps recover keeps_all_up is_allowed given_by fault_of first_of refused_if no_such_nodes node_down not_member holder_after ticket_after asked_after node_at
recover_makes c rules w n members t asc nodes among there up free turn counted =
    one_made c rules w (became n (event.BeginRound (w.ticket + 1) members) t w.sent w) (step.Recover n members) n (event.BeginRound (w.ticket + 1) members) t
    (after_taken c rules w (step.Recover n members) (put n t (line.Ticket (w.ticket + 1) n ∷ []) (record w { holder = Some n; ticket = w.ticket + 1 })) refl asc
    (rw (lt-ltb n c.nodes there, all_nodes c members nodes, up, among, free))
    (fed_counted c rules n (event.BeginRound (w.ticket + 1) members) (line.Ticket (w.ticket + 1) n ∷ []) (record w { holder = Some n; ticket = w.ticket + 1 }) t turn counted))
    refl turn

yield_makes : (c : Config) (rules : Rules) (w : Cluster) (h : ℕ) → w.holder ≡ Some h → h < c.nodes → is_up h w ≡ true → (rest : List Step) → made_by c rules (Some w) (step.Yield h ∷ rest) ≡ made_by c rules (Some (record w { holder = None })) rest
unfolding steps done keeps_all_up is_allowed given_by fault_of first_of refused_if no_such_node node_down not_holder is_this_node
yield_makes c rules w h is there up =
    nothing_made c rules w (record w { holder = None }) (step.Yield h)
    (after_taken c rules w (step.Yield h) (record { cluster = record w { holder = None }; lines = line.Yielded h ∷ [] }) refl refl (rw (lt-ltb h c.nodes there, up, is, eq-eqb h h refl)) refl)
    refl

pub round_makes : (c : Config) (rules : Rules) (w : Cluster) (n : ℕ) (members : List ℕ) (t : Turn) → ascends nat_lt members ≡ true → list_all (λ m. nat_lt m c.nodes) members ≡ true → is_among n members ≡ true →
    n < c.nodes → ((h : ℕ) → w.holder ≡ Some h → h < c.nodes) → ((m : ℕ) → m < c.nodes → is_up m w ≡ true) → stepped c rules n (event.BeginRound (w.ticket + 1) members) (node_at n w) ≡ Some t →
    is_counted (became n (event.BeginRound (w.ticket + 1) members) t w.sent w) ≡ true →
    Makes c rules w (yields n w.holder ++ step.Recover n members ∷ []) n (event.BeginRound (w.ticket + 1) members) t (became n (event.BeginRound (w.ticket + 1) members) t w.sent w)
unfolding became yields lock_held refused_if holder_after ticket_after asked_after node_at is_up
round_makes c rules w n members t asc nodes among there holds ups turn counted = by w.holder refl
  where
    e : Event
    e = event.BeginRound (w.ticket + 1) members

    To : List Step → Type 0
    To ss = Makes c rules w ss n e t (became n e t w.sent w)

    by : (h : Option ℕ) → w.holder ≡ h → To (yields n h ++ step.Recover n members ∷ [])
    by None is = recover_makes c rules w n members t asc nodes among there (ups n there) (ap (lock_held n) is) turn counted
    by (Some h) is = ⊎_elim
        (λ (own : h ≡ n). subst (λ (b : Bool). To (cond b [] (step.Yield h ∷ []) ++ step.Recover n members ∷ [])) (sym (eq-eqb h n own))
        (recover_makes c rules w n members t asc nodes among there (ups n there) (ap (lock_held n) is ∙ ap (λ (b : Bool). refused_if (not b) (fault.LockHeld h)) (eq-eqb h n own)) turn counted))
        (λ (ne : h ≡ n → ⊥). subst (λ (b : Bool). To (cond b [] (step.Yield h ∷ []) ++ step.Recover n members ∷ [])) (sym (ne_eqb h n ne))
        (λ rest. yield_makes c rules w h is (holds h is) (ups h (holds h is)) (step.Recover n members ∷ rest) ∙
        recover_makes c rules (record w { holder = None }) n members t asc nodes among there (ups n there) refl turn counted rest))
        (cases_eq h n)

recover_prints : (c : Config) (rules : Rules) (w : Cluster) (n : ℕ) (members : List ℕ) (t : Turn) → ascends nat_lt members ≡ true → list_all (λ m. nat_lt m c.nodes) members ≡ true → is_among n members ≡ true →
    n < c.nodes → is_up n w ≡ true → lock_held n w.holder ≡ None → stepped c rules n (event.BeginRound (w.ticket + 1) members) (node_at n w) ≡ Some t →
    is_counted (became n (event.BeginRound (w.ticket + 1) members) t w.sent w) ≡ true →
    Prints c rules w (step.Recover n members ∷ []) n (event.BeginRound (w.ticket + 1) members) (line.Ticket (w.ticket + 1) n ∷ lines_of n (length w.sent + 1) t.outs) (became n (event.BeginRound (w.ticket + 1) members) t w.sent w)
unfolding became put with_node steps recover is_allowed fault_of first_of refused_if no_such_nodes node_down not_member holder_after ticket_after asked_after node_at opened asked_by
recover_prints c rules w n members t asc nodes among there up free turn counted =
    one_prints c rules w (step.Recover n members) n (event.BeginRound (w.ticket + 1) members) (put n t (line.Ticket (w.ticket + 1) n ∷ []) (record w { holder = Some n; ticket = w.ticket + 1 })) asc
    (applied_so c rules w (step.Recover n members) _ (rw (lt-ltb n c.nodes there, all_nodes c members nodes, up, among, free))
    (fed_counted c rules n (event.BeginRound (w.ticket + 1) members) (line.Ticket (w.ticket + 1) n ∷ []) (record w { holder = Some n; ticket = w.ticket + 1 }) t turn counted))
    (λ log. refl)

-- a node gives the lock back, which opens and ends no call
yield_prints : (c : Config) (rules : Rules) (w : Cluster) (h n : ℕ) → w.holder ≡ Some h → h < c.nodes → is_up h w ≡ true → Prints c rules w (step.Yield h ∷ []) n event.Retry (line.Yielded h ∷ []) (record w { holder = None })
unfolding steps done is_allowed fault_of first_of refused_if no_such_node node_down not_holder is_this_node opened asked_by
yield_prints c rules w h n is there up =
    one_prints c rules w (step.Yield h) n event.Retry (record { cluster = record w { holder = None }; lines = line.Yielded h ∷ [] }) refl
    (applied_so c rules w (step.Yield h) _ (rw (lt-ltb h c.nodes there, up, is, eq-eqb h h refl)) refl)
    (λ log. refl)

-- a step that gives the lock back, and then a round
yields_first : (c : Config) (rules : Rules) (w v u : Cluster) (h n ticket : ℕ) (members : List ℕ) (s : Step) (lines : List Line) →
    Prints c rules w (step.Yield h ∷ []) n event.Retry (line.Yielded h ∷ []) v → Prints c rules v (s ∷ []) n (event.BeginRound ticket members) lines u →
    Prints c rules w (step.Yield h ∷ s ∷ []) n (event.BeginRound ticket members) (line.Yielded h ∷ lines) u
unfolding asked_by closed_by_all closed_by
yields_first c rules w v u h n ticket members s lines p q = record {
  lines_are = λ log rest. p.lines_are log (s ∷ rest) ∙ ap (λ (ls : List Line). line.Yielded h ∷ ls) (q.lines_are log rest);
  cluster_is = λ log rest. p.cluster_is log (s ∷ rest) ∙ q.cluster_is log rest;
  log_is = λ log rest. p.log_is log (s ∷ rest) ∙ q.log_is log rest;
}

pub round_prints : (c : Config) (rules : Rules) (w : Cluster) (n : ℕ) (members : List ℕ) (t : Turn) → ascends nat_lt members ≡ true → list_all (λ m. nat_lt m c.nodes) members ≡ true → is_among n members ≡ true →
    n < c.nodes → ((h : ℕ) → w.holder ≡ Some h → h < c.nodes) → ((m : ℕ) → m < c.nodes → is_up m w ≡ true) → stepped c rules n (event.BeginRound (w.ticket + 1) members) (node_at n w) ≡ Some t →
    is_counted (became n (event.BeginRound (w.ticket + 1) members) t w.sent w) ≡ true →
    Prints c rules w (yields n w.holder ++ step.Recover n members ∷ []) n (event.BeginRound (w.ticket + 1) members) (yield_lines n w.holder ++ line.Ticket (w.ticket + 1) n ∷ lines_of n (length w.sent + 1) t.outs)
    (became n (event.BeginRound (w.ticket + 1) members) t w.sent w)
unfolding became yields yield_lines lock_held refused_if holder_after ticket_after asked_after node_at is_up
round_prints c rules w n members t asc nodes among there holds ups turn counted = by w.holder refl
  where
    e : Event
    e = event.BeginRound (w.ticket + 1) members

    told : List Line
    told = line.Ticket (w.ticket + 1) n ∷ lines_of n (length w.sent + 1) t.outs

    By : List Step → List Line → Type 0
    By ss own = Prints c rules w (ss ++ step.Recover n members ∷ []) n e (own ++ told) (became n e t w.sent w)

    by : (h : Option ℕ) → w.holder ≡ h → By (yields n h) (yield_lines n h)
    by None is = recover_prints c rules w n members t asc nodes among there (ups n there) (ap (lock_held n) is) turn counted
    by (Some h) is = ⊎_elim
        (λ (own : h ≡ n). subst (λ (b : Bool). By (cond b [] (step.Yield h ∷ [])) (cond b [] (line.Yielded h ∷ []))) (sym (eq-eqb h n own))
        (recover_prints c rules w n members t asc nodes among there (ups n there) (ap (lock_held n) is ∙ ap (λ (b : Bool). refused_if (not b) (fault.LockHeld h)) (eq-eqb h n own)) turn counted))
        (λ (ne : h ≡ n → ⊥). subst (λ (b : Bool). By (cond b [] (step.Yield h ∷ [])) (cond b [] (line.Yielded h ∷ []))) (sym (ne_eqb h n ne))
        (yields_first c rules w (record w { holder = None }) (became n e t w.sent w) h n (w.ticket + 1) members (step.Recover n members) told
        (yield_prints c rules w h n is (holds h is) (ups h (holds h is)))
        (recover_prints c rules (record w { holder = None }) n members t asc nodes among there (ups n there) refl turn counted)))
        (cases_eq h n)
