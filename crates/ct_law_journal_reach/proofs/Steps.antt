-- What a step of a schedule does that is taken.
use Rattle.std.proofs.Common.{◌≡◌, ℕ, zero, suc, ◌+◌, ◌<◌, ◌&&◌, Bool, true, false, cond, not, List, [], ◌∷◌, length, map, set, Option, None, Some, Ok, Err, length-set, refl, sym, ap, ◌∙◌, subst}
use Rattle.std.proofs.lemmas.Bool.{and_parts}
use Rattle.std.specs.Prelude.{slice_get}
use Rattle.ct_call.specs.Rules.{Rules}
use Rattle.ct_values.specs.declared.config.Config.{Config}
use Rattle.ct_frame.specs.declared.event.Event.{Event}
use Rattle.ct_frame.specs.declared.event.Event.TheVariants as event
use Rattle.ct_frame.specs.declared.frame.Frame.{Frame}
use Rattle.ct_rules_node.specs.Node.{Node}
use Rattle.ct_rules_node.specs.Refusals.{first_of, refused_if}
use Rattle.ct_rules_node.specs.Steps.{stepped}
use Rattle.ct_rules_node.specs.Turn.{Turn}
use Rattle.ct_rules_cluster.specs.Cluster.{Cluster, Delivered, Dropped, Fate, Sent, able_from, is_delivered, is_up, is_waiting, node_at, or_absent, sent_at}
use Rattle.ct_rules_cluster.specs.Faults.{fault_of, is_allowed, not_delivered, not_waiting}
use Rattle.ct_rules_cluster.specs.Steps.{applied, deliver, done, drop, fed, fed_of, if_counted, is_counted, put, recover, repeat, steps, steps_or, stop, with_fate, with_node}
use Rattle.ct_rules_cluster.specs.declared.step.Line.{Line}
use Rattle.ct_rules_cluster.specs.declared.step.Line.TheVariants as line
use Rattle.ct_rules_cluster.specs.declared.step.Step.{Step}
use Rattle.ct_rules_cluster.specs.declared.step.Step.TheVariants as step
use Rattle.ct_rules_cluster.specs.declared.step.StepFault.{StepFault}
use Rattle.ct_rules_cluster.specs.declared.step.StepFault.TheVariants as fault
use Rattle.ct_journal.specs.Order.{ticket_after}
use Rattle.ct_journal.specs.Schedules.{after_step, arrival_of, cluster_in, given_by, keeps_all_up}
use Rattle.ct_law_journal_schedule.proofs.Numbering.{asked_after}
use Rattle.ct_law_journal_schedule.proofs.Taking.{became}
use Rattle.ct_law_journal_schedule.specs.Scheduling.{holder_after}

-- the messages that were sent
abbrev pub frames : List Sent → List Frame
frames ss = map (λ (s : Sent). s.frame) ss

-- ---- what a step may do

-- why an event comes to node n
unfoldable pub Comes : Config → Cluster → ℕ → Event → Type 0
Comes c w n (event.Client call o) = call ≡ w.calls + 1
Comes c w n (event.Arrive m) = (k : ℕ) × (s : Sent) × (sent_at k w ≡ Some s) × (s.frame ≡ m)
Comes c w n event.Retry = Unit {0}
Comes c w n (event.Vacuum db) = fault_of c w (step.Vacuum n db) ≡ None
Comes c w n (event.BeginRound ticket members) = ticket ≡ w.ticket + 1
Comes c w n (event.BeginTakeover able) = (able ≡ able_from 0 w.able) × (fault_of c w (step.Takeover n) ≡ None)

-- no node has taken a step
pub record Stays (w v : Cluster) : Type 0 where
  pub nodes : v.nodes ≡ w.nodes
  pub running : v.running ≡ w.running
  pub able : length v.able ≡ length w.able
  pub holder : (h : ℕ) → v.holder ≡ Some h → w.holder ≡ Some h
  pub sent : frames v.sent ≡ frames w.sent
  pub ticket : v.ticket ≡ w.ticket
  pub calls : v.calls ≡ w.calls

-- node n has taken a step on an event
pub record Gave (c : Config) (rules : Rules) (w : Cluster) (n : ℕ) (e : Event) (v : Cluster) : Type 0 where
  pub turn : Turn
  pub runs : stepped c rules n e (node_at n w) ≡ Some turn
  pub sent : List Sent
  pub same : frames sent ≡ frames w.sent
  pub is : v ≡ became n e turn sent w

pub data Took (c : Config) (rules : Rules) (w : Cluster) (s : Step) (v : Cluster) : Type 0 where
  stays : given_by w s ≡ [] → Stays w v → Took c rules w s v
  gives : (n : ℕ) (e : Event) → given_by w s ≡ record { node = n; event = e } ∷ [] → Comes c w n e → Gave c rules w n e v → Took c rules w s v

-- ---- refusals

first_none : (X : Type 0) (o : Option X) (os : List (Option X)) → first_of (o ∷ os) ≡ None → (o ≡ None) × (first_of os ≡ None)
unfolding first_of
first_none X None os e = (refl, e)
first_none X (Some x) os e = absurd (cc)

not_refused : (X : Type 0) (b : Bool) (x : X) → refused_if (not b) x ≡ None → b ≡ true
unfolding refused_if
not_refused X true x e = refl
not_refused X false x e = absurd (cc)

-- ---- a step that is taken

of_true : (b : Bool) (o : Option Cluster) (v : Cluster) → cond b o None ≡ Some v → (b ≡ true) × (o ≡ Some v)
of_true true o v e = (refl, e)
of_true false o v e = absurd (cc)

of_taken : (c : Config) (rules : Rules) (w v : Cluster) (s : Step) (f : Option StepFault) → cluster_in (steps_or c rules w s f) ≡ Some v → (f ≡ None) × (cluster_in (steps c rules w s) ≡ Some v)
unfolding steps_or cluster_in
of_taken c rules w v s None e = (refl, e)
of_taken c rules w v s (Some f) e = absurd (cc)

pub record Taken (c : Config) (rules : Rules) (w : Cluster) (s : Step) (v : Cluster) : Type 0 where
  pub ups : keeps_all_up s ≡ true
  pub allowed : is_allowed s ≡ true
  pub fits : fault_of c w s ≡ None
  pub takes : cluster_in (steps c rules w s) ≡ Some v

pub taken : (c : Config) (rules : Rules) (w v : Cluster) (s : Step) → after_step c rules w s ≡ Some v → Taken c rules w s v
unfolding after_step applied
taken c rules w v s e =
    let p = of_true (keeps_all_up s && is_allowed s) (cluster_in (applied c rules w s)) v e in
    let q = and_parts (keeps_all_up s) (is_allowed s) p.0 in
    let r = of_taken c rules w v s (fault_of c w s) p.1 in
    record { ups = q.0; allowed = q.1; fits = r.0; takes = r.1 }

record Fed (c : Config) (rules : Rules) (n : ℕ) (e : Event) (own : List Line) (u v : Cluster) : Type 0 where
  turn : Turn
  runs : stepped c rules n e (node_at n u) ≡ Some turn
  is : (put n turn own u).cluster ≡ v

fed_taken : (c : Config) (rules : Rules) (n : ℕ) (e : Event) (own : List Line) (u v : Cluster) → cluster_in (fed c rules n e own u) ≡ Some v → Fed c rules n e own u v
unfolding fed fed_of if_counted cluster_in
fed_taken c rules n e own u v = by (stepped c rules n e (node_at n u)) refl
  where
    counted : (b : Bool) (t : Turn) → stepped c rules n e (node_at n u) ≡ Some t → cluster_in (cond b (Ok (put n t own u)) (Err fault.Exhausted)) ≡ Some v → Fed c rules n e own u v
    counted true t is f = record { turn = t; runs = is; is = cc }
    counted false t is f = absurd (cc)

    by : (o : Option Turn) → stepped c rules n e (node_at n u) ≡ o → cluster_in (fed_of n own u o) ≡ Some v → Fed c rules n e own u v
    by None is f = absurd (cc)
    by (Some t) is f = counted (is_counted (put n t own u).cluster) t is f

-- ---- messages

set_frames : (ss : List Sent) (k : ℕ) (s : Sent) (f : Fate) → slice_get ss k ≡ Some s → frames (set ss k (record s { fate = f })) ≡ frames ss
set_frames [] k s f e = absurd (cc)
set_frames (y ∷ ys) zero s f e = cc
set_frames (y ∷ ys) (suc k) s f e = ap (λ (fs : List Frame). y.frame ∷ fs) (set_frames ys k s f e)

module _ (c : Config) (rules : Rules) (w v : Cluster) where
  -- the step of a node on an event, where the cluster before it has the nodes, ticket and calls that it has
  gave_of : (n : ℕ) (e : Event) (own : List Line) (u : Cluster) → u.nodes ≡ w.nodes → Fed c rules n e own u v →
      ((t : Turn) → (put n t own u).cluster ≡ became n e t u.sent w) → frames u.sent ≡ frames w.sent → Gave c rules w n e v
  unfolding node_at
  gave_of n e own u nodes f is same = record { turn = f.turn; runs = subst (λ (xs : List Node). stepped c rules n e (or_absent (slice_get xs n)) ≡ Some f.turn) nodes f.runs; sent = u.sent; same = same; is = sym f.is ∙ is f.turn }

  delivers : (k : ℕ) (o : Option Sent) → sent_at k w ≡ o → ((m : ℕ) → m < c.nodes → is_up m w ≡ true) → ((n : ℕ) (e : Event) → given_by w (step.Deliver k) ≡ record { node = n; event = e } ∷ [] → n < c.nodes) →
      is_waiting o ≡ true → cluster_in (deliver c rules k w o) ≡ Some v → Took c rules w (step.Deliver k) v
  unfolding is_waiting sent_at deliver with_fate given_by arrival_of became put with_node holder_after ticket_after asked_after Comes
  delivers k None is ups placed waits taken = absurd (cc)
  delivers zero (Some s) is ups placed waits taken = absurd (cc)
  delivers (suc k) (Some s) is ups placed waits taken =
      let n : ℕ = s.frame.receiver in
      let e : Event = event.Arrive s.frame in
      let given : given_by w (step.Deliver (suc k)) ≡ record { node = n; event = e } ∷ [] = ap arrival_of is in
      let u : Cluster = record w { sent = set w.sent k (record s { fate = Delivered }) } in
      let up = ups n (placed n e given) in
      let f = fed_taken c rules n e [] u v (ap (λ (b : Bool). cluster_in (cond b (fed c rules n e [] u) (done (line.Lost (suc k) ∷ []) (record w { sent = set w.sent k (record s { fate = Dropped }) })))) (sym up) ∙ taken) in
      gives n e given (suc k, s, is, refl) (gave_of n e [] u refl f (λ t. refl) (set_frames w.sent k s Delivered is))

  repeats : (k : ℕ) (o : Option Sent) → sent_at k w ≡ o → ((m : ℕ) → m < c.nodes → is_up m w ≡ true) → ((n : ℕ) (e : Event) → given_by w (step.Repeat k) ≡ record { node = n; event = e } ∷ [] → n < c.nodes) →
      is_delivered o ≡ true → cluster_in (repeat c rules k w o) ≡ Some v → Took c rules w (step.Repeat k) v
  unfolding is_delivered repeat given_by arrival_of became put with_node holder_after ticket_after asked_after Comes
  repeats k None is ups placed waits taken = absurd (cc)
  repeats k (Some s) is ups placed waits taken =
      let n : ℕ = s.frame.receiver in
      let e : Event = event.Arrive s.frame in
      let given : given_by w (step.Repeat k) ≡ record { node = n; event = e } ∷ [] = ap arrival_of is in
      let up = ups n (placed n e given) in
      let f = fed_taken c rules n e [] w v (ap (λ (b : Bool). cluster_in (cond b (fed c rules n e [] w) (done (line.Lost k ∷ []) w))) (sym up) ∙ taken) in
      gives n e given (k, s, is, refl) (gave_of n e [] w refl f (λ t. refl) refl)

  drops : (k : ℕ) (o : Option Sent) → sent_at k w ≡ o → is_waiting o ≡ true → cluster_in (drop k w o) ≡ Some v → Took c rules w (step.Drop k) v
  unfolding is_waiting sent_at drop done with_fate given_by cluster_in
  drops k None is waits taken = absurd (cc)
  drops zero (Some s) is waits taken = absurd (cc)
  drops (suc k) (Some s) is waits taken =
      let u : Cluster = record w { sent = set w.sent k (record s { fate = Dropped }) } in
      let same : u ≡ v = cc in
      stays refl (subst (λ (x : Cluster). Stays w x) same (record { nodes = refl; running = refl; able = refl; holder = λ h e. e; sent = set_frames w.sent k s Dropped is; ticket = refl; calls = refl }))

  yields_it : (n : ℕ) → record w { holder = None } ≡ v → Took c rules w (step.Yield n) v
  unfolding given_by
  yields_it n same = stays refl (subst (λ (x : Cluster). Stays w x) same (record { nodes = refl; running = refl; able = refl; holder = λ h e. absurd (cc); sent = refl; ticket = refl; calls = refl }))

  marks_it : (n : ℕ) (b : Bool) → record w { able = set w.able n b } ≡ v → Took c rules w (step.Able n b) v
  unfolding given_by
  marks_it n b same = stays refl (subst (λ (x : Cluster). Stays w x) same (record { nodes = refl; running = refl; able = length-set w.able n b; holder = λ h e. e; sent = refl; ticket = refl; calls = refl }))

  -- A step that is taken gives one node one event, or changes no node
  pub took : (s : Step) → ((m : ℕ) → m < c.nodes → is_up m w ≡ true) → ((n : ℕ) (e : Event) → given_by w s ≡ record { node = n; event = e } ∷ [] → n < c.nodes) → Taken c rules w s v → Took c rules w s v
  unfolding steps stop recover done given_by became put with_node holder_after ticket_after asked_after Comes cluster_in fault_of not_waiting not_delivered keeps_all_up
  took (step.Client n o) ups placed t =
      let u : Cluster = record w { calls = w.calls + 1 } in
      gives n (event.Client (w.calls + 1) o) refl refl (gave_of n (event.Client (w.calls + 1) o) [] u refl (fed_taken c rules n (event.Client (w.calls + 1) o) [] u v t.takes) (λ t. refl) refl)
  took (step.Deliver k) ups placed t = delivers k (sent_at k w) refl ups placed (not_refused StepFault (is_waiting (sent_at k w)) (fault.NoSuchFrame k) t.fits) t.takes
  took (step.Drop k) ups placed t = drops k (sent_at k w) refl (not_refused StepFault (is_waiting (sent_at k w)) (fault.NoSuchFrame k) t.fits) t.takes
  took (step.Repeat k) ups placed t = repeats k (sent_at k w) refl ups placed (not_refused StepFault (is_delivered (sent_at k w)) (fault.NoSuchFrame k) t.fits) t.takes
  took (step.Retry n) ups placed t = gives n event.Retry refl tt (gave_of n event.Retry [] w refl (fed_taken c rules n event.Retry [] w v t.takes) (λ t. refl) refl)
  took (step.Vacuum n db) ups placed t = gives n (event.Vacuum db) refl t.fits (gave_of n (event.Vacuum db) [] w refl (fed_taken c rules n (event.Vacuum db) [] w v t.takes) (λ t. refl) refl)
  took (step.Recover n members) ups placed t =
      let u : Cluster = record w { holder = Some n; ticket = w.ticket + 1 } in
      let e : Event = event.BeginRound (w.ticket + 1) members in
      gives n e refl refl (gave_of n e (line.Ticket (w.ticket + 1) n ∷ []) u refl (fed_taken c rules n e (line.Ticket (w.ticket + 1) n ∷ []) u v t.takes) (λ t. refl) refl)
  took (step.Yield n) ups placed t = yields_it n (let e = t.takes in cc)
  took (step.Stop n) ups placed t = absurd (let e = t.ups in cc)
  took (step.Start n) ups placed t = absurd (let e = t.ups in cc)
  took (step.Takeover n) ups placed t = let e : Event = event.BeginTakeover (able_from 0 w.able) in gives n e refl (refl, t.fits) (gave_of n e [] w refl (fed_taken c rules n e [] w v t.takes) (λ t. refl) refl)
  took (step.Able n b) ups placed t = marks_it n b (let e = t.takes in cc)
