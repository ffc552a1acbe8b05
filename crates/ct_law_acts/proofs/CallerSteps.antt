-- What each node has and keeps, whatever comes to it and where it stops, all nodes of a cluster have after every step.
use Rattle.std.proofs.Common.{◌≡◌, ℕ, zero, suc, ◌+◌, Bool, true, false, cond, List, [], ◌∷◌, set, Option, Some, None, refl, subst}
use Rattle.std.specs.Prelude.{slice_get, Ok, Err}
use Rattle.ct_values.specs.declared.config.Config.{Config}
use Rattle.ct_frame.specs.declared.event.Event.{Event}
use Rattle.ct_frame.specs.declared.event.Event.TheVariants as event
use Rattle.ct_call.specs.Rules.{Rules}
use Rattle.ct_rules_node.specs.Node.{Node, restarted}
use Rattle.ct_rules_node.specs.Turn.{Turn, begins}
use Rattle.ct_rules_node.specs.Steps.{happens}
use Rattle.ct_rules_cluster.specs.Cluster.{Cluster, Sent, Fate, Delivered, Dropped, node_at, or_absent, sent_at, is_up}
use Rattle.ct_rules_cluster.specs.Faults.{fault_of}
use Rattle.ct_rules_cluster.specs.Steps.{Stepped, with_node, put, is_counted, if_counted, fed_of, fed, done, with_fate, deliver, drop, repeat, stop, recover, steps, steps_or, applied}
use Rattle.ct_rules_cluster.specs.declared.step.Line.{Line}
use Rattle.ct_rules_cluster.specs.declared.step.Step.{Step}
use Rattle.ct_rules_cluster.specs.declared.step.Step.TheVariants as step
use Rattle.ct_rules_cluster.specs.declared.step.StepFault.{StepFault}
use Rattle.ct_rules_cluster.specs.declared.step.StepFault.TheVariants as fault

-- is the event a client's call?
unfoldable pub is_call : Event → Bool
is_call (event.Client call asked) = true
is_call _ = false

-- is the step a client's call?
unfoldable pub is_client : Step → Bool
is_client (step.Client n asked) = true
is_client _ = false

set_all : (K : ℕ → Node → Type 0) (ns : List Node) (i : ℕ) (x : Node) → K i x → ((k : ℕ) → K k (or_absent (slice_get ns k))) → (k : ℕ) → K k (or_absent (slice_get (set ns i x) k))
unfolding or_absent
set_all K [] i x own all k = all k
set_all K (y ∷ ns) zero x own all zero = own
set_all K (y ∷ ns) zero x own all (suc k) = all (suc k)
set_all K (y ∷ ns) (suc i) x own all zero = all zero
set_all K (y ∷ ns) (suc i) x own all (suc k) = set_all (λ j. K (suc j)) ns i x own (λ j. all (suc j)) k

-- all nodes have it
abbrev pub AllNodes : (ℕ → Node → Type 0) → Cluster → Type 0
AllNodes K w = (n : ℕ) → K n (node_at n w)

node_put : (K : ℕ → Node → Type 0) (n : ℕ) (x : Node) (w : Cluster) → K n x → AllNodes K w → AllNodes K (with_node n x w)
unfolding node_at with_node
node_put K n x w own all = set_all K w.nodes n x own all

put_all : (K : ℕ → Node → Type 0) (n : ℕ) (t : Turn) (own : List Line) (w : Cluster) → K n t.node → AllNodes K w → AllNodes K (put n t own w).cluster
unfolding put node_at
put_all K n t own w k all = node_put K n t.node w k all

-- an event that is given to a node, which keeps it there
pub fed_all : (K : ℕ → Node → Type 0) (c : Config) (rules : Rules) (n : ℕ) (e : Event) (own : List Line) (w : Cluster) (r : Stepped) → K n (happens c rules n (begins (node_at n w)) e).node → AllNodes K w → fed c rules n e own w ≡ Ok r → AllNodes K r.cluster
unfolding fed fed_of if_counted
fed_all K c rules n e own w r kept all is = by (happens c rules n (begins (node_at n w)) e) (happens c rules n (begins (node_at n w)) e).spent kept is
  where
    counted : (t : Turn) (b : Bool) → K n t.node → cond b (Ok (put n t own w)) (Err fault.Exhausted) ≡ Ok r → AllNodes K r.cluster
    counted t true k f = (let same : put n t own w ≡ r = cc in subst (λ (s : Stepped). AllNodes K s.cluster) same (put_all K n t own w k all))
    counted t false k f = absurd (cc)

    by : (t : Turn) (b : Bool) → K n t.node → fed_of n own w (cond b None (Some t)) ≡ Ok r → AllNodes K r.cluster
    by t true k f = absurd (cc)
    by t false k f = counted t (is_counted (put n t own w).cluster) k f

fate_all : (K : ℕ → Node → Type 0) (k : ℕ) (s : Sent) (f : Fate) (w : Cluster) → AllNodes K w → AllNodes K (with_fate k s f w)
unfolding with_fate node_at
fate_all K zero s f w all = all
fate_all K (suc k) s f w all = all

done_all : (K : ℕ → Node → Type 0) (lines : List Line) (w : Cluster) (r : Stepped) → AllNodes K w → done lines w ≡ Ok r → AllNodes K r.cluster
unfolding done
done_all K lines w r all e = (let same : record { cluster = w; lines = lines } ≡ r = cc in subst (λ (s : Stepped). AllNodes K s.cluster) same all)

-- ---- every step but a client's call

-- what a node has, it keeps whatever comes to it but a client's call
abbrev pub KeepsAll : (ℕ → Node → Type 0) → Config → Rules → Type 0
KeepsAll K c rules = (n : ℕ) (x : Node) (e : Event) → is_call e ≡ false → K n x → K n (happens c rules n (begins x) e).node

module _ (K : ℕ → Node → Type 0) (c : Config) (rules : Rules) (keeps : KeepsAll K c rules) (stops : (n : ℕ) (x : Node) → K n (restarted c x)) where
  feed : (n : ℕ) (e : Event) (own : List Line) (w : Cluster) (r : Stepped) → is_call e ≡ false → AllNodes K w → fed c rules n e own w ≡ Ok r → AllNodes K r.cluster
  feed n e own w r other all is = fed_all K c rules n e own w r (keeps n (node_at n w) e other (all n)) all is

  arrive : (k n : ℕ) (s : Sent) (f : Fate) (w v : Cluster) (r : Stepped) (lines : List Line) (b : Bool) → AllNodes K w → AllNodes K v → cond b (fed c rules n (event.Arrive s.frame) [] w) (done lines v) ≡ Ok r → AllNodes K r.cluster
  unfolding is_call
  arrive k n s f w v r lines true all others is = feed n (event.Arrive s.frame) [] w r refl all is
  arrive k n s f w v r lines false all others is = done_all K lines v r others is

  delivered : (k : ℕ) (w : Cluster) (o : Option Sent) (r : Stepped) → AllNodes K w → deliver c rules k w o ≡ Ok r → AllNodes K r.cluster
  unfolding deliver
  delivered k w None r all is = done_all K [] w r all is
  delivered k w (Some s) r all is = arrive k s.frame.receiver s Delivered (with_fate k s Delivered w) (with_fate k s Dropped w) r _ (is_up s.frame.receiver w) (fate_all K k s Delivered w all) (fate_all K k s Dropped w all) is

  dropped : (k : ℕ) (w : Cluster) (o : Option Sent) (r : Stepped) → AllNodes K w → drop k w o ≡ Ok r → AllNodes K r.cluster
  unfolding drop
  dropped k w None r all is = done_all K [] w r all is
  dropped k w (Some s) r all is = done_all K [] _ r (fate_all K k s Dropped w all) is

  repeated : (k : ℕ) (w : Cluster) (o : Option Sent) (r : Stepped) → AllNodes K w → repeat c rules k w o ≡ Ok r → AllNodes K r.cluster
  unfolding repeat
  repeated k w None r all is = done_all K [] w r all is
  repeated k w (Some s) r all is = arrive k s.frame.receiver s Delivered w w r _ (is_up s.frame.receiver w) all all is

  stopped : (n : ℕ) (w : Cluster) (r : Stepped) → AllNodes K w → stop c n w ≡ Ok r → AllNodes K r.cluster
  unfolding stop node_at
  stopped n w r all is = done_all K _ _ r (node_put K n (restarted c (node_at n w)) w (stops n (node_at n w)) all) is

  taken : (w : Cluster) (s : Step) (r : Stepped) → is_client s ≡ false → AllNodes K w → steps c rules w s ≡ Ok r → AllNodes K r.cluster
  unfolding steps recover is_call is_client node_at
  taken w (step.Client n o) r other all is = absurd (cc)
  taken w (step.Deliver k) r other all is = delivered k w (sent_at k w) r all is
  taken w (step.Drop k) r other all is = dropped k w (sent_at k w) r all is
  taken w (step.Repeat k) r other all is = repeated k w (sent_at k w) r all is
  taken w (step.Retry n) r other all is = feed n event.Retry [] w r refl all is
  taken w (step.Vacuum n db) r other all is = feed n (event.Vacuum db) [] w r refl all is
  taken w (step.Recover n members) r other all is = feed n (event.BeginRound (w.ticket + 1) members) _ (record w { holder = Some n; ticket = w.ticket + 1 }) r refl all is
  taken w (step.Yield n) r other all is = done_all K _ (record w { holder = None }) r all is
  taken w (step.Stop n) r other all is = stopped n w r all is
  taken w (step.Start n) r other all is = done_all K _ (record w { running = _ }) r all is
  taken w (step.Takeover n) r other all is = feed n (event.BeginTakeover _) [] w r refl all is
  taken w (step.Able n able) r other all is = done_all K _ (record w { able = _ }) r all is

  or_taken : (w : Cluster) (s : Step) (f : Option StepFault) (r : Stepped) → is_client s ≡ false → AllNodes K w → steps_or c rules w s f ≡ Ok r → AllNodes K r.cluster
  unfolding steps_or
  or_taken w s (Some f) r other all is = absurd (cc)
  or_taken w s None r other all is = taken w s r other all is

  -- after every step but a client's call all nodes have it
  pub step_keeps : (w : Cluster) (s : Step) (r : Stepped) → is_client s ≡ false → AllNodes K w → applied c rules w s ≡ Ok r → AllNodes K r.cluster
  unfolding applied
  step_keeps w s r other all is = or_taken w s (fault_of c w s) r other all is
