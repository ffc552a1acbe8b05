-- What a step that is not refused may count on.
use Rattle.std.proofs.Common.{◌≡◌, ◌∙◌, ℕ, ◌+◌, ◌<◌, Bool, true, ◌&&◌, List, ◌∷◌, length, Option, Some, None, refl, ap, subst, arith}
use Rattle.std.proofs.lemmas.Bool.{and_parts, ltb-true}
use Rattle.std.specs.Prelude.{◌^◌, nat_lt}
use Rattle.ct_values.specs.declared.client.ClientOp.{ClientOp}
use Rattle.ct_values.specs.declared.config.Config.{Config}
use Rattle.ct_frame.specs.declared.event.Event.TheVariants as event
use Rattle.ct_frame.specs.declared.frame.Frame.{Frame}
use Rattle.ct_rules_cluster.specs.Cluster.{Sent, able_from, is_delivered, is_waiting, node_at, sent_at}
use Rattle.ct_rules_cluster.specs.Faults.{fault_of, no_such_node, not_delivered, not_waiting}
use Rattle.ct_rules_cluster.specs.Steps.{is_counted}
use Rattle.ct_rules_cluster.specs.declared.step.Step.TheVariants as step
use Rattle.ct_rules_cluster.specs.declared.step.StepFault.{StepFault}
use Rattle.ct_rules_cluster.specs.declared.step.StepFault.TheVariants as fault
use Rattle.ct_law_form_cluster.proofs.Coming.{events_may_come, node_is, recover_nodes}
use Rattle.ct_mail.specs.Mail.{numbered}
use Rattle.ct_law_form.specs.Whole.{is_node_of}
use Rattle.ct_rules_node.specs.Coming.{may_come}
use Rattle.ct_rules_node.specs.Refusals.{first_of}
use Rattle.ct_law_rules_node.proofs.Refusals.{first_none, required}
use Rattle.ct_world.specs.Feeding.{MayTake}
use Rattle.ct_world.specs.World.{PartsInForm, cluster_of}
use Rattle.ct_world.specs.declared.parts.Parts.{Parts}
use Rattle.ct_world.proofs.Numbers.{numbered_so}

-- ---- numbers

pub few_sent : (p : Parts) → PartsInForm p → length p.mail < 2 ^ 62
unfolding is_counted
few_sent p f = ltb-true _ _ (and_parts (nat_lt (length p.mail) (2 ^ 62)) (nat_lt p.books.ticket (2 ^ 62)) (and_parts (nat_lt (length p.mail) (2 ^ 62) && nat_lt p.books.ticket (2 ^ 62)) (nat_lt p.books.calls (2 ^ 62)) f.counted).0).0

pub few_tickets : (p : Parts) → PartsInForm p → p.books.ticket < 2 ^ 62
unfolding is_counted
few_tickets p f = ltb-true _ _ (and_parts (nat_lt (length p.mail) (2 ^ 62)) (nat_lt p.books.ticket (2 ^ 62)) (and_parts (nat_lt (length p.mail) (2 ^ 62) && nat_lt p.books.ticket (2 ^ 62)) (nat_lt p.books.calls (2 ^ 62)) f.counted).0).1

pub few_calls : (p : Parts) → PartsInForm p → p.books.calls < 2 ^ 62
unfolding is_counted
few_calls p f = ltb-true _ _ (and_parts (nat_lt (length p.mail) (2 ^ 62) && nat_lt p.books.ticket (2 ^ 62)) (nat_lt p.books.calls (2 ^ 62)) f.counted).1

-- ---- nodes

real : (c : Config) (n : ℕ) (xs : List (Option StepFault)) → first_of (no_such_node c n ∷ xs) ≡ None → is_node_of c n ≡ true
real c n xs e = node_is c n (first_none (no_such_node c n) xs e).0

below : (c : Config) (n : ℕ) → is_node_of c n ≡ true → n < c.nodes
unfolding is_node_of
below c n e = ltb-true n c.nodes e

module _ (p : Parts) (n : ℕ) where
  pub client_node : (o : ClientOp) → MayTake (step.Client n o) p → n < p.config.nodes
  unfolding fault_of
  client_node o m = below p.config n (real p.config n _ m.free)

  pub client_comes : (o : ClientOp) → MayTake (step.Client n o) p → may_come p.config n (node_at n (cluster_of p)) (event.Client (p.books.calls + 1) o) ≡ true
  unfolding fault_of
  client_comes o m = events_may_come.client p.config (cluster_of p) n o m.form.cluster m.allowed (real p.config n _ m.free)

  pub retry_node : MayTake (step.Retry n) p → n < p.config.nodes
  unfolding fault_of
  retry_node m = below p.config n (real p.config n _ m.free)

  pub vacuum_node : (db : ℕ) → MayTake (step.Vacuum n db) p → n < p.config.nodes
  unfolding fault_of
  vacuum_node db m = below p.config n (real p.config n _ m.free)

  pub recover_node : (members : List ℕ) → MayTake (step.Recover n members) p → n < p.config.nodes
  recover_node members m = below p.config n (recover_nodes p.config (cluster_of p) n members m.free).0

  pub round_comes : (members : List ℕ) (ticket : ℕ) → MayTake (step.Recover n members) p → may_come p.config n (node_at n (cluster_of p)) (event.BeginRound ticket members) ≡ true
  round_comes members ticket m = events_may_come.round p.config (cluster_of p) n ticket members m.allowed m.free

  pub stop_node : MayTake (step.Stop n) p → n < p.config.nodes
  unfolding fault_of
  stop_node m = below p.config n (real p.config n _ m.free)

  pub start_node : MayTake (step.Start n) p → n < length p.running
  unfolding fault_of
  start_node m = (let l = below p.config n (real p.config n _ m.free) in let r = m.form.running in omega (arith, l, r))

  pub takeover_node : MayTake (step.Takeover n) p → n < p.config.nodes
  unfolding fault_of
  takeover_node m = below p.config n (real p.config n _ m.free)

  pub takeover_comes : may_come p.config n (node_at n (cluster_of p)) (event.BeginTakeover (able_from 0 p.able)) ≡ true
  takeover_comes = events_may_come.takeover p.config (cluster_of p) n

  pub able_node : (able : Bool) → MayTake (step.Able n able) p → n < length p.able
  unfolding fault_of
  able_node able m = (let l = below p.config n (node_is p.config n m.free) in let r = m.form.able in omega (arith, l, r))

-- ---- messages

module _ (p : Parts) (k : ℕ) where
  waits : is_waiting (sent_at k (cluster_of p)) ≡ true → is_waiting (numbered k p.mail) ≡ true
  waits w = ap is_waiting (numbered_so k (cluster_of p)) ∙ w

  pub deliver_waits : MayTake (step.Deliver k) p → is_waiting (sent_at k (cluster_of p)) ≡ true
  unfolding fault_of not_waiting
  deliver_waits m = required (is_waiting (sent_at k (cluster_of p))) (fault.NoSuchFrame k) m.free

  pub drop_waits : MayTake (step.Drop k) p → is_waiting (sent_at k (cluster_of p)) ≡ true
  unfolding fault_of not_waiting
  drop_waits m = required (is_waiting (sent_at k (cluster_of p))) (fault.NoSuchFrame k) m.free

  pub repeat_delivered : MayTake (step.Repeat k) p → is_delivered (sent_at k (cluster_of p)) ≡ true
  unfolding fault_of not_delivered
  repeat_delivered m = required (is_delivered (sent_at k (cluster_of p))) (fault.NoSuchFrame k) m.free

  pub message_node : (s : Sent) (f : Frame) → PartsInForm p → sent_at k (cluster_of p) ≡ Some s → s.frame ≡ f → f.receiver < p.config.nodes
  message_node s f form at same = subst (λ (g : Frame). g.receiver < p.config.nodes) same (below p.config s.frame.receiver (events_may_come.message p.config (cluster_of p) k s form.cluster at).0)

  pub message_comes : (s : Sent) (f : Frame) → PartsInForm p → sent_at k (cluster_of p) ≡ Some s → s.frame ≡ f → may_come p.config f.receiver (node_at f.receiver (cluster_of p)) (event.Arrive f) ≡ true
  message_comes s f form at same =
      subst (λ (g : Frame). may_come p.config g.receiver (node_at g.receiver (cluster_of p)) (event.Arrive g) ≡ true) same (events_may_come.message p.config (cluster_of p) k s form.cluster at).1

-- a message that waits is one that was sent
pub is_sent : (k : ℕ) (o : Option Sent) → is_waiting o ≡ true → (s : Sent) × (o ≡ Some s)
unfolding is_waiting
is_sent k None e = absurd (cc)
is_sent k (Some s) e = (s, refl)
