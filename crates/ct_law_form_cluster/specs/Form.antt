-- A cluster in form: its nodes are, every message that was ever sent keeps its rules, and calls are counted.
use Rattle.std.specs.Prelude.{◌≡◌, ℕ, ◌+◌, Bool, true, ◌&&◌, List, length, None, Ok, Some}
use Rattle.std.specs.List.{list_all}
use Rattle.ct_values.specs.declared.address.Address.{Address}
use Rattle.ct_values.specs.Config.{Configures}
use Rattle.ct_values.specs.declared.client.ClientOp.{ClientOp}
use Rattle.ct_values.specs.declared.config.Config.{Config}
use Rattle.ct_values.specs.declared.config.DbDecl.{DbDecl}
use Rattle.ct_frame.specs.Fields.{well_formed}
use Rattle.ct_frame.specs.declared.event.Event.TheVariants as event
use Rattle.ct_call.specs.Rules.{Rules}
use Rattle.ct_rules_cluster.specs.Cluster.{Cluster, Sent, able_from, node_at, opening, sent_at}
use Rattle.ct_rules_cluster.specs.Faults.{fault_of, is_allowed}
use Rattle.ct_rules_cluster.specs.Steps.{Stepped, applied}
use Rattle.ct_rules_cluster.specs.declared.step.Step.{Step}
use Rattle.ct_rules_cluster.specs.declared.step.Step.TheVariants as step
use Rattle.ct_rules_node.specs.Coming.{is_after_pending, may_come}
use Rattle.ct_law_form.specs.Whole.{NodeInForm, is_node_of}

-- does the message that was sent keep the rules of its fields, and go to a node?
unfoldable pub is_sound_sent : Config → Sent → Bool
is_sound_sent c s = well_formed s.frame && is_node_of c s.frame.receiver

-- In form: a cluster
pub record ClusterInForm (c : Config) (w : Cluster) : Type 0 where
  pub size : length w.nodes ≡ c.nodes
  pub nodes : (n : ℕ) → is_node_of c n ≡ true → NodeInForm c n (node_at n w)
  -- each call that waits was counted
  pub counted : (n : ℕ) → is_node_of c n ≡ true → is_after_pending (w.calls + 1) (node_at n w) ≡ true
  pub sent : list_all (is_sound_sent c) w.sent ≡ true

-- at the opening a cluster of a configuration is so
abbrev pub ClusterOpensInForm : Type 0
ClusterOpensInForm = (c : Config) (dbs : List DbDecl) (addresses : List Address) → Configures (Ok c) c.nodes dbs addresses → ClusterInForm c (opening c)

-- and after every step of which what is asked holds
abbrev pub ClusterStaysInForm : Type 0
ClusterStaysInForm = (c : Config) (rules : Rules) (w : Cluster) (s : Step) (x : Stepped) → ClusterInForm c w → is_allowed s ≡ true → applied c rules w s ≡ Ok x → ClusterInForm c x.cluster

-- in a cluster in form what a step that is not refused gives to a node may come to it
pub record EventsMayCome : Type 0 where
  pub client : (c : Config) (w : Cluster) (n : ℕ) (o : ClientOp) → ClusterInForm c w → is_allowed (step.Client n o) ≡ true → is_node_of c n ≡ true → may_come c n (node_at n w) (event.Client (w.calls + 1) o) ≡ true
  pub message : (c : Config) (w : Cluster) (k : ℕ) (s : Sent) → ClusterInForm c w → sent_at k w ≡ Some s → (is_node_of c s.frame.receiver ≡ true) × (may_come c s.frame.receiver (node_at s.frame.receiver w) (event.Arrive s.frame) ≡ true)
  pub round : (c : Config) (w : Cluster) (n ticket : ℕ) (members : List ℕ) → is_allowed (step.Recover n members) ≡ true → fault_of c w (step.Recover n members) ≡ None → may_come c n (node_at n w) (event.BeginRound ticket members) ≡ true
  pub takeover : (c : Config) (w : Cluster) (n : ℕ) → may_come c n (node_at n w) (event.BeginTakeover (able_from 0 w.able)) ≡ true
