-- Why a step is refused, apart from a number that would reach its limit.
use Rattle.std.specs.Prelude.{ℕ, nat_eq, nat_lt, Bool, true, false, not, if◌then◌else◌, List, [], ◌∷◌, Option, None, Some, is_none}
use Rattle.ct_values.specs.Words.{is_this_node}
use Rattle.ct_values.specs.declared.config.Config.{Config}
use Rattle.ct_frame.specs.Fields.{ascends}
use Rattle.ct_rules_node.specs.Coming.{is_allowed_op}
use Rattle.ct_rules_node.specs.Node.{Lead, Completed, is_serving, is_persistent, is_among, kind_at}
use Rattle.ct_rules_node.specs.Refusals.{refused_if, first_of}
use Rattle.ct_rules_cluster.specs.Cluster.{Cluster, is_up, node_at, sent_at, is_waiting, is_delivered}
use Rattle.ct_rules_cluster.specs.declared.step.Step.{Step}
use Rattle.ct_rules_cluster.specs.declared.step.Step.TheVariants as step
use Rattle.ct_rules_cluster.specs.declared.step.StepFault.{StepFault}
use Rattle.ct_rules_cluster.specs.declared.step.StepFault.TheVariants as fault

-- Refusals of a step: there is no node of this number
unfoldable pub no_such_node : Config → ℕ → Option StepFault
no_such_node c n = refused_if (not (nat_lt n c.nodes)) (fault.NoSuchNode n)

-- Refusals of a step: the first of these numbers that is no node's
unfoldable pub no_such_nodes : Config → List ℕ → Option StepFault
no_such_nodes c [] = None
no_such_nodes c (n ∷ ns) = if nat_lt n c.nodes then no_such_nodes c ns else Some (fault.NoSuchNode n)

-- Refusals of a step: the node does not run
unfoldable pub node_down : Cluster → ℕ → Option StepFault
node_down w n = refused_if (not (is_up n w)) (fault.NodeDown n)

-- Refusals of a step: the node runs
unfoldable pub node_up : Cluster → ℕ → Option StepFault
node_up w n = refused_if (is_up n w) (fault.NodeUp n)

-- Refusals of a step: no database has this number
unfoldable pub no_such_db : Config → ℕ → Option StepFault
no_such_db c db = refused_if (is_none (kind_at c db)) (fault.NoSuchDb db)

-- Refusals of a step: a persistent database is not vacuumed
unfoldable pub wrong_kind : Config → ℕ → Option StepFault
wrong_kind c db = refused_if (is_persistent (kind_at c db)) (fault.WrongKind db)

-- Refusals of a step: the node's phase is not Serving
unfoldable pub not_serving : Cluster → ℕ → Option StepFault
not_serving w n = refused_if (not (is_serving (node_at n w).phase)) (fault.NotServing n)

-- does the node lead this generation, with the round completed?
unfoldable pub leads : ℕ → Lead → Bool
leads g (Completed h members x) = nat_eq h g
leads g _ = false

-- Refusals of a step: the node does not lead its generation with the round completed
unfoldable pub not_leader : Cluster → ℕ → Option StepFault
not_leader w n = refused_if (not (leads (node_at n w).generation (node_at n w).lead)) (fault.NotLeader n)

-- Refusals of a step: the node is not among the members
unfoldable pub not_member : ℕ → List ℕ → Option StepFault
not_member n members = refused_if (not (is_among n members)) (fault.NotMember n)

-- Refusals of a step: another node holds the recovery lock
unfoldable pub lock_held : ℕ → Option ℕ → Option StepFault
lock_held n None = None
lock_held n (Some h) = refused_if (not (nat_eq h n)) (fault.LockHeld h)

-- Refusals of a step: the node does not hold the recovery lock
unfoldable pub not_holder : Cluster → ℕ → Option StepFault
not_holder w n = refused_if (not (is_this_node n w.holder)) (fault.NotHolder w.holder)

-- Refusals of a step: no message of this number waits
unfoldable pub not_waiting : Cluster → ℕ → Option StepFault
not_waiting w k = refused_if (not (is_waiting (sent_at k w))) (fault.NoSuchFrame k)

-- Refusals of a step: no message of this number was delivered
unfoldable pub not_delivered : Cluster → ℕ → Option StepFault
not_delivered w k = refused_if (not (is_delivered (sent_at k w))) (fault.NoSuchFrame k)

-- Refusals of a step: the first that holds, in this order
unfoldable pub fault_of : Config → Cluster → Step → Option StepFault
fault_of c w (step.Client n o) = first_of (no_such_node c n ∷ node_down w n ∷ [])
fault_of c w (step.Deliver k) = not_waiting w k
fault_of c w (step.Drop k) = not_waiting w k
fault_of c w (step.Repeat k) = not_delivered w k
fault_of c w (step.Retry n) = first_of (no_such_node c n ∷ node_down w n ∷ [])
fault_of c w (step.Vacuum n db) = first_of (no_such_node c n ∷ node_down w n ∷ no_such_db c db ∷ wrong_kind c db ∷ not_serving w n ∷ [])
fault_of c w (step.Recover n members) = first_of (no_such_nodes c (n ∷ members) ∷ node_down w n ∷ not_member n members ∷ lock_held n w.holder ∷ [])
fault_of c w (step.Yield n) = first_of (no_such_node c n ∷ node_down w n ∷ not_holder w n ∷ [])
fault_of c w (step.Stop n) = first_of (no_such_node c n ∷ node_down w n ∷ [])
fault_of c w (step.Start n) = first_of (no_such_node c n ∷ node_up w n ∷ [])
fault_of c w (step.Takeover n) = first_of (no_such_node c n ∷ node_down w n ∷ not_serving w n ∷ not_leader w n ∷ [])
fault_of c w (step.Able n able) = no_such_node c n

-- ---- what is asked of a step: a commit has 1 to 16 writes, and the members of a round ascend

-- what is asked of a step: a commit has 1 to 16 writes, and the members of a recovery ascend
unfoldable pub is_allowed : Step → Bool
is_allowed (step.Client n o) = is_allowed_op o
is_allowed (step.Recover n members) = ascends nat_lt members
is_allowed _ = true
