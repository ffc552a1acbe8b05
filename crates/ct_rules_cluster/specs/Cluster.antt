-- The cluster: its nodes, every message that was sent, and the recovery lock.
use Rattle.std.specs.Prelude.{ℕ, zero, suc, ◌+◌, Bool, true, false, if◌then◌else◌, List, [], ◌∷◌, ◌++◌, replicate, Option, None, Some, slice_get}
use Rattle.ct_values.specs.declared.client.ClientOp.TheVariants as op
use Rattle.ct_values.specs.declared.config.Config.{Config}
use Rattle.ct_frame.specs.declared.frame.Frame.{Frame}
use Rattle.ct_store.specs.Map.{Pairs}
use Rattle.ct_rules.specs.declared.state.RecState.{RecState}
use Rattle.ct_rules.specs.declared.state.Wish.{Wish}
use Rattle.ct_rules_node.specs.Numbered.{by_number}
use Rattle.ct_rules_node.specs.Node.{Node, Database, Committing}
use Rattle.ct_rules_node.specs.Node as node
use Rattle.ct_rules_cluster.specs.declared.step.PendingCall.{PendingCall}

-- what became of a message that was sent
pub data Fate : Type 0 where
  Waiting : Fate
  Delivered : Fate
  Dropped : Fate

-- a message that was sent, and what became of it
pub record Sent : Type 0 where
  pub frame : Frame
  pub fate : Fate

-- State of the cluster: a node that is down is as its stop left it; the message of number k stands at place k - 1
pub record Cluster : Type 0 where
  pub nodes : List Node
  pub running : List Bool
  pub able : List Bool  -- which nodes are marked as able to hold addresses
  pub sent : List Sent
  pub holder : Option ℕ  -- of the recovery lock
  pub ticket : ℕ  -- the last one that was given
  pub calls : ℕ  -- how many client calls got a number

-- a cluster with its configuration
pub record World : Type 0 where
  pub config : Config
  pub cluster : Cluster

-- ---- the opening

-- so many numbers from i on
unfoldable pub numbers : ℕ → ℕ → List ℕ
numbers i zero = []
numbers i (suc n) = i ∷ numbers (i + 1) n

-- all nodes of the configuration
unfoldable pub everyone : Config → List ℕ
everyone c = numbers 0 c.nodes

-- Opening of the cluster: all nodes run and are able, the recovery lock is free, and ticket 1 is the last one
unfoldable pub opening : Config → Cluster
opening c = record {
  nodes = replicate c.nodes (node.opening c (everyone c));
  running = replicate c.nodes true;
  able = replicate c.nodes true;
  sent = [];
  holder = None;
  ticket = 1;
  calls = 0;
}

-- ---- small words

-- is the mark there and set?
unfoldable pub is_true : Option Bool → Bool
is_true None = false
is_true (Some b) = b

-- does the node run?
unfoldable pub is_up : ℕ → Cluster → Bool
is_up n w = is_true (slice_get w.running n)

-- what stands for a node that is not there
unfoldable pub absent : Node
absent = record { promise = 0; pbase = 0; phase = node.Idle; generation = 0; members = []; leader = None; dbs = []; placement = []; held = []; last_run = 0; next = 1; lead = node.Nothing }

-- the node, and what stands for it where it is not there
unfoldable pub or_absent : Option Node → Node
or_absent None = absent
or_absent (Some n) = n

-- the node of this number
unfoldable pub node_at : ℕ → Cluster → Node
node_at n w = or_absent (slice_get w.nodes n)

-- the message of this number, where it was sent
unfoldable pub sent_at : ℕ → Cluster → Option Sent
sent_at zero w = None
sent_at (suc k) w = slice_get w.sent k

-- is it that the message waits?
unfoldable pub is_waiting_fate : Fate → Bool
is_waiting_fate Waiting = true
is_waiting_fate Delivered = false
is_waiting_fate Dropped = false

-- does the message wait?
unfoldable pub is_waiting : Option Sent → Bool
is_waiting None = false
is_waiting (Some s) = is_waiting_fate s.fate

-- is it that the message was delivered?
unfoldable pub is_delivered_fate : Fate → Bool
is_delivered_fate Waiting = false
is_delivered_fate Delivered = true
is_delivered_fate Dropped = false

-- was the message delivered?
unfoldable pub is_delivered : Option Sent → Bool
is_delivered None = false
is_delivered (Some s) = is_delivered_fate s.fate

-- the nodes that are marked as able; i is the number of the first of these
unfoldable pub able_from : ℕ → List Bool → List ℕ
able_from i [] = []
able_from i (b ∷ bs) = if b then i ∷ able_from (i + 1) bs else able_from (i + 1) bs

-- ---- pending calls

-- Pending calls: that of a wish of node n
unfoldable pub wished : ℕ → Option Wish → List PendingCall
wished n None = []
wished n (Some w) = record { call = w.call; node = n; op = w.op; seq = 0 } ∷ []

-- Pending calls: those of the wishes in a database of node n
unfoldable pub wished_in : ℕ → Pairs RecState → List PendingCall
wished_in n [] = []
wished_in n (e ∷ m) = wished n e.1.wish ++ wished_in n m

-- Pending calls: that of a commit of node n that waits
unfoldable pub committing : ℕ → ℕ → Option Committing → List PendingCall
committing n db None = []
committing n db (Some x) = record { call = x.call; node = n; op = op.Commit db x.writes; seq = x.pending.seq } ∷ []

-- Pending calls: those of node n, by database; i is the number of the first of these
unfoldable pub pending_in : ℕ → ℕ → List Database → List PendingCall
pending_in n i [] = []
pending_in n i (d ∷ ds) = wished_in n d.records ++ committing n i d.commit ++ pending_in n (i + 1) ds

-- Pending calls: those of a node, by number
unfoldable pub pending_at : ℕ → Cluster → List PendingCall
pending_at n w = by_number (λ x. x.call) (pending_in n 0 (node_at n w).dbs)

-- Pending calls: those of these nodes; i is the number of the first of these
unfoldable pub pending_from : ℕ → List Node → List PendingCall
pending_from i [] = []
pending_from i (n ∷ ns) = pending_in i 0 n.dbs ++ pending_from (i + 1) ns

-- Pending calls: those of all nodes, by number
unfoldable pub pending : Cluster → List PendingCall
pending w = by_number (λ x. x.call) (pending_from 0 w.nodes)
