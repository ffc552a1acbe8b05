-- What a step does to the cluster, and what it prints.
use Rattle.std.specs.Prelude.{ℕ, zero, suc, ◌+◌, ◌^◌, nat_lt, Bool, true, false, ◌&&◌, if◌then◌else◌, List, [], ◌∷◌, ◌++◌, length, Option, None, Some, Result, Ok, Err, slice_set}
use Rattle.ct_values.specs.Words.{is_this_node}
use Rattle.ct_values.specs.declared.config.Config.{Config}
use Rattle.ct_call.specs.Rules.{Rules}
use Rattle.ct_frame.specs.declared.event.Event.{Event}
use Rattle.ct_frame.specs.declared.event.Event.TheVariants as event
use Rattle.ct_frame.specs.declared.event.Out.{Out}
use Rattle.ct_frame.specs.declared.event.Out.TheVariants as out
use Rattle.ct_rules_node.specs.Node.{Node, restarted}
use Rattle.ct_rules_node.specs.Turn.{Turn}
use Rattle.ct_rules_node.specs.Steps.{stepped}
use Rattle.ct_rules_cluster.specs.Cluster.{Cluster, Sent, Fate, Waiting, Delivered, Dropped, is_up, node_at, sent_at, able_from, pending_at}
use Rattle.ct_rules_cluster.specs.Faults.{fault_of}
use Rattle.ct_rules_cluster.specs.declared.step.Line.{Line}
use Rattle.ct_rules_cluster.specs.declared.step.Line.TheVariants as line
use Rattle.ct_rules_cluster.specs.declared.step.PendingCall.{PendingCall}
use Rattle.ct_rules_cluster.specs.declared.step.Step.{Step}
use Rattle.ct_rules_cluster.specs.declared.step.Step.TheVariants as step
use Rattle.ct_rules_cluster.specs.declared.step.StepFault.{StepFault}
use Rattle.ct_rules_cluster.specs.declared.step.StepFault.TheVariants as fault

-- the cluster after a step, and the lines that the step printed, in order
pub record Stepped : Type 0 where
  pub cluster : Cluster
  pub lines : List Line

-- ---- what a node's step becomes

-- Lines: the messages among what a node does, each of which waits
unfoldable pub frames_of : List Out → List Sent
frames_of [] = []
frames_of (out.Send f ∷ xs) = record { frame = f; fate = Waiting } ∷ frames_of xs
frames_of (out.Answer call a ∷ xs) = frames_of xs
frames_of (out.Note x ∷ xs) = frames_of xs

-- Lines: what node n does, in order; its first message gets number k
unfoldable pub lines_of : ℕ → ℕ → List Out → List Line
lines_of n k [] = []
lines_of n k (out.Send f ∷ xs) = line.Sent k f ∷ lines_of n (k + 1) xs
lines_of n k (out.Answer call a ∷ xs) = line.Answered call a ∷ lines_of n k xs
lines_of n k (out.Note x ∷ xs) = line.Noted n x ∷ lines_of n k xs

-- the cluster with another state of a node
unfoldable pub with_node : ℕ → Node → Cluster → Cluster
with_node n x w = record w { nodes = slice_set w.nodes n x }

-- Lines: the step's own, and then those of the node that took it, whose messages get the next numbers
unfoldable pub put : ℕ → Turn → List Line → Cluster → Stepped
put n t own w = record {
  cluster = record (with_node n t.node w) { sent = w.sent ++ frames_of t.outs };
  lines = own ++ lines_of n (length w.sent + 1) t.outs;
}

-- Numbers: those of messages, tickets and calls are below 2^62
unfoldable pub is_counted : Cluster → Bool
is_counted w = nat_lt (length w.sent) (2 ^ 62) && nat_lt w.ticket (2 ^ 62) && nat_lt w.calls (2 ^ 62)

-- Numbers: a step is refused where one of these would reach 2^62
unfoldable pub if_counted : Stepped → Result Stepped StepFault
if_counted s = if is_counted s.cluster then Ok s else Err fault.Exhausted

-- the node's step becomes the cluster's, or is refused where a number would reach 2^62
unfoldable pub fed_of : ℕ → List Line → Cluster → Option Turn → Result Stepped StepFault
fed_of n own w None = Err fault.Exhausted
fed_of n own w (Some t) = if_counted (put n t own w)

-- an event is given to a node
unfoldable pub fed : Config → Rules → ℕ → Event → List Line → Cluster → Result Stepped StepFault
fed c rules n e own w = fed_of n own w (stepped c rules n e (node_at n w))

-- no event: these lines, and this cluster
unfoldable pub done : List Line → Cluster → Result Stepped StepFault
done lines w = Ok (record { cluster = w; lines = lines })

-- ---- messages

-- the cluster with another fate of the message of this number
unfoldable pub with_fate : ℕ → Sent → Fate → Cluster → Cluster
with_fate zero s f w = w
with_fate (suc k) s f w = record w { sent = slice_set w.sent k (record s { fate = f }) }

-- Steps of the cluster: a message that waits comes to its receiver, and is dropped where that is down
unfoldable pub deliver : Config → Rules → ℕ → Cluster → Option Sent → Result Stepped StepFault
deliver c rules k w None = done [] w
deliver c rules k w (Some s) =
    if is_up s.frame.receiver w
    then fed c rules s.frame.receiver (event.Arrive s.frame) [] (with_fate k s Delivered w)
    else done (line.Lost k ∷ []) (with_fate k s Dropped w)

-- Steps of the cluster: a message that waits is dropped
unfoldable pub drop : ℕ → Cluster → Option Sent → Result Stepped StepFault
drop k w None = done [] w
drop k w (Some s) = done [] (with_fate k s Dropped w)

-- Steps of the cluster: a message that was delivered comes again, and is lost where its receiver is down
unfoldable pub repeat : Config → Rules → ℕ → Cluster → Option Sent → Result Stepped StepFault
repeat c rules k w None = done [] w
repeat c rules k w (Some s) =
    if is_up s.frame.receiver w then fed c rules s.frame.receiver (event.Arrive s.frame) [] w else done (line.Lost k ∷ []) w

-- ---- stops and the recovery lock

-- the recovery lock is free where this node held it
unfoldable pub without_holder : ℕ → Option ℕ → Option ℕ
without_holder n h = if is_this_node n h then None else h

-- Lines: one for each call that ended with its node
unfoldable pub gone : List PendingCall → List Line
gone [] = []
gone (x ∷ xs) = line.Gone x.call ∷ gone xs

-- Steps of the cluster: what a stop leaves, with a line for each call that ends; the node's recovery lock is free
unfoldable pub stop : Config → ℕ → Cluster → Result Stepped StepFault
stop c n w = done (line.Stopped n ∷ gone (pending_at n w)) (record (with_node n (restarted c (node_at n w)) w) {
  running = slice_set w.running n false;
  holder = without_holder n w.holder;
})

-- Steps of the cluster: the next ticket is given with the recovery lock, and the node begins its round
unfoldable pub recover : Config → Rules → ℕ → List ℕ → Cluster → Result Stepped StepFault
recover c rules n members w = fed c rules n (event.BeginRound (w.ticket + 1) members) (line.Ticket (w.ticket + 1) n ∷ []) (record w { holder = Some n; ticket = w.ticket + 1 })

-- ---- every step

-- Steps of the cluster: each, where it is not refused
unfoldable pub steps : Config → Rules → Cluster → Step → Result Stepped StepFault
steps c rules w (step.Client n o) = fed c rules n (event.Client (w.calls + 1) o) [] (record w { calls = w.calls + 1 })
steps c rules w (step.Deliver k) = deliver c rules k w (sent_at k w)
steps c rules w (step.Drop k) = drop k w (sent_at k w)
steps c rules w (step.Repeat k) = repeat c rules k w (sent_at k w)
steps c rules w (step.Retry n) = fed c rules n event.Retry [] w
steps c rules w (step.Vacuum n db) = fed c rules n (event.Vacuum db) [] w
steps c rules w (step.Recover n members) = recover c rules n members w
steps c rules w (step.Yield n) = done (line.Yielded n ∷ []) (record w { holder = None })
steps c rules w (step.Stop n) = stop c n w
steps c rules w (step.Start n) = done (line.Started n ∷ []) (record w { running = slice_set w.running n true })
steps c rules w (step.Takeover n) = fed c rules n (event.BeginTakeover (able_from 0 w.able)) [] w
steps c rules w (step.Able n able) = done [] (record w { able = slice_set w.able n able })

-- the step is refused so, or taken where there is no refusal
unfoldable pub steps_or : Config → Rules → Cluster → Step → Option StepFault → Result Stepped StepFault
steps_or c rules w s (Some f) = Err f
steps_or c rules w s None = steps c rules w s

-- the rule of the cluster: the new cluster and its lines, or the first refusal that holds
unfoldable pub applied : Config → Rules → Cluster → Step → Result Stepped StepFault
applied c rules w s = steps_or c rules w s (fault_of c w s)
