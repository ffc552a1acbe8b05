-- A small run in which the last reply of a round was sent: the leader still waits for it.
use Rattle.std.specs.Prelude.{◌≡◌, List, [], ◌∷◌, Some}
use Rattle.ct_values.specs.declared.client.ClientOp.TheVariants as op
use Rattle.ct_frame.specs.declared.frame.Frame.{Frame}
use Rattle.ct_frame.specs.declared.frame.Msg.TheVariants as msg
use Rattle.ct_merge.specs.Rule.{row_at}
use Rattle.ct_rules_cluster.specs.Cluster.{Cluster, opening}
use Rattle.ct_rules_cluster.specs.Traces.{ran}
use Rattle.ct_rules_cluster.specs.declared.step.Step.{Step}
use Rattle.ct_rules_cluster.specs.declared.step.Step.TheVariants as step
use Rattle.ct_promise.specs.Promises.{IsConfig}
use Rattle.ct_promise.specs.Small.{config, both, a, x, the_row}
use Rattle.ct_law_promise.specs.Merges.{IsLastReply, body_at}

-- Of two nodes node 1 writes, and node 0 leads a round until both have told what they hold. It has the first reply, its own.
abbrev pub run : List Step
run =
    step.Client 1 (op.Write 1 a x) ∷
    step.Recover 0 both ∷
    step.Deliver 1 ∷
    step.Deliver 2 ∷
    step.Deliver 3 ∷
    step.Deliver 4 ∷
    step.Deliver 5 ∷
    step.Deliver 6 ∷
    step.Deliver 7 ∷
    []

abbrev pub there : Cluster
there = (ran config [] (opening config) [] run).cluster

-- what node 1 replied: its copy of what it wrote
abbrev pub last_reply : Frame
last_reply = record { generation = 2; sender = 1; receiver = 0; msg = msg.PullReply 1 1 (the_row ∷ []) [] [] }

-- so there is a last reply of which the laws speak, and what is made of it has a row for what was written
abbrev pub LastReplyIsThere : Type 0
LastReplyIsThere = IsConfig config × (k : IsLastReply config there 0 both last_reply) × (row_at 1 a (body_at config there 0 both last_reply k).table ≡ Some the_row)
