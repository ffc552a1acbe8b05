-- What a step tells by the calls that wait: the node and the operation of an answer's call are taken from what its node keeps.
-- `CallsTold` shows that it tells the same by the log of open calls, so the proofs may speak of the nodes alone.
use Rattle.std.specs.Prelude.{ℕ, ◌+◌, nat_eq, if◌then◌else◌, List, [], ◌∷◌, ◌++◌, Result, Ok, Err}
use Rattle.ct_values.specs.declared.client.Answer.{Answer}
use Rattle.ct_values.specs.declared.config.Config.{Config}
use Rattle.ct_call.specs.Rules.{Rules}
use Rattle.ct_rules_cluster.specs.Cluster.{Cluster, pending}
use Rattle.ct_rules_cluster.specs.Faults.{is_allowed}
use Rattle.ct_rules_cluster.specs.Labels.{Label, Answered, Noted, Ticket, Yielded, Stopped, Started}
use Rattle.ct_rules_cluster.specs.Steps.{Stepped, applied}
use Rattle.ct_rules_cluster.specs.Traces.{sent_label, members_of, own_labels, Ran}
use Rattle.ct_rules_cluster.specs.declared.step.Line.{Line}
use Rattle.ct_rules_cluster.specs.declared.step.Line.TheVariants as line
use Rattle.ct_rules_cluster.specs.declared.step.PendingCall.{PendingCall}
use Rattle.ct_rules_cluster.specs.declared.step.Step.{Step}
use Rattle.ct_rules_cluster.specs.declared.step.Step.TheVariants as step
use Rattle.ct_rules_cluster.specs.declared.step.StepFault.{StepFault}

-- the calls that a step may answer: those that wait, and its own
unfoldable pub answerable : Cluster → Step → List PendingCall
answerable w (step.Client n o) = record { call = w.calls + 1; node = n; op = o; seq = 0 } ∷ pending w
answerable w _ = pending w

-- an answer, with the node of its call and what that asked, where it is among these calls
unfoldable pub answered : ℕ → Answer → List PendingCall → List Label
answered call a [] = []
answered call a (x ∷ xs) = if nat_eq x.call call then Answered x.node x.op a ∷ [] else answered call a xs

-- the label of a line, if it has one
unfoldable pub told_line : Step → List PendingCall → Line → List Label
told_line s calls (line.Sent k f) = sent_label f.sender f.generation f.msg
told_line s calls (line.Answered call a) = answered call a calls
told_line s calls (line.Noted n x) = Noted n x ∷ []
told_line s calls (line.Ticket t n) = Ticket t n (members_of s) ∷ []
told_line s calls (line.Yielded n) = Yielded n ∷ []
told_line s calls (line.Stopped n) = Stopped n ∷ []
told_line s calls (line.Started n) = Started n ∷ []
told_line s calls (line.Gone call) = []
told_line s calls (line.Lost k) = []

-- those of these lines, in order
unfoldable pub told_lines : Step → List PendingCall → List Line → List Label
told_lines s calls [] = []
told_lines s calls (x ∷ xs) = told_line s calls x ++ told_lines s calls xs

-- those of a step that was taken and printed these lines
unfoldable pub told_step : Cluster → Step → List Line → List Label
told_step w s lines = own_labels w s lines ++ told_lines s (answerable w s) lines

-- the cluster after a step, and what the step told
pub record Outcome : Type 0 where
  pub cluster : Cluster
  pub trace : List Label

-- nothing happened
unfoldable pub unchanged : Cluster → Outcome
unchanged w = record { cluster = w; trace = [] }

-- after a step that was taken; one that is refused changes nothing and tells nothing
unfoldable pub came_of : Cluster → Step → Result Stepped StepFault → Outcome
came_of w s (Ok x) = record { cluster = x.cluster; trace = told_step w s x.lines }
came_of w s (Err f) = unchanged w

-- after one step
unfoldable pub outcome : Config → Rules → Cluster → Step → Outcome
outcome c rules w s = if is_allowed s then came_of w s (applied c rules w s) else unchanged w

-- that of a run, without its lines and its log
abbrev pub outcome_of : Ran → Outcome
outcome_of run = record { cluster = run.cluster; trace = run.trace }
