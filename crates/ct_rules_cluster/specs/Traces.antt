-- What a run tells of itself.
use Rattle.std.specs.Prelude.{ℕ, ◌+◌, nat_eq, Bool, true, false, ◌&&◌, if◌then◌else◌, List, [], ◌∷◌, ◌++◌, Option, None, Some, Result, Ok, Err}
use Rattle.ct_values.specs.declared.client.Answer.{Answer}
use Rattle.ct_values.specs.declared.client.Answer.TheVariants as answer
use Rattle.ct_values.specs.declared.client.ClientOp.{ClientOp}
use Rattle.ct_values.specs.declared.client.ClientOp.TheVariants as op
use Rattle.ct_values.specs.declared.config.Config.{Config}
use Rattle.ct_call.specs.Rules.{Rules}
use Rattle.ct_frame.specs.declared.frame.Msg.{Msg}
use Rattle.ct_frame.specs.declared.frame.Msg.TheVariants as msg
use Rattle.ct_rules_cluster.specs.Cluster.{Cluster, able_from}
use Rattle.ct_rules_cluster.specs.Faults.{is_allowed}
use Rattle.ct_rules_cluster.specs.Labels.{Label, Answered, Unasked, Begun, Noted, Ticket, Yielded, Stopped, Started, Pushed, Takeover, Taken}
use Rattle.ct_rules_cluster.specs.Steps.{Stepped, applied}
use Rattle.ct_rules_cluster.specs.declared.step.Line.{Line}
use Rattle.ct_rules_cluster.specs.declared.step.Line.TheVariants as line
use Rattle.ct_rules_cluster.specs.declared.step.Step.{Step}
use Rattle.ct_rules_cluster.specs.declared.step.Step.TheVariants as step
use Rattle.ct_rules_cluster.specs.declared.step.StepFault.{StepFault}

-- ---- open calls

-- an open call: its number, its node, and what its client asked
pub record OpenCall : Type 0 where
  pub call : ℕ
  pub node : ℕ
  pub asked : ClientOp

-- the node and the operation of the call of this number, where it is open
unfoldable pub asked_in : ℕ → List OpenCall → Option (ℕ × ClientOp)
asked_in call [] = None
asked_in call (x ∷ xs) = if nat_eq call x.call then Some (x.node, x.asked) else asked_in call xs

-- Open calls: once this one is answered, or has ended with its node
unfoldable pub closed : ℕ → List OpenCall → List OpenCall
closed call [] = []
closed call (x ∷ xs) = if nat_eq call x.call then closed call xs else x ∷ closed call xs

-- Open calls: a client's own call is one before the lines of its step
unfoldable pub opened : Cluster → Step → List OpenCall → List OpenCall
opened w (step.Client n o) log = record { call = w.calls + 1; node = n; asked = o } ∷ log
opened w s log = log

-- Open calls: after a line
unfoldable pub closed_by : Line → List OpenCall → List OpenCall
closed_by (line.Answered call a) log = closed call log
closed_by (line.Gone call) log = closed call log
closed_by x log = log

-- Open calls: after all lines of a step
unfoldable pub closed_by_all : List Line → List OpenCall → List OpenCall
closed_by_all [] log = log
closed_by_all (x ∷ xs) log = closed_by_all xs (closed_by x log)

-- ---- labels

-- Labels: an answer, with the node of its call and what the client asked; or one to a call that is not open
unfoldable pub answer_label : ℕ → Answer → Option (ℕ × ClientOp) → Label
answer_label call a None = Unasked call a
answer_label call a (Some x) = Answered x.0 x.1 a

-- Labels: a Push or a Take that is sent by node n in generation g
unfoldable pub sent_label : ℕ → ℕ → Msg → List Label
sent_label n g (msg.Push members table ptables assigned) = Pushed g assigned ∷ []
sent_label n g (msg.Take number assigned) = Taken n g number assigned ∷ []
sent_label n g _ = []

-- the members of a recovery
unfoldable pub members_of : Step → List ℕ
members_of (step.Recover n members) = members
members_of _ = []

-- Labels: that of a line, if it is one, while these calls are open
unfoldable pub label_of : Step → List OpenCall → Line → List Label
label_of s log (line.Sent k f) = sent_label f.sender f.generation f.msg
label_of s log (line.Answered call a) = answer_label call a (asked_in call log) ∷ []
label_of s log (line.Noted n x) = Noted n x ∷ []
label_of s log (line.Ticket t n) = Ticket t n (members_of s) ∷ []
label_of s log (line.Yielded n) = Yielded n ∷ []
label_of s log (line.Stopped n) = Stopped n ∷ []
label_of s log (line.Started n) = Started n ∷ []
label_of s log (line.Gone call) = []
label_of s log (line.Lost k) = []

-- Labels: those of these lines, in order; what one of them answers is open no more for the next
unfoldable pub line_labels : Step → List OpenCall → List Line → List Label
line_labels s log [] = []
line_labels s log (x ∷ xs) = label_of s log x ++ line_labels s (closed_by x log) xs

-- is the answer a refusal?
unfoldable pub is_refusal : Answer → Bool
is_refusal (answer.Refused w) = true
is_refusal _ = false

-- is this call refused by the first of these lines?
unfoldable pub is_refused : ℕ → List Line → Bool
is_refused own (line.Answered call a ∷ xs) = is_refusal a && nat_eq own call
is_refused own _ = false

-- Labels: a commit that is not refused itself begins, before the lines of its step, whatever these say of other calls
unfoldable pub begun_by : ℕ → ℕ → ClientOp → List Line → List Label
begun_by n call (op.Commit db writes) lines = if is_refused call lines then [] else Begun n db writes ∷ []
begun_by n call _ lines = []

-- Labels: what a step tells before its lines
unfoldable pub own_labels : Cluster → Step → List Line → List Label
own_labels w (step.Client n o) lines = begun_by n (w.calls + 1) o lines
own_labels w (step.Takeover n) lines = Takeover n (able_from 0 w.able) ∷ []
own_labels w _ lines = []

-- Labels: those of a step that was taken and printed these lines
unfoldable pub labels : Cluster → Step → List OpenCall → List Line → List Label
labels w s log lines = own_labels w s lines ++ line_labels s (opened w s log) lines

-- ---- runs

-- Runs: the cluster after some steps, the lines that they printed, the labels that they told, and the calls that are open
-- then. The log of these is the run's own: no node keeps it.
pub record Ran : Type 0 where
  pub cluster : Cluster
  pub lines : List Line
  pub trace : List Label
  pub log : List OpenCall

-- Runs: nothing happened
unfoldable pub idle : Cluster → List OpenCall → Ran
idle w log = record { cluster = w; lines = []; trace = []; log = log }

-- Runs: after a step that was taken; one that is refused changes nothing and tells nothing
unfoldable pub taken : Cluster → List OpenCall → Step → Result Stepped StepFault → Ran
taken w log s (Ok x) = record { cluster = x.cluster; lines = x.lines; trace = labels w s log x.lines; log = closed_by_all x.lines (opened w s log) }
taken w log s (Err f) = idle w log

-- Runs: after one step; one that is not as it is asked to be changes nothing and tells nothing
unfoldable pub ran_one : Config → Rules → Cluster → List OpenCall → Step → Ran
ran_one c rules w log s = if is_allowed s then taken w log s (applied c rules w s) else idle w log

-- Runs: one run and then another
unfoldable pub after : Ran → Ran → Ran
after q r = record { cluster = r.cluster; lines = q.lines ++ r.lines; trace = q.trace ++ r.trace; log = r.log }

-- Runs: all steps, one after the other, from a cluster in which these calls are open; none is at the opening
unfoldable pub ran : Config → Rules → Cluster → List OpenCall → List Step → Ran
ran c rules w log [] = idle w log
ran c rules w log (s ∷ ss) = let q = ran_one c rules w log s in after q (ran c rules q.cluster q.log ss)
