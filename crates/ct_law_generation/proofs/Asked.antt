-- By the calls that wait no answer is unasked.
use Rattle.std.proofs.Common.{List, [], ◌∷◌, ◌++◌}
use Rattle.std.specs.Prelude.{ℕ, ◌+◌, nat_eq, Result, Ok, Err}
use Rattle.std.proofs.lemmas.Bool.{cond_both}
use Rattle.ct_values.specs.declared.client.Answer.{Answer}
use Rattle.ct_values.specs.declared.client.ClientOp.{ClientOp}
use Rattle.ct_values.specs.declared.client.ClientOp.TheVariants as op
use Rattle.ct_values.specs.declared.config.Config.{Config}
use Rattle.ct_call.specs.Rules.{Rules}
use Rattle.ct_frame.specs.declared.frame.Msg.{Msg}
use Rattle.ct_frame.specs.declared.frame.Msg.TheVariants as msg
use Rattle.ct_rules_cluster.specs.Cluster.{Cluster}
use Rattle.ct_rules_cluster.specs.Faults.{is_allowed}
use Rattle.ct_rules_cluster.specs.Labels.{Label, Answered, Unasked, Begun, Noted, Ticket, Yielded, Stopped, Started, Pushed, Takeover, Taken}
use Rattle.ct_rules_cluster.specs.Steps.{Stepped, applied}
use Rattle.ct_rules_cluster.specs.Traces.{sent_label, is_refused, begun_by, own_labels}
use Rattle.ct_rules_cluster.specs.declared.step.Line.{Line}
use Rattle.ct_rules_cluster.specs.declared.step.Line.TheVariants as line
use Rattle.ct_rules_cluster.specs.declared.step.PendingCall.{PendingCall}
use Rattle.ct_rules_cluster.specs.declared.step.Step.{Step}
use Rattle.ct_rules_cluster.specs.declared.step.Step.TheVariants as step
use Rattle.ct_rules_cluster.specs.declared.step.StepFault.{StepFault}
use Rattle.ct_law_generation.specs.Waiting.{answerable, answered, told_line, told_lines, told_step, Outcome, unchanged, came_of, outcome}
use Rattle.ct_law_generation.specs.Law.{NoneUnasked}

pub asked_more : (xs ys : List Label) → NoneUnasked xs → NoneUnasked ys → NoneUnasked (xs ++ ys)
unfolding NoneUnasked
asked_more [] ys h k = k
asked_more (Unasked call a ∷ xs) ys h k = absurd h
asked_more (Answered n o a ∷ xs) ys h k = asked_more xs ys h k
asked_more (Begun n db ws ∷ xs) ys h k = asked_more xs ys h k
asked_more (Noted n x ∷ xs) ys h k = asked_more xs ys h k
asked_more (Ticket t n ms ∷ xs) ys h k = asked_more xs ys h k
asked_more (Yielded n ∷ xs) ys h k = asked_more xs ys h k
asked_more (Stopped n ∷ xs) ys h k = asked_more xs ys h k
asked_more (Started n ∷ xs) ys h k = asked_more xs ys h k
asked_more (Pushed g addresses ∷ xs) ys h k = asked_more xs ys h k
asked_more (Takeover n able ∷ xs) ys h k = asked_more xs ys h k
asked_more (Taken n g number addresses ∷ xs) ys h k = asked_more xs ys h k

answered_asked : (call : ℕ) (a : Answer) (xs : List PendingCall) → NoneUnasked (answered call a xs)
unfolding answered NoneUnasked
answered_asked call a [] = tt
answered_asked call a (x ∷ xs) = cond_both (nat_eq x.call call) (Answered x.node x.op a ∷ []) (answered call a xs) (λ (l : List Label). NoneUnasked l) (λ _. tt) (λ _. answered_asked call a xs)

sent_asked : (n g : ℕ) (m : Msg) → NoneUnasked (sent_label n g m)
unfolding sent_label NoneUnasked
sent_asked n g (msg.Push members table ptables assigned) = tt
sent_asked n g (msg.Take number assigned) = tt
sent_asked n g _ = tt

lines_asked : (s : Step) (calls : List PendingCall) (xs : List Line) → NoneUnasked (told_lines s calls xs)
unfolding told_lines told_line NoneUnasked
lines_asked s calls [] = tt
lines_asked s calls (line.Sent k f ∷ xs) = asked_more (sent_label f.sender f.generation f.msg) (told_lines s calls xs) (sent_asked f.sender f.generation f.msg) (lines_asked s calls xs)
lines_asked s calls (line.Answered call a ∷ xs) = asked_more (answered call a calls) (told_lines s calls xs) (answered_asked call a calls) (lines_asked s calls xs)
lines_asked s calls (line.Noted n x ∷ xs) = lines_asked s calls xs
lines_asked s calls (line.Ticket t n ∷ xs) = lines_asked s calls xs
lines_asked s calls (line.Yielded n ∷ xs) = lines_asked s calls xs
lines_asked s calls (line.Stopped n ∷ xs) = lines_asked s calls xs
lines_asked s calls (line.Started n ∷ xs) = lines_asked s calls xs
lines_asked s calls (line.Gone call ∷ xs) = lines_asked s calls xs
lines_asked s calls (line.Lost k ∷ xs) = lines_asked s calls xs

begun_asked : (n call : ℕ) (o : ClientOp) (lines : List Line) → NoneUnasked (begun_by n call o lines)
unfolding begun_by NoneUnasked
begun_asked n call (op.Commit db writes) lines = cond_both (is_refused call lines) [] (Begun n db writes ∷ []) (λ (l : List Label). NoneUnasked l) (λ _. tt) (λ _. tt)
begun_asked n call o lines = tt

own_asked : (w : Cluster) (s : Step) (lines : List Line) → NoneUnasked (own_labels w s lines)
unfolding own_labels NoneUnasked
own_asked w (step.Client n o) lines = begun_asked n (w.calls + 1) o lines
own_asked w (step.Takeover n) lines = tt
own_asked w s lines = tt

result_asked : (w : Cluster) (s : Step) (r : Result Stepped StepFault) → NoneUnasked (came_of w s r).trace
unfolding came_of unchanged told_step NoneUnasked
result_asked w s (Ok x) = asked_more (own_labels w s x.lines) (told_lines s (answerable w s) x.lines) (own_asked w s x.lines) (lines_asked s (answerable w s) x.lines)
result_asked w s (Err f) = tt

pub outcome_asked : (c : Config) (rules : Rules) (w : Cluster) (s : Step) → NoneUnasked (outcome c rules w s).trace
unfolding outcome unchanged NoneUnasked
outcome_asked c rules w s = cond_both (is_allowed s) (came_of w s (applied c rules w s)) (unchanged w) (λ (o : Outcome). NoneUnasked o.trace) (λ _. result_asked w s (applied c rules w s)) (λ _. tt)
