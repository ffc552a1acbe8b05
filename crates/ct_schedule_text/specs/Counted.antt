-- The steps of a schedule without what clients see of them, and how the lines tell how many messages were sent.
use Rattle.std.specs.Prelude.{ℕ, List, [], ◌∷◌, ◌++◌, Result, Ok, Err}
use Rattle.ct_call.specs.Rules.{Rules}
use Rattle.ct_rules_cluster.specs.Cluster.{Cluster}
use Rattle.ct_rules_cluster.specs.Steps.{Stepped, applied}
use Rattle.ct_rules_cluster.specs.declared.step.Line.{Line}
use Rattle.ct_rules_cluster.specs.declared.step.Line.TheVariants as line
use Rattle.ct_rules_cluster.specs.declared.step.Step.{Step}
use Rattle.ct_rules_cluster.specs.declared.step.StepFault.{StepFault}
use Rattle.ct_values.specs.declared.config.Config.{Config}

-- nothing is done
abbrev pub unstepped : Cluster → Stepped
unstepped w = record { cluster = w; lines = [] }

-- a step that was taken; one that is refused does nothing
abbrev pub if_taken : Cluster → Result Stepped StepFault → Stepped
if_taken w (Ok x) = x
if_taken w (Err f) = unstepped w

abbrev pub step_done : Config → Rules → Cluster → Step → Stepped
step_done c rules w s = if_taken w (applied c rules w s)

-- these lines, and then those of what was done
abbrev pub with_lines : List Line → Stepped → Stepped
with_lines lines x = record { cluster = x.cluster; lines = lines ++ x.lines }

-- steps, one after the other
abbrev pub steps_done : Config → Rules → Cluster → List Step → Stepped
steps_done c rules w [] = unstepped w
steps_done c rules w (s ∷ ss) = with_lines (step_done c rules w s).lines (steps_done c rules (step_done c rules w s).cluster ss)

-- the number of the last message that lines tell of, or one from before: messages are numbered from 1
abbrev pub frame_by : ℕ → Line → ℕ
frame_by n (line.Sent k f) = k
frame_by n _ = n

abbrev pub last_frame : ℕ → List Line → ℕ
last_frame n [] = n
last_frame n (l ∷ ls) = last_frame (frame_by n l) ls
