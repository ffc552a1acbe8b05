-- A small run in which versions are added, and none is left.
use Rattle.std.specs.Prelude.{◌≡◌, List, [], ◌∷◌}
use Rattle.ct_values.specs.declared.client.Answer.TheVariants as answer
use Rattle.ct_values.specs.declared.client.ClientOp.TheVariants as op
use Rattle.ct_frame.specs.declared.event.Note.TheVariants as note
use Rattle.ct_rules_cluster.specs.Cluster.{opening}
use Rattle.ct_rules_cluster.specs.Labels.{Label, Answered, Noted}
use Rattle.ct_rules_cluster.specs.Traces.{ran}
use Rattle.ct_rules_cluster.specs.declared.step.Step.{Step}
use Rattle.ct_rules_cluster.specs.declared.step.Step.TheVariants as step
use Rattle.ct_promise.specs.Promises.{IsConfig}
use Rattle.ct_promise.specs.Small.{config, a, x}

-- of two nodes node 1 writes a value and then the empty one, and a vacuum takes the record away in its two phases
abbrev pub run : List Step
run =
    step.Client 1 (op.Write 1 a x) ∷
    step.Client 1 (op.Write 1 a []) ∷
    step.Vacuum 1 1 ∷
    step.Deliver 1 ∷
    step.Deliver 2 ∷
    step.Deliver 3 ∷
    step.Deliver 4 ∷
    []

-- two of its steps add a version each, and the last one removes the record
abbrev pub told : List Label
told = Answered 1 (op.Write 1 a x) answer.Written ∷ Answered 1 (op.Write 1 a []) answer.Written ∷ Noted 1 (note.Vacuumed 1 a) ∷ []

-- so there is a run of which the law of readings speaks
abbrev pub VersionsAreThere : Type 0
VersionsAreThere = IsConfig config × ((ran config [] (opening config) [] run).trace ≡ told)
