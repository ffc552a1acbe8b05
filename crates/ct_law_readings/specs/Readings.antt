-- What a step does to what is read of a record: it adds one version at most.
use Rattle.std.specs.Prelude.{◌≡◌, ◌⊎◌, ℕ, Bool, true, false, List, [], ◌∷◌, ◌++◌}
use Rattle.ct_values.specs.declared.config.Config.{Config}
use Rattle.ct_call.specs.Rules.{Rules}
use Rattle.ct_rules_cluster.specs.Cluster.{Cluster, opening}
use Rattle.ct_rules_cluster.specs.Labels.{Label}
use Rattle.ct_rules_cluster.specs.Traces.{OpenCall, ran_one}
use Rattle.ct_rules_cluster.specs.declared.step.Step.{Step}
use Rattle.ct_register.specs.Lines
use Rattle.ct_register.specs.Lines.{Lines}
use Rattle.ct_register.specs.Legal.{AcceptsLabels}
use Rattle.ct_register.specs.Stands.{StandsFor}
use Rattle.ct_promise.specs.Promises.{IsConfig, CallsStand}
use Rattle.ct_promise.specs.Marked.{AllMarks, no_marks, MarksHold, is_removed, MarksGoOn}

-- a step that removes the record leaves no version; any other leaves the versions as they are, or adds one
unfoldable pub VersionsStep : (is_vacuumed : Bool) → List (List ℕ) → List (List ℕ) → Type 0
VersionsStep true before after = after ≡ []
VersionsStep false before after = (after ≡ before) ⊎ ((value : List ℕ) × (after ≡ before ++ value ∷ []))

-- so the versions of each record of each line that was born before go on through a step that tells these labels
abbrev pub VersionsGoOn : Lines → List Label → Lines → Type 0
VersionsGoOn r labels s = (g db : ℕ) (key : List ℕ) → r.born g ≡ true → VersionsStep (is_removed r g db key labels) (r.records g db key).versions (s.records g db key).versions

-- Step by step there are registers that accept what the step tells and that its cluster stands for, and marks that hold of
-- them and go on, as `MarksRun` has them; the calls that wait are exactly the open ones; and the versions of each record go on.
abbrev pub ReadingsRun : Config → Rules → Cluster → List OpenCall → Lines → AllMarks → List Step → Type 0
ReadingsRun config rules w log r marks [] = Unit {0}
ReadingsRun config rules w log r marks (s ∷ steps) = let run = ran_one config rules w log s in
    (t : Lines) × (after : AllMarks) × AcceptsLabels config rules r run.trace t × StandsFor config run.cluster t × CallsStand run.cluster run.log ×
    MarksHold run.cluster t after × MarksGoOn r run.trace marks after × VersionsGoOn r run.trace t × ReadingsRun config rules run.cluster run.log t after steps

-- so it is of every list of steps from the opening on, where nothing is marked
abbrev pub LawOfReadings : Type 0
LawOfReadings = (config : Config) (rules : Rules) (steps : List Step) → IsConfig config → ReadingsRun config rules (opening config) [] (Lines.opening config) (λ g. no_marks) steps
