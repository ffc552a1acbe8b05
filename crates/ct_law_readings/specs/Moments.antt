-- The moments of one record through a run: what is said of moments that come one of the other holds of those of every run.
use Rattle.std.specs.Prelude.{◌≡◌, ℕ, true, List, [], ◌∷◌}
use Rattle.ct_values.specs.declared.config.Config.{Config}
use Rattle.ct_call.specs.Rules.{Rules}
use Rattle.ct_rules_cluster.specs.Cluster.{Cluster}
use Rattle.ct_rules_cluster.specs.Traces.{OpenCall, ran_one}
use Rattle.ct_rules_cluster.specs.declared.step.Step.{Step}
use Rattle.ct_register.specs.Lines.{Lines}
use Rattle.ct_promise.specs.Marked.{AllMarks, is_removed}
use Rattle.ct_law_readings.specs.Readings.{ReadingsRun}
use Rattle.ct_law_readings.specs.Fresh.{Moment}
use Rattle.ct_law_readings.specs.Greatest.{Later, ComesOn}

-- what there is of a record of line g, by registers and marks
abbrev pub moment_of : Lines → AllMarks → ℕ → ℕ → List ℕ → Moment
moment_of r marks g db key = record { versions = (r.records g db key).versions; marks = marks g db key }

-- its moments behind each step of a run, by the registers and the marks that the law of readings gives of it
unfoldable pub moments : (config : Config) (rules : Rules) (w : Cluster) (log : List OpenCall) (r : Lines) (marks : AllMarks) (steps : List Step) → ReadingsRun config rules w log r marks steps → ℕ → ℕ → List ℕ → List Later
moments config rules w log r marks [] p g db key = []
moments config rules w log r marks (s ∷ steps) p g db key = let run = ran_one config rules w log s in
    record { was_removed = is_removed r g db key run.trace; moment = moment_of p.0 p.1 g db key } ∷ moments config rules run.cluster run.log p.0 p.1 steps p.8 g db key

-- the moments of each record of a line that was born come one of the other
abbrev pub MomentsComeOn : Type 0
MomentsComeOn = (config : Config) (rules : Rules) (w : Cluster) (log : List OpenCall) (r : Lines) (marks : AllMarks) (steps : List Step) (p : ReadingsRun config rules w log r marks steps) (g db : ℕ) (key : List ℕ) → r.born g ≡ true →
    ComesOn (moment_of r marks g db key) (moments config rules w log r marks steps p g db key)
