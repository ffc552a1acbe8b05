-- The moments of one record through a run come one of the other.
use Rattle.std.proofs.Common.{◌≡◌, ℕ, true, List, [], ◌∷◌}
use Rattle.ct_values.specs.declared.config.Config.{Config}
use Rattle.ct_call.specs.Rules.{Rules}
use Rattle.ct_rules_cluster.specs.Cluster.{Cluster}
use Rattle.ct_rules_cluster.specs.Traces.{OpenCall, ran_one}
use Rattle.ct_rules_cluster.specs.declared.step.Step.{Step}
use Rattle.ct_register.specs.Lines.{Lines}
use Rattle.ct_promise.specs.Marked.{AllMarks}
use Rattle.ct_law_readings.specs.Readings.{ReadingsRun}
use Rattle.ct_law_readings.specs.Greatest.{ComesOn}
use Rattle.ct_law_readings.specs.Moments.{moment_of, moments, MomentsComeOn}
use Rattle.ct_law_readings.proofs.Versions.{born_stays}

comes_on : (config : Config) (rules : Rules) (w : Cluster) (log : List OpenCall) (r : Lines) (marks : AllMarks) (steps : List Step) (p : ReadingsRun config rules w log r marks steps) (g db : ℕ) (key : List ℕ) → r.born g ≡ true →
    ComesOn (moment_of r marks g db key) (moments config rules w log r marks steps p g db key)
unfolding ComesOn moments
comes_on config rules w log r marks [] p g db key born = tt
comes_on config rules w log r marks (s ∷ steps) p g db key born =
    let run = ran_one config rules w log s in
    let still = born_stays config rules g run.trace r p.0 p.2 born in (
      p.6 g born db key,
      p.7 g db key born,
      (p.5 g).marked db key still,
      comes_on config rules run.cluster run.log p.0 p.1 steps p.8 g db key still,
    )

pub moments_come_on : MomentsComeOn
moments_come_on = comes_on
