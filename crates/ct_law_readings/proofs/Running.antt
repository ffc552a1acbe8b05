-- Through every list of steps a step adds one version at most to what was read of a record.
use Rattle.std.proofs.Common.{◌≡◌, ℕ, Bool, true, false, List, [], ◌∷◌, length, refl, subst, inl, inr, ⊎_elim}
use Rattle.std.specs.Prelude.{◌⊎◌}
use Rattle.std.specs.List.{list_any}
use Rattle.std.proofs.lemmas.List.{nil_from_length}
use Rattle.ct_values.specs.declared.config.Config.{Config}
use Rattle.ct_call.specs.Rules.{Rules}
use Rattle.ct_rules_cluster.specs.Cluster.{Cluster, opening}
use Rattle.ct_rules_cluster.specs.Labels.{Label}
use Rattle.ct_rules_cluster.specs.Traces.{OpenCall, ran_one}
use Rattle.ct_rules_cluster.specs.declared.step.Step.{Step}
use Rattle.ct_register.specs.Lines
use Rattle.ct_register.specs.Lines.{Lines}
use Rattle.ct_register.specs.Legal.{AcceptsLabels}
use Rattle.ct_register.specs.Marks.{Mark, Marks, AreMarks, EndsAt, MarksStep}
use Rattle.ct_promise.specs.Marked.{AllMarks, no_marks, MarksHold, is_removed, MarksGoOn, MarksRun}
use Rattle.ct_law_generation.proofs.CallsOpen.{Calls}
use Rattle.ct_law_generation.proofs.CallsTold.{by_log}
use Rattle.ct_law_generation.proofs.CallsRun.{one_logs, opened_calls}
use Rattle.ct_law_promise.proofs.Running.{law_of_marks}
use Rattle.ct_law_readings.specs.Readings.{VersionsStep, VersionsGoOn, ReadingsRun, LawOfReadings}
use Rattle.ct_law_readings.proofs.Versions.{clears, moves, one_added, born_stays}
use Rattle.ct_law_readings.proofs.Turning.{Tells}
use Rattle.ct_law_readings.proofs.Stepping.{ran_tells}

-- ---- a step that removes the record

-- without marks there is no version
unmarked : (vs : List (List ℕ)) (m : Marks) → AreMarks vs m → m.marks ≡ [] → vs ≡ []
unfolding EndsAt
unmarked vs m h e = nil_from_length vs (subst (λ (ms : List Mark). EndsAt (length vs) ms) e h.ends)

-- ---- any step

versions_step : (c : Config) (rules : Rules) (g db : ℕ) (key : List ℕ) (labels : List Label) (r t : Lines) (m n : Marks) (removed : Bool) → is_removed r g db key labels ≡ removed → MarksStep removed m n → AreMarks (t.records g db key).versions n → Tells db key labels →
    AcceptsLabels c rules r labels t → r.born g ≡ true → VersionsStep removed (r.records g db key).versions (t.records g db key).versions
unfolding VersionsStep
versions_step c rules g db key labels r t m n true is step are tells accepts born = unmarked (t.records g db key).versions n are step.0
versions_step c rules g db key labels r t m n false is step are tells accepts born = one_added c rules g db key labels r t accepts born
    (⊎_elim (λ (e : list_any (clears db key) labels ≡ false). inl e) (λ (e : list_any moves labels ≡ false). inr (e, is)) tells.steady) tells.once

versions_go_on : (c : Config) (rules : Rules) (w v : Cluster) (log : List OpenCall) (s : Step) (r t : Lines) (marks after : AllMarks) → let run = ran_one c rules w log s in Calls c w (by_log log) → AcceptsLabels c rules r run.trace t → MarksHold v t after → MarksGoOn r run.trace marks after →
    VersionsGoOn r run.trace t
versions_go_on c rules w v log s r t marks after calls accepts hold on g db key born =
    let trace = (ran_one c rules w log s).trace in
    versions_step c rules g db key trace r t (marks g db key) (after g db key) (is_removed r g db key trace) refl (on g born db key) ((hold g).marked db key (born_stays c rules g trace r t accepts born))
    (ran_tells db key c rules w log s calls) accepts born

-- ---- every list of steps

readings_run : (c : Config) (rules : Rules) (w : Cluster) (log : List OpenCall) (r : Lines) (marks : AllMarks) (steps : List Step) → Calls c w (by_log log) → MarksRun c rules w log r marks steps → ReadingsRun c rules w log r marks steps
unfolding MarksRun
readings_run c rules w log r marks [] calls p = tt
readings_run c rules w log r marks (s ∷ steps) calls p =
    let run = ran_one c rules w log s in (
      p.0,
      p.1,
      p.2,
      p.3,
      p.4,
      p.5,
      p.6,
      versions_go_on c rules w run.cluster log s r p.0 marks p.1 calls p.2 p.5 p.6,
      readings_run c rules run.cluster run.log p.0 p.1 steps (one_logs c rules w log s calls).calls p.7,
    )

pub law_of_readings : LawOfReadings
law_of_readings config rules steps is =
    readings_run config rules (opening config) [] (Lines.opening config) (λ g. no_marks) steps (opened_calls config) (law_of_marks config rules steps is)
