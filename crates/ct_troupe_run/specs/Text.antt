-- What the text of a run is that journals tell.
use Rattle.std.specs.Prelude.{◌≡◌, ◌⊎◌, ℕ, List, [], length}
use Rattle.ct_values.specs.declared.config.Config.{Config}
use Rattle.ct_call.specs.Rules.{Rules}
use Rattle.ct_script.specs.declared.plan.Plan.{Plan}
use Rattle.ct_rules_config.specs.Configured.{IsConfig}
use Rattle.ct_rules_cluster.specs.Cluster.{opening}
use Rattle.ct_rules_cluster.specs.Traces.{Ran, ran}
use Rattle.ct_rules_cluster.specs.declared.step.Step.{Step}
use Rattle.ct_journal.specs.Order.{AreInOrder}
use Rattle.ct_journal.specs.Schedules.{IsSchedule}
use Rattle.ct_journal.specs.declared.journal.Journal.{Journal}
use Rattle.ct_promise.specs.Marked.{MarksRun, no_marks}
use Rattle.ct_promise.specs.Promises.{Keeps}
use Rattle.ct_register.specs.Lines as lines
use Rattle.ct_schedule_text.specs.Schedule.{run_text}
use Rattle.ct_schedule_text.specs.Telling.{AreUntold}
use Rattle.ct_troupe.specs.Played.{ArePlayed}

-- the run of these steps, taken one after the other from the opening
abbrev pub run_of : Config → Rules → List Step → Ran
run_of c rules steps = ran c rules (opening c) [] steps

-- Some databases and addresses make the configuration, so each phrase of the law holds of the run of these steps. The registers
-- accept all that it told, from the opening on, and its cluster stands for them; step by step marks hold and go on.
abbrev pub StepsKeepPromise : Config → Rules → List Step → Type 0
StepsKeepPromise c rules steps = IsConfig c × Keeps c rules (run_of c rules steps) × MarksRun c rules (opening c) [] (lines.opening c) (λ g. no_marks) steps

-- Journals are in no order, or not all of their lines are told in one
abbrev pub AreUntoldInOrder : List Journal → Type 0
AreUntoldInOrder js = (AreInOrder js → ⊥) ⊎ ((o : AreInOrder js) × AreUntold js o.order)

-- Plays: journals are those of a plan, and a text is that of the run of a schedule of them, which keeps the promise and sent so
-- many messages
pub record IsRunText (rules : Rules) (p : Plan) (js : List Journal) (text : List ℕ) (frames : ℕ) : Type 0 where
  pub played : ArePlayed rules p js
  pub steps : List Step
  pub schedule : IsSchedule p.config rules js steps
  pub promised : StepsKeepPromise p.config rules steps
  pub told : text ≡ run_text p.config (run_of p.config rules steps)
  pub sent : frames ≡ length (run_of p.config rules steps).cluster.sent
