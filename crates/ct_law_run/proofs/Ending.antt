-- The law of records follows from what is owed alone: that a cluster lives on through every step.
use Rattle.std.proofs.Common.{List, [], ◌∷◌, sym, subst}
use Rattle.ct_values.specs.declared.config.Config.{Config}
use Rattle.ct_call.specs.Rules.{Rules}
use Rattle.ct_rules_cluster.specs.Cluster.{Cluster, opening}
use Rattle.ct_rules_cluster.specs.Traces.{OpenCall, ran_one}
use Rattle.ct_law_generation.specs.Waiting.{Outcome, outcome_of}
use Rattle.ct_rules_cluster.specs.declared.step.Step.{Step}
use Rattle.ct_register.specs.Lines
use Rattle.ct_promise.specs.Promises.{IsConfig}
use Rattle.ct_promise.specs.Marked.{AllMarks}
use Rattle.ct_law_generation.proofs.Clusters.{all_known}
use Rattle.ct_law_generation.proofs.Opening.{first_era, opened_stays}
use Rattle.ct_law_generation.proofs.AtHome.{AllAtHome, step_home}
use Rattle.ct_law_generation.proofs.Entries.{opening_home}
use Rattle.ct_law_generation.proofs.Pending.{Callers}
use Rattle.ct_values.specs.declared.client.ClientOp.TheVariants as op
use Rattle.ct_law_generation.proofs.CallsOpen.{Calls}
use Rattle.ct_law_generation.proofs.CallsTold.{by_log, calls_stand}
use Rattle.ct_law_generation.proofs.CallsRun.{one_logs, opened_calls}
use Rattle.ct_law_run.specs.Records.{RecordsMarked, LawOfRecords, PromiseOfRecords}
use Rattle.ct_law_run.proofs.Lives.{Lives}
use Rattle.ct_law_run.proofs.Faces.{marks_in_all, EntriesAtHome, After, StepLives}
use Rattle.ct_law_run.proofs.Lined.{lives_stand, generations_stand}
use Rattle.ct_law_run.proofs.Followed.{records_follow}
use Rattle.ct_law_run.proofs.Opened.{opened_lives}

-- a node has entries of records alone whose location master it is
pub entries_home : (w : Cluster) → AllAtHome w → EntriesAtHome w
entries_home w all n db key ne = (all n).entry db key ne

steps_live : StepLives → (c : Config) (rules : Rules) (steps : List Step) (w : Cluster) (log : List OpenCall) (r : Lines.Lines) (h : Lives c rules w r) → AllAtHome w → Calls c w (by_log log) → IsConfig c →
    RecordsMarked c rules w log r (marks_in_all h.ages) steps
unfolding RecordsMarked
steps_live on c rules [] w log r h home calls is = tt
steps_live on c rules (s ∷ steps) w log r h home calls is =
    let run = ran_one c rules w log s in
    let l = one_logs c rules w log s calls in
    let k : After c rules r h.ages (outcome_of run) = subst (λ (o : Outcome). After c rules r h.ages o) (sym l.same) (on c rules w r h s is) in
    let there : AllAtHome run.cluster = subst (λ (o : Outcome). AllAtHome o.cluster) (sym l.same) (step_home c rules w s home) in
    let both = lives_stand c rules run.cluster k.lines k.lives (entries_home run.cluster there) in (
      k.lines,
      marks_in_all k.lives.ages,
      k.accepts,
      both.0,
      generations_stand c rules run.cluster k.lines k.lives,
      calls_stand c run.cluster run.log l.calls,
      both.1,
      k.marks,
      steps_live on c rules steps run.cluster run.log k.lines k.lives there l.calls is,
    )

no_callers : Callers
no_callers call = (0, op.Unlock 0 [])

pub all_home : (c : Config) (rules : Rules) → AllAtHome (opening c)
all_home c rules = opening_home c (λ n. (all_known c (first_era c) rules no_callers (opening c) (opened_stays c rules no_callers) n).order)

pub law_of_records : StepLives → LawOfRecords
law_of_records on config rules steps is =
    let o = opened_lives config rules is in
    subst (λ (marks : AllMarks). RecordsMarked config rules (opening config) [] (Lines.opening config) marks steps) o.1 (steps_live on config rules steps (opening config) [] (Lines.opening config) o.0 (all_home config rules) (opened_calls config) is)

pub promise_of_records : StepLives → PromiseOfRecords
promise_of_records on = records_follow (law_of_records on)
