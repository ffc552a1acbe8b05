-- The law of records and of persistent databases through every list of steps, and the promise that follows from it.
use Rattle.std.proofs.Common.{◌≡◌, ℕ, List, [], ◌∷◌, refl, sym, ap, ◌∙◌, subst}
use Rattle.ct_values.specs.declared.config.Config.{Config}
use Rattle.ct_call.specs.Rules.{Rules}
use Rattle.std.specs.Prelude.{not}
use Rattle.ct_rules_cluster.specs.Cluster.{Cluster, opening}
use Rattle.ct_rules_cluster.specs.Labels.{Label}
use Rattle.ct_rules_cluster.specs.Traces
use Rattle.ct_rules_cluster.specs.Traces.{OpenCall, ran, ran_one}
use Rattle.ct_rules_cluster.specs.declared.step.Step.{Step}
use Rattle.ct_register.specs.Legal.{AcceptsLabels}
use Rattle.ct_register.specs.Lines
use Rattle.ct_register.specs.Lines.{Lines}
use Rattle.ct_promise.specs.Promises.{IsConfig, CallsStand}
use Rattle.ct_promise.specs.Marked.{AllMarks}
use Rattle.ct_promise.proofs.Follows.{both_accepted, filter_more}
use Rattle.ct_promise.proofs.Opened.{opening_calls}
use Rattle.ct_law_generation.specs.Waiting.{Outcome, outcome_of}
use Rattle.ct_law_generation.proofs.CallsOpen.{Calls}
use Rattle.ct_law_generation.proofs.CallsTold.{by_log, calls_stand}
use Rattle.ct_law_generation.proofs.CallsRun.{one_logs}
use Rattle.ct_law_run.proofs.Lives.{Lives}
use Rattle.ct_law_run.proofs.Faces.{marks_in_all}
use Rattle.ct_law_run.proofs.Opened.{opened_lives}
use Rattle.ct_law_databases.specs.Placeless.{speaks_of_places, placeless}
use Rattle.ct_law_databases.proofs.Placeless.{IsBut, but_same, placeless_accept}
use Rattle.ct_law_promise.specs.Databases.{DatabasesStand, DatabasesMarked, LawOfDatabases, KeepsDatabases, PromiseOfDatabases}
use Rattle.ct_law_promise.proofs.Whole.{Whole, stands_but, marks_but, opened_whole}
use Rattle.ct_law_promise.proofs.Stepping.{Stepped_whole, marks_same, step_whole}

-- step by step, from registers z that accept all but what is told of addresses
databases_run : (c : Config) (rules : Rules) (steps : List Step) (w : Cluster) (log : List OpenCall) (r t : Lines) (lives : Lives c rules w t) → Whole c rules w log r t lives → (z : Lines) → IsBut z r → IsConfig c →
    DatabasesMarked c rules w log z (marks_in_all lives.ages) steps
unfolding DatabasesMarked
databases_run c rules [] w log r t lives h z but is = tt
databases_run c rules (s ∷ steps) w log r t lives h z but is =
    let run = ran_one c rules w log s in
    let l = one_logs c rules w log s h.calls in
    let st : Stepped_whole c rules w r t lives (outcome_of run) run.log = subst (λ (o : Outcome). Stepped_whole c rules w r t lives o run.log) (sym l.same)
    (step_whole c rules w log r t lives h is s run.log (subst (λ (o : Outcome). Calls c o.cluster (by_log run.log)) l.same l.calls)) in
    let a = placeless_accept c rules st.choice run.trace z r but st.records st.databases st.rounds in (
      a.0,
      marks_in_all st.then.ages,
      a.1,
      stands_but c rules run.cluster run.log _ st.lines st.then st.whole a.0 a.2,
      calls_stand c run.cluster run.log l.calls,
      marks_but c rules run.cluster run.log _ st.lines st.then st.whole a.0 a.2,
      marks_same z t run.trace (marks_in_all lives.ages) (marks_in_all st.then.ages)
          (ap (λ (y : Lines). y.line) but ∙ ap (λ (y : Lines). y.line) h.like)
          (ap (λ (y : Lines). y.born) but ∙ ap (λ (y : Lines). y.born) h.like) st.marks,
      databases_run c rules steps run.cluster run.log _ st.lines st.then st.whole a.0 a.2 is,
    )

pub law_of_databases : LawOfDatabases
law_of_databases config rules steps is =
    let o = opened_lives config rules is in
    subst (λ (marks : AllMarks). DatabasesMarked config rules (opening config) [] (Lines.opening config) marks steps) o.1
    (databases_run config rules steps (opening config) [] (Lines.opening config) (Lines.opening config) o.0 (opened_whole config rules is) (Lines.opening config) (but_same (Lines.opening config)) is)

-- ---- the promise

databases_kept : (config : Config) (rules : Rules) (steps : List Step) (w : Cluster) (log : List OpenCall) (r : Lines) (marks : AllMarks) → DatabasesMarked config rules w log r marks steps → DatabasesStand config w r → CallsStand w log →
    KeepsDatabases config rules r (ran config rules w log steps)
unfolding DatabasesMarked Traces.ran Traces.after Traces.idle
databases_kept config rules [] w log r marks m stands calls = (r, refl, stands, calls)
databases_kept config rules (step ∷ steps) w log r marks m stands calls =
    let rest = databases_kept config rules steps _ _ m.0 m.1 m.7 m.3 m.4 in (
      rest.0,
      subst (λ (l : List Label). AcceptsLabels config rules r l rest.0) (sym (filter_more (λ (l : Label). not (speaks_of_places l)) (ran_one config rules w log step).trace _)) (both_accepted config rules _ _ r m.0 rest.0 m.2 rest.1),
      rest.2,
      rest.3,
    )

pub promise_of_databases : PromiseOfDatabases
promise_of_databases config rules steps is =
    let first = stands_but config rules (opening config) [] (Lines.opening config) (Lines.opening config) (opened_lives config rules is).0 (opened_whole config rules is) (Lines.opening config) (but_same (Lines.opening config)) in
    databases_kept config rules steps _ _ _ _ (law_of_databases config rules steps is) first (opening_calls config)
