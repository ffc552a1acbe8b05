-- The law of marks and the promise, whole: of every list of steps.
use Rattle.std.proofs.Common.{◌≡◌, ℕ, List, [], ◌∷◌, refl, sym, ap, ◌∙◌, subst}
use Rattle.ct_values.specs.declared.config.Config.{Config}
use Rattle.ct_call.specs.Rules.{Rules}
use Rattle.ct_rules_cluster.specs.Cluster.{Cluster, opening}
use Rattle.ct_rules_cluster.specs.Traces.{OpenCall, ran_one}
use Rattle.ct_rules_cluster.specs.declared.step.Step.{Step}
use Rattle.ct_register.specs.Lines
use Rattle.ct_register.specs.Lines.{Lines}
use Rattle.ct_promise.specs.Promises.{IsConfig, Promise}
use Rattle.ct_promise.specs.Marked.{AllMarks, MarksRun, LawOfMarks}
use Rattle.ct_promise.proofs.Follows.{promise_follows}
use Rattle.ct_law_generation.specs.Waiting.{Outcome, outcome_of}
use Rattle.ct_law_generation.proofs.CallsOpen.{Calls}
use Rattle.ct_law_generation.proofs.CallsTold.{by_log, calls_stand}
use Rattle.ct_law_generation.proofs.CallsRun.{one_logs}
use Rattle.ct_law_run.proofs.Lives.{Lives}
use Rattle.ct_law_run.proofs.Faces.{marks_in_all}
use Rattle.ct_law_run.proofs.Opened.{opened_lives}
use Rattle.ct_law_registers.proofs.Parts.{goes_on}
use Rattle.ct_law_databases.proofs.Placeless.{but_same}
use Rattle.ct_law_promise.proofs.Whole.{Whole, marks_but, opened_whole}
use Rattle.ct_law_promise.proofs.Stepping.{marks_same}
use Rattle.ct_law_promise.proofs.Together.{Placed, Stepped_all, stands_whole, step_all, opened_placed}

-- step by step
marks_run : (c : Config) (rules : Rules) (steps : List Step) (w : Cluster) (log : List OpenCall) (r t : Lines) (lives : Lives c rules w t) → Whole c rules w log r t lives → Placed c w r → IsConfig c → MarksRun c rules w log r (marks_in_all lives.ages) steps
unfolding MarksRun
marks_run c rules [] w log r t lives h p is = tt
marks_run c rules (s ∷ steps) w log r t lives h p is =
    let run = ran_one c rules w log s in
    let l = one_logs c rules w log s h.calls in
    let a : Stepped_all c rules w r t lives (outcome_of run) run.log = subst (λ (o : Outcome). Stepped_all c rules w r t lives o run.log) (sym l.same)
    (step_all c rules w log r t lives h p is s run.log (subst (λ (o : Outcome). Calls c o.cluster (by_log run.log)) l.same l.calls)) in
    let st = a.stepped in
    let next : Lines = goes_on c st.choice run.trace r in (
      next,
      marks_in_all st.then.ages,
      a.accepts,
      stands_whole c rules run.cluster run.log next st.lines st.then st.whole a.placed is,
      calls_stand c run.cluster run.log l.calls,
      marks_but c rules run.cluster run.log next st.lines st.then st.whole next (but_same next),
      marks_same r t run.trace (marks_in_all lives.ages) (marks_in_all st.then.ages) (ap (λ (y : Lines). y.line) h.like) (ap (λ (y : Lines). y.born) h.like) st.marks,
      marks_run c rules steps run.cluster run.log next st.lines st.then st.whole a.placed is,
    )

pub law_of_marks : LawOfMarks
law_of_marks config rules steps is =
    let o = opened_lives config rules is in
    subst (λ (marks : AllMarks). MarksRun config rules (opening config) [] (Lines.opening config) marks steps) o.1
    (marks_run config rules steps (opening config) [] (Lines.opening config) (Lines.opening config) o.0 (opened_whole config rules is) (opened_placed config) is)

pub promise : Promise
promise = promise_follows law_of_marks
