-- A commit that waits keeps its lock, in every run.
use Rattle.std.proofs.Common.{◌≡◌, ℕ, List, [], ◌∷◌, ◌++◌, refl, sym, subst}
use Rattle.ct_values.specs.declared.config.Config.{Config}
use Rattle.ct_call.specs.Rules.{Rules}
use Rattle.ct_rules_cluster.specs.Cluster.{Cluster, opening}
use Rattle.ct_rules_cluster.specs.Labels.{Label}
use Rattle.ct_rules_cluster.specs.Traces
use Rattle.ct_rules_cluster.specs.Traces.{OpenCall, ran, ran_one}
use Rattle.ct_rules_cluster.specs.declared.step.Step.{Step}
use Rattle.ct_register.specs.Legal.{AcceptsLabels}
use Rattle.ct_register.specs.Lines
use Rattle.ct_register.specs.Lines.{Lines}
use Rattle.ct_promise.specs.Promises.{IsConfig}
use Rattle.ct_law_generation.specs.Waiting.{Outcome, outcome_of}
use Rattle.ct_law_generation.proofs.CallsOpen.{Calls}
use Rattle.ct_law_generation.proofs.CallsTold.{by_log}
use Rattle.ct_law_generation.proofs.CallsRun.{one_logs}
use Rattle.ct_law_run.proofs.Lives.{Lives}
use Rattle.ct_law_run.proofs.Opened.{opened_lives}
use Rattle.ct_law_registers.specs.Locks.{KeepsCommits}
use Rattle.ct_law_registers.proofs.Parts.{goes_on}
use Rattle.ct_law_promise.proofs.Whole.{Whole, opened_whole}
use Rattle.ct_law_promise.proofs.Together.{AcceptsKept, Placed, Stepped_all, step_all, opened_placed}
use Rattle.ct_law_promise.specs.Phrases.{CommitsKeepLocks}

-- some labels, and then others
both_kept : (c : Config) (rules : Rules) (front back : List Label) (r s t : Lines) → AcceptsKept c rules r front s → AcceptsKept c rules s back t → AcceptsKept c rules r (front ++ back) t
both_kept c rules [] back r s t a b = subst (λ (q : Lines). AcceptsKept c rules q back t) a b
both_kept c rules (label ∷ front) back r s t a b = (a.0, a.1, a.2, both_kept c rules front back a.0 s t a.3 b)

kept_run : (c : Config) (rules : Rules) (steps : List Step) (w : Cluster) (log : List OpenCall) (r t : Lines) (lives : Lives c rules w t) → Whole c rules w log r t lives → Placed c w r → IsConfig c → (s : Lines) × AcceptsKept c rules r (ran c rules w log steps).trace s
unfolding Traces.ran Traces.after Traces.idle
kept_run c rules [] w log r t lives h p is = (r, refl)
kept_run c rules (s ∷ steps) w log r t lives h p is =
    let run = ran_one c rules w log s in
    let l = one_logs c rules w log s h.calls in
    let a : Stepped_all c rules w r t lives (outcome_of run) run.log = subst (λ (o : Outcome). Stepped_all c rules w r t lives o run.log) (sym l.same)
    (step_all c rules w log r t lives h p is s run.log (subst (λ (o : Outcome). Calls c o.cluster (by_log run.log)) l.same l.calls)) in
    let st = a.stepped in
    let next : Lines = goes_on c st.choice run.trace r in
    let rest = kept_run c rules steps run.cluster run.log next st.lines st.then st.whole a.placed is in
    (rest.0, both_kept c rules run.trace (ran c rules run.cluster run.log steps).trace r next rest.0 a.kept rest.1)

-- what was told before a label, and the label
kept_at : (c : Config) (rules : Rules) (before after : List Label) (label : Label) (r s : Lines) → AcceptsKept c rules r (before ++ label ∷ after) s → (mid : Lines) × AcceptsLabels c rules r before mid × KeepsCommits c mid label
kept_at c rules [] after label r s h = (r, refl, h.2)
kept_at c rules (first ∷ before) after label r s h = let k = kept_at c rules before after label h.0 s h.3 in (k.0, (h.0, h.1, k.1), k.2)

pub commits_keep_locks : CommitsKeepLocks
commits_keep_locks config rules steps is before after label split =
    let o = opened_lives config rules is in
    let k = kept_run config rules steps (opening config) [] (Lines.opening config) (Lines.opening config) o.0 (opened_whole config rules is) (opened_placed config) is in
    kept_at config rules before after label (Lines.opening config) k.0 (subst (λ (labels : List Label). AcceptsKept config rules (Lines.opening config) labels k.0) split k.1)
