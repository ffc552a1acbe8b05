-- Every run reaches a cluster that lives, over registers that accept what it tells.
use Rattle.std.proofs.Common.{List, [], ◌∷◌, sym, subst}
use Rattle.ct_values.specs.declared.config.Config.{Config}
use Rattle.ct_call.specs.Rules.{Rules}
use Rattle.ct_rules_cluster.specs.Cluster.{Cluster, opening}
use Rattle.ct_law_generation.specs.Waiting.{Outcome, outcome_of}
use Rattle.ct_law_generation.proofs.CallsOpen.{Calls}
use Rattle.ct_law_generation.proofs.CallsTold.{by_log}
use Rattle.ct_law_generation.proofs.CallsRun.{one_logs, opened_calls}
use Rattle.ct_promise.specs.Marked.{AllMarks}
use Rattle.ct_rules_cluster.specs.Traces.{OpenCall, ran_one}
use Rattle.ct_rules_cluster.specs.declared.step.Step.{Step}
use Rattle.ct_register.specs.Lines
use Rattle.ct_promise.specs.Promises.{IsConfig}
use Rattle.ct_law_generation.proofs.AtHome.{AllAtHome, step_home}
use Rattle.ct_law_run.proofs.Lives.{Lives}
use Rattle.ct_law_run.proofs.Faces.{After, StepLives, marks_in_all}
use Rattle.ct_law_run.proofs.Lined.{lives_stand, generations_stand}
use Rattle.ct_law_run.proofs.Opened.{opened_lives}
use Rattle.ct_law_run.proofs.Ending.{all_home, entries_home}
use Rattle.ct_law_promise.specs.Merges.{LeadsWith, AfterAll, MergesAsBorn, NothingSeenIsLost, NothingVacuumedReturns, EachMerges, EachKeeps, EachMarks, body_at}
use Rattle.ct_law_promise.proofs.Merging.{merges_so, seen_kept}

-- what holds of every cluster that lives holds wherever steps lead
leads : StepLives → (c : Config) (rules : Rules) (P : Cluster → Lines.Lines → AllMarks → Type 0) → ((w : Cluster) (r : Lines.Lines) (h : Lives c rules w r) → P w r (marks_in_all h.ages)) → (steps : List Step) (w : Cluster) (log : List OpenCall) (r : Lines.Lines) (h : Lives c rules w r) →
    AllAtHome w → Calls c w (by_log log) → IsConfig c → LeadsWith c rules P w log r (marks_in_all h.ages) steps
unfolding LeadsWith
leads on c rules P so [] w log r h home calls is = (let both = lives_stand c rules w r h (entries_home w home) in (both.0, generations_stand c rules w r h, both.1, so w r h))
leads on c rules P so (s ∷ steps) w log r h home calls is =
    let run = ran_one c rules w log s in
    let l = one_logs c rules w log s calls in
    let k : After c rules r h.ages (outcome_of run) = subst (λ (o : Outcome). After c rules r h.ages o) (sym l.same) (on c rules w r h s is) in
    let there : AllAtHome run.cluster = subst (λ (o : Outcome). AllAtHome o.cluster) (sym l.same) (step_home c rules w s home) in
    (k.lines, marks_in_all k.lives.ages, k.accepts, k.marks, leads on c rules P so steps run.cluster run.log k.lines k.lives there l.calls is)

after_all : StepLives → (P : Config → Rules → Cluster → Lines.Lines → AllMarks → Type 0) → ((c : Config) (rules : Rules) (w : Cluster) (r : Lines.Lines) (h : Lives c rules w r) → P c rules w r (marks_in_all h.ages)) → AfterAll P
after_all on P so c rules steps is =
    let o = opened_lives c rules is in
    subst (λ (marks : AllMarks). LeadsWith c rules (P c rules) (opening c) [] (Lines.opening c) marks steps) o.1 (leads on c rules (P c rules) (so c rules) steps (opening c) [] (Lines.opening c) o.0 (all_home c rules) (opened_calls c) is)

pub merges_as_born : StepLives → MergesAsBorn
merges_as_born on = after_all on EachMerges (λ c rules w r h n members f k. merges_so c rules w r h n members f k)

pub nothing_seen_is_lost : StepLives → NothingSeenIsLost
nothing_seen_is_lost on = after_all on EachKeeps (λ c rules w r h n members f k. seen_kept c rules w r (marks_in_all h.ages) n members f (body_at c w n members f k) (merges_so c rules w r h n members f k))

pub nothing_vacuumed_returns : StepLives → NothingVacuumedReturns
nothing_vacuumed_returns on = after_all on EachMarks (λ c rules w r h n members f k. (merges_so c rules w r h n members f k).marked)
