-- The promise follows from the law of marks, and that of one generation from its law step by step.
use Rattle.std.proofs.Common.{◌≡◌, ℕ, Bool, true, false, cond, List, [], ◌∷◌, ◌++◌, refl, sym, ap, subst}
use Rattle.std.specs.List.{filter}
use Rattle.ct_values.specs.declared.config.Config.{Config}
use Rattle.ct_call.specs.Rules.{Rules}
use Rattle.ct_rules_cluster.specs.Cluster.{Cluster}
use Rattle.ct_rules_cluster.specs.Labels.{Label}
use Rattle.ct_rules_cluster.specs.Traces
use Rattle.ct_rules_cluster.specs.Traces.{OpenCall, ran, ran_one}
use Rattle.ct_rules_cluster.specs.declared.step.Step.{Step}
use Rattle.ct_register.specs.Lines.{Lines}
use Rattle.ct_register.specs.Legal.{AcceptsLabels}
use Rattle.ct_register.specs.Stands.{StandsFor, RecordsStand}
use Rattle.ct_register.proofs.Opened.{opening_stands}
use Rattle.ct_promise.specs.Promises.{CallsStand}
use Rattle.ct_promise.specs.Generation.{speaks_of_records, KeepsRecords}
use Rattle.ct_promise.specs.Marked.{AllMarks, LineMarks, MarksRun}
use Rattle.ct_promise.specs.Kept.{RecordsRun}
use Rattle.ct_promise.proofs.Opened.{opening_calls}
use Rattle.ct_promise.specs.Laws.{PromiseFollows, OneGenerationFollows, RowsFollow}

-- some labels are accepted, and then others
pub both_accepted : (config : Config) (rules : Rules) (front back : List Label) (r s t : Lines) → AcceptsLabels config rules r front s → AcceptsLabels config rules s back t → AcceptsLabels config rules r (front ++ back) t
both_accepted config rules [] back r s t a b = subst (λ q. AcceptsLabels config rules q back t) a b
both_accepted config rules (label ∷ front) back r s t a b = (a.0, a.1, both_accepted config rules front back a.0 s t a.2 b)

run_keeps : (config : Config) (rules : Rules) (steps : List Step) (w : Cluster) (log : List OpenCall) (r : Lines) (marks : AllMarks) → MarksRun config rules w log r marks steps → StandsFor config w r → CallsStand w log →
    let run = ran config rules w log steps in (s : Lines) × AcceptsLabels config rules r run.trace s × StandsFor config run.cluster s × CallsStand run.cluster run.log
unfolding MarksRun Traces.ran Traces.after Traces.idle
run_keeps config rules [] w log r marks m stands calls = (r, refl, stands, calls)
run_keeps config rules (step ∷ steps) w log r marks m stands calls =
    let rest = run_keeps config rules steps _ _ m.0 m.1 m.7 m.3 m.4 in (rest.0, both_accepted config rules _ _ r m.0 rest.0 m.2 rest.1, rest.2, rest.3)

pub promise_follows : PromiseFollows
promise_follows law config rules steps is = run_keeps config rules steps _ _ _ _ (law config rules steps is) (opening_stands config) (opening_calls config)

-- ---- one generation

pub filter_more : {X : Type 0} (f : X → Bool) (xs ys : List X) → filter f (xs ++ ys) ≡ filter f xs ++ filter f ys
filter_more f [] ys = refl
filter_more f (x ∷ xs) ys = first (f x) (filter_more f xs ys)
  where
    first : (b : Bool) → filter f (xs ++ ys) ≡ filter f xs ++ filter f ys → cond b (x ∷ filter f (xs ++ ys)) (filter f (xs ++ ys)) ≡ cond b (x ∷ filter f xs) (filter f xs) ++ filter f ys
    first true e = ap (λ (l : List _). x ∷ l) e
    first false e = e

records_kept : (config : Config) (rules : Rules) (g : ℕ) (steps : List Step) (w : Cluster) (log : List OpenCall) (r : Lines) (marks : LineMarks) → RecordsRun config rules g w log r marks steps → RecordsStand w r → CallsStand w log →
    KeepsRecords config rules r (ran config rules w log steps)
unfolding RecordsRun Traces.ran Traces.after Traces.idle
records_kept config rules g [] w log r marks m stands calls = (r, refl, stands, calls)
records_kept config rules g (step ∷ steps) w log r marks m stands calls =
    let q = ran_one config rules w log step in
    let rest = records_kept config rules g steps q.cluster q.log m.0 m.1 m.6 m.3.stand m.4 in (
      rest.0,
      subst (λ (l : List Label). AcceptsLabels config rules r l rest.0) (sym (filter_more (speaks_of_records config) q.trace (ran config rules q.cluster q.log steps).trace)) (both_accepted config rules _ _ r m.0 rest.0 m.2 rest.1),
      rest.2,
      rest.3,
    )

pub one_generation_follows : OneGenerationFollows
one_generation_follows law config rules steps is all = (let h = law config rules steps is all in records_kept config rules 1 steps _ _ _ _ h.2 h.0.stand h.1)

pub rows_follow : RowsFollow
rows_follow law config rules g members row w r steps is born registers all =
    let h = law config rules g members row w r is born registers in
    let k = h.1 steps all in
    records_kept config rules g steps w _ r h.0 k.2 k.0.stand k.1
