-- What is promised of records follows from their law step by step.
use Rattle.std.proofs.Common.{List, [], ◌∷◌, refl, sym, subst}
use Rattle.ct_values.specs.declared.config.Config.{Config}
use Rattle.ct_call.specs.Rules.{Rules}
use Rattle.ct_rules_cluster.specs.Cluster.{Cluster}
use Rattle.ct_rules_cluster.specs.Labels.{Label}
use Rattle.ct_rules_cluster.specs.Traces
use Rattle.ct_rules_cluster.specs.Traces.{OpenCall, ran, ran_one}
use Rattle.ct_rules_cluster.specs.declared.step.Step.{Step}
use Rattle.ct_register.specs.Lines.{Lines}
use Rattle.ct_register.specs.Legal.{AcceptsLabels}
use Rattle.ct_register.specs.Stands.{RecordsStand}
use Rattle.ct_register.proofs.Opened.{opening_records_stand}
use Rattle.ct_promise.specs.Promises.{CallsStand}
use Rattle.ct_promise.specs.Generation.{speaks_of_records}
use Rattle.ct_promise.specs.Marked.{AllMarks}
use Rattle.ct_promise.proofs.Follows.{both_accepted, filter_more}
use Rattle.ct_promise.proofs.Opened.{opening_calls}
use Rattle.ct_law_run.proofs.Lined.{generations_stand}
use Rattle.ct_law_run.proofs.Opened.{opened_lives}
use Rattle.ct_law_run.specs.Records.{GenerationsStand, RecordsMarked, KeepsLines, LawOfRecords, PromiseOfRecords}

records_kept : (config : Config) (rules : Rules) (steps : List Step) (w : Cluster) (log : List OpenCall) (r : Lines) (marks : AllMarks) → RecordsMarked config rules w log r marks steps → RecordsStand w r → GenerationsStand w r → CallsStand w log →
    KeepsLines config rules r (ran config rules w log steps)
unfolding RecordsMarked Traces.ran Traces.after Traces.idle
records_kept config rules [] w log r marks m stands generations calls = (r, refl, stands, generations, calls)
records_kept config rules (step ∷ steps) w log r marks m stands generations calls =
    let rest = records_kept config rules steps _ _ m.0 m.1 m.8 m.3 m.4 m.5 in (
      rest.0,
      subst (λ (l : List Label). AcceptsLabels config rules r l rest.0) (sym (filter_more (speaks_of_records config) (ran_one config rules w log step).trace _)) (both_accepted config rules _ _ r m.0 rest.0 m.2 rest.1),
      rest.2,
      rest.3,
      rest.4,
    )

pub records_follow : LawOfRecords → PromiseOfRecords
records_follow law config rules steps is =
    let first = generations_stand config rules _ _ (opened_lives config rules is).0 in records_kept config rules steps _ _ _ _ (law config rules steps is) (opening_records_stand config) first (opening_calls config)
