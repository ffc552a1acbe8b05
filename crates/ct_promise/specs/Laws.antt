-- What is shown here of the statements: what follows from what among them, and that nothing is marked at the opening.
use Rattle.ct_values.specs.declared.config.Config.{Config}
use Rattle.ct_rules_cluster.specs.Cluster.{opening}
use Rattle.ct_register.specs.Lines
use Rattle.ct_promise.specs.Promises.{Promise}
use Rattle.ct_promise.specs.Generation.{PromiseOfOneGeneration}
use Rattle.ct_promise.specs.Born.{PromiseFromRows}
use Rattle.ct_promise.specs.Kept.{LawOfOneGeneration, LawFromRows}
use Rattle.ct_promise.specs.Marked.{MarksHold, LawOfMarks, no_marks}

-- at the opening nothing is marked, and that holds
abbrev pub OpeningIsMarked : Type 0
OpeningIsMarked = (config : Config) → MarksHold (opening config) (Lines.opening config) (λ g. no_marks)

-- what is promised of every run follows from the law of marks, which speaks of the same registers step by step
abbrev pub PromiseFollows : Type 0
PromiseFollows = LawOfMarks → Promise

-- what is promised of records in one generation follows from its law step by step
abbrev pub OneGenerationFollows : Type 0
OneGenerationFollows = LawOfOneGeneration → PromiseOfOneGeneration

-- so it does in a generation that began with rows
abbrev pub RowsFollow : Type 0
RowsFollow = LawFromRows → PromiseFromRows
