-- What a join of journals answers.
use Rattle.std.specs.Prelude.{List, Result, Ok, Err, Vec}
use Rattle.std.specs.declared.alloc.Global.{Global}
use Rattle.ct_values.specs.declared.config.Config.{Config}
use Rattle.ct_call.specs.Rules.{Rules}
use Rattle.ct_rules_cluster.specs.declared.step.Step.{Step}
use Rattle.ct_journal.specs.Order.{AreInOrder}
use Rattle.ct_journal.specs.Schedules.{IsSchedule}
use Rattle.ct_journal.specs.declared.journal.Journal.{Journal}
use Rattle.ct_law_journal_schedule.specs.Laws.{AreRuns}
use Rattle.ct_journal_join.specs.declared.join.InOrderFault.{InOrderFault}
use Rattle.ct_journal_join.specs.declared.join.InOrderFault.TheVariants.{NotInOrder, NoMemory}

-- Schedules: whatever the configuration and the rules by which the journals are runs, the steps are a schedule of them
abbrev pub SchedulesRuns : List Journal → List Step → Type 0
SchedulesRuns js ss = (c : Config) (rules : Rules) → AreRuns c rules js → IsSchedule c rules js ss

-- Schedules: journals are joined exactly where they are in order
abbrev pub Joins : Result (Vec Step Global) InOrderFault → List Journal → Type 0
Joins (Ok steps) js = AreInOrder js × SchedulesRuns js steps.items
Joins (Err NotInOrder) js = AreInOrder js → ⊥
Joins (Err NoMemory) js = Unit {0}
