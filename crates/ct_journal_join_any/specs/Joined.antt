-- What the join of journals that are runs answers.
use Rattle.std.specs.Prelude.{List, Result, Ok, Err, Vec}
use Rattle.std.specs.declared.alloc.Global.{Global}
use Rattle.ct_values.specs.declared.config.Config.{Config}
use Rattle.ct_call.specs.Rules.{Rules}
use Rattle.ct_rules_cluster.specs.declared.step.Step.{Step}
use Rattle.ct_journal.specs.Order.{AreInOrder}
use Rattle.ct_journal.specs.Schedules.{IsSchedule}
use Rattle.ct_journal.specs.declared.journal.Journal.{Journal}
use Rattle.ct_law_journal_reach.specs.Counts.{AreGreatest}
use Rattle.ct_journal_join_any.specs.declared.joined.JoinFault.{JoinFault}
use Rattle.ct_journal_join_any.specs.declared.joined.JoinFault.TheVariants.{Stuck, NoMemory}

-- Schedules: of journals that are runs, the steps are a schedule; or they have none, these are the greatest counts of entries that
-- a schedule makes, and the journals are not in order; or memory was wanting
abbrev pub JoinsRuns : Config → Rules → List Journal → Result (Vec Step Global) JoinFault → Type 0
JoinsRuns c rules js (Ok steps) = IsSchedule c rules js steps.items
JoinsRuns c rules js (Err (Stuck counts)) = AreGreatest c rules js counts × ((ss : List Step) → IsSchedule c rules js ss → ⊥) × (AreInOrder js → ⊥)
JoinsRuns c rules js (Err NoMemory) = Unit {0}
