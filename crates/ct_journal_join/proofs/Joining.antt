-- Steps of journals in order.
use Rattle.std.proofs.Common.{◌≡◌, ℕ, ◌+◌, ◌^◌, ◌<◌, List, length, sym}
use Rattle.ct_values.specs.declared.config.Config.{Config}
use Rattle.ct_call.specs.Rules.{Rules}
use Rattle.ct_rules_cluster.specs.declared.step.Step.{Step}
use Rattle.ct_journal_join.specs.Joining.{SchedulesRuns}
use Rattle.ct_journal.specs.Order.{AreInOrder, all_entries, count_sent}
use Rattle.ct_journal.specs.Schedules.{IsSchedule}
use Rattle.ct_journal.specs.declared.journal.Journal.{Journal}
use Rattle.ct_law_journal_schedule.specs.Laws.{AreRuns}
use Rattle.ct_journal_order.specs.Order.{IsOrderOf}

pub few_of : (js : List Journal) (ns : List ℕ) → IsOrderOf js ns → length (all_entries js) + count_sent (all_entries js) < 2 ^ 61
few_of js ns o = o.in_order.few

pub joins : (js : List Journal) (ns : List ℕ) (ss : List Step) → IsOrderOf js ns → ((c : Config) (rules : Rules) → AreRuns c rules js → (x : AreInOrder js) → x.order ≡ ns → IsSchedule c rules js ss) → AreInOrder js × SchedulesRuns js ss
joins js ns ss o made = (o.in_order, λ c rules runs. made c rules runs o.in_order (sym o.same))
