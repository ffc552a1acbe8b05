-- Journals in order that are runs have a schedule.
use Rattle.std.specs.Prelude.{◌≡◌, ℕ, List, length, Some, slice_get}
use Rattle.ct_values.specs.declared.config.Config.{Config}
use Rattle.ct_call.specs.Rules.{Rules}
use Rattle.ct_rules_node.specs.Node.{Node}
use Rattle.ct_journal.specs.Order.{AreInOrder}
use Rattle.ct_journal.specs.Runs.{RunsTo}
use Rattle.ct_journal.specs.Schedules.{IsSchedule}
use Rattle.ct_journal.specs.declared.journal.Journal.{Journal}
use Rattle.ct_law_journal_schedule.specs.Scheduling.{schedule_of}

-- a journal is a run of node n
pub record IsRunOf (c : Config) (rules : Rules) (n : ℕ) (j : Journal) : Type 0 where
  pub node : j.node ≡ n
  pub end : Node
  pub runs : RunsTo c rules j end

-- journals are runs: each node has one journal, at its own place, which is a run of it
pub record AreRuns (c : Config) (rules : Rules) (js : List Journal) : Type 0 where
  pub count : length js ≡ c.nodes
  pub each : (n : ℕ) (j : Journal) → slice_get js n ≡ Some j → IsRunOf c rules n j

-- Schedules: journals that are runs and are in order have a schedule, and it is made of their order
abbrev pub InOrderIsScheduled : Type 0
InOrderIsScheduled = (c : Config) (rules : Rules) (js : List Journal) → AreRuns c rules js → (x : AreInOrder js) → IsSchedule c rules js (schedule_of js x.order)
