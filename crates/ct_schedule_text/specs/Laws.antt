-- Lines that are told from journals alone.
use Rattle.std.specs.Prelude.{◌≡◌, ℕ, List, [], length, None, Some}
use Rattle.ct_values.specs.declared.config.Config.{Config}
use Rattle.ct_call.specs.Rules.{Rules}
use Rattle.ct_rules_cluster.specs.Cluster.{opening}
use Rattle.ct_rules_cluster.specs.Traces.{Ran, asked_in, ran}
use Rattle.ct_journal.specs.Order.{AreInOrder}
use Rattle.ct_journal.specs.declared.journal.Journal.{Journal}
use Rattle.ct_law_journal_schedule.specs.Laws.{AreRuns}
use Rattle.ct_law_journal_schedule.specs.Scheduling.{schedule_of}
use Rattle.ct_schedule_text.specs.Telling.{ToldLines, first_telling, told_from}

-- these are the lines of a run, and its messages are counted; it has no open call where none is told to be open
pub record TellsRun (u : ToldLines) (r : Ran) : Type 0 where
  pub lines : r.lines ≡ u.lines
  pub sent : length r.cluster.sent ≡ u.telling.sent
  pub closed : u.telling.calls ≡ [] → (call : ℕ) → asked_in call r.log ≡ None

-- Lines: those that are told of journals that are runs and are in order are those of their schedule
abbrev pub LinesAreThoseOfTheRun : Type 0
LinesAreThoseOfTheRun = (c : Config) (rules : Rules) (js : List Journal) → AreRuns c rules js → (o : AreInOrder js) → (u : ToldLines) → told_from js o.order (first_telling js) ≡ Some u
    → TellsRun u (ran c rules (opening c) [] (schedule_of js o.order))
