-- Journals that are worked out: a message comes to node 0 that no node sends.
use Rattle.std.specs.Prelude.{List, [], ◌∷◌}
use Rattle.ct_frame.specs.declared.event.Event.TheVariants as event
use Rattle.ct_frame.specs.declared.frame.Frame.{Frame}
use Rattle.ct_frame.specs.declared.frame.Msg.TheVariants as msg
use Rattle.ct_rules_cluster.specs.declared.step.Step.{Step}
use Rattle.ct_journal.specs.Schedules.{IsSchedule}
use Rattle.ct_journal.specs.Worked.{pair_config, told}
use Rattle.ct_journal.specs.declared.journal.Journal.{Journal}
use Rattle.ct_law_journal_schedule.specs.Laws.{AreRuns}
use Rattle.ct_law_journal_reach.specs.Counts.{AreGreatest}

-- node 1 tells node 0 that it is frozen
abbrev pub unsent : Frame
unsent = told 1 0 msg.FreezeAck

-- the journals: node 0 was given that message, and did nothing; node 1 was given nothing
abbrev pub unsent_journals : List Journal
unsent_journals =
    record { node = 0; entries = record { event = event.Arrive unsent; outs = [] } ∷ [] } ∷
    record { node = 1; entries = [] } ∷
    []

-- both journals are runs, no schedule makes any entry of them, and they have none
abbrev pub NoneIsReached : Type 0
NoneIsReached = (AreRuns pair_config [] unsent_journals) × (AreGreatest pair_config [] unsent_journals (0 ∷ 0 ∷ [])) × ((ss : List Step) → IsSchedule pair_config [] unsent_journals ss → ⊥)
