-- How far a schedule of the first entries of journals can reach, where the journals are runs.
use Rattle.std.specs.Prelude.{◌≡◌, ℕ, ◌<◌, List, [], ◌++◌, length, Some}
use Rattle.ct_values.specs.declared.config.Config.{Config}
use Rattle.ct_call.specs.Rules.{Rules}
use Rattle.ct_rules_cluster.specs.Cluster.{Cluster, opening}
use Rattle.ct_rules_cluster.specs.declared.step.Step.{Step}
use Rattle.ct_journal.specs.Order.{AreInOrder, entries_of}
use Rattle.ct_journal.specs.Schedules.{IsSchedule}
use Rattle.ct_journal.specs.declared.journal.Journal.{Journal}
use Rattle.ct_journal.specs.declared.journal.JournalEntry.{JournalEntry}
use Rattle.ct_law_journal_schedule.specs.Laws.{AreRuns}
use Rattle.ct_law_journal_reach.specs.Counts.{AreAll, AreGreatest, AreNotTooMany, HaveOwnTickets, count_at, entry_after, with_one_more}
use Rattle.ct_law_journal_reach.specs.Making.{HasMade, MayGo, after_steps, no_counts, steps_to_go}

-- Schedules: no steps have made no entries
abbrev pub NoneIsMade : Type 0
NoneIsMade = (c : Config) (rules : Rules) (js : List Journal) → HasMade c rules js [] (opening c) (no_counts js)

-- Schedules: the next entry of a node, where it may be made, is made by the steps for it: the cluster takes each of them
abbrev pub OneMore : Type 0
OneMore = (c : Config) (rules : Rules) (js : List Journal) (ss : List Step) (w : Cluster) (ts : List ℕ) (n k : ℕ) (x : JournalEntry) →
    AreRuns c rules js → AreNotTooMany js → HasMade c rules js ss w ts → entry_after js ts n ≡ Some x → MayGo c js w ts n x.event k →
    (v : Cluster) × (after_steps c rules (Some w) (steps_to_go w n x.event k) ≡ Some v) × (HasMade c rules js (ss ++ steps_to_go w n x.event k) v (with_one_more ts n))

-- no next entry of a node may be made
abbrev pub NoneMayGo : Config → List Journal → Cluster → List ℕ → Type 0
NoneMayGo c js w ts = (n k : ℕ) (x : JournalEntry) → entry_after js ts n ≡ Some x → MayGo c js w ts n x.event k → ⊥

-- Schedules: whoever makes whatever entry may be made ends with the greatest counts
abbrev pub HeldIsGreatest : Type 0
HeldIsGreatest = (c : Config) (rules : Rules) (js : List Journal) (ss : List Step) (w : Cluster) (ts : List ℕ) →
    AreRuns c rules js → AreNotTooMany js → HaveOwnTickets js → HasMade c rules js ss w ts → NoneMayGo c js w ts → AreGreatest c rules js ts

-- Schedules: where counts are those of all entries, steps that make them are a schedule of the journals
abbrev pub AllIsScheduled : Type 0
AllIsScheduled = (c : Config) (rules : Rules) (js : List Journal) (ss : List Step) (w : Cluster) (ts : List ℕ) → HasMade c rules js ss w ts → AreAll js ts → IsSchedule c rules js ss

-- Schedules: where the greatest counts are not those of all entries, the journals have no schedule
abbrev pub LessIsStuck : Type 0
LessIsStuck = (c : Config) (rules : Rules) (js : List Journal) (ss : List Step) (ts : List ℕ) (n : ℕ) →
    AreGreatest c rules js ts → count_at ts n < length (entries_of js n) → IsSchedule c rules js ss → ⊥

-- Schedules: of journals that are runs and are in order, the greatest counts are those of all entries
abbrev pub InOrderIsNeverStuck : Type 0
InOrderIsNeverStuck = (c : Config) (rules : Rules) (js : List Journal) (ts : List ℕ) → AreRuns c rules js → AreInOrder js → AreGreatest c rules js ts → AreAll js ts

-- In order: no ticket stands in two journals
abbrev pub InOrderHaveOwnTickets : Type 0
InOrderHaveOwnTickets = (js : List Journal) → AreInOrder js → HaveOwnTickets js
