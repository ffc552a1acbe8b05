-- What follows where nodes follow their scripts.
use Rattle.std.specs.Prelude.{◌≡◌, ℕ, ◌<◌, ◌≤◌, ◌^◌, ◌⊎◌, nat_lt, true, List, [], ◌∷◌, ◌++◌, length, None}
use Rattle.ct_values.specs.declared.client.ClientOp.{ClientOp}
use Rattle.ct_values.specs.declared.config.Config.{Config}
use Rattle.ct_call.specs.Rules.{Rules}
use Rattle.ct_rules_cluster.specs.Cluster.{everyone}
use Rattle.ct_frame.specs.Fields.{ascends}
use Rattle.ct_frame.specs.declared.event.Event.TheVariants as event
use Rattle.ct_script.specs.declared.plan.PlanItem.{PlanItem}
use Rattle.ct_script.specs.Cues.{IsScripted, cue_after, first_cue, greatest_call, most_entries, next_item}
use Rattle.ct_script.specs.declared.cue.Cue.{Cue}
use Rattle.ct_journal.specs.Order.{numbers_of_calls}
use Rattle.ct_journal.specs.Runs.{IsRun}
use Rattle.ct_journal.specs.declared.journal.JournalEntry.{JournalEntry}
use Rattle.ct_law_journal_growing.specs.Following.{Follows, TakesNext}
use Rattle.ct_rules_node.specs.Coming.{is_after_pending}
use Rattle.ct_rules_node.specs.Node.{Node, opening}
use Rattle.ct_rules_node.specs.Steps.{stepped}

-- Calls: a call may come to a node where its number is greater than that of each call in its journal
abbrev pub CallsMayCome : Type 0
CallsMayCome = (c : Config) (rules : Rules) (me : ℕ) (xs : List JournalEntry) (end : Node) (call : ℕ) →
    IsRun c rules me (opening c (everyone c)) xs end → greatest_call xs < call → is_after_pending call end ≡ true

-- Calls: one with a number from 2^62 on is refused
abbrev pub CallsRunOut : Type 0
CallsRunOut = (c : Config) (rules : Rules) (me call : ℕ) (o : ClientOp) (x : Node) → 2 ^ 62 ≤ call → stepped c rules me (event.Client call o) x ≡ None

-- Scripts: a node that has taken nothing follows its script
abbrev pub FollowsFirst : Type 0
FollowsFirst = (script : List PlanItem) (before : List JournalEntry) → Follows script before [] (first_cue before)

-- Scripts: it still follows its script once it has taken what it may take next
abbrev pub FollowsOn : Type 0
FollowsOn = (script : List PlanItem) (before since : List JournalEntry) (cue : Cue) (x : JournalEntry) →
    Follows script before since cue → TakesNext script cue x.event → Follows script before (since ++ x ∷ []) (cue_after x cue)

-- Scripts: no call of its journal has a greater number than that of its cue
abbrev pub FollowsCalls : Type 0
FollowsCalls = (script : List PlanItem) (before since : List JournalEntry) (cue : Cue) → Follows script before since cue → greatest_call (before ++ since) ≤ cue.calls

-- Scripts: the numbers of its calls rise, where it follows the script from its opening on
abbrev pub FollowsRising : Type 0
FollowsRising = (script : List PlanItem) (entries : List JournalEntry) (cue : Cue) → Follows script [] entries cue → ascends nat_lt (numbers_of_calls entries) ≡ true

-- Scripts: it has followed its script where no item may be taken next, or the journal has 1,000,000 entries
abbrev pub EndsScripted : Type 0
EndsScripted = (script : List PlanItem) (entries : List JournalEntry) (cue : Cue) → Follows script [] entries cue → ((next_item script cue ≡ None) ⊎ (most_entries ≤ length entries)) → IsScripted script entries
