-- A node acts: it takes the items of its script and the messages that arrive, one after the other.
use Rattle.std.specs.Prelude.{◌≡◌, ◌+◌, ◌<◌, ◌≤◌, ◌^◌, ◌-◌, List, ◌++◌, length, slice_get, Option, None, Some}
use Rattle.ct_call.specs.Rules.{Rules}
use Rattle.ct_script.specs.Cues.{begun, cue_after, greatest_call}
use Rattle.ct_script.specs.declared.cue.Cue.{Cue}
use Rattle.ct_frame.specs.declared.event.Event.{Event}
use Rattle.ct_script.specs.declared.plan.PlanItem.{PlanItem}
use Rattle.ct_journal.specs.declared.journal.JournalEntry.{JournalEntry}
use Rattle.ct_law_journal_growing.specs.Following.{Follows, TakesNext}
use Rattle.ct_actor.specs.Journalled.{IsRunBy, Journalled}

-- Scripts: a node that is run by these rules had these entries before, and has followed its script since; this is its cue
pub record IsActing (rules : Rules) (script : List PlanItem) (before : List JournalEntry) (x : Journalled) (cue : Cue) : Type 0 where
  pub run : IsRunBy rules x
  pub since : List JournalEntry
  pub all : x.entries ≡ before ++ since
  pub follows : Follows script before since cue

-- Scripts: a node that is run by these rules may take a call under the number after that of its cue, which no call of its
-- journal is above
pub record MayAsk (rules : Rules) (x : Journalled) (cue : Cue) : Type 0 where
  pub run : IsRunBy rules x
  pub calls : greatest_call x.entries ≤ cue.calls
  pub fits : cue.taken + 1 < 2 ^ 64

-- Scripts: whoever follows a script, and may take this event next, still follows it afterwards
abbrev pub ActsOn : Rules → Event → Journalled → Cue → Journalled → Cue → Type 0
ActsOn rules e x cue y next = (script : List PlanItem) (before : List JournalEntry) → IsActing rules script before x cue → TakesNext script cue e → IsActing rules script before y next

-- the last entry, where there is one
abbrev pub last_entry : Journalled → Option JournalEntry
last_entry x = slice_get x.entries (length x.entries - 1)

-- the cue with an entry more, where there is one
abbrev pub cue_with : Option JournalEntry → Cue → Cue
cue_with None c = c
cue_with (Some x) c = cue_after x c

-- the items that it has taken then are below 2^64
abbrev pub FitsWith : Option JournalEntry → Cue → Type 0
FitsWith None c = Unit {0}
FitsWith (Some x) c = (begun x.event c).taken < 2 ^ 64
