-- What plays side by side leave in their columns.
use Rattle.std.specs.Prelude.{◌≡◌, ℕ, Bool, true, false, nat_lt, if◌then◌else◌, List, [], Option, None, Some, Result, Ok, Err, slice_get}
use Rattle.ct_call.specs.Rules.{Rules}
use Rattle.ct_script.specs.declared.plan.Plan.{Plan}
use Rattle.ct_journal.specs.declared.journal.Journal.{Journal}
use Rattle.ct_values.specs.declared.memory.NoMemory.{NoMemory}
use Rattle.ct_troupe.specs.Played.{ArePlayed}
use Rattle.ct_troupe_threads.specs.declared.column.Column.{Column}

-- a play that ended so left these journals: those of the plan, or none
abbrev pub LeavesOf : Rules → Plan → Result (Unit {0}) NoMemory → List Journal → Type 0
LeavesOf rules p (Ok u) js = ArePlayed rules p js
LeavesOf rules p (Err f) js = js ≡ []

-- Columns: the plan was played last in the column
abbrev pub IsColumnOf : {G : Type 0} → Rules → Plan → Column G → Type 0
IsColumnOf rules p c = LeavesOf rules p c.ended c.last

-- the plan at this place, where there is one, was played last in the column
abbrev pub PlaysAt : {G : Type 0} → Rules → List Plan → ℕ → Column G → Type 0
PlaysAt rules ps i c = (p : Plan) → slice_get ps i ≡ Some p → IsColumnOf rules p c

-- Columns: each plan was played last in the column of its place
abbrev pub AreColumnsOf : {G : Type 0} → Rules → List Plan → List (Column G) → Type 0
AreColumnsOf {G} rules ps cs = (i : ℕ) (c : Column G) → slice_get cs i ≡ Some c → PlaysAt rules ps i c

-- did a play that ended so come to its end?
abbrev pub ended_well : Result (Unit {0}) NoMemory → Bool
ended_well (Ok u) = true
ended_well (Err f) = false

-- did the column's last play?
abbrev pub has_ended : {G : Type 0} → Column G → Bool
has_ended c = ended_well c.ended

-- the journals of a column, and none where there is no such column
unfoldable pub or_no_journals : {G : Type 0} → Option (Column G) → List Journal
or_no_journals None = []
or_no_journals (Some c) = c.last

-- the journals of the column of this number, where so many first columns have any
unfoldable pub journals_in : {G : Type 0} → List (Column G) → ℕ → ℕ → List Journal
journals_in cs played i = if nat_lt i played then or_no_journals (slice_get cs i) else []
