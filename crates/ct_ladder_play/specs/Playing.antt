-- What a scenario makes of a ladder.
use Rattle.std.specs.Prelude.{◌≡◌, ℕ, zero, suc, ◌+◌, ◌-◌, min, nat_lt, Bool, true, false, if◌then◌else◌, List, [], ◌∷◌, ◌++◌, length, take, codes, Option, None, Some, Result, Ok, Err}
use Rattle.std.specs.Str.{bytes_eq}
use Rattle.ct_call.specs.Rules.{Rules}
use Rattle.ct_rules_cluster.specs.declared.step.Step.{Step}
use Rattle.ct_rules_cluster.specs.declared.step.Step.TheVariants as step
use Rattle.ct_mail.specs.Mail.{next_waiting}
use Rattle.ct_lines.specs.Grammar.{line_of}
use Rattle.ct_lines.specs.declared.line.ScenarioLine.{ScenarioLine}
use Rattle.ct_lines.specs.declared.line.ScenarioLine.TheVariants as item
use Rattle.ct_rules_cluster.specs.Cluster.{World}
use Rattle.ct_play.specs.Session.{Played, line_played, pending_texts, start}
use Rattle.ct_play.specs.declared.session.Session.{Session}
use Rattle.ct_play_text.specs.declared.what.PlayFault.{PlayFault}
use Rattle.ct_play_text.specs.declared.what.PlayFault.TheVariants.{Refused, NoMemory as Want}
use Rattle.ct_play_text.specs.declared.what.What.{What}
use Rattle.ct_picture.specs.Reading.{lines_of, parts_of, rest_of}
use Rattle.ct_picture.specs.Rows.{row_of}
use Rattle.ct_picture.specs.declared.row.Row.{Row}
use Rattle.ct_picture.specs.declared.row.RowKind.TheVariants as kind
use Rattle.ct_picture.specs.declared.reading.RunFault.{RunFault}
use Rattle.ct_picture.specs.declared.reading.RunFault.TheVariants.{Line, NoMemory}
use Rattle.ct_ladder.specs.declared.rung.Fate.{Fate}
use Rattle.ct_ladder.specs.declared.rung.Fate.TheVariants as fate
use Rattle.ct_ladder.specs.declared.rung.Rung.{Rung}
use Rattle.ct_ladder.specs.declared.rung.Shown.TheVariants as shown
use Rattle.ct_ladder_play.specs.declared.playing.Ladder.{Ladder}
use Rattle.ct_ladder_play.specs.declared.playing.Matter.{Matter}
use Rattle.ct_ladder_play.specs.declared.playing.Matter.TheVariants as matter

-- ---- what a line is

-- what a step makes of a message
abbrev pub step_fate : Step → Fate
step_fate (step.Deliver k) = fate.Came k
step_fate (step.Repeat k) = fate.CameAgain k
step_fate (step.Drop k) = fate.Lost k
step_fate _ = fate.Still

abbrev pub matter_of : ScenarioLine → Matter
matter_of (item.Config said) = matter.Acts fate.Still
matter_of (item.Change s) = matter.Acts (step_fate s)
matter_of (item.ByName n db asked) = matter.Acts fate.Still
matter_of (item.Settle m) = matter.Settles m
matter_of (item.Traverse said) = matter.Acts fate.Still
matter_of (item.Ctdb n command) = matter.Acts fate.Still

abbrev pub matter_in : Option ScenarioLine → Matter
matter_in None = matter.Acts fate.Still
matter_in (Some x) = matter_of x

-- what a line, without its line feed, is to a ladder
abbrev pub matter_at : List ℕ → Matter
matter_at line = if nat_lt 65535 (length line) then matter.Acts fate.Still else matter_in (line_of line)

-- ---- rows

-- a text without its line feed
abbrev pub without_feed : List ℕ → List ℕ
without_feed text = take (length text - 1) text

abbrev pub or_beside : List ℕ → Option Row → Row
or_beside line None = record { line = line; label = line; kind = kind.Beside }
or_beside line (Some row) = row

-- the row of a line of the run; what has no reading stands beside
abbrev pub line_row : List ℕ → Row
line_row line = or_beside line (row_of line)

abbrev pub is_still : Fate → Bool
is_still fate.Still = true
is_still (fate.Came k) = false
is_still (fate.CameAgain k) = false
is_still (fate.Lost k) = false

abbrev pub begins_lost : List ℕ → Bool
begins_lost text = bytes_eq (take (min (length text) 5) text) (codes "lost ")

abbrev pub as_lost : Fate → Fate
as_lost fate.Still = fate.Still
as_lost (fate.Came k) = fate.Lost k
as_lost (fate.CameAgain k) = fate.Lost k
as_lost (fate.Lost k) = fate.Lost k

-- what became of a message, where this was printed: it is lost where that is said first
abbrev pub fate_told : Fate → List (List ℕ) → Fate
fate_told f [] = f
fate_told f (t ∷ ts) = if begins_lost t then as_lost f else f

-- a row for each text, in the first of which this became of a message
abbrev pub told_rungs : Fate → List (List ℕ) → List Rung
told_rungs f [] = []
told_rungs f (t ∷ ts) = record { fate = f; shown = shown.Told (line_row (without_feed t)) } ∷ told_rungs fate.Still ts

abbrev pub rungs_with : Fate → List (List ℕ) → List Rung
rungs_with f [] = if is_still f then [] else record { fate = f; shown = shown.Nothing } ∷ []
rungs_with f (t ∷ ts) = told_rungs f (t ∷ ts)

-- the rows of one step, one at least where it is told what became of a message
abbrev pub rungs_of : Fate → List (List ℕ) → List Rung
rungs_of f texts = rungs_with (fate_told f texts) texts

-- ---- steps

-- a session, and the rows before it
pub record Climbed : Type 0 where
  pub session : Session
  pub rungs : List Rung

abbrev pub climbed : Fate → Result Played What → Result Climbed What
climbed f (Ok p) = Ok (record { session = p.session; rungs = rungs_of f p.texts })
climbed f (Err what) = Err what

-- a line is played, by which this becomes of a message
abbrev pub step_climbed : Rules → Fate → List ℕ → Session → Result Climbed What
step_climbed rules f line s = climbed f (line_played rules line s)

abbrev pub after_rungs : List Rung → Result Climbed What → Result Climbed What
after_rungs rungs (Ok x) = Ok (record { session = x.session; rungs = rungs ++ x.rungs })
after_rungs rungs (Err what) = Err what

-- these rows, and then what the session leads to
abbrev pub and_on : Result Climbed What → (Session → Result Climbed What) → Result Climbed What
and_on (Ok x) later = after_rungs x.rungs (later x.session)
and_on (Err what) later = Err what

abbrev pub waiting_in : Option World → Option ℕ
waiting_in None = None
waiting_in (Some w) = next_waiting w.cluster.sent

-- the message that waits and has the least number
abbrev pub least_waiting : Session → Option ℕ
least_waiting s = waiting_in s.world

-- one message comes
abbrev pub settle_one : List ℕ
settle_one = codes "settle 1"

abbrev pub one_comes : Rules → Session → Option ℕ → (Session → Result Climbed What) → Result Climbed What
one_comes rules s None later = step_climbed rules fate.Still settle_one s
one_comes rules s (Some k) later = and_on (step_climbed rules (fate.Came k) settle_one s) later

-- so many messages come, one after the other, the least first; fewer where none waits
unfoldable pub settle_climbed : Rules → ℕ → Session → Result Climbed What
settle_climbed rules zero s = Ok (record { session = s; rungs = [] })
settle_climbed rules (suc m) s = one_comes rules s (least_waiting s) (λ t. settle_climbed rules m t)

abbrev pub matter_climbed : Rules → List ℕ → Session → Matter → Result Climbed What
matter_climbed rules line s (matter.Settles m) = settle_climbed rules m s
matter_climbed rules line s (matter.Acts f) = step_climbed rules f line s

-- a line of the scenario
abbrev pub line_climbed : Rules → List ℕ → Session → Result Climbed What
line_climbed rules line s = matter_climbed rules line s (matter_at line)

-- Ok is exactly these rows behind those before, and a refusal comes exactly where the line has it. Memory may be wanting in place of each.
abbrev pub Climbs : Result (Unit {0}) PlayFault → Result Climbed What → Session → List Rung → List Rung → Type 0
Climbs (Ok u) climbed new before now = (x : Climbed) × (climbed ≡ Ok x) × (new ≡ x.session) × (now ≡ before ++ x.rungs)
Climbs (Err (Refused what)) climbed new before now = climbed ≡ Err what
Climbs (Err Want) climbed new before now = Unit {0}

-- ---- the whole

-- the line itself stands above its rows, where it is shown
abbrev pub said_rungs : Bool → List ℕ → List Rung
said_rungs true line = record { fate = fate.Still; shown = shown.Said line } ∷ []
said_rungs false line = []

-- the rows of lines and the session after them, or the number of the first that is refused
abbrev pub Climb : Type 0
Climb = Result Climbed ℕ

abbrev pub climb_after : List Rung → Climb → Climb
climb_after rungs (Ok x) = Ok (record { session = x.session; rungs = rungs ++ x.rungs })
climb_after rungs (Err n) = Err n

abbrev pub climb_from : List Rung → ℕ → Result Climbed What → (Session → Climb) → Climb
climb_from said n (Ok x) later = climb_after (said ++ x.rungs) (later x.session)
climb_from said n (Err what) later = Err n

-- lines, the first of which has this number
abbrev pub lines_climbed : Rules → Bool → ℕ → Session → List (List ℕ) → Climb
lines_climbed rules is_shown n s [] = Ok (record { session = s; rungs = [] })
lines_climbed rules is_shown n s (line ∷ lines) = climb_from (said_rungs is_shown line) n (line_climbed rules line s) (λ t. lines_climbed rules is_shown (n + 1) t lines)

abbrev pub ClimbsAll : Result (Unit {0}) RunFault → Climb → Session → List Rung → List Rung → Type 0
ClimbsAll (Ok u) climb new before now = (x : Climbed) × (climb ≡ Ok x) × (new ≡ x.session) × (now ≡ before ++ x.rungs)
ClimbsAll (Err (Line n)) climb new before now = climb ≡ Err n
ClimbsAll (Err NoMemory) climb new before now = Unit {0}

abbrev pub nodes_said : Option ℕ → ℕ
nodes_said None = 0
nodes_said (Some n) = min n 16

-- how many nodes there are, once a line says it
abbrev pub nodes_of : Session → ℕ
nodes_of s = nodes_said s.places.nodes

-- what stands behind the last line feed is no line; the calls that wait are told at the end
abbrev pub ladder_at : ℕ → List ℕ → Climb → Result Ladder ℕ
ladder_at n [] (Ok x) = Ok (record { nodes = nodes_of x.session; rungs = x.rungs ++ told_rungs fate.Still (pending_texts x.session) })
ladder_at n (b ∷ bs) (Ok x) = Err n
ladder_at n rest (Err m) = Err m

-- the ladder of parts, all of which but the last are lines
unfoldable pub ladder_in : Rules → Bool → List (List ℕ) → Result Ladder ℕ
ladder_in rules is_shown parts = ladder_at (length parts - 1 + 1) (rest_of parts) (lines_climbed rules is_shown 1 start (lines_of parts))

-- the ladder of the scenario that the bytes are, or the number of the first line that is none or is refused
abbrev pub ladder_from : Rules → Bool → List ℕ → Result Ladder ℕ
ladder_from rules is_shown bytes = ladder_in rules is_shown (parts_of bytes)

-- Ok has the ladder, and `Line` the number of the first line that is refused. Memory may be wanting in place of each.
abbrev pub Ladders : Result Ladder RunFault → Result Ladder ℕ → Type 0
Ladders (Ok l) made = made ≡ Ok l
Ladders (Err (Line n)) made = made ≡ Err n
Ladders (Err NoMemory) made = Unit {0}
