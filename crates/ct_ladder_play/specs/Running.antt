-- What is claimed of the program's call.
use Rattle.std.specs.Prelude.{◌≡◌, ◌≢◌, ◌≤◌, ◌<◌, ◌⊎◌, ℕ, Bool, true, false, if◌then◌else◌, List, [], ◌∷◌, ◌++◌, length, codes, Option, None, Some, Result, Ok, Err, Vec}
use Rattle.std.specs.declared.alloc.Global.{Global}
use Rattle.std.specs.Str.{bytes_eq}
use Rattle.std.specs.Io.KnownBytes.{Appends, Consumes, IsAtEnd}
use Rattle.ct_outside.specs.Causes.{AppendsPart}
use Rattle.ct_call.specs.Rules.{Rules}
use Rattle.ct_picture.specs.Running.{StopsAt, most_bytes}
use Rattle.ct_picture.specs.Svg.{svg_of}
use Rattle.ct_picture.specs.declared.reading.RunFault.{RunFault}
use Rattle.ct_picture.specs.declared.reading.RunFault.TheVariants.{Line, NoMemory}
use Rattle.ct_picture.specs.declared.running.End.{End}
use Rattle.ct_picture.specs.declared.running.End.TheVariants as end
use Rattle.ct_ladder.specs.Drawing.{ladder_of}
use Rattle.ct_ladder_play.specs.Playing.{ladder_from}
use Rattle.ct_ladder_play.specs.declared.playing.Ladder.{Ladder}
use Rattle.ct_ladder_play.specs.declared.running.Wanted.{Wanted}
use Rattle.ct_ladder_play.specs.declared.running.Wanted.TheVariants as wanted

abbrev pub one_wanted : List ℕ → Option Wanted
one_wanted w = if bytes_eq w (codes "--scenario") then Some (wanted.Scenario false) else if bytes_eq w (codes "--lines") then Some (wanted.Scenario true) else None

-- what the words after the program's name ask for
abbrev pub wanted_of : List (List ℕ) → Option Wanted
wanted_of [] = Some wanted.Run
wanted_of (w ∷ []) = one_wanted w
wanted_of (w ∷ v ∷ ws) = None

-- the text is that of the picture of the ladder of the scenario that the bytes are
abbrev pub IsLadder : Rules → Bool → List ℕ → List ℕ → Type 0
IsLadder rules is_shown bytes text = (l : Ladder) × (ladder_from rules is_shown bytes ≡ Ok l) × (text ≡ svg_of (ladder_of l.nodes l.rungs))

-- Ok has the picture, and `Line` the number of the first line that is none or is refused.
abbrev pub Laddered : Rules → Bool → Result (Vec ℕ Global) RunFault → List ℕ → Type 0
Laddered rules is_shown (Ok text) bytes = IsLadder rules is_shown bytes text.items
Laddered rules is_shown (Err (Line n)) bytes = ladder_from rules is_shown bytes ≡ Err n
Laddered rules is_shown (Err NoMemory) bytes = Unit {0}

-- how it ends where the input was read: out gained the picture or a front of it, or a line is refused and it gained nothing
abbrev pub Writes : Rules → Bool → End → List ℕ → Option (List ℕ) → Option (List ℕ) → Type 0
Writes rules is_shown end.Drawn bytes before now = (text : List ℕ) × IsLadder rules is_shown bytes text × Appends before now text
Writes rules is_shown (end.Unread line) bytes before now = (ladder_from rules is_shown bytes ≡ Err line) × (now ≡ before)
Writes rules is_shown end.WriteFault bytes before now = (text : List ℕ) × IsLadder rules is_shown bytes text × AppendsPart before now text
Writes rules is_shown end.NoMemory bytes before now = (now ≡ before) ⊎ ((text : List ℕ) × IsLadder rules is_shown bytes text × AppendsPart before now text)
Writes rules is_shown end.ReadFault bytes before now = ⊥
Writes rules is_shown end.TooLong bytes before now = ⊥

-- The bytes that were taken are a front of what the source had left, and out holds what the end says of them: either they were all
-- and out gained their picture, or a front of it where a write failed, or out gained nothing.
abbrev pub Ends : Rules → Bool → End → List ℕ → Option (List ℕ) → Option (List ℕ) → Option (List ℕ) → Type 0
Ends rules is_shown e bytes left before now = (IsAtEnd left × (length bytes < most_bytes) × Writes rules is_shown e bytes before now) ⊎ (StopsAt e bytes × (now ≡ before))

pub record Draws (rules : Rules) (is_shown : Bool) (e : End) (left_before left before now : Option (List ℕ)) : Type 0 where
  pub bytes : List ℕ
  pub taken : Consumes left_before left bytes
  pub ends : Ends rules is_shown e bytes left before now
