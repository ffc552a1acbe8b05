-- What is claimed of the program's call.
use Rattle.std.specs.Prelude.{◌≡◌, ◌≢◌, ◌≤◌, ◌<◌, ◌⊎◌, ℕ, List, [], ◌++◌, length, codes, Option, Result, Ok, Err, Vec}
use Rattle.std.specs.declared.alloc.Global.{Global}
use Rattle.std.specs.Fmt.{decimal}
use Rattle.std.specs.Io.KnownBytes.{Appends, Consumes, IsAtEnd}
use Rattle.ct_outside.specs.Causes.{AppendsPart, Rose}
use Rattle.ct_outside.specs.declared.fault.SinkFault.{SinkFault}
use Rattle.ct_outside.specs.declared.fault.SinkFault.TheVariants as sink
use Rattle.ct_picture.specs.Drawing.{picture_of}
use Rattle.ct_picture.specs.Reading.{run_of}
use Rattle.ct_picture.specs.Svg.{svg_of}
use Rattle.ct_picture.specs.declared.row.Row.{Row}
use Rattle.ct_picture.specs.declared.reading.RunFault.{RunFault}
use Rattle.ct_picture.specs.declared.reading.RunFault.TheVariants.{Line, NoMemory}
use Rattle.ct_picture.specs.declared.running.End.{End}
use Rattle.ct_picture.specs.declared.running.End.TheVariants as end

-- the most bytes that are taken of an input, 2^40
abbrev pub most_bytes : ℕ
most_bytes = 1099511627776

-- the text is that of the picture of the run that the bytes are
abbrev pub IsPicture : List ℕ → List ℕ → Type 0
IsPicture bytes text = (rows : List Row) × (run_of bytes ≡ Ok rows) × (text ≡ svg_of (picture_of rows))

-- Ok has the picture, and `Line` the number of the first line that has no reading.
abbrev pub Pictured : Result (Vec ℕ Global) RunFault → List ℕ → Type 0
Pictured (Ok text) bytes = IsPicture bytes text.items
Pictured (Err (Line n)) bytes = run_of bytes ≡ Err n
Pictured (Err NoMemory) bytes = Unit {0}

-- a fault of a run as an end
abbrev pub end_of : RunFault → End
end_of (Line n) = end.Unread n
end_of NoMemory = end.NoMemory

-- how it ends where the input was read: out gained the picture or a front of it, or a line has no reading and it gained nothing
abbrev pub Writes : End → List ℕ → Option (List ℕ) → Option (List ℕ) → Type 0
Writes end.Drawn bytes before now = (text : List ℕ) × IsPicture bytes text × Appends before now text
Writes (end.Unread line) bytes before now = (run_of bytes ≡ Err line) × (now ≡ before)
Writes end.WriteFault bytes before now = (text : List ℕ) × IsPicture bytes text × AppendsPart before now text
Writes end.NoMemory bytes before now = (now ≡ before) ⊎ ((text : List ℕ) × IsPicture bytes text × AppendsPart before now text)
Writes end.ReadFault bytes before now = ⊥
Writes end.TooLong bytes before now = ⊥

-- why reading stops before the input ends
abbrev pub StopsAt : End → List ℕ → Type 0
StopsAt end.ReadFault bytes = Unit {0}
StopsAt end.NoMemory bytes = Unit {0}
StopsAt end.TooLong bytes = length bytes ≡ most_bytes
StopsAt end.Drawn bytes = ⊥
StopsAt (end.Unread line) bytes = ⊥
StopsAt end.WriteFault bytes = ⊥

-- the bytes were read to their end, or it was stopped
abbrev pub ReadsAll : Result (Vec ℕ Global) End → Option (List ℕ) → Option (List ℕ) → Type 0
ReadsAll (Ok bytes) before left = Consumes before left bytes.items × IsAtEnd left × (length bytes.items < most_bytes)
ReadsAll (Err e) before left = (bytes : List ℕ) × Consumes before left bytes × StopsAt e bytes

-- a read fault comes only where the count rose
abbrev pub ReadCause : Result (Vec ℕ Global) End → ℕ → ℕ → Type 0
ReadCause (Ok bytes) before now = before ≤ now
ReadCause (Err e) before now = (before ≤ now) × (e ≡ end.ReadFault → Rose before now)

-- a piece of the source, empty only at its end, was put behind the bytes
abbrev pub ReadsPiece : Result ℕ End → List ℕ → List ℕ → Option (List ℕ) → Option (List ℕ) → ℕ → Type 0
ReadsPiece (Ok n) old new before left room = (piece : List ℕ) × (new ≡ old ++ piece) × (length piece ≡ n) × (n ≤ room) × Consumes before left piece × (n ≡ 0 → IsAtEnd left)
ReadsPiece (Err e) old new before left room = (piece : List ℕ) × Consumes before left piece × StopsAt e (old ++ piece)

abbrev pub PieceCause : Result ℕ End → ℕ → ℕ → Type 0
PieceCause (Ok n) before now = before ≤ now
PieceCause (Err e) before now = (before ≤ now) × (e ≡ end.ReadFault → Rose before now)

-- The bytes that were taken are a front of what the source had left, and out holds what the end says of them: either they were all
-- and out gained their picture, or a front of it where a write failed, or out gained nothing.
abbrev pub Ends : End → List ℕ → Option (List ℕ) → Option (List ℕ) → Option (List ℕ) → Type 0
Ends e bytes left before now = (IsAtEnd left × (length bytes < most_bytes) × Writes e bytes before now) ⊎ (StopsAt e bytes × (now ≡ before))

pub record Pictures (e : End) (left_before left before now : Option (List ℕ)) : Type 0 where
  pub bytes : List ℕ
  pub taken : Consumes left_before left bytes
  pub ends : Ends e bytes left before now

-- no count of faults falls, and a fault is answered only where its count rose
pub record HasPictureCause (e : End) (in_before in_now out_before out_now : ℕ) : Type 0 where
  pub read_later : in_before ≤ in_now
  pub write_later : out_before ≤ out_now
  pub read : e ≡ end.ReadFault → Rose in_before in_now
  pub write : e ≡ end.WriteFault → Rose out_before out_now

-- a write fault comes only where the count rose, and no read fault comes
pub record WriteCause (e : End) (before now : ℕ) : Type 0 where
  pub later : before ≤ now
  pub failed : e ≡ end.WriteFault → Rose before now

-- the line on err
abbrev pub message : End → List ℕ
message end.Drawn = []
message (end.Unread line) = codes "ctdbpicture: line " ++ decimal line ++ codes "\n"
message end.ReadFault = codes "ctdbpicture: read fault\n"
message end.WriteFault = codes "ctdbpicture: write fault\n"
message end.NoMemory = codes "ctdbpicture: want of memory\n"
message end.TooLong = codes "ctdbpicture: input too long\n"

abbrev pub status : End → ℕ
status end.Drawn = 0
status (end.Unread line) = 2
status end.ReadFault = 3
status end.WriteFault = 4
status end.NoMemory = 5
status end.TooLong = 8

-- a line was written to err and the status is the one that it says, or err failed in it: then it gained a front of the line, and the
-- status is that fault's. A fault that is answered has its cause.
abbrev pub Says : Result (Unit {0}) SinkFault → List ℕ → ℕ → ℕ → Option (List ℕ) → Option (List ℕ) → ℕ → ℕ → Type 0
Says (Ok u) line wanted status before now faults_before faults_now = (status ≡ wanted) × Appends before now line
Says (Err sink.Failed) line wanted status before now faults_before faults_now = (status ≡ 4) × AppendsPart before now line × Rose faults_before faults_now
Says (Err sink.NoMemory) line wanted status before now faults_before faults_now = (status ≡ 5) × AppendsPart before now line

-- err gained this line, and the status is the one wanted, unless err failed or memory ran out
abbrev pub Reports : List ℕ → ℕ → ℕ → Option (List ℕ) → Option (List ℕ) → ℕ → ℕ → Type 0
Reports line wanted status before now faults_before faults_now = (w : Result (Unit {0}) SinkFault) × Says w line wanted status before now faults_before faults_now
