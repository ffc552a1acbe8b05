-- Bytes that are read piece by piece, from one moment to another.
use Rattle.std.specs.Prelude.{◌≡◌, ◌≢◌, ◌≤◌, ◌+◌, ℕ, List, [], ◌++◌, Option, None, Some, Result, Ok, Err}
use Rattle.std.specs.Io.KnownBytes.{Appends, Consumes, IsAtEnd}
use Rattle.ct_outside.specs.Causes.{AppendsPart, Rose}
use Rattle.ct_outside.specs.declared.fault.SinkFault.{SinkFault}
use Rattle.ct_outside.specs.declared.fault.SinkFault.TheVariants as sink
use Rattle.ct_lines.specs.declared.line.LineKind.{LineKind}
use Rattle.ct_lines.specs.declared.line.LineKindFault.{LineKindFault}
use Rattle.ct_lines.specs.declared.line.LineKindFault.TheVariants.{Kind, NoMemory}
use Rattle.ct_lcp2_lines.specs.Lines.{rest_after}
use Rattle.ct_lcp2_lines.specs.Placing.{nothing_given}
use Rattle.ct_lcp2_lines.specs.Text.{text_of}
use Rattle.ct_lcp2_lines.specs.Input.{Input, read_from}
use Rattle.ct_lcp2_lines.specs.declared.placer.End.{End}
use Rattle.ct_lcp2_lines.specs.declared.placer.End.TheVariants as end
use Rattle.ct_lcp2_lines.specs.declared.placer.Placer.{Placer}

-- before the first byte
abbrev pub first : Placer
first = record { placing = nothing_given; line = []; count = 0 }

-- these bytes read on from where a placer stands
abbrev pub read_on : Placer → List ℕ → Input
read_on p bytes = read_from p.count p.placing p.line bytes

-- From p to q the bytes were read: whatever comes later, reading goes on from q.
pub record Fed (p q : Placer) (bytes : List ℕ) : Type 0 where
  pub rests : (later : List ℕ) → rest_after p.line (bytes ++ later) ≡ rest_after q.line later
  pub goes_on : (later : List ℕ) → read_on p (bytes ++ later) ≡ read_on q later

-- A line among the bytes is refused, the one after those that q counts, whatever comes later.
pub record FedRefused (p q : Placer) (kind : LineKind) (bytes : List ℕ) : Type 0 where
  pub refused : (later : List ℕ) → (read_on p (bytes ++ later)).refusal ≡ Some kind
  pub counted : (later : List ℕ) → (read_on p (bytes ++ later)).count ≡ q.count

abbrev pub Feeds : Result (Unit {0}) LineKindFault → Placer → List ℕ → Placer → Type 0
Feeds (Ok u) p bytes q = Fed p q bytes
Feeds (Err (Kind kind)) p bytes q = FedRefused p q kind bytes
Feeds (Err NoMemory) p bytes q = Unit {0}

-- a line that was not taken as an end, where so many lines were read
abbrev pub end_of : LineKindFault → ℕ → End
end_of (Kind kind) count = end.Refused (count + 1) kind
end_of NoMemory count = end.NoMemory

-- a fault of a sink as an end
abbrev pub fault_end : SinkFault → End
fault_end sink.Failed = end.WriteFault
fault_end sink.NoMemory = end.NoMemory

-- the input was read to its end
pub record ReadAll (p q : Placer) (left_before left : Option (List ℕ)) : Type 0 where
  pub bytes : List ℕ
  pub taken : Consumes left_before left bytes
  pub at_end : IsAtEnd left
  pub fed : Fed p q bytes

-- why reading stops before the input ends
abbrev pub StopsAt : End → Placer → List ℕ → Type 0
StopsAt (end.Refused line kind) p bytes = ((read_on p bytes).refusal ≡ Some kind) × (line ≡ (read_on p bytes).count + 1)
StopsAt end.ReadFault p bytes = (read_on p bytes).refusal ≡ None
StopsAt end.NoMemory p bytes = Unit {0}
StopsAt end.Read p bytes = ⊥
StopsAt (end.Unended line) p bytes = ⊥
StopsAt end.WriteFault p bytes = ⊥

pub record Stopped (e : End) (p : Placer) (left_before left : Option (List ℕ)) : Type 0 where
  pub bytes : List ℕ
  pub taken : Consumes left_before left bytes
  pub stops : StopsAt e p bytes

abbrev pub ReadsOn : Result (Unit {0}) End → Placer → Placer → Option (List ℕ) → Option (List ℕ) → Type 0
ReadsOn (Ok u) p q left_before left = ReadAll p q left_before left
ReadsOn (Err e) p q left_before left = Stopped e p left_before left

-- a read fault comes only where the count rose
abbrev pub ReadCause : Result (Unit {0}) End → ℕ → ℕ → Type 0
ReadCause (Ok u) before now = before ≤ now
ReadCause (Err e) before now = (before ≤ now) × (e ≡ end.ReadFault → Rose before now)

-- how it ends where the input has no more: inside a line, or after the placement was printed
abbrev pub Finishes : End → Placer → Option (List ℕ) → Option (List ℕ) → Type 0
Finishes end.Read p before now = (p.line ≡ []) × Appends before now (text_of p.placing)
Finishes (end.Unended line) p before now = (p.line ≢ []) × (line ≡ p.count + 1) × (now ≡ before)
Finishes end.WriteFault p before now = (p.line ≡ []) × AppendsPart before now (text_of p.placing)
Finishes end.NoMemory p before now = (p.line ≡ []) × AppendsPart before now (text_of p.placing)
Finishes (end.Refused line kind) p before now = ⊥
Finishes end.ReadFault p before now = ⊥

-- a write fault comes only where the count rose, and no read fault comes
pub record FinishCause (e : End) (before now : ℕ) : Type 0 where
  pub later : before ≤ now
  pub failed : e ≡ end.WriteFault → Rose before now
