-- What is read of bytes, by the fields that they have.
use Rattle.std.specs.Prelude.{ℕ, ◌≡◌, ◌↔◌, ◌⊎◌, List, [], Result, Ok, Err}
use Rattle.ct_frame.specs.declared.frame.Frame.{Frame}
use Rattle.ct_wire.specs.declared.decode.Progress.TheVariants as progress
use Rattle.ct_wire.specs.declared.decode.Spot.{Spot}
use Rattle.ct_wire.specs.declared.decode.WireFault.{WireFault}
use Rattle.ct_wire.specs.declared.decode.WireFault.TheVariants as fault
use Rattle.ct_wire.specs.Cursor.{start}
use Rattle.ct_wire.specs.Decoding.{decoded, eaten, Completes, Decodes}
use Rattle.ct_law_wire.specs.Alone.{AreSpelled, BeginsWith, IsBytes}
use Rattle.ct_law_wire_faults.specs.Fields.{IsMalformed, IsRead, IsShort}

-- a frame is read exactly where each of its fields keeps its rule
abbrev pub ReadWhereAllKeep : Type 0
ReadWhereAllKeep = (bytes : List ℕ) (f : Frame) (n : ℕ) → (decoded bytes ≡ Ok (f, n)) ↔ IsRead bytes f n

-- the input is short exactly where it ends before or inside a field, and each whole field before keeps its rule
abbrev pub ShortWhereItEnds : Type 0
ShortWhereItEnds = (bytes : List ℕ) → (decoded bytes ≡ Err fault.Short) ↔ IsShort bytes

-- it is malformed exactly at the first whole field that breaks its rule
abbrev pub MalformedAtTheFirst : Type 0
MalformedAtTheFirst = (bytes : List ℕ) (offset : ℕ) → (decoded bytes ≡ Err (fault.Malformed offset)) ↔ IsMalformed bytes offset

-- what a call answers, unless memory ran out
abbrev pub AnswersByFields : Result (Frame × ℕ) WireFault → List ℕ → Type 0
AnswersByFields (Ok x) bytes = IsRead bytes x.0 x.1
AnswersByFields (Err fault.Short) bytes = IsShort bytes
AnswersByFields (Err (fault.Malformed offset)) bytes = IsMalformed bytes offset
AnswersByFields (Err fault.NoMemory) bytes = Unit {0}

-- the contract of `decode` says no more and no less
abbrev pub DecodesByFields : Type 0
DecodesByFields = (answer : Result (Frame × ℕ) WireFault) (bytes : List ℕ) → Decodes answer (decoded bytes) ↔ AnswersByFields answer bytes

-- fields that keep their rules are a spelling, and a spelling has such fields
abbrev pub SpelledWhereAllKeep : Type 0
SpelledWhereAllKeep = (bytes : List ℕ) (f : Frame) (n : ℕ) → IsBytes bytes → IsRead bytes f n ↔ BeginsWith f n bytes

-- all bytes begin with a spelling, or are short, or are malformed
abbrev pub CoversAll : Type 0
CoversAll = (bytes : List ℕ) → IsBytes bytes → ((f : Frame) × (n : ℕ) × BeginsWith f n bytes) ⊎ (IsShort bytes ⊎ ((offset : ℕ) × IsMalformed bytes offset))

-- no bytes are two of these, or malformed at two offsets
pub record IsApart (bytes : List ℕ) : Type 0 where
  pub spelled_short : (f : Frame) (n : ℕ) → BeginsWith f n bytes → IsShort bytes → ⊥
  pub spelled_malformed : (f : Frame) (n offset : ℕ) → BeginsWith f n bytes → IsMalformed bytes offset → ⊥
  pub short_malformed : (offset : ℕ) → IsShort bytes → IsMalformed bytes offset → ⊥
  pub one_offset : (offset other : ℕ) → IsMalformed bytes offset → IsMalformed bytes other → offset ≡ other

abbrev pub Apart : Type 0
Apart = (bytes : List ℕ) → IsBytes bytes → IsApart bytes

-- a stream waits behind these frames exactly where it is their spellings and then a short rest
abbrev pub StreamWaitsByFields : Type 0
StreamWaitsByFields = (bytes : List ℕ) (fs : List Frame) → IsBytes bytes → ((s : Spot) × Completes (eaten start [] bytes) fs (progress.Amid s)) ↔ ((rest : List ℕ) × AreSpelled fs bytes rest × IsShort rest)

-- it fails behind them exactly where it is their spellings and then a rest that is malformed at that offset
abbrev pub StreamBreaksByFields : Type 0
StreamBreaksByFields = (bytes : List ℕ) (fs : List Frame) (offset : ℕ) → IsBytes bytes → Completes (eaten start [] bytes) fs (progress.Failed (fault.Malformed offset)) ↔ ((rest : List ℕ) × AreSpelled fs bytes rest × IsMalformed rest offset)
