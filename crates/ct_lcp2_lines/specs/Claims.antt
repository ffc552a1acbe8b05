-- What is claimed of the call that reads an input and prints the placement.
use Rattle.std.specs.Prelude.{◌≡◌, ◌≢◌, ◌≤◌, ◌+◌, ◌⊎◌, ℕ, List, [], Option, None, Some}
use Rattle.std.specs.Io.KnownBytes.{Appends, Consumes, IsAtEnd}
use Rattle.ct_outside.specs.Causes.{AppendsPart, Rose}
use Rattle.ct_lcp2_lines.specs.Text.{text_of}
use Rattle.ct_lcp2_lines.specs.Input.{read, rest}
use Rattle.ct_lcp2_lines.specs.declared.placer.End.{End}
use Rattle.ct_lcp2_lines.specs.declared.placer.End.TheVariants as end

-- the text of the placement over what the lines of an input say
abbrev pub placed_text : List ℕ → List ℕ
placed_text bytes = text_of (read bytes).given

-- the bytes are all that the source had, no line of them is refused, and none is unended
pub record IsWhole (bytes : List ℕ) (left : Option (List ℕ)) : Type 0 where
  pub at_end : IsAtEnd left
  pub ended : rest bytes ≡ []
  pub unrefused : (read bytes).refusal ≡ None

-- How an end, the bytes that were taken, what is left of the input then, and what out held before and holds now go together.
abbrev pub Ends : End → List ℕ → Option (List ℕ) → Option (List ℕ) → Option (List ℕ) → Type 0
-- the input was read to its end, and out gained the text of the placement
Ends end.Read bytes left before now = IsWhole bytes left × Appends before now (placed_text bytes)
-- the input ended inside a line, the one after those that were read
Ends (end.Unended line) bytes left before now = IsAtEnd left × (rest bytes ≢ []) × ((read bytes).refusal ≡ None) × (line ≡ (read bytes).count + 1) × (now ≡ before)
-- a line was refused, the first such
Ends (end.Refused line kind) bytes left before now = ((read bytes).refusal ≡ Some kind) × (line ≡ (read bytes).count + 1) × (now ≡ before)
Ends end.ReadFault bytes left before now = ((read bytes).refusal ≡ None) × (now ≡ before)
-- a front of the text
Ends end.WriteFault bytes left before now = IsWhole bytes left × AppendsPart before now (placed_text bytes)
-- the same, and before the end of the input nothing
Ends end.NoMemory bytes left before now = (now ≡ before) ⊎ (IsWhole bytes left × AppendsPart before now (placed_text bytes))

-- The bytes that were taken are a front of what the source had left, and out holds what the end says of them.
pub record Places (e : End) (left_before left before now : Option (List ℕ)) : Type 0 where
  pub bytes : List ℕ
  pub taken : Consumes left_before left bytes
  pub ends : Ends e bytes left before now

-- no count of faults falls, and a fault is answered only where its count rose
pub record HasPlacingCause (e : End) (in_before in_now out_before out_now : ℕ) : Type 0 where
  pub read_later : in_before ≤ in_now
  pub write_later : out_before ≤ out_now
  pub read : e ≡ end.ReadFault → Rose in_before in_now
  pub write : e ≡ end.WriteFault → Rose out_before out_now
