-- The offset that a fault is named by.
use Rattle.std.specs.Prelude.{ℕ, ◌+◌, ◌<◌, ◌≤◌, ◌≡◌, ◌⊎◌, List, ◌++◌, length, take}
use Rattle.ct_wire_fields.specs.declared.place.TextPlace.{TextPlace}
use Rattle.ct_wire_fields.specs.declared.place.TextPlace.TheVariants as text
use Rattle.ct_law_wire_faults.specs.Fields.{Field, Ahead, Judged, AreField, IsMalformed, IsShort, KeptTo, begin_of, judged}

-- an offset counts the bytes before it
abbrev pub OffsetsCount : Type 0
OffsetsCount = (bytes rest : List ℕ) (a : Ahead) → KeptTo bytes a rest → begin_of a + length rest ≡ length bytes

-- a key or a value is named by its first byte, and a row out of order by its own, 4 bytes before its key
abbrev pub TextNames : TextPlace → ℕ → ℕ → Type 0
TextNames (text.RowKey left start) at offset = (offset ≡ at) ⊎ (offset + 4 ≡ at)
TextNames _ at offset = offset ≡ at

-- a number and an address are named by their first byte
abbrev pub Names : Field → ℕ → ℕ → Type 0
Names (Field.Size p) at offset = TextNames p at offset
Names (Field.Text p n) at offset = TextNames p at offset
Names _ at offset = offset ≡ at

-- what a field names that breaks its rule
abbrev pub FaultsAreNamed : Type 0
FaultsAreNamed = (bytes field rest : List ℕ) (a : Ahead) (offset : ℕ) → KeptTo bytes a (field ++ rest) → AreField a field → judged a field ≡ Judged.Breaks offset → Names a.field a.at offset

-- the offset is one of the bytes, or their end, and however few bytes there are before it, they break no rule
abbrev pub FaultIsFirst : Type 0
FaultIsFirst = (bytes : List ℕ) (offset : ℕ) → IsMalformed bytes offset → (offset ≤ length bytes) × ((k : ℕ) → k < offset → IsShort (take k bytes))
