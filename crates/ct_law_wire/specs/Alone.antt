-- What is read, and what stands in the bytes where it was read.
use Rattle.std.specs.Prelude.{ℕ, ◌<◌, ◌≡◌, ◌++◌, ◌↔◌, Ok, List, [], ◌∷◌, get_or, length}
use Rattle.ct_frame.specs.declared.frame.Frame.{Frame}
use Rattle.ct_wire_fields.specs.declared.version.Version.{Version}
use Rattle.ct_wire.specs.declared.decode.Progress.{Progress}
use Rattle.ct_wire.specs.Cursor.{start}
use Rattle.ct_wire.specs.Decoding.{decoded, eaten, Closes, Completes}
use Rattle.ct_law_wire.specs.Grammar.{Spelling}

-- each is a byte
abbrev pub IsBytes : List ℕ → Type 0
IsBytes bytes = (i : ℕ) → get_or bytes i 0 < 256

-- a spelling of this frame, of this length, stands at the front of the bytes
abbrev pub BeginsWith : Frame → ℕ → List ℕ → Type 0
BeginsWith f n bytes = (v : Version) × (front : List ℕ) × (rest : List ℕ) × Spelling f v front × (bytes ≡ front ++ rest) × (n ≡ length front)

-- a frame and a length are read exactly where the bytes begin with a spelling of that frame, of that length
abbrev pub ReadsSpellingsAlone : Type 0
ReadsSpellingsAlone = (bytes : List ℕ) (f : Frame) (n : ℕ) → IsBytes bytes → (decoded bytes ≡ Ok (f, n)) ↔ BeginsWith f n bytes

-- the bytes are spellings of these frames, one after the other, and then this rest
abbrev pub AreSpelled : List Frame → List ℕ → List ℕ → Type 0
AreSpelled [] bytes rest = bytes ≡ rest
AreSpelled (f ∷ fs) bytes rest = (v : Version) × (front : List ℕ) × (behind : List ℕ) × Spelling f v front × (bytes ≡ front ++ behind) × AreSpelled fs behind rest

-- a stream completes these frames exactly where it is their spellings, one after the other, and then a rest that
-- completes none
abbrev pub StreamsAreSpellings : Type 0
StreamsAreSpellings = (bytes : List ℕ) (fs : List Frame) (p : Progress) → IsBytes bytes → Completes (eaten start [] bytes) fs p ↔ ((rest : List ℕ) × AreSpelled fs bytes rest × Closes (eaten start [] rest) p)
