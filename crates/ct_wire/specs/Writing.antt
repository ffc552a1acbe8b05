-- What the calls that write frames answer.
use Rattle.std.specs.Int.{w32, from_be_bytes}
use Rattle.std.specs.Prelude.{ℕ, ◌<◌, ◌≤◌, ◌≡◌, nat_lt, if◌then◌else◌, List, [], length, take, drop, Option, None, Some, Result, Ok, Err}
use Rattle.std.specs.Global.{Vec}
use Rattle.ct_values.specs.declared.memory.NoMemory.{NoMemory}
use Rattle.ct_frame.specs.declared.frame.Frame.{Frame}
use Rattle.ct_wire.specs.declared.encode.EncodeFault.{EncodeFault}
use Rattle.ct_wire.specs.declared.encode.EncodeFault.TheVariants as fault
use Rattle.ct_wire_fields.specs.Version.{newest}
use Rattle.ct_wire.specs.Spelling.{size, spelled}

-- a frame has at most 2^28 bytes
abbrev pub Refuses : EncodeFault → Frame → Type 0
Refuses (fault.TooLong n) f = (n ≡ size newest f) × (268435456 < size newest f)
Refuses fault.NoMemory f = Unit {0}

-- Ok is the spelling in the newest version, where it is no longer than a frame may be
abbrev pub Encodes : {X : Type 0} → (X → List ℕ) → Result X EncodeFault → Frame → Type 0
Encodes bytes (Ok x) f = (bytes x ≡ spelled newest f) × (size newest f ≤ 268435456)
Encodes bytes (Err fault) f = Refuses fault f

-- every piece but the last has so many bytes
unfoldable pub piece_size : ℕ
piece_size = 65536

-- the next piece: of the bytes to come the first 65,536, or all where there are fewer, and none where there are none
abbrev pub GivesPiece : Result (Option (Vec ℕ)) NoMemory → List ℕ → List ℕ → Type 0
GivesPiece (Ok None) old new = (old ≡ []) × (new ≡ [])
GivesPiece (Ok (Some piece)) old new = (0 < length old) × (piece.items ≡ take piece_size old) × (new ≡ drop piece_size old)
GivesPiece (Err none) old new = new ≡ old

-- the number in the first four bytes
abbrev pub frame_length : List ℕ → Option ℕ
frame_length bytes = if nat_lt (length bytes) 4 then None else Some (from_be_bytes w32 (take 4 bytes))
