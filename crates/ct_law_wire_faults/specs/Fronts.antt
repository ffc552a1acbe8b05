-- What is said of bytes and of those that come behind them.
use Rattle.std.specs.Prelude.{ℕ, ◌<◌, List, ◌++◌, length}
use Rattle.ct_frame.specs.declared.frame.Frame.{Frame}
use Rattle.ct_law_wire.specs.Alone.{BeginsWith, IsBytes}
use Rattle.ct_law_wire_faults.specs.Fields.{IsMalformed, IsShort}

-- what is malformed stays so, at the same offset, whatever comes behind it
abbrev pub MalformedStays : Type 0
MalformedStays = (bytes more : List ℕ) (offset : ℕ) → IsMalformed bytes offset → IsMalformed (bytes ++ more) offset

-- the first bytes of a spelling are short as long as it is not all there
abbrev pub FrontsAreShort : Type 0
FrontsAreShort = (front more : List ℕ) (f : Frame) (n : ℕ) → IsBytes (front ++ more) → BeginsWith f n (front ++ more) → length front < n → IsShort front
