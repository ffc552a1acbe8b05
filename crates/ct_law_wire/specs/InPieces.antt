-- A stream of frames that comes in pieces.
use Rattle.std.specs.Prelude.{ℕ, ◌≡◌, List, ◌++◌}
use Rattle.ct_frame.specs.declared.frame.Frame.{Frame}
use Rattle.ct_wire.specs.declared.cursor.Cursor.{Cursor}
use Rattle.ct_wire.specs.declared.decode.Spot.{Spot}
use Rattle.ct_wire.specs.declared.decode.Progress.{Progress}
use Rattle.ct_wire.specs.declared.decode.Progress.TheVariants as progress
use Rattle.ct_wire.specs.Decoding.{End, eaten, Completes}

-- reading on behind the bytes that led to this end
abbrev pub go_on : End → List ℕ → End
go_on (End.Waits s) more = eaten s.cursor s.raw more
go_on (End.Ends f n rest) more = End.Ends f n (rest ++ more)
go_on (End.Breaks offset) more = End.Breaks offset

-- bytes that are read in two pieces lead to the end of the whole
abbrev pub EndOfTwo : Type 0
EndOfTwo = (c : Cursor) (raw piece more : List ℕ) → eaten c raw (piece ++ more) ≡ go_on (eaten c raw piece) more

-- the frames of two pieces are those of the two together
abbrev pub FramesOfTwo : Type 0
FramesOfTwo = (c : Cursor) (raw piece more : List ℕ) (fs gs : List Frame) (s : Spot) (q : Progress) → Completes (eaten c raw piece) fs (progress.Amid s) → Completes (eaten s.cursor s.raw more) gs q → Completes (eaten c raw (piece ++ more)) (fs ++ gs) q
