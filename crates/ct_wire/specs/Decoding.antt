-- Reading bytes one after the other, in whatever pieces they come.
use Rattle.std.specs.Prelude.{ℕ, ◌+◌, ◌<◌, ◌≡◌, nat_lt, List, [], ◌∷◌, ◌++◌, length, Option, None, Some, Result, Ok, Err, if◌then◌else◌}
use Rattle.std.specs.Global.{Vec}
use Rattle.ct_frame.specs.declared.frame.Frame.{Frame}
use Rattle.ct_wire.specs.declared.cursor.Cursor.{Cursor}
use Rattle.ct_wire.specs.declared.cursor.Outcome.{Outcome}
use Rattle.ct_wire.specs.declared.cursor.Outcome.TheVariants as outcome
use Rattle.ct_wire.specs.declared.decode.Event.{Event}
use Rattle.ct_wire.specs.declared.decode.Event.TheVariants as event
use Rattle.ct_wire.specs.declared.decode.Progress.{Progress}
use Rattle.ct_wire.specs.declared.decode.Progress.TheVariants as progress
use Rattle.ct_wire.specs.declared.decode.Reached.{Reached}
use Rattle.ct_wire.specs.declared.decode.Reached.TheVariants as reached
use Rattle.ct_wire.specs.declared.decode.Spot.{Spot}
use Rattle.ct_wire.specs.declared.decode.WireFault.{WireFault}
use Rattle.ct_wire.specs.declared.decode.WireFault.TheVariants as fault
use Rattle.ct_wire.specs.declared.whole.WholeFrame.{WholeFrame}
use Rattle.ct_wire.specs.Cursor.{field_read, start, width, IsSound}

-- where bytes end: inside a frame, behind the frame that they complete, or at the first field that breaks its rule
pub data End : Type 0 where
  Waits : Spot → End
  Ends : Frame → ℕ → List ℕ → End
  Breaks : ℕ → End

-- what a whole field leads to, where `rest` stands behind it
abbrev pub after_field : Outcome → List ℕ → (Cursor → End) → End
after_field (outcome.More c) rest go = go c
after_field (outcome.Whole f n) rest go = Ends f n rest
after_field (outcome.Malformed offset) rest go = Breaks offset

-- the bytes one after the other, where `raw` has come of the next field
unfoldable pub eaten : Cursor → List ℕ → List ℕ → End
eaten c raw [] = Waits (record { cursor = c; raw = raw })
eaten c raw (b ∷ bytes) =
    if nat_lt (length raw + 1) (width c)
    then eaten c (raw ++ b ∷ []) bytes
    else after_field (field_read c (raw ++ b ∷ [])) bytes (λ next. eaten next [] bytes)

-- a frame and its length, or why there is none
abbrev pub frame_or_fault : End → Result (Frame × ℕ) WireFault
frame_or_fault (Waits spot) = Err fault.Short
frame_or_fault (Ends f n rest) = Ok (f, n)
frame_or_fault (Breaks offset) = Err (fault.Malformed offset)

-- the frame at the front of these bytes
abbrev pub decoded : List ℕ → Result (Frame × ℕ) WireFault
decoded bytes = frame_or_fault (eaten start [] bytes)

-- what a call answers, unless memory ran out
abbrev pub Fails : WireFault → Result (Frame × ℕ) WireFault → Type 0
Fails fault.NoMemory read = Unit {0}
Fails f read = read ≡ Err f

abbrev pub Decodes : Result (Frame × ℕ) WireFault → Result (Frame × ℕ) WireFault → Type 0
Decodes (Ok x) read = read ≡ Ok x
Decodes (Err f) read = Fails f read

-- some of the next field has come, but not all
abbrev pub IsSoundSpot : Spot → Type 0
IsSoundSpot s = IsSound s.cursor × (length s.raw < width s.cursor)

abbrev pub IsSoundProgress : Progress → Type 0
IsSoundProgress (progress.Amid s) = IsSoundSpot s
IsSoundProgress (progress.Failed f) = Unit {0}

abbrev pub raw_length : Progress → ℕ
raw_length (progress.Amid s) = length s.raw
raw_length (progress.Failed f) = 0

-- the fault after which nothing more is read
abbrev pub standing_fault : Progress → Option WireFault
standing_fault (progress.Amid s) = None
standing_fault (progress.Failed f) = Some f

-- no frame is complete
abbrev pub Closes : End → Progress → Type 0
Closes (Waits s) p = p ≡ progress.Amid s
Closes (Ends f n rest) p = ⊥
Closes (Breaks offset) p = p ≡ progress.Failed (fault.Malformed offset)

-- this frame is complete, and what follows it goes on so
abbrev pub Passes : End → Frame → (List ℕ → Type 0) → Type 0
Passes (Ends f n rest) g Follows = (g ≡ f) × Follows rest
Passes _ g Follows = ⊥

-- this frame is complete, and nothing follows it
abbrev pub IsLone : Frame → End → Type 0
IsLone f (Ends g n rest) = (g ≡ f) × (rest ≡ [])
IsLone f _ = ⊥

-- these frames are complete, one after the other, and then no more
abbrev pub Completes : End → List Frame → Progress → Type 0
Completes e [] p = Closes e p
Completes e (f ∷ fs) p = Passes e f (λ rest. Completes (eaten start [] rest) fs p)

abbrev pub IsOpen : Progress → Type 0
IsOpen (progress.Amid s) = Unit {0}
IsOpen (progress.Failed f) = ⊥

-- What a call on the next piece answers, and leaves. A fault comes where the piece completes no frame; behind frames
-- that it completes it comes at the next call.
abbrev pub FeedsOpen : Result (Vec Frame) WireFault → End → Progress → Type 0
FeedsOpen (Ok frames) e new = Completes e frames.items new × (frames.items ≡ [] → IsOpen new)
FeedsOpen (Err fault.NoMemory) e new = new ≡ progress.Failed fault.NoMemory
FeedsOpen (Err f) e new = (new ≡ progress.Failed f) × Closes e new

abbrev pub Feeds : Result (Vec Frame) WireFault → Progress → List ℕ → Progress → Type 0
Feeds answer (progress.Amid s) piece new = FeedsOpen answer (eaten s.cursor s.raw piece) new
Feeds answer (progress.Failed f) piece new = (answer ≡ Err f) × (new ≡ progress.Failed f)

-- These frames are answered, or the fault where there is one and no frame.
abbrev pub Answers : Result (Vec Frame) WireFault → List Frame → Progress → Type 0
Answers (Ok v) frames p = (v.items ≡ frames) × (frames ≡ [] → IsOpen p)
Answers (Err f) frames p = (frames ≡ []) × (p ≡ progress.Failed f)

-- what reading bytes found, with the bytes behind a frame
abbrev pub Finds : Event → End → Type 0
Finds (event.Waits s) e = (e ≡ Waits s) × IsSoundSpot s
Finds (event.Ends f n rest) e = e ≡ Ends f n rest.now
Finds (event.Breaks offset) e = e ≡ Breaks offset

-- a frame has at least one byte
abbrev pub Shortens : Event → List ℕ → Type 0
Shortens (event.Ends f n rest) bytes = length rest.now < length bytes
Shortens _ bytes = Unit {0}

-- the frame is at the end of these bytes, of which some stand behind it
abbrev pub Gives : WholeFrame → End → Type 0
Gives x e = e ≡ Ends x.frame x.length x.rest.now

-- what taking the fields of a cursor found, with the cursor as it is left
abbrev pub Reaches : Reached → Cursor → End → Type 0
Reaches (reached.Rest rest) c e = (e ≡ Waits (record { cursor = c; raw = rest.now })) × IsSoundSpot (record { cursor = c; raw = rest.now })
Reaches (reached.Ends f n rest) c e = e ≡ Ends f n rest.now
Reaches (reached.Breaks offset) c e = e ≡ Breaks offset

-- fewer bytes than this stand behind a frame
abbrev pub LeavesBelow : Reached → ℕ → Type 0
LeavesBelow (reached.Ends f n rest) k = length rest.now < k
LeavesBelow _ k = Unit {0}
