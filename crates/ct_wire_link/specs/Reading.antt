-- Bytes of senders, read as the frames that they send to this node.
use Rattle.std.specs.Prelude.{ℕ, ◌≡◌, ◌≢◌, ◌⊎◌, ◌==◌, ◌&&◌, Bool, if◌then◌else◌, List, [], ◌∷◌, Option, None, Some, Result, Ok, Err}
use Rattle.std.proofs.Common.{zero, suc}
use Rattle.ct_values.specs.declared.memory.NoMemory.{NoMemory}
use Rattle.ct_frame.specs.declared.frame.Frame.{Frame}
use Rattle.ct_frame.specs.Fields.{well_formed}
use Rattle.ct_law_wire.specs.Alone.{IsBytes}
use Rattle.ct_wire_link.specs.declared.arrived.Arrived.{Arrived}
use Rattle.ct_wire.specs.declared.decode.Progress.{Progress}
use Rattle.ct_wire.specs.declared.decode.Progress.TheVariants as progress
use Rattle.ct_wire.specs.declared.decode.WireFault.TheVariants as fault
use Rattle.ct_wire.specs.Cursor.{start}
use Rattle.ct_wire.specs.Decoding.{End, eaten, Completes}

-- a sender, and how far its bytes have been read
pub record Reading : Type 0 where
  pub sender : ℕ
  pub progress : Progress

-- before the first byte
abbrev pub unread : Progress
unread = progress.Amid (record { cursor = start; raw = [] })

-- a sender none of whose bytes has come
abbrev pub fresh : ℕ → Reading
fresh sender = record { sender = sender; progress = unread }

-- how far the bytes of a sender have been read: by the first reading that is of it
abbrev pub progress_of : ℕ → List Reading → Progress
progress_of sender [] = unread
progress_of sender (r ∷ rs) = if r.sender == sender then r.progress else progress_of sender rs

-- none of the first readings, so many, is of a sender
abbrev pub NoneBefore : ℕ → ℕ → List Reading → Type 0
NoneBefore zero sender rs = Unit {0}
NoneBefore (suc i) sender [] = Unit {0}
NoneBefore (suc i) sender (r ∷ rs) = (r.sender ≢ sender) × NoneBefore i sender rs

-- does a frame name this node as its receiver, and the node whose bytes it came in as its sender?
abbrev pub is_ours : ℕ → ℕ → Frame → Bool
is_ours me sender f = (f.receiver == me) && (f.sender == sender)

-- where a frame that does not names another node: its receiver stands at offset 24, and its sender behind that at 28
abbrev pub strange_at : ℕ → Frame → ℕ
strange_at me f = if f.receiver == me then 28 else 24

-- the frames before the first that names another node
abbrev pub before_strange : ℕ → ℕ → List Frame → List Frame
before_strange me sender [] = []
before_strange me sender (f ∷ fs) = if is_ours me sender f then f ∷ before_strange me sender fs else []

-- where the first frame that names another node does so
abbrev pub first_strange : ℕ → ℕ → List Frame → Option ℕ
first_strange me sender [] = None
first_strange me sender (f ∷ fs) = if is_ours me sender f then first_strange me sender fs else Some (strange_at me f)

-- a frame that names another node breaks a rule there, and nothing behind it is read
abbrev pub or_strange : Option ℕ → Progress → Progress
or_strange None p = p
or_strange (Some offset) p = progress.Failed (fault.Malformed offset)

-- bytes that lead to this end: the frames of them that arrive, and how far they are read
abbrev pub Reads : ℕ → ℕ → End → List Frame → Progress → Type 0
Reads me sender e arrived new =
    (fs : List Frame) × (p : Progress) × Completes e fs p × (arrived ≡ before_strange me sender fs) × (new ≡ or_strange (first_strange me sender fs) p)

-- the offset in its frame at which bytes broke a rule, if they did
abbrev pub broken_at : Progress → Option ℕ
broken_at (progress.Amid s) = None
broken_at (progress.Failed fault.Short) = None
broken_at (progress.Failed (fault.Malformed offset)) = Some offset
broken_at (progress.Failed fault.NoMemory) = None

-- A piece, whatever node its frames name, by cases on the answer. Where the bytes before it have broken a rule, they stay so; else
-- the frames that it completes are answered. Without memory the bytes are read as far as before, or no further ever.
abbrev pub ReadsOn : Result Arrived NoMemory → Progress → List ℕ → Progress → Type 0
ReadsOn (Ok a) (progress.Amid s) bytes new = Completes (eaten s.cursor s.raw bytes) a.frames.items new × (a.broken ≡ broken_at new)
ReadsOn (Ok a) (progress.Failed f) bytes new = (offset : ℕ) × (f ≡ fault.Malformed offset) × (a.frames.items ≡ []) × (a.broken ≡ Some offset) × (new ≡ progress.Failed f)
ReadsOn (Err e) old bytes new = (new ≡ old) ⊎ (new ≡ progress.Failed fault.NoMemory)

-- A piece of a sender, by cases on the answer. Where its bytes have broken a rule, they stay so, and nothing arrives; else the
-- frames that the piece completes arrive. Without memory the bytes are read as far as before, or no further ever.
abbrev pub TakesPiece : Result Arrived NoMemory → ℕ → ℕ → List ℕ → Progress → Progress → Type 0
TakesPiece (Ok a) me sender bytes (progress.Amid s) new = Reads me sender (eaten s.cursor s.raw bytes) a.frames.items new × (a.broken ≡ broken_at new)
TakesPiece (Ok a) me sender bytes (progress.Failed f) new = (offset : ℕ) × (f ≡ fault.Malformed offset) × (a.frames.items ≡ []) × (a.broken ≡ Some offset) × (new ≡ progress.Failed f)
TakesPiece (Err e) me sender bytes old new = (new ≡ old) ⊎ (new ≡ progress.Failed fault.NoMemory)

-- a frame that arrives keeps the rules of its fields, and names this node and its sender
abbrev pub is_sound : ℕ → ℕ → Frame → Bool
is_sound me sender f = well_formed f && is_ours me sender f

-- some bytes lead there
abbrev pub IsReached : Progress → Type 0
IsReached (progress.Amid s) = (bytes : List ℕ) × (fs : List Frame) × IsBytes bytes × Completes (eaten start [] bytes) fs (progress.Amid s)
IsReached (progress.Failed f) = Unit {0}
