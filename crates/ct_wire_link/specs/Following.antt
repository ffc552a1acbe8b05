-- What arrives of the pieces of all senders, whichever come first and however their bytes are cut.
use Rattle.std.specs.Prelude.{ℕ, ◌≡◌, ◌≢◌, ◌⊎◌, ◌↔◌, ◌==◌, true, if◌then◌else◌, List, [], ◌∷◌, ◌++◌, None, Some, Ok}
use Rattle.std.specs.List.{list_all}
use Rattle.ct_frame.specs.declared.frame.Frame.{Frame}
use Rattle.ct_outside.specs.Links.{Parcel, parcel}
use Rattle.ct_wire_link.specs.Parcels.{bytes_of}
use Rattle.ct_wire_link.specs.declared.arrived.Arrived.{Arrived}
use Rattle.ct_wire_link.specs.Reading.{Reading, Reads, TakesPiece, broken_at, first_strange, is_sound, progress_of}
use Rattle.ct_wire.specs.declared.decode.Progress.{Progress}
use Rattle.ct_wire.specs.declared.decode.Progress.TheVariants as progress
use Rattle.ct_wire.specs.declared.decode.WireFault.TheVariants as fault
use Rattle.ct_wire.specs.Cursor.{start}
use Rattle.ct_wire.specs.Decoding.{eaten, Completes}

-- those of these frames that come from a sender
abbrev pub frames_from : ℕ → List Frame → List Frame
frames_from sender [] = []
frames_from sender (f ∷ fs) = if f.sender == sender then f ∷ frames_from sender fs else frames_from sender fs

-- Node `me` took these pieces, each with an answer, and these frames arrived: those from a sender are what arrives of all bytes of
-- its pieces, joined, and so far are these bytes read
unfoldable pub Follows : ℕ → List Parcel → List Frame → List Reading → Type 0
Follows me pieces arrived readings = (sender : ℕ) → Reads me sender (eaten start [] (bytes_of sender pieces)) (frames_from sender arrived) (progress_of sender readings)

-- before the first piece
abbrev pub FollowsFirst : Type 0
FollowsFirst = (me : ℕ) → Follows me [] [] []

-- a piece more, with its answer
abbrev pub FollowsNext : Type 0
FollowsNext =
    (me sender : ℕ) (bytes : List ℕ) (a : Arrived) (pieces : List Parcel) (arrived : List Frame) (old new : List Reading)
    → Follows me pieces arrived old
    → TakesPiece (Ok a) me sender bytes (progress_of sender old) (progress_of sender new)
    → ((other : ℕ) → other ≢ sender → progress_of other new ≡ progress_of other old)
    → list_all (is_sound me sender) a.frames.items ≡ true
    → Follows me (pieces ++ parcel sender bytes ∷ []) (arrived ++ a.frames.items) new

-- where the bytes of a sender have broken no rule, all frames that they complete have arrived
abbrev pub WholeArrive : Type 0
WholeArrive =
    (me sender : ℕ) (pieces : List Parcel) (arrived : List Frame) (readings : List Reading)
    → Follows me pieces arrived readings
    → broken_at (progress_of sender readings) ≡ None
    → Completes (eaten start [] (bytes_of sender pieces)) (frames_from sender arrived) (progress_of sender readings)

-- bytes of a sender break a rule at this offset of a frame: a field is malformed there, or a frame before that names another node
-- there
abbrev pub BreaksAt : ℕ → ℕ → List ℕ → ℕ → Type 0
BreaksAt me sender bytes offset =
    (fs : List Frame) × (p : Progress) × Completes (eaten start [] bytes) fs p
    × ((first_strange me sender fs ≡ Some offset) ⊎ ((first_strange me sender fs ≡ None) × (p ≡ progress.Failed (fault.Malformed offset))))

-- and just there they have broken it
abbrev pub BrokenBreaks : Type 0
BrokenBreaks =
    (me sender offset : ℕ) (pieces : List Parcel) (arrived : List Frame) (readings : List Reading)
    → Follows me pieces arrived readings
    → (broken_at (progress_of sender readings) ≡ Some offset) ↔ BreaksAt me sender (bytes_of sender pieces) offset

-- ---- the first frames of all

-- these frames are the first ones of those that the bytes complete
pub record AreFirst (bytes : List ℕ) (frames : List Frame) : Type 0 where
  pub left : List Frame
  pub progress : Progress
  pub complete : Completes (eaten start [] bytes) (frames ++ left) progress

-- these frames are all that the bytes of a sender complete, and the bytes break no rule
pub record AreWhole (me sender : ℕ) (bytes : List ℕ) (frames : List Frame) : Type 0 where
  pub progress : Progress
  pub complete : Completes (eaten start [] bytes) frames progress
  pub unbroken : (offset : ℕ) → BreaksAt me sender bytes offset → ⊥

-- what arrived of a sender are the first frames of those that all bytes of its pieces, joined, complete
abbrev pub FirstArrive : Type 0
FirstArrive =
    (me sender : ℕ) (pieces : List Parcel) (arrived : List Frame) (readings : List Reading)
    → Follows me pieces arrived readings
    → AreFirst (bytes_of sender pieces) (frames_from sender arrived)

-- they are still the first ones where more pieces have come
abbrev pub FirstStay : Type 0
FirstStay = (sender : ℕ) (pieces more : List Parcel) (frames : List Frame) → AreFirst (bytes_of sender pieces) frames → AreFirst (bytes_of sender (pieces ++ more)) frames

-- so are those of them that arrived first
abbrev pub FirstLead : Type 0
FirstLead = (sender : ℕ) (bytes : List ℕ) (arrived late : List Frame) → AreFirst bytes (frames_from sender (arrived ++ late)) → AreFirst bytes (frames_from sender arrived)

-- where the bytes of a sender have broken no rule, all has arrived
abbrev pub AllArrive : Type 0
AllArrive =
    (me sender : ℕ) (pieces : List Parcel) (arrived : List Frame) (readings : List Reading)
    → Follows me pieces arrived readings
    → broken_at (progress_of sender readings) ≡ None
    → AreWhole me sender (bytes_of sender pieces) (frames_from sender arrived)
