-- Frames that are sent over a link.
use Rattle.std.specs.Prelude.{ℕ, ◌<◌, ◌≤◌, ◌≡◌, nat_lt, Bool, true, false, if◌then◌else◌, List, [], ◌∷◌, ◌++◌, Option, None, Some, Result, Ok, Err}
use Rattle.ct_frame.specs.declared.event.Out.{Out}
use Rattle.ct_frame.specs.declared.event.Out.TheVariants as out
use Rattle.ct_frame.specs.declared.frame.Frame.{Frame}
use Rattle.ct_frame.specs.Fields.{well_formed}
use Rattle.ct_outside.specs.Links.{Parcel, Pieces}
use Rattle.ct_wire_link.specs.Parcels.{frame_parcels, parcels_of}
use Rattle.ct_wire_link.specs.declared.fault.SendFault.{SendFault}
use Rattle.ct_wire_link.specs.declared.fault.SendFault.TheVariants.{Link, TooLong, NoMemory}
use Rattle.ct_wire.specs.Spelling.{size}
use Rattle.ct_wire_fields.specs.Version.{newest}

-- a frame that a node sends keeps the rules of its fields
abbrev pub is_sendable : Out → Bool
is_sendable (out.Send f) = well_formed f
is_sendable (out.Answer call a) = true
is_sendable (out.Note x) = true

-- these pieces more were sent, in this order
abbrev pub sent_also : List Parcel → Pieces → Pieces
sent_also ps p = record p { sent = p.sent ++ ps }

-- a front of these pieces was sent, and these are left
abbrev pub SendsUpTo : List Parcel → List Parcel → Pieces → Pieces → Type 0
SendsUpTo all left old new = (front : List Parcel) × (all ≡ front ++ left) × (new ≡ sent_also front old)

-- a front of these pieces was sent
abbrev pub SendsFront : List Parcel → Pieces → Pieces → Type 0
SendsFront all old new = (left : List Parcel) × SendsUpTo all left old new

-- a frame: all of its pieces are sent, or none where it is too long, and else a front of them
abbrev pub SendsFrame : Result (Unit {0}) SendFault → Frame → Pieces → Pieces → Type 0
SendsFrame (Ok u) f old new = new ≡ sent_also (frame_parcels f) old
SendsFrame (Err (TooLong n)) f old new = new ≡ old
SendsFrame (Err Link) f old new = SendsFront (frame_parcels f) old new
SendsFrame (Err NoMemory) f old new = SendsFront (frame_parcels f) old new

-- a frame that is sent has at most 2^28 bytes, and one that is too long has so many, above that
abbrev pub IsWithin : Result (Unit {0}) SendFault → Frame → Type 0
IsWithin (Ok u) f = size newest f ≤ 268435456
IsWithin (Err (TooLong n)) f = (n ≡ size newest f) × (268435456 < size newest f)
IsWithin (Err Link) f = Unit {0}
IsWithin (Err NoMemory) f = Unit {0}

-- has a frame more bytes than a frame may have?
abbrev pub is_long : Frame → Bool
is_long f = nat_lt 268435456 (size newest f)

-- the frames before the first that is too long
abbrev pub before_long : List Frame → List Frame
before_long [] = []
before_long (f ∷ fs) = if is_long f then [] else f ∷ before_long fs

-- how many bytes the first frame has that is too long
abbrev pub first_long : List Frame → Option ℕ
first_long [] = None
first_long (f ∷ fs) = if is_long f then Some (size newest f) else first_long fs

-- frames: all of their pieces are sent, or those of the frames before one that is too long, and else a front of them
abbrev pub SendsFrames : Result (Unit {0}) SendFault → List Frame → Pieces → Pieces → Type 0
SendsFrames (Ok u) fs old new = new ≡ sent_also (parcels_of fs) old
SendsFrames (Err (TooLong n)) fs old new = new ≡ sent_also (parcels_of (before_long fs)) old
SendsFrames (Err Link) fs old new = SendsFront (parcels_of fs) old new
SendsFrames (Err NoMemory) fs old new = SendsFront (parcels_of fs) old new

-- all frames are sent only where none is too long, and the first that is too long is told with its bytes
abbrev pub FindsLong : Result (Unit {0}) SendFault → List Frame → Type 0
FindsLong (Ok u) fs = first_long fs ≡ None
FindsLong (Err (TooLong n)) fs = first_long fs ≡ Some n
FindsLong (Err Link) fs = Unit {0}
FindsLong (Err NoMemory) fs = Unit {0}

-- did the link fail?
abbrev pub is_link_failure : Result (Unit {0}) SendFault → Bool
is_link_failure (Ok u) = false
is_link_failure (Err Link) = true
is_link_failure (Err (TooLong n)) = false
is_link_failure (Err NoMemory) = false
