-- What pieces are together.
use Rattle.std.specs.Prelude.{ℕ, ◌≡◌, List, ◌++◌}
use Rattle.std.specs.List.{flat_map}
use Rattle.ct_frame.specs.declared.frame.Frame.{Frame}
use Rattle.ct_outside.specs.Links.{Parcel}
use Rattle.ct_wire_link.specs.Parcels.{bytes_of, frames_to, parcels_of}
use Rattle.ct_wire.specs.Spelling.{spelled}
use Rattle.ct_wire_fields.specs.Version.{newest}

-- the pieces of frames that go to a node, joined, are the spellings of the frames that go to it, one after the other
abbrev pub PiecesJoin : Type 0
PiecesJoin = (node : ℕ) (fs : List Frame) → bytes_of node (parcels_of fs) ≡ flat_map (spelled newest) (frames_to node fs)

-- the pieces at the front of others are joined to a front of what the others are joined to
abbrev pub FrontsJoin : Type 0
FrontsJoin = (node : ℕ) (front behind : List Parcel) → bytes_of node (front ++ behind) ≡ bytes_of node front ++ bytes_of node behind
