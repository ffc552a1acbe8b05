-- Frames as the pieces that a link carries.
use Rattle.std.specs.Prelude.{ℕ, ◌+◌, ◌/◌, ◌==◌, if◌then◌else◌, List, [], ◌∷◌, ◌++◌, length, map, take, drop}
use Rattle.std.specs.List.{flat_map}
use Rattle.std.proofs.Common.{zero, suc}
use Rattle.ct_frame.specs.declared.event.Out.{Out}
use Rattle.ct_frame.specs.declared.event.Out.TheVariants as out
use Rattle.ct_frame.specs.declared.frame.Frame.{Frame}
use Rattle.ct_outside.specs.Links.{Parcel, parcel}
use Rattle.ct_wire.specs.Spelling.{spelled}
use Rattle.ct_wire.specs.Writing.{piece_size}
use Rattle.ct_wire_fields.specs.Version.{newest}

-- the messages among what a node does, in order
abbrev pub frames_sent : List Out → List Frame
frames_sent [] = []
frames_sent (out.Send f ∷ xs) = f ∷ frames_sent xs
frames_sent (out.Answer call a ∷ xs) = frames_sent xs
frames_sent (out.Note x ∷ xs) = frames_sent xs

-- those of these frames that go to a node
abbrev pub frames_to : ℕ → List Frame → List Frame
frames_to node [] = []
frames_to node (f ∷ fs) = if f.receiver == node then f ∷ frames_to node fs else frames_to node fs

-- bytes in so many pieces: the next one has the first 65,536 of them, or all where there are fewer
unfoldable pub in_pieces : ℕ → List ℕ → List (List ℕ)
in_pieces zero bytes = []
in_pieces (suc n) bytes = take piece_size bytes ∷ in_pieces n (drop piece_size bytes)

-- how many pieces so many bytes have
unfoldable pub piece_count : ℕ → ℕ
piece_count n = (n + 65535) / 65536

-- bytes for a node, in pieces
unfoldable pub cut : ℕ → List ℕ → List Parcel
cut node bytes = map (parcel node) (in_pieces (piece_count (length bytes)) bytes)

-- a frame in pieces: its spelling in the newest version, for its receiver
abbrev pub frame_parcels : Frame → List Parcel
frame_parcels f = cut f.receiver (spelled newest f)

-- frames in pieces, one frame after the other
abbrev pub parcels_of : List Frame → List Parcel
parcels_of fs = flat_map frame_parcels fs

-- the bytes of the pieces that go to a node, or that come from it, joined
abbrev pub bytes_of : ℕ → List Parcel → List ℕ
bytes_of node [] = []
bytes_of node (p ∷ ps) = if p.node == node then p.bytes ++ bytes_of node ps else bytes_of node ps
