-- Bytes are cut piece by piece.
use Rattle.std.proofs.Common.{◌≡◌, ℕ, suc, ◌-◌, ◌*◌, ◌<◌, ◌≤◌, List, [], ◌∷◌, length, map, take, drop, refl, sym, ap, ◌∙◌, arith}
use Rattle.std.proofs.lemmas.List.{length-drop}
use Rattle.ct_outside.specs.Links.{parcel}
use Rattle.ct_wire_link.specs.Parcels.{cut, in_pieces, piece_count}
use Rattle.ct_wire.specs.Writing.{piece_size}

-- nothing has no piece
pub cut_none : (node : ℕ) → cut node [] ≡ []
unfolding cut in_pieces piece_count
cut_none node = refl

-- the first piece is one more than those of the rest
count_more : (n : ℕ) → 0 < n → piece_count n ≡ suc (piece_count (n - piece_size))
unfolding piece_count piece_size
count_more n some = omega arith

-- the first piece, and those of the rest
pub cut_more : (node : ℕ) (bytes : List ℕ) → 0 < length bytes → cut node bytes ≡ parcel node (take piece_size bytes) ∷ cut node (drop piece_size bytes)
unfolding cut in_pieces
cut_more node bytes some =
    ap (λ (n : ℕ). map (parcel node) (in_pieces n bytes)) (count_more (length bytes) some)
    ∙ ap (λ (n : ℕ). parcel node (take piece_size bytes) ∷ map (parcel node) (in_pieces (piece_count n) (drop piece_size bytes))) (sym (length-drop piece_size bytes))

-- so many pieces have room for so many bytes
pub count_fits : (n : ℕ) → n ≤ piece_count n * piece_size
unfolding piece_count piece_size
count_fits n = omega arith
