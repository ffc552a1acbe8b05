-- Pieces are joined again.
use Rattle.std.proofs.Common.{◌≡◌, ℕ, zero, suc, ◌*◌, ◌≤◌, ◌==◌, Bool, true, false, cond, List, [], ◌∷◌, ◌++◌, length, map, take, drop, refl, sym, ap, ◌∙◌, append_assoc, arith}
use Rattle.std.specs.List.{flat_map}
use Rattle.std.proofs.lemmas.Bool.{cond_both, eqb-true, eq-eqb}
use Rattle.std.proofs.lemmas.List.{length-drop, nil_from_length, take-append-drop}
use Rattle.ct_frame.specs.declared.frame.Frame.{Frame}
use Rattle.ct_outside.specs.Links.{parcel}
use Rattle.ct_wire_link.specs.Laws.{FrontsJoin, PiecesJoin}
use Rattle.ct_wire_link.specs.Parcels.{bytes_of, cut, frame_parcels, frames_to, in_pieces, parcels_of, piece_count}
use Rattle.ct_wire_link.proofs.Cut.{count_fits}
use Rattle.ct_wire.specs.Spelling.{spelled}
use Rattle.ct_wire.specs.Writing.{piece_size}
use Rattle.ct_wire_fields.specs.Version.{newest}

-- one piece more at the front
cond_joins : (t : Bool) (p xs ys zs : List ℕ) → xs ≡ ys ++ zs → cond t (p ++ xs) xs ≡ cond t (p ++ ys) ys ++ zs
cond_joins true p xs ys zs is = ap (λ (l : List ℕ). p ++ l) is ∙ sym (append_assoc p ys zs)
cond_joins false p xs ys zs is = is

pub fronts_join : FrontsJoin
fronts_join node [] behind = refl
fronts_join node (p ∷ front) behind = cond_joins (p.node == node) p.bytes (bytes_of node (front ++ behind)) (bytes_of node front) (bytes_of node behind) (fronts_join node front behind)

-- the pieces of a node, of which there are so many that they have all of its bytes
own_join : (node n : ℕ) (bytes : List ℕ) → length bytes ≤ n * piece_size → bytes_of node (map (parcel node) (in_pieces n bytes)) ≡ bytes
unfolding in_pieces
own_join node zero bytes fits = sym (nil_from_length bytes (omega (arith, fits)))
own_join node (suc n) bytes fits =
    let t : (node == node) ≡ true = eq-eqb node node refl in
    let less : length (drop piece_size bytes) ≤ n * piece_size = omega (arith, length-drop piece_size bytes, fits) in
    rw t (ap (λ (l : List ℕ). take piece_size bytes ++ l) (own_join node n (drop piece_size bytes) less) ∙ take-append-drop piece_size bytes)

-- another node has none of them
others_join : (node other n : ℕ) (bytes : List ℕ) → (node == other) ≡ false → bytes_of other (map (parcel node) (in_pieces n bytes)) ≡ []
unfolding in_pieces
others_join node other zero bytes ne = refl
others_join node other (suc n) bytes ne = rw ne (others_join node other n (drop piece_size bytes) ne)

-- bytes in pieces
pub cut_joins : (node other : ℕ) (bytes : List ℕ) → bytes_of other (cut node bytes) ≡ cond (node == other) bytes []
unfolding cut
cut_joins node other bytes =
    cond_both (node == other) bytes [] (λ (l : List ℕ). bytes_of other (cut node bytes) ≡ l)
    (λ t. ap (λ (k : ℕ). bytes_of k (cut node bytes)) (sym (eqb-true node other t)) ∙ own_join node (piece_count (length bytes)) bytes (count_fits (length bytes)))
    (λ t. others_join node other (piece_count (length bytes)) bytes t)

-- a frame before others, at a node
frame_joins : (t : Bool) (f : Frame) (fs : List Frame) → cond t (spelled newest f) [] ++ flat_map (spelled newest) fs ≡ flat_map (spelled newest) (cond t (f ∷ fs) fs)
frame_joins true f fs = refl
frame_joins false f fs = refl

pub pieces_join : PiecesJoin
pieces_join node [] = refl
pieces_join node (f ∷ fs) =
    fronts_join node (frame_parcels f) (parcels_of fs)
    ∙ ap (λ (l : List ℕ). l ++ bytes_of node (parcels_of fs)) (cut_joins f.receiver node (spelled newest f))
    ∙ ap (λ (l : List ℕ). cond (f.receiver == node) (spelled newest f) [] ++ l) (pieces_join node fs)
    ∙ frame_joins (f.receiver == node) f (frames_to node fs)
