-- Pieces are sent one after the other.
use Rattle.std.proofs.Common.{◌≡◌, ℕ, ◌<◌, List, [], ◌∷◌, ◌++◌, length, take, drop, Option, None, Some, refl, sym, ap, ◌∙◌, append_assoc, arith}
use Rattle.std.proofs.lemmas.List.{append-nil, length-drop}
use Rattle.ct_outside.specs.Links.{Parcel, Pieces, parcel, sent_more}
use Rattle.ct_outside.specs.Told.{Told}
use Rattle.ct_wire_link.specs.Parcels.{cut}
use Rattle.ct_wire_link.proofs.Cut.{cut_more, cut_none}
use Rattle.ct_wire_link.specs.Sending.{SendsFront, SendsUpTo, sent_also}
use Rattle.ct_wire.specs.Writing.{piece_size}
use Rattle.ct_wire_link.proofs.Frames.{sent_none}

-- some, and then more
sent_then : (front more : List Parcel) (p : Pieces) → sent_also more (sent_also front p) ≡ sent_also (front ++ more) p
sent_then front more p = ap (λ (ps : List Parcel). record p { sent = ps }) (append_assoc p.sent front more)

pub told_first : (all : List Parcel) (a : Option Pieces) → Told a a (SendsUpTo all all)
told_first all None = tt
told_first all (Some p) = ([], refl, sent_none p)

-- the next piece is sent
pub told_next : (all left : List Parcel) (to : ℕ) (bytes : List ℕ) (a b c : Option Pieces) → Told a b (SendsUpTo all (parcel to bytes ∷ left)) → Told b c (λ x y. y ≡ sent_more to bytes x) → Told a c (SendsUpTo all left)
told_next all left to bytes None b c so_far sends = tt
told_next all left to bytes (Some p) None c so_far sends = absurd so_far
told_next all left to bytes (Some p) (Some q) None so_far sends = absurd sends
told_next all left to bytes (Some p) (Some q) (Some r) so_far sends = (
  so_far.0 ++ parcel to bytes ∷ [],
  so_far.1 ∙ sym (append_assoc so_far.0 (parcel to bytes ∷ []) left),
  sends ∙ ap (λ (x : Pieces). sent_more to bytes x) so_far.2 ∙ sent_then so_far.0 (parcel to bytes ∷ []) p,
)

-- the next piece is refused
pub told_refused : (all left : List Parcel) (a b c : Option Pieces) → Told a b (SendsUpTo all left) → Told b c (λ x y. y ≡ x) → Told a c (SendsFront all)
told_refused all left None b c so_far same = tt
told_refused all left (Some p) None c so_far same = absurd so_far
told_refused all left (Some p) (Some q) None so_far same = absurd same
told_refused all left (Some p) (Some q) (Some r) so_far same = (left, (so_far.0, so_far.1, same ∙ so_far.2))

-- no piece is sent any more
pub told_stopped : (all left : List Parcel) (a b : Option Pieces) → Told a b (SendsUpTo all left) → Told a b (SendsFront all)
told_stopped all left None b so_far = tt
told_stopped all left (Some p) None so_far = absurd so_far
told_stopped all left (Some p) (Some q) so_far = (left, so_far)

-- none is left
pub told_all : (all : List Parcel) (a b : Option Pieces) → Told a b (SendsUpTo all []) → Told a b (λ x y. y ≡ sent_also all x)
told_all all None b so_far = tt
told_all all (Some p) None so_far = absurd so_far
told_all all (Some p) (Some q) so_far = so_far.2 ∙ ap (λ (ps : List Parcel). sent_also ps p) (sym (append-nil so_far.0) ∙ sym so_far.1)

-- the next piece, and those of the bytes behind it
pub piece_first : (to : ℕ) (old piece new : List ℕ) → 0 < length old → piece ≡ take piece_size old → new ≡ drop piece_size old → cut to old ≡ parcel to piece ∷ cut to new
piece_first to old piece new some front behind =
    cut_more to old some ∙ ap (λ (l : List ℕ). parcel to l ∷ cut to (drop piece_size old)) (sym front) ∙ ap (λ (l : List ℕ). parcel to piece ∷ cut to l) (sym behind)

pub piece_shortens : (old new : List ℕ) → 0 < length old → new ≡ drop piece_size old → length new < length old
unfolding piece_size
piece_shortens old new some behind = omega (arith, some, length-drop piece_size old, ap length behind)

-- no byte is left, and no piece
pub none_left : (to : ℕ) (old : List ℕ) → old ≡ [] → cut to old ≡ []
none_left to old none = ap (cut to) none ∙ cut_none to
