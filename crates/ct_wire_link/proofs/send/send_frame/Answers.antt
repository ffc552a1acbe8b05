use Rattle.std.proofs.Common.{◌≡◌, ◌∙◌, ◌∷◌, [], List, ℕ, subst, arith}
use Rattle.ct_outside.specs.Links.{Parcel, parcel}
use Rattle.ct_outside.specs.Told.{Told}
use Rattle.ct_wire_link.specs.Parcels.{cut, frame_parcels}
use Rattle.ct_wire_link.specs.Sending.{SendsFront, SendsUpTo, sent_also}
use Rattle.ct_wire_link.proofs.Fronts.{none_left, piece_first, piece_shortens, told_all, told_first, told_next, told_refused, told_stopped}
use Rattle.ct_wire_link.proofs.send.send_frame.Goals as goal

pub returns-in-Err-NoMemory-clause-pieces : goal.returns-in-Err-NoMemory-clause-pieces
returns-in-Err-NoMemory-clause-pieces g c = told_stopped _ _ _ _ (told_first (frame_parcels c.args.frame.now) _)

pub returns-in-Err-Failed-clause-pieces : goal.returns-in-Err-Failed-clause-pieces
returns-in-Err-Failed-clause-pieces g c =
    let to = c.args.frame.now.receiver in
    subst (λ (whole : List ℕ). Told (g.L.Link.pieces c.args.link.now) (g.L.Link.pieces c.send.new.self) (SendsFront (cut to whole))) c.in-Ok.ensures.0
    (told_refused (cut to c.in-Ok.encoder) (cut to c.pieces.encoder) _ _ _ c.pieces.invariant.sent c.in-Err-Failed.ensures.pieces)

pub returns-in-Err-NoMemory-send-clause-pieces : goal.returns-in-Err-NoMemory-send-clause-pieces
returns-in-Err-NoMemory-send-clause-pieces g c =
    let to = c.args.frame.now.receiver in
    subst (λ (whole : List ℕ). Told (g.L.Link.pieces c.args.link.now) (g.L.Link.pieces c.send.new.self) (SendsFront (cut to whole))) c.in-Ok.ensures.0
    (told_refused (cut to c.in-Ok.encoder) (cut to c.pieces.encoder) _ _ _ c.pieces.invariant.sent c.in-Err-NoMemory-send.ensures.pieces)

pub pieces-smaller : goal.pieces-smaller
pieces-smaller g c =
    let gives = rw c.in-Some.is at c.in_ok-piece.ensures in
    piece_shortens c.pieces.encoder c.next_piece.new.self gives.0 gives.2

pub pieces-preserved : goal.pieces-preserved
pieces-preserved g c =
    let to = c.args.frame.now.receiver in
    let gives = rw c.in-Some.is at c.in_ok-piece.ensures in
    let first : cut to c.pieces.encoder ≡ parcel to c.as_slice.result.now ∷ cut to c.next_piece.new.self =
    piece_first to c.pieces.encoder c.as_slice.result.now c.next_piece.new.self gives.0 (c.as_slice.ensures.value ∙ gives.1) gives.2 in
    let so_far : Told (g.L.Link.pieces c.args.link.now) (g.L.Link.pieces c.pieces.link) (SendsUpTo (cut to c.in-Ok.encoder) (parcel to c.as_slice.result.now ∷ cut to c.next_piece.new.self)) =
    subst (λ (left : List Parcel). Told (g.L.Link.pieces c.args.link.now) (g.L.Link.pieces c.pieces.link) (SendsUpTo (cut to c.in-Ok.encoder) left)) first c.pieces.invariant.sent in
    record {
      sent = told_next (cut to c.in-Ok.encoder) (cut to c.next_piece.new.self) to c.as_slice.result.now _ _ _ so_far c.in-Ok-send.ensures.pieces;
      faults = omega (arith, c.pieces.invariant.faults, c.send.ensures.cause.later);
      endings = omega (arith, c.pieces.invariant.endings, c.send.ensures.endings);
      looks = c.send.ensures.looks ∙ c.pieces.invariant.looks;
      permissions = c.send.ensures.permissions ∙ c.pieces.invariant.permissions;
    }

pub returns-clause-pieces : goal.returns-clause-pieces
returns-clause-pieces g c =
    let to = c.args.frame.now.receiver in
    let gives = rw c.in_default.is at c.in_ok-piece.ensures in
    let none : Told (g.L.Link.pieces c.args.link.now) (g.L.Link.pieces c.pieces.link) (SendsUpTo (cut to c.in-Ok.encoder) []) =
    subst (λ (left : List Parcel). Told (g.L.Link.pieces c.args.link.now) (g.L.Link.pieces c.pieces.link) (SendsUpTo (cut to c.in-Ok.encoder) left)) (none_left to c.pieces.encoder gives.0) c.pieces.invariant.sent in
    subst (λ (whole : List ℕ). Told (g.L.Link.pieces c.args.link.now) (g.L.Link.pieces c.pieces.link) (λ x y. y ≡ sent_also (cut to whole) x)) c.in-Ok.ensures.0
    (told_all (cut to c.in-Ok.encoder) _ _ none)
