-- What a look answers, by whether a piece of the node's own is kept.
use Rattle.std.proofs.Common.{◌≡◌, ℕ, List, [], ◌∷◌, Bool, Option, Result, refl, sym, subst}
use Rattle.ct_outside.specs.Links.{Parcel}
use Rattle.ct_outside.specs.declared.fault.LinkFault.{LinkFault}
use Rattle.ct_outside.specs.declared.link.Received.{Received}
use Rattle.ct_links.specs.Streams.{HandsOver, LinkState, LooksOver, ReceivesOver}

-- a kept piece is handed over, and no stream is asked
pub hands_over : {S : Type 0} (left : S → Option (List ℕ)) (may_wait : Bool) (r : Result Received LinkFault) (own : List Parcel) (piece : Parcel) (old new : LinkState S)
    → own ≡ piece ∷ new.own → HandsOver r piece → new.lanes ≡ old.lanes → ReceivesOver own left may_wait r old new
hands_over left may_wait r own piece old new is hands same = subst (λ o. ReceivesOver o left may_wait r old new) (sym is) (hands, refl, same)

-- none is kept, and the streams are asked
pub looks_over : {S : Type 0} (left : S → Option (List ℕ)) (may_wait : Bool) (r : Result Received LinkFault) (own : List Parcel) (old new : LinkState S)
    → own ≡ [] → new.own ≡ [] → LooksOver left may_wait r old.lanes new.lanes → ReceivesOver own left may_wait r old new
looks_over left may_wait r own old new is none looks = subst (λ o. ReceivesOver o left may_wait r old new) (sym is) (none, looks)
