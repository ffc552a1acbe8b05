-- Reading in pieces, by the bytes.
use Rattle.std.proofs.Common.{◌≡◌, ℕ, ◌+◌, Bool, true, false, cond, ltb, List, [], ◌∷◌, ◌++◌, length, refl, sym, subst}
use Rattle.ct_frame.specs.declared.frame.Frame.{Frame}
use Rattle.ct_wire.specs.declared.cursor.Cursor.{Cursor}
use Rattle.ct_wire.specs.declared.cursor.Outcome.{Outcome}
use Rattle.ct_wire.specs.declared.cursor.Outcome.TheVariants as outcome
use Rattle.ct_wire.specs.declared.decode.Progress.{Progress}
use Rattle.ct_wire.specs.declared.decode.Progress.TheVariants as progress
use Rattle.ct_wire.specs.declared.decode.Spot.{Spot}
use Rattle.ct_wire.specs.Cursor.{field_read, start, width}
use Rattle.ct_wire.specs.Decoding.{End, after_field, eaten, Closes, Completes}
use Rattle.ct_law_wire.specs.InPieces.{go_on, EndOfTwo, FramesOfTwo}

-- a field that is whole in the first piece
field_then : (o : Outcome) (bytes more : List ℕ) → ((next : Cursor) → eaten next [] (bytes ++ more) ≡ go_on (eaten next [] bytes) more)
    → after_field o (bytes ++ more) (λ next. eaten next [] (bytes ++ more)) ≡ go_on (after_field o bytes (λ next. eaten next [] bytes)) more
field_then (outcome.More c) bytes more on = on c
field_then (outcome.Whole f n) bytes more on = refl
field_then (outcome.Malformed offset) bytes more on = refl

-- a byte that completes its field or does not
byte_then : (t : Bool) (short whole : End) (short_on whole_on : End) (more : List ℕ) → short_on ≡ go_on short more → whole_on ≡ go_on whole more → cond t short_on whole_on ≡ go_on (cond t short whole) more
byte_then true short whole short_on whole_on more a b = a
byte_then false short whole short_on whole_on more a b = b

pub end_of_two : EndOfTwo
unfolding eaten
end_of_two c raw [] more = refl
end_of_two c raw (b ∷ piece) more =
    byte_then (ltb (length raw + 1) (width c)) (eaten c (raw ++ b ∷ []) piece) (after_field (field_read c (raw ++ b ∷ [])) piece (λ next. eaten next [] piece))
    (eaten c (raw ++ b ∷ []) (piece ++ more)) (after_field (field_read c (raw ++ b ∷ [])) (piece ++ more) (λ next. eaten next [] (piece ++ more))) more
    (end_of_two c (raw ++ b ∷ []) piece more)
    (field_then (field_read c (raw ++ b ∷ [])) piece more (λ next. end_of_two next [] piece more))

-- the spot of a progress, or another
abbrev spot_of : Spot → Progress → Spot
spot_of s (progress.Amid t) = t
spot_of s (progress.Failed f) = s

-- behind no frame
closed_then : (e : End) (s : Spot) (more : List ℕ) (gs : List Frame) (q : Progress) → Closes e (progress.Amid s) → Completes (eaten s.cursor s.raw more) gs q → Completes (go_on e more) gs q
closed_then (End.Waits t) s more gs q closed then = subst (λ (u : Progress). Completes (eaten (spot_of s u).cursor (spot_of s u).raw more) gs q) closed then
closed_then (End.Ends f n rest) s more gs q closed then = absurd closed
closed_then (End.Breaks offset) s more gs q closed then = absurd (cc)

-- behind frames
completed_then : (fs : List Frame) (e : End) (s : Spot) (more : List ℕ) (gs : List Frame) (q : Progress) → Completes e fs (progress.Amid s) → Completes (eaten s.cursor s.raw more) gs q → Completes (go_on e more) (fs ++ gs) q
completed_then [] e s more gs q first then = closed_then e s more gs q first then
completed_then (f ∷ fs) (End.Waits t) s more gs q first then = absurd first
completed_then (f ∷ fs) (End.Ends g n rest) s more gs q first then =
    (first.0, subst (λ (e : End). Completes e (fs ++ gs) q) (sym (end_of_two start [] rest more)) (completed_then fs (eaten start [] rest) s more gs q first.1 then))
completed_then (f ∷ fs) (End.Breaks offset) s more gs q first then = absurd first

pub frames_of_two : FramesOfTwo
frames_of_two c raw piece more fs gs s q first then =
    subst (λ (e : End). Completes e (fs ++ gs) q) (sym (end_of_two c raw piece more)) (completed_then fs (eaten c raw piece) s more gs q first then)
