-- Bytes, and others behind them.
use Rattle.std.proofs.Common.{◌≡◌, ℕ, ◌+◌, ◌<◌, List, [], ◌++◌, length, sym, ap, ◌∙◌, arith, Ok, Err}
use Rattle.std.proofs.lemmas.List.{length-append}
use Rattle.ct_frame.specs.declared.frame.Frame.{Frame}
use Rattle.ct_wire.specs.declared.decode.WireFault.TheVariants as fault
use Rattle.ct_wire.specs.Cursor.{start}
use Rattle.ct_wire.specs.Decoding.{End, decoded, eaten, frame_or_fault}
use Rattle.ct_law_wire.specs.InPieces.{go_on}
use Rattle.ct_law_wire.proofs.InPieces.{end_of_two}
use Rattle.ct_law_wire_faults.specs.Fields.{Ahead, IsMalformed, IsRead, IsShort, KeptTo, begin_of}
use Rattle.ct_law_wire_faults.specs.Fronts.{FrontsAreShort, MalformedStays}
use Rattle.ct_law_wire_faults.proofs.Steps.{next_comes}
use Rattle.ct_law_wire_faults.proofs.Reached.{malformed_breaks, read_ends}
use Rattle.ct_law_wire_faults.proofs.Found.{Found, found}
use Rattle.ct_law_wire_faults.proofs.Laws.{malformed_when, ok_is_not_err, same_read, spelled_decoded}

pub counted : {bytes : List ℕ} {a : Ahead} {rest : List ℕ} → KeptTo bytes a rest → begin_of a + length rest ≡ length bytes
counted KeptTo.Front = omega arith
counted (KeptTo.Behind a b field rest kept whole is) =
    let before = counted kept in
    let next = next_comes a field b is in
    let both = length-append field rest in
    omega (arith, before, next.1, whole.1, both)

-- where bytes end, and others come behind them
pub more_decoded : (bytes more : List ℕ) (e : End) → eaten start [] bytes ≡ e → decoded (bytes ++ more) ≡ frame_or_fault (go_on e more)
more_decoded bytes more e is = ap frame_or_fault (end_of_two start [] bytes more ∙ ap (λ (x : End). go_on x more) is)

pub malformed_more : (bytes more : List ℕ) (offset : ℕ) → IsMalformed bytes offset → decoded (bytes ++ more) ≡ Err (fault.Malformed offset)
malformed_more bytes more offset m = more_decoded bytes more (End.Breaks offset) (malformed_breaks bytes offset m)

pub malformed_stays : MalformedStays
malformed_stays bytes more offset m = malformed_when (bytes ++ more) offset (malformed_more bytes more offset m) (found (bytes ++ more))

-- a frame that was read is all there
read_inside : (bytes : List ℕ) (f : Frame) (n : ℕ) (r : IsRead bytes f n) → n + length r.rest ≡ length bytes
read_inside bytes f n r =
    let before = counted r.kept in
    let both = length-append r.field r.rest in
    omega (arith, before, both, r.whole.1, r.size)

front_short : (front more : List ℕ) (f : Frame) (n : ℕ) → decoded (front ++ more) ≡ Ok (f, n) → length front < n → Found front → IsShort front
front_short front more f n is cut (Found.Read g m r) =
    let again : decoded (front ++ more) ≡ Ok (g, m) = more_decoded front more (End.Ends g m r.rest) (read_ends front g m r) in
    let same : m ≡ n = ap (λ (x : Frame × ℕ). x.1) (same_read (g, m) (f, n) (sym again ∙ is)) in
    absurd (omega (arith, read_inside front g m r, same, cut))
front_short front more f n is cut (Found.Short s) = s
front_short front more f n is cut (Found.Malformed offset m) = absurd (ok_is_not_err (f, n) (fault.Malformed offset) (sym is ∙ malformed_more front more offset m))

pub fronts_are_short : FrontsAreShort
fronts_are_short front more f n fits b cut = front_short front more f n (spelled_decoded (front ++ more) f n fits b) cut (found front)
