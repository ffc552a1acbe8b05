-- The offset that is named is the first.
use Rattle.std.proofs.Common.{◌≡◌, ℕ, ◌+◌, ◌<◌, ◌≤◌, List, length, take, drop, sym, ap, ◌∙◌, arith, ⊎_elim}
use Rattle.std.proofs.lemmas.List.{length-append, length-take, take-append-drop}
use Rattle.ct_wire_fields.specs.declared.place.TextPlace.{TextPlace}
use Rattle.ct_wire_fields.specs.declared.place.TextPlace.TheVariants as text
use Rattle.ct_wire.specs.declared.decode.WireFault.TheVariants as fault
use Rattle.ct_wire.specs.Decoding.{End, decoded}
use Rattle.ct_law_wire_faults.specs.Fields.{Field, IsMalformed, IsShort, field_start}
use Rattle.ct_law_wire_faults.specs.Offsets.{FaultIsFirst, Names, OffsetsCount, TextNames}
use Rattle.ct_law_wire_faults.proofs.Reached.{read_ends}
use Rattle.ct_law_wire_faults.proofs.Found.{Found, found}
use Rattle.ct_law_wire_faults.proofs.Laws.{malformed_decoded, ok_is_not_err, same_offset}
use Rattle.ct_law_wire_faults.proofs.Fronts.{counted, malformed_more, more_decoded}
use Rattle.ct_law_wire_faults.proofs.Named.{faults_are_named}

pub offsets_count : OffsetsCount
offsets_count bytes rest a kept = counted kept

text_inside : (p : TextPlace) (at offset : ℕ) → TextNames p at offset → offset ≤ at
text_inside (text.RowKey left start) at offset names = ⊎_elim (λ (own : offset ≡ at). omega (arith, own)) (λ (row : offset + 4 ≡ at). omega (arith, row)) names
text_inside _ at offset names = omega (arith, names)

-- an offset that a field names is not behind the field's first byte
names_inside : (x : Field) (at offset : ℕ) → Names x at offset → offset ≤ field_start x at
names_inside (Field.Size p) at offset names = text_inside p at offset names
names_inside (Field.Text p n) at offset names = (let before = text_inside p at offset names in omega (arith, before))
names_inside _ at offset names = omega (arith, names)

pub offset_inside : (bytes : List ℕ) (offset : ℕ) → IsMalformed bytes offset → offset ≤ length bytes
offset_inside bytes offset (IsMalformed.Passes a rest kept lacks is) = let count = counted kept in omega (arith, count, is)
offset_inside bytes offset (IsMalformed.Fails a field rest kept whole is) =
    let count = counted kept in
    let before = names_inside a.field a.at offset (faults_are_named bytes field rest a offset kept whole is) in
    omega (arith, count, before)
offset_inside bytes offset (IsMalformed.Lacks a field rest f kept whole is early at_end) =
    let count = counted kept in
    let both = length-append field rest in
    omega (arith, count, both, whole.1, at_end)

front_breaks_none : (bytes : List ℕ) (offset k : ℕ) → IsMalformed bytes offset → k < offset → Found (take k bytes) → IsShort (take k bytes)
front_breaks_none bytes offset k m before (Found.Short s) = s
front_breaks_none bytes offset k m before (Found.Read f n r) =
    let whole = ap decoded (sym (take-append-drop k bytes)) in
    let read = more_decoded (take k bytes) (drop k bytes) (End.Ends f n r.rest) (read_ends (take k bytes) f n r) in
    absurd (ok_is_not_err (f, n) (fault.Malformed offset) (sym read ∙ sym whole ∙ malformed_decoded bytes offset m))
front_breaks_none bytes offset k m before (Found.Malformed other l) =
    let whole = ap decoded (sym (take-append-drop k bytes)) in
    let same : other ≡ offset = same_offset other offset (sym (malformed_more (take k bytes) (drop k bytes) other l) ∙ sym whole ∙ malformed_decoded bytes offset m) in
    let inside = offset_inside (take k bytes) other l in
    let few = length-take k bytes in
    absurd (omega (arith, same, inside, few, before))

pub fault_is_first : FaultIsFirst
fault_is_first bytes offset m = (offset_inside bytes offset m, λ k before. front_breaks_none bytes offset k m before (found (take k bytes)))
