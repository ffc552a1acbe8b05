-- What a reader of bytes says of them is what their fields are.
use Rattle.std.proofs.Common.{◌≡◌, ◌⊎◌, ℕ, List, [], refl, sym, ap, subst, ◌∙◌, inl, inr, Result, Ok, Err}
use Rattle.ct_frame.specs.declared.frame.Frame.{Frame}
use Rattle.ct_wire.specs.declared.decode.Progress.TheVariants as progress
use Rattle.ct_wire.specs.declared.decode.Spot.{Spot}
use Rattle.ct_wire.specs.declared.decode.WireFault.{WireFault}
use Rattle.ct_wire.specs.declared.decode.WireFault.TheVariants as fault
use Rattle.ct_wire.specs.Cursor.{start}
use Rattle.ct_wire.specs.Decoding.{End, decoded, eaten, frame_or_fault, Closes}
use Rattle.ct_law_wire.specs.Alone.{BeginsWith, IsBytes}
use Rattle.ct_law_wire.proofs.Stream.{streams_are_spellings}
use Rattle.ct_law_wire.proofs.Whole.{reads_spellings_alone}
use Rattle.ct_law_wire_faults.specs.Fields.{IsMalformed, IsRead, IsShort}
use Rattle.ct_law_wire_faults.specs.Faults.{Apart, CoversAll, DecodesByFields, MalformedAtTheFirst, ReadWhereAllKeep, ShortWhereItEnds, SpelledWhereAllKeep, StreamBreaksByFields, StreamWaitsByFields}
use Rattle.ct_law_wire_faults.proofs.Steps.{cursor_at}
use Rattle.ct_law_wire_faults.proofs.Reached.{malformed_breaks, read_ends, short_waits}
use Rattle.ct_law_wire_faults.proofs.Found.{Found, found}

-- ---- what is read is which

read_decoded : (bytes : List ℕ) (f : Frame) (n : ℕ) → IsRead bytes f n → decoded bytes ≡ Ok (f, n)
read_decoded bytes f n r = ap frame_or_fault (read_ends bytes f n r)

short_decoded : (bytes : List ℕ) → IsShort bytes → decoded bytes ≡ Err fault.Short
short_decoded bytes s = ap frame_or_fault (short_waits bytes s)

pub malformed_decoded : (bytes : List ℕ) (offset : ℕ) → IsMalformed bytes offset → decoded bytes ≡ Err (fault.Malformed offset)
malformed_decoded bytes offset m = ap frame_or_fault (malformed_breaks bytes offset m)

-- answers that are not one
abbrev Answer : Type 0
Answer = Result (Frame × ℕ) WireFault

abbrev ok : Frame × ℕ → Answer
ok x = Ok x

abbrev err : WireFault → Answer
err x = Err x

pub ok_is_not_err : (x : Frame × ℕ) (w : WireFault) → ok x ≡ err w → ⊥
ok_is_not_err x w e = absurd (cc)

short_is_not_malformed : (offset : ℕ) → err fault.Short ≡ err (fault.Malformed offset) → ⊥
short_is_not_malformed offset e = absurd (cc)

pub same_offset : (o p : ℕ) → err (fault.Malformed o) ≡ err (fault.Malformed p) → o ≡ p
same_offset o p e = cc

pub same_read : (x y : Frame × ℕ) → ok x ≡ ok y → x ≡ y
same_read x y e = cc

read_when : (bytes : List ℕ) (f : Frame) (n : ℕ) → decoded bytes ≡ Ok (f, n) → Found bytes → IsRead bytes f n
read_when bytes f n e (Found.Read g m r) = subst (λ (x : Frame × ℕ). IsRead bytes x.0 x.1) (same_read (g, m) (f, n) (sym (read_decoded bytes g m r) ∙ e)) r
read_when bytes f n e (Found.Short s) = absurd (ok_is_not_err (f, n) fault.Short (sym e ∙ short_decoded bytes s))
read_when bytes f n e (Found.Malformed offset m) = absurd (ok_is_not_err (f, n) (fault.Malformed offset) (sym e ∙ malformed_decoded bytes offset m))

short_when : (bytes : List ℕ) → decoded bytes ≡ Err fault.Short → Found bytes → IsShort bytes
short_when bytes e (Found.Read f n r) = absurd (ok_is_not_err (f, n) fault.Short (sym (read_decoded bytes f n r) ∙ e))
short_when bytes e (Found.Short s) = s
short_when bytes e (Found.Malformed offset m) = absurd (short_is_not_malformed offset (sym e ∙ malformed_decoded bytes offset m))

pub malformed_when : (bytes : List ℕ) (offset : ℕ) → decoded bytes ≡ Err (fault.Malformed offset) → Found bytes → IsMalformed bytes offset
malformed_when bytes offset e (Found.Read f n r) = absurd (ok_is_not_err (f, n) (fault.Malformed offset) (sym (read_decoded bytes f n r) ∙ e))
malformed_when bytes offset e (Found.Short s) = absurd (short_is_not_malformed offset (sym (short_decoded bytes s) ∙ e))
malformed_when bytes offset e (Found.Malformed other m) = subst (IsMalformed bytes) (same_offset other offset (sym (malformed_decoded bytes other m) ∙ e)) m

pub read_where_all_keep : ReadWhereAllKeep
read_where_all_keep bytes f n = (λ e. read_when bytes f n e (found bytes), λ r. read_decoded bytes f n r)

pub short_where_it_ends : ShortWhereItEnds
short_where_it_ends bytes = (λ e. short_when bytes e (found bytes), λ s. short_decoded bytes s)

pub malformed_at_the_first : MalformedAtTheFirst
malformed_at_the_first bytes offset = (λ e. malformed_when bytes offset e (found bytes), λ m. malformed_decoded bytes offset m)

pub decodes_by_fields : DecodesByFields
decodes_by_fields (Ok x) bytes = read_where_all_keep bytes x.0 x.1
decodes_by_fields (Err fault.Short) bytes = short_where_it_ends bytes
decodes_by_fields (Err (fault.Malformed offset)) bytes = malformed_at_the_first bytes offset
decodes_by_fields (Err fault.NoMemory) bytes = (λ _. tt, λ _. tt)

-- ---- one of three

pub spelled_decoded : (bytes : List ℕ) (f : Frame) (n : ℕ) → IsBytes bytes → BeginsWith f n bytes → decoded bytes ≡ Ok (f, n)
spelled_decoded bytes f n fits b = (reads_spellings_alone bytes f n fits).1 b

decoded_spelled : (bytes : List ℕ) (f : Frame) (n : ℕ) → IsBytes bytes → IsRead bytes f n → BeginsWith f n bytes
decoded_spelled bytes f n fits r = (reads_spellings_alone bytes f n fits).0 (read_decoded bytes f n r)

pub spelled_where_all_keep : SpelledWhereAllKeep
spelled_where_all_keep bytes f n fits = (λ r. decoded_spelled bytes f n fits r, λ b. read_when bytes f n (spelled_decoded bytes f n fits b) (found bytes))

-- what all bytes are
abbrev OneOf : List ℕ → Type 0
OneOf bytes = ((f : Frame) × (n : ℕ) × BeginsWith f n bytes) ⊎ (IsShort bytes ⊎ ((offset : ℕ) × IsMalformed bytes offset))

one_of : (bytes : List ℕ) → IsBytes bytes → Found bytes → OneOf bytes
one_of bytes fits (Found.Read f n r) = inl (f, n, decoded_spelled bytes f n fits r)
one_of bytes fits (Found.Short s) = inr (inl s)
one_of bytes fits (Found.Malformed offset m) = inr (inr (offset, m))

pub covers_all : CoversAll
covers_all bytes fits = one_of bytes fits (found bytes)

pub apart : Apart
apart bytes fits = record {
  spelled_short = λ f n b s. ok_is_not_err (f, n) fault.Short (sym (spelled_decoded bytes f n fits b) ∙ short_decoded bytes s);
  spelled_malformed = λ f n offset b m. ok_is_not_err (f, n) (fault.Malformed offset) (sym (spelled_decoded bytes f n fits b) ∙ malformed_decoded bytes offset m);
  short_malformed = λ offset s m. short_is_not_malformed offset (sym (short_decoded bytes s) ∙ malformed_decoded bytes offset m);
  one_offset = λ offset other m k. same_offset offset other (sym (malformed_decoded bytes offset m) ∙ malformed_decoded bytes other k);
}

-- ---- streams

closes_short : (rest : List ℕ) (s : Spot) (e : End) → eaten start [] rest ≡ e → Closes e (progress.Amid s) → IsShort rest
closes_short rest s (End.Waits t) is closes = short_when rest (ap frame_or_fault is) (found rest)
closes_short rest s (End.Ends f n more) is closes = absurd closes
closes_short rest s (End.Breaks offset) is closes = absurd (cc)

closes_malformed : (rest : List ℕ) (offset : ℕ) (e : End) → eaten start [] rest ≡ e → Closes e (progress.Failed (fault.Malformed offset)) → IsMalformed rest offset
closes_malformed rest offset (End.Waits t) is closes = absurd (cc)
closes_malformed rest offset (End.Ends f n more) is closes = absurd closes
closes_malformed rest offset (End.Breaks other) is closes =
    let same : offset ≡ other = cc in
    malformed_when rest offset (ap frame_or_fault is ∙ ap (λ (o : ℕ). err (fault.Malformed o)) (sym same)) (found rest)

pub stream_waits_by_fields : StreamWaitsByFields
stream_waits_by_fields bytes fs fits = (
  λ done. (let s = (streams_are_spellings bytes fs (progress.Amid done.0) fits).0 done.1 in (s.0, s.1, closes_short s.0 done.0 (eaten start [] s.0) refl s.2)),
  λ r. (let s : Spot = record { cursor = cursor_at r.2.next; raw = r.2.rest } in
      let closes : Closes (eaten start [] r.0) (progress.Amid s) = subst (λ (e : End). Closes e (progress.Amid s)) (sym (short_waits r.0 r.2)) refl in
      (s, (streams_are_spellings bytes fs (progress.Amid s) fits).1 (r.0, r.1, closes))),
)

pub stream_breaks_by_fields : StreamBreaksByFields
stream_breaks_by_fields bytes fs offset fits = (
  λ done. (let s = (streams_are_spellings bytes fs (progress.Failed (fault.Malformed offset)) fits).0 done in (s.0, s.1, closes_malformed s.0 offset (eaten start [] s.0) refl s.2)),
  λ r. (let closes : Closes (eaten start [] r.0) (progress.Failed (fault.Malformed offset)) = subst (λ (e : End). Closes e (progress.Failed (fault.Malformed offset))) (sym (malformed_breaks r.0 offset r.2)) refl in
      (streams_are_spellings bytes fs (progress.Failed (fault.Malformed offset)) fits).1 (r.0, r.1, closes)),
)
