-- How it ends, by the bytes that were taken.
use Rattle.std.proofs.Common.{◌≡◌, ℕ, ◌+◌, ◌≤◌, List, [], length, Option, Err, inl, inr, refl, sym, ap, subst, ◌∙◌, append-nil}
use Rattle.std.specs.Io.KnownBytes.{Appends, IsAtEnd}
use Rattle.ct_lines.specs.declared.line.LineKindFault.{LineKindFault}
use Rattle.ct_lines.specs.declared.line.LineKindFault.TheVariants.{Kind, NoMemory}
use Rattle.ct_outside.specs.Causes.{AppendsPart}
use Rattle.ct_outside.specs.declared.fault.SinkFault.{SinkFault}
use Rattle.ct_outside.specs.declared.fault.SinkFault.TheVariants as sink
use Rattle.ct_lcp2_lines.specs.Text.{text_of}
use Rattle.ct_lcp2_lines.specs.Claims.{Ends, IsWhole}
use Rattle.ct_lcp2_lines.specs.Feeding.{Fed, Feeds, Finishes, StopsAt, end_of, fault_end, first, read_on}
use Rattle.ct_lcp2_lines.specs.declared.placer.End.{End}
use Rattle.ct_lcp2_lines.specs.declared.placer.End.TheVariants as end
use Rattle.ct_lcp2_lines.specs.declared.placer.Placer.{Placer}
use Rattle.ct_lcp2_lines.proofs.Feeding.{whole_fed, whole_rest}

-- a read failed
pub fault_stops : (p q : Placer) (bytes : List ℕ) → Fed p q bytes → length q.line ≤ 65535 → StopsAt end.ReadFault p bytes
fault_stops p q bytes f h = ap (λ r. r.refusal) (whole_fed p q bytes f h)

-- a line was not taken
pub line_stops_at : (fault : LineKindFault) (p q : Placer) (bytes : List ℕ) → Feeds (Err fault) p bytes q → StopsAt (end_of fault q.count) p bytes
line_stops_at (Kind kind) p q bytes f = let n = append-nil bytes in (
  ap (λ b. (read_on p b).refusal) (sym n) ∙ f.refused [],
  ap (λ k. k + 1) (sym (f.counted []) ∙ ap (λ b. (read_on p b).count) n),
)
line_stops_at NoMemory p q bytes f = tt

-- a fault of the sink, where the line is whole
pub fault_finishes : (fault : SinkFault) (p : Placer) (a c : Option (List ℕ)) → p.line ≡ [] → AppendsPart a c (text_of p.placing) → Finishes (fault_end fault) p a c
fault_finishes sink.Failed p a c e h = (e, h)
fault_finishes sink.NoMemory p a c e h = (e, h)

-- reading stopped: out holds what it held
pub stops_end : (e : End) (bytes : List ℕ) (left a : Option (List ℕ)) → StopsAt e first bytes → Ends e bytes left a a
stops_end (end.Refused line kind) bytes left a s = (s.0, s.1, refl)
stops_end end.ReadFault bytes left a s = (s, refl)
stops_end end.NoMemory bytes left a s = inl refl
stops_end end.Read bytes left a s = absurd s
stops_end (end.Unended line) bytes left a s = absurd s
stops_end end.WriteFault bytes left a s = absurd s

whole : (q : Placer) (bytes : List ℕ) (left : Option (List ℕ)) → IsAtEnd left → Fed first q bytes → length q.line ≤ 65535 → q.line ≡ [] → IsWhole bytes left
whole q bytes left z f h e = record { at_end = z; ended = whole_rest first q bytes f ∙ e; unrefused = ap (λ r. r.refusal) (whole_fed first q bytes f h) }

-- the input was read to its end
pub finish_ends : (e : End) (q : Placer) (bytes : List ℕ) (left a c : Option (List ℕ)) → IsAtEnd left → Fed first q bytes → length q.line ≤ 65535 → Finishes e q a c → Ends e bytes left a c
finish_ends end.Read q bytes left a c z f h s = (whole q bytes left z f h s.0, subst (λ r. Appends a c (text_of r.given)) (sym (whole_fed first q bytes f h)) s.1)
finish_ends (end.Unended line) q bytes left a c z f h s =
    let w = whole_fed first q bytes f h in
    (z, (λ n. s.0 (sym (whole_rest first q bytes f) ∙ n)), ap (λ r. r.refusal) w, s.1 ∙ ap (λ r. r.count + 1) (sym w), s.2)
finish_ends end.WriteFault q bytes left a c z f h s = (whole q bytes left z f h s.0, subst (λ r. AppendsPart a c (text_of r.given)) (sym (whole_fed first q bytes f h)) s.1)
finish_ends end.NoMemory q bytes left a c z f h s = inr (whole q bytes left z f h s.0, subst (λ r. AppendsPart a c (text_of r.given)) (sym (whole_fed first q bytes f h)) s.1)
finish_ends (end.Refused line kind) q bytes left a c z f h s = absurd s
finish_ends end.ReadFault q bytes left a c z f h s = absurd s
