-- A good input is read to its end, and its placement printed.
use Rattle.std.proofs.Common.{◌≡◌, ℕ, ◌+◌, ◌<◌, ◌≤◌, List, [], ◌∷◌, ◌++◌, length, true, false, cond, nat_eq, Option, None, Some, refl, ap, subst, ◌∙◌, append-nil, inl, inr, ⊎_elim}
use Rattle.std.specs.Io.KnownBytes.{Consumes, IsAtEnd}
use Rattle.std.proofs.lemmas.Bool.{cases_lt, le-ltb}
use Rattle.ct_lines.specs.declared.line.LineKind.{LineKind}
use Rattle.ct_lines.specs.declared.line.LineKind.TheVariants.{Long}
use Rattle.ct_lcp2_lines.specs.Lines.{lines_after, rest_after}
use Rattle.ct_lcp2_lines.specs.Placing.{Given, nothing_given, refusal, with_line}
use Rattle.ct_lcp2_lines.specs.Complete.{IsGood, PlacingCompletes}
use Rattle.ct_lcp2_lines.specs.Input.{continued, read, read_from, read_lines, rest, with_rest}
use Rattle.ct_lcp2_lines.specs.declared.placer.End.TheVariants as end
use Rattle.ct_lcp2_lines.proofs.Feeding.{too_long}

-- ---- a front of what is not refused is not refused

-- a rest after which nothing was refused is no longer than a line may be
short_rest : (n : ℕ) (g : Given) (line more : List ℕ) → (read_from n g line more).refusal ≡ None → length line ≤ 65535
short_rest n g line more h = ⊎_elim (λ (l : 65535 < length line). absurd (cc (h, ap (λ r. r.refusal) (too_long n g line more l)))) (λ (l : length line ≤ 65535). l) (cases_lt 65535 (length line))

-- after one line: where it is not refused, the rest is read on
continues : (n : ℕ) (g h : Given) (bytes more : List ℕ) (o : Option LineKind) → ((read_from (n + 1) h [] (bytes ++ more)).refusal ≡ None → (read_from (n + 1) h [] bytes).refusal ≡ None) → (with_rest (length (rest_after [] (bytes ++ more))) (continued o n g (read_lines (n + 1) h (lines_after [] (bytes ++ more))))).refusal ≡ None → (with_rest (length (rest_after [] bytes)) (continued o n g (read_lines (n + 1) h (lines_after [] bytes)))).refusal ≡ None
unfolding read_from
continues n g h bytes more None go w = go w
continues n g h bytes more (Some k) go w = absurd (cc)

unrefused_front : (n : ℕ) (g : Given) (line bytes more : List ℕ) → (read_from n g line (bytes ++ more)).refusal ≡ None → (read_from n g line bytes).refusal ≡ None
unfolding read_from
unrefused_front n g line [] more h = ap (λ b. cond b (Some Long) None) (le-ltb 65535 (length line) (short_rest n g line more h))
unrefused_front n g line (x ∷ bytes) more h =
    (elim (nat_eq x 10) as (λ b. (with_rest (length (cond b (rest_after [] (bytes ++ more)) (rest_after (line ++ x ∷ []) (bytes ++ more)))) (read_lines n g (cond b (line ∷ lines_after [] (bytes ++ more)) (lines_after (line ++ x ∷ []) (bytes ++ more))))).refusal ≡ None → (with_rest (length (cond b (rest_after [] bytes) (rest_after (line ++ x ∷ []) bytes))) (read_lines n g (cond b (line ∷ lines_after [] bytes) (lines_after (line ++ x ∷ []) bytes)))).refusal ≡ None) [
      | true ↦ continues n g (with_line line g) bytes more (refusal line g) (unrefused_front (n + 1) (with_line line g) [] bytes more)
      | false ↦ unrefused_front n g (line ++ x ∷ []) bytes more
    ]) h

-- ---- what was taken

-- it is a front of what was left
pub taken_front : (input : List ℕ) (left : Option (List ℕ)) (bytes : List ℕ) → Consumes (Some input) left bytes → (more : List ℕ) × (input ≡ bytes ++ more)
taken_front input None bytes c = absurd c
taken_front input (Some ys) bytes c = (ys, c)

-- it is all of it where nothing is left
pub all_taken : (input : List ℕ) (left : Option (List ℕ)) (bytes : List ℕ) → Consumes (Some input) left bytes → IsAtEnd left → input ≡ bytes
all_taken input None bytes c z = absurd c
all_taken input (Some ys) bytes c z = c ∙ ap (λ l. bytes ++ l) z ∙ append-nil bytes

-- of a front nothing is refused
good_front : (input bytes : List ℕ) → IsGood input → ((more : List ℕ) × (input ≡ bytes ++ more)) → (read bytes).refusal ≡ None
good_front input bytes g f = unrefused_front 0 nothing_given [] bytes f.0 (subst (λ l. (read l).refusal ≡ None) f.1 g.unrefused)

-- ---- no end but these two

pub completes : PlacingCompletes
completes end.Read input left before now a b c d g p h r w = inl refl
completes end.NoMemory input left before now a b c d g p h r w = inr refl
completes (end.Unended line) input left before now a b c d g p h r w =
    absurd (p.ends.1 (subst (λ l. rest l ≡ []) (all_taken input left p.bytes p.taken p.ends.0) g.ended))
completes (end.Refused line kind) input left before now a b c d g p h r w =
    let u : (read p.bytes).refusal ≡ None = good_front input p.bytes g (taken_front input left p.bytes p.taken) in
    absurd (cc (u, p.ends.0))
completes end.ReadFault input left before now a b c d g p h r w = absurd (r (h.read refl))
completes end.WriteFault input left before now a b c d g p h r w = absurd (w (h.write refl))
