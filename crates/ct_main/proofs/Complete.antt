-- A good input is played to its end.
use Rattle.std.proofs.Common.{◌≡◌, ℕ, ◌<◌, ◌≤◌, List, [], ◌∷◌, ◌++◌, length, true, false, cond, nat_eq, None, Some, Result, Ok, Err, refl, ap, subst, length-append, arith, inl, inr, ⊎_elim}
use Rattle.std.proofs.lemmas.Bool.{cases_lt, le-ltb}
use Rattle.ct_call.specs.Rules.{Rules}
use Rattle.ct_lines.specs.declared.line.LineKind.TheVariants.{Long}
use Rattle.ct_lcp2_lines.proofs.Complete.{taken_front, all_taken}
use Rattle.ct_play.specs.Play.{continued, lines_after, played, rest, rest_after, run_from, run_lines, with_rest}
use Rattle.ct_play.specs.Session.{Played, line_played, longest, start}
use Rattle.ct_play.specs.declared.session.Session.{Session}
use Rattle.ct_play_text.specs.declared.what.What.{What}
use Rattle.ct_play_text.specs.declared.what.What.TheVariants.{Line}
use Rattle.ct_main.specs.Complete.{IsGood, PlayCompletes}
use Rattle.ct_main.specs.declared.player.End.TheVariants as end
use Rattle.ct_main.proofs.Feeding.{too_long}

-- ---- a front of what is not refused is not refused

-- a rest of which nothing was refused is no longer than a line may be
short_rest : (rules : Rules) (s : Session) (line more : List ℕ) → (run_from rules s line more).refusal ≡ None → length line ≤ longest
short_rest rules s line more h = ⊎_elim (λ (l : longest < length line). absurd (cc (h, ap (λ r. r.refusal) (too_long rules s line more l)))) (λ (l : length line ≤ longest). l) (cases_lt longest (length line))

-- after one line: where it was played, the rest goes on from its session
continues : (rules : Rules) (s : Session) (bytes more : List ℕ) (r : Result Played What) → ((t : Session) → (run_from rules t [] (bytes ++ more)).refusal ≡ None → (run_from rules t [] bytes).refusal ≡ None) → (with_rest (length (rest_after [] (bytes ++ more))) (continued r s (λ t. run_lines rules t (lines_after [] (bytes ++ more))))).refusal ≡ None → (with_rest (length (rest_after [] bytes)) (continued r s (λ t. run_lines rules t (lines_after [] bytes)))).refusal ≡ None
unfolding run_from
continues rules s bytes more (Ok p) go h = go p.session h
continues rules s bytes more (Err w) go h = absurd (cc)

unrefused_front : (rules : Rules) (s : Session) (line bytes more : List ℕ) → (run_from rules s line (bytes ++ more)).refusal ≡ None → (run_from rules s line bytes).refusal ≡ None
unfolding run_from
unrefused_front rules s line [] more h = ap (λ b. cond b (Some (Line Long)) None) (le-ltb longest (length line) (short_rest rules s line more h))
unrefused_front rules s line (x ∷ bytes) more h =
    (elim (nat_eq x 10) as (λ b. (with_rest (length (cond b (rest_after [] (bytes ++ more)) (rest_after (line ++ x ∷ []) (bytes ++ more)))) (run_lines rules s (cond b (line ∷ lines_after [] (bytes ++ more)) (lines_after (line ++ x ∷ []) (bytes ++ more))))).refusal ≡ None → (with_rest (length (cond b (rest_after [] bytes) (rest_after (line ++ x ∷ []) bytes))) (run_lines rules s (cond b (line ∷ lines_after [] bytes) (lines_after (line ++ x ∷ []) bytes)))).refusal ≡ None) [
      | true ↦ continues rules s bytes more (line_played rules line s) (λ t. unrefused_front rules t [] bytes more)
      | false ↦ unrefused_front rules s (line ++ x ∷ []) bytes more
    ]) h

-- ---- what was taken

-- of a front nothing is refused
good_front : (rules : Rules) (input bytes : List ℕ) → IsGood rules input → ((more : List ℕ) × (input ≡ bytes ++ more)) → (played rules bytes).refusal ≡ None
good_front rules input bytes g f = unrefused_front rules start [] bytes f.0 (subst (λ l. (played rules l).refusal ≡ None) f.1 g.unrefused)

-- ---- no end but these two

pub completes : PlayCompletes
completes rules end.Read input left before now a b c d g p h r w = inl refl
completes rules end.NoMemory input left before now a b c d g p h r w = inr refl
completes rules (end.Unended line) input left before now a b c d g p h r w =
    absurd (p.ends.1 (subst (λ l. rest l ≡ []) (all_taken input left p.bytes p.taken p.ends.0) g.ended))
completes rules (end.Refused line what) input left before now a b c d g p h r w =
    let u : (played rules p.bytes).refusal ≡ None = good_front rules input p.bytes g (taken_front input left p.bytes p.taken) in
    absurd (cc (u, p.ends.0))
completes rules end.ReadFault input left before now a b c d g p h r w = absurd (r (h.read refl))
completes rules end.WriteFault input left before now a b c d g p h r w = absurd (w (h.write refl))
completes rules end.TooLong input left before now a b c d g p h r w =
    let f : (more : List ℕ) × (input ≡ p.bytes ++ more) = taken_front input left p.bytes p.taken in
    absurd (omega (arith, p.ends.0, g.short, ap length f.1, length-append p.bytes f.0))
