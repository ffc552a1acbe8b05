-- Bytes that are read piece by piece.
use Rattle.std.proofs.Common.{◌≡◌, ℕ, ◌+◌, ◌<◌, ◌≤◌, List, [], ◌∷◌, ◌++◌, length, take, drop, get_or, true, false, cond, nat_eq, None, Some, Result, Ok, Err, refl, sym, ap, subst, ◌∙◌, append_assoc, append-nil, length-append, arith}
use Rattle.std.proofs.lemmas.Bool.{lt-ltb, le-ltb}
use Rattle.std.proofs.lemmas.List.{take_more, take-append-drop}
use Rattle.ct_lines.specs.declared.line.LineKind.{LineKind}
use Rattle.ct_lines.specs.declared.line.LineKind.TheVariants.{Long}
use Rattle.ct_lines.specs.declared.line.LineKindFault.{LineKindFault}
use Rattle.ct_lines.specs.declared.line.LineKindFault.TheVariants.{Kind, NoMemory}
use Rattle.ct_lcp2_lines.specs.Lines.{lines_after, rest_after}
use Rattle.ct_lcp2_lines.specs.Placing.{Given, TakesLine, form_refusal, refusal, with_line}
use Rattle.ct_lcp2_lines.specs.Grammar.{line_of}
use Rattle.ct_lcp2_lines.specs.Feeding.{Fed, FedRefused, Feeds, read_on}
use Rattle.ct_lcp2_lines.specs.Input.{continued, ended, read_from, read_lines, with_rest}
use Rattle.ct_lcp2_lines.specs.declared.placer.Placer.{Placer}

-- the input at a line feed
at_line_feed : (n : ℕ) (g : Given) (line later : List ℕ)
    → read_from n g line (10 ∷ later) ≡ with_rest (length (rest_after [] later)) (continued (refusal line g) n g (read_lines (n + 1) (with_line line g) (lines_after [] later)))
unfolding read_from
at_line_feed n g line later = refl

-- the input at another byte
at_byte : (n : ℕ) (g : Given) (line : List ℕ) (x : ℕ) (later : List ℕ) → nat_eq x 10 ≡ false → read_from n g line (x ∷ later) ≡ read_from n g (line ++ x ∷ []) later
unfolding read_from
at_byte n g line x later e =
    ap (λ b. with_rest (length (cond b (rest_after [] later) (rest_after (line ++ x ∷ []) later))) (read_lines n g (cond b (line ∷ lines_after [] later) (lines_after (line ++ x ∷ []) later)))) e

-- a line that is taken
line_taken : (n : ℕ) (g : Given) (line later : List ℕ) → refusal line g ≡ None → read_from n g line (10 ∷ later) ≡ read_from (n + 1) (with_line line g) [] later
unfolding read_from
line_taken n g line later e = ap (λ r. with_rest (length (rest_after [] later)) (continued r n g (read_lines (n + 1) (with_line line g) (lines_after [] later)))) e

-- a line that is refused
line_refused : (n : ℕ) (g : Given) (line : List ℕ) (kind : LineKind) (later : List ℕ) → refusal line g ≡ Some kind → read_from n g line (10 ∷ later) ≡ ended n g (Some kind)
line_refused n g line kind later e = at_line_feed n g line later ∙ ap (λ r. with_rest (length (rest_after [] later)) (continued r n g (read_lines (n + 1) (with_line line g) (lines_after [] later)))) e

-- a line that is too long
long_refused : (g : Given) (line : List ℕ) → 65535 < length line → refusal line g ≡ Some Long
long_refused g line h = ap (λ b. cond b (Some Long) (form_refusal (line_of line) g)) (lt-ltb 65535 (length line) h)

-- it is refused wherever it ends
pub too_long : (n : ℕ) (g : Given) (line later : List ℕ) → 65535 < length line → read_from n g line later ≡ ended n g (Some Long)
unfolding read_from
too_long n g line [] h = ap (λ b. ended n g (cond b (Some Long) None)) (lt-ltb 65535 (length line) h)
too_long n g line (x ∷ later) h =
    elim (nat_eq x 10) as (λ b. with_rest (length (cond b (rest_after [] later) (rest_after (line ++ x ∷ []) later))) (read_lines n g (cond b (line ∷ lines_after [] later) (lines_after (line ++ x ∷ []) later))) ≡ ended n g (Some Long)) [
      | true ↦ ap (λ r. with_rest (length (rest_after [] later)) (continued r n g (read_lines (n + 1) (with_line line g) (lines_after [] later)))) (long_refused g line h)
      | false ↦ too_long n g (line ++ x ∷ []) later (omega (arith, length-append line (x ∷ [])))
    ]

-- nothing comes: where the line is not too long, nothing is refused
nothing_comes : (n : ℕ) (g : Given) (line : List ℕ) → length line ≤ 65535 → read_from n g line [] ≡ ended n g None
unfolding read_from
nothing_comes n g line h = ap (λ b. ended n g (cond b (Some Long) None)) (le-ltb 65535 (length line) h)

-- ---- a byte

-- a byte that is no line feed
pub byte_kept : (p q : Placer) (x : ℕ) → nat_eq x 10 ≡ false → q ≡ record p { line = p.line ++ x ∷ [] } → Fed p q (x ∷ [])
byte_kept p q x e h = record {
  rests = λ later. ap (λ b. cond b (rest_after [] later) (rest_after (p.line ++ x ∷ []) later)) e ∙ ap (λ r. rest_after r.line later) (sym h);
  goes_on = λ later. at_byte p.count p.placing p.line x later e ∙ ap (λ r. read_on r later) (sym h);
}

-- a line that is too long is refused before it ends
pub long_ends : (p : Placer) (x : ℕ) → nat_eq x 10 ≡ false → 65535 ≤ length p.line → FedRefused p p Long (x ∷ [])
long_ends p x e h = record {
  refused = λ later. ap (λ r. r.refusal) (by later);
  counted = λ later. ap (λ r. r.count) (by later);
}
  where
    by : (later : List ℕ) → read_on p (x ∷ later) ≡ ended p.count p.placing (Some Long)
    by later = at_byte p.count p.placing p.line x later e ∙ too_long p.count p.placing (p.line ++ x ∷ []) later (omega (arith, length-append p.line (x ∷ [])))

-- a whole line is taken
pub line_ends : (p q : Placer) → refusal p.line p.placing ≡ None → q ≡ record { placing = with_line p.line p.placing; line = []; count = p.count + 1 } → Fed p q (10 ∷ [])
line_ends p q e h = record {
  rests = λ later. ap (λ r. rest_after r.line later) (sym h);
  goes_on = λ later. line_taken p.count p.placing p.line later e ∙ ap (λ r. read_on r later) (sym h);
}

-- a whole line is not taken
pub line_stops : (fault : LineKindFault) (p q : Placer) (line : List ℕ) → line ≡ p.line → TakesLine (Err fault) (refusal line p.placing) (with_line line p.placing) p.placing q.placing → q.count ≡ p.count → Feeds (Err fault) p (10 ∷ []) q
line_stops (Kind kind) p q line e h n = record { refused = λ later. ap (λ r. r.refusal) (by later); counted = λ later. ap (λ r. r.count) (by later) ∙ sym n }
  where
    by : (later : List ℕ) → read_on p (10 ∷ later) ≡ ended p.count p.placing (Some kind)
    by later = line_refused p.count p.placing p.line kind later (ap (λ l. refusal l p.placing) (sym e) ∙ h.0)
line_stops NoMemory p q line e h n = tt

-- ---- bytes after others

-- nothing was read yet
pub unfed : (p : Placer) → Fed p p []
unfed p = record { rests = λ later. refl; goes_on = λ later. refl }

-- bytes read on after others
pub feeds_then : (r : Result (Unit {0}) LineKindFault) (p : Placer) (bs : List ℕ) (q : Placer) (cs : List ℕ) (s : Placer) → Fed p q bs → Feeds r q cs s → Feeds r p (bs ++ cs) s
feeds_then (Ok u) p bs q cs s f g = record {
  rests = λ later. ap (rest_after p.line) (append_assoc bs cs later) ∙ f.rests (cs ++ later) ∙ g.rests later;
  goes_on = λ later. ap (read_on p) (append_assoc bs cs later) ∙ f.goes_on (cs ++ later) ∙ g.goes_on later;
}
feeds_then (Err (Kind kind)) p bs q cs s f g = record {
  refused = λ later. ap (λ r. r.refusal) (ap (read_on p) (append_assoc bs cs later) ∙ f.goes_on (cs ++ later)) ∙ g.refused later;
  counted = λ later. ap (λ r. r.count) (ap (read_on p) (append_assoc bs cs later) ∙ f.goes_on (cs ++ later)) ∙ g.counted later;
}
feeds_then (Err NoMemory) p bs q cs s f g = tt

-- what stops in some bytes stops in them and those after them
feeds_more : (fault : LineKindFault) (p : Placer) (bs cs : List ℕ) (q : Placer) → Feeds (Err fault) p bs q → Feeds (Err fault) p (bs ++ cs) q
feeds_more (Kind kind) p bs cs q f = record { refused = λ later. rw append_assoc (f.refused (cs ++ later)); counted = λ later. rw append_assoc (f.counted (cs ++ later)) }
feeds_more NoMemory p bs cs q f = tt

-- the next byte is read
pub byte_read : (r : Result (Unit {0}) LineKindFault) (p : Placer) (bs : List ℕ) (i : ℕ) (q s : Placer) → i < length bs → Fed p q (take i bs) → Feeds r q (get_or bs i 0 ∷ []) s → Feeds r p (take (i + 1) bs) s
byte_read r p bs i q s h f g = subst (λ ys. Feeds r p ys s) (sym (take_more bs i 0 h)) (feeds_then r p (take i bs) q (get_or bs i 0 ∷ []) s f g)

-- the next byte is the last one that is read
pub byte_stops : (fault : LineKindFault) (p : Placer) (bs : List ℕ) (i : ℕ) (q s : Placer) → i < length bs → Fed p q (take i bs) → Feeds (Err fault) q (get_or bs i 0 ∷ []) s → Feeds (Err fault) p bs s
byte_stops fault p bs i q s h f g = subst (λ ys. Feeds (Err fault) p ys s) (take-append-drop (i + 1) bs) (feeds_more fault p (take (i + 1) bs) (drop (i + 1) bs) s (byte_read (Err fault) p bs i q s h f g))

-- bytes that were read, and no more of them
pub whole_fed : (p q : Placer) (bytes : List ℕ) → Fed p q bytes → length q.line ≤ 65535 → read_on p bytes ≡ ended q.count q.placing None
whole_fed p q bytes f h = ap (read_on p) (sym (append-nil bytes)) ∙ f.goes_on [] ∙ nothing_comes q.count q.placing q.line h

pub whole_rest : (p q : Placer) (bytes : List ℕ) → Fed p q bytes → rest_after p.line bytes ≡ q.line
whole_rest p q bytes f = ap (rest_after p.line) (sym (append-nil bytes)) ∙ f.rests []
