-- A text that is printed line by line.
use Rattle.std.proofs.Common.{◌≡◌, ℕ, ◌+◌, ◌-◌, ◌≤◌, List, ◌++◌, take, drop, Option, sym, ap, subst, ◌∙◌, append_assoc, arith}
use Rattle.std.proofs.Math.Seq.{take-add}
use Rattle.std.proofs.lemmas.List.{take-append-drop}
use Rattle.std.specs.Io.KnownBytes.{Appends}
use Rattle.std.proofs.KnownBytes.{Appends-trans}
use Rattle.ct_outside.specs.Causes.{AppendsPart}

-- a front and the line after it
with_line : (xs : List ℕ) (i j : ℕ) → i ≤ j → take j xs ≡ take i xs ++ take (j - i) (drop i xs)
with_line xs i j h = let e : j ≡ i + (j - i) = omega (arith, h) in ap (λ k. take k xs) e ∙ take-add i (j - i) xs

-- one line more was printed
pub line_printed : (xs : List ℕ) (i j : ℕ) (a b c : Option (List ℕ)) → i ≤ j → Appends a b (take i xs) → Appends b c (take (j - i) (drop i xs)) → Appends a c (take j xs)
line_printed xs i j a b c h p q = subst (Appends a c) (sym (with_line xs i j h)) (Appends-trans a b c _ _ p q)

-- a front of the next line was printed
pub line_part : (xs : List ℕ) (i j : ℕ) (a b c : Option (List ℕ)) → i ≤ j → Appends a b (take i xs) → AppendsPart b c (take (j - i) (drop i xs)) → AppendsPart a c xs
line_part xs i j a b c h p (front, back, e, w) = (
  take i xs ++ front,
  back ++ drop j xs,
  sym (take-append-drop j xs) ∙ ap (λ l. l ++ drop j xs) (with_line xs i j h ∙ ap (λ l. take i xs ++ l) e ∙ sym (append_assoc (take i xs) front back)) ∙ append_assoc (take i xs ++ front) back (drop j xs),
  Appends-trans a b c (take i xs) front p w,
)
