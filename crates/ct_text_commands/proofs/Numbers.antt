-- Lines of numbers one after the other.
use Rattle.std.proofs.Common.{◌≡◌, ◌∙◌, ℕ, zero, suc, ◌+◌, List, [], ◌∷◌, ◌++◌, sym, ap, append_assoc, arith}
use Rattle.std.specs.List.{flat_map}
use Rattle.std.proofs.lemmas.Grind.{flat_map-append}
use Rattle.std.proofs.lemmas.List.{append-nil}
use Rattle.ct_rules_cluster.specs.Cluster.{numbers}

numbers_from : (i n : ℕ) → numbers i (suc n) ≡ numbers i n ++ (i + n) ∷ []
unfolding numbers
numbers_from i zero = ap (λ (k : ℕ). k ∷ []) (omega arith)
numbers_from i (suc n) = (let e : (i + 1) + n ≡ i + suc n = omega arith in ap (λ (ks : List ℕ). i ∷ ks) (numbers_from (i + 1) n ∙ ap (λ (k : ℕ). numbers (i + 1) n ++ k ∷ []) e))

lines_more : (f : ℕ → List ℕ) (n : ℕ) → flat_map f (numbers 0 (n + 1)) ≡ flat_map f (numbers 0 n) ++ f n
lines_more f n =
    let next : n + 1 ≡ suc n = omega arith in
    let same : 0 + n ≡ n = omega arith in
    ap (λ (k : ℕ). flat_map f (numbers 0 k)) next ∙ ap (flat_map f) (numbers_from 0 n) ∙ flat_map-append f (numbers 0 n) ((0 + n) ∷ []) ∙ ap (λ (xs : List ℕ). flat_map f (numbers 0 n) ++ xs) (append-nil (f (0 + n)) ∙ ap f same)

-- the line of one number more, behind those of the numbers before
pub next_line : (f : ℕ → List ℕ) (n : ℕ) (old now new : List ℕ) → now ≡ old ++ flat_map f (numbers 0 n) → new ≡ now ++ f n → new ≡ old ++ flat_map f (numbers 0 (n + 1))
next_line f n old now new before one = one ∙ ap (λ (xs : List ℕ). xs ++ f n) before ∙ append_assoc old (flat_map f (numbers 0 n)) (f n) ∙ ap (λ (xs : List ℕ). old ++ xs) (sym (lines_more f n))

-- three parts of a text, one after the other
pub three_parts : (old a b c : List ℕ) → ((old ++ a) ++ b) ++ c ≡ old ++ (a ++ b ++ c)
three_parts old a b c = ap (λ (xs : List ℕ). xs ++ c) (append_assoc old a b) ∙ append_assoc old (a ++ b) c
