-- The texts of the numbers of a plan, and how many words it draws.
use Rattle.std.proofs.Common.{◌≡◌, ◌∙◌, ◌+◌, ◌-◌, ◌/◌, ◌<◌, ◌≤◌, ℕ, zero, suc, List, [], ◌∷◌, ◌++◌, length, refl, sym, ap, arith}
use Rattle.std.proofs.lemmas.Fmt.{length-decimal-le}
use Rattle.std.proofs.lemmas.List.{append_assoc, append-nil, map-append}
use Rattle.std.specs.Fmt.{decimal}
use Rattle.std.specs.Prelude.{map}
use Rattle.rand_pcg.specs.Lcg.{Lcg}
use Rattle.rand_pcg.specs.Pcg.{pcg32}
use Rattle.ct_rules_cluster.specs.Cluster.{numbers}
use Rattle.ct_rules_cluster.proofs.Numbers.{numbers_more}
use Rattle.ct_script.specs.Scripts.{drawn}

-- ---- numbers

-- the text of a number below 1,000 is a value
pub short : (n : ℕ) → n < 1000 → length (decimal n) ≤ 1024
short n h = let l = length-decimal-le 3 n (omega arith) (omega (arith, h)) (omega (arith, h)) in omega (arith, l)

pub map_more : {X : Type 0} (f : ℕ → X) (n : ℕ) → map f (numbers 0 (n + 1)) ≡ map f (numbers 0 n) ++ f n ∷ []
map_more f n = ap (map f) (numbers_more n) ∙ map-append f (numbers 0 n) (n ∷ [])

-- ---- words

pub length_drawn : (count : ℕ) (g : Lcg) → length (drawn count g) ≡ count
unfolding drawn
length_drawn zero g = refl
length_drawn (suc n) g = ap suc (length_drawn n (pcg32 g).1)

-- a half of them is there
pub half_drawn : (count : ℕ) (g : Lcg) (words : List ℕ) → words ≡ drawn count g → count / 2 ≤ length words
half_drawn count g words e = let l = ap length e ∙ length_drawn count g in omega (arith, l)

-- none is there
pub draws_first : (count : ℕ) (g h : Lcg) (words : List ℕ) → words ≡ [] → g ≡ h → words ++ drawn (count - 0) g ≡ drawn count h
draws_first count g h words none e = ap (λ (l : List ℕ). l ++ drawn (count - 0) g) none ∙ ap (λ (k : ℕ). drawn k g) (omega arith) ∙ ap (drawn count) e

-- one more
pub draws_on : (count i w : ℕ) (g h : Lcg) (words next whole : List ℕ) → i < count → (w, h) ≡ pcg32 g → next ≡ words ++ w ∷ [] → words ++ drawn (count - i) g ≡ whole
    → next ++ drawn (count - (i + 1)) h ≡ whole
unfolding drawn
draws_on count i w g h words next whole lt e pushed left =
    let m = count - (i + 1) in
    let more : count - i ≡ suc m = omega arith in
    ap (λ (l : List ℕ). l ++ drawn m h) pushed ∙ append_assoc words (w ∷ []) (drawn m h) ∙ ap (λ (p : ℕ × Lcg). words ++ p.0 ∷ drawn m p.1) e ∙ sym (ap (λ (k : ℕ). words ++ drawn k g) more) ∙ left

-- none is left
pub all_drawn : (count i : ℕ) (g : Lcg) (words whole : List ℕ) → count ≤ i → words ++ drawn (count - i) g ≡ whole → words ≡ whole
unfolding drawn
all_drawn count i g words whole le left =
    let none : count - i ≡ 0 = omega arith in
    sym (append-nil words) ∙ sym (ap (λ (k : ℕ). words ++ drawn k g) none) ∙ left
