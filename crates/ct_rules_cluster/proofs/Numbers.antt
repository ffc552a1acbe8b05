-- The numbers from one on: they ascend, and stay below the one behind the last.
use Rattle.std.proofs.Common.{◌≡◌, ℕ, zero, suc, ◌+◌, ◌<◌, ◌≤◌, true, List, [], ◌∷◌, ◌++◌, refl, ap, subst, arith}
use Rattle.std.proofs.lemmas.Bool.{and_from, lt-ltb}
use Rattle.std.specs.Prelude.{nat_lt}
use Rattle.std.specs.List.{list_all}
use Rattle.ct_frame.specs.Fields.{ascends, ascends_after}
use Rattle.ct_rules_cluster.specs.Cluster.{numbers}

pub numbers_from : (i n : ℕ) → numbers i (suc n) ≡ numbers i n ++ (i + n) ∷ []
unfolding numbers
numbers_from i zero = ap (λ (k : ℕ). k ∷ []) (omega arith)
numbers_from i (suc n) =
    let e : i + 1 + n ≡ i + suc n = omega arith in
    ap (λ (l : List ℕ). i ∷ l) (subst (λ (k : ℕ). numbers (i + 1) (suc n) ≡ numbers (i + 1) n ++ k ∷ []) e (numbers_from (i + 1) n))

pub numbers_more : (n : ℕ) → numbers 0 (n + 1) ≡ numbers 0 n ++ n ∷ []
numbers_more n =
    let one : suc n ≡ n + 1 = omega arith in
    let none : 0 + n ≡ n = omega arith in
    subst (λ (k : ℕ). numbers 0 k ≡ numbers 0 n ++ n ∷ []) one (subst (λ (m : ℕ). numbers 0 (suc n) ≡ numbers 0 n ++ m ∷ []) none (numbers_from 0 n))

pub numbers_after : (x i k : ℕ) → x < i → ascends_after nat_lt x (numbers i k) ≡ true
unfolding numbers
numbers_after x i zero l = refl
numbers_after x i (suc k) l = and_from _ _ (lt-ltb x i l) (numbers_after i (i + 1) k (omega arith))

pub numbers_ascend : (i k : ℕ) → ascends nat_lt (numbers i k) ≡ true
unfolding numbers
numbers_ascend i zero = refl
numbers_ascend i (suc k) = numbers_after i (i + 1) k (omega arith)

pub numbers_below : (b i k : ℕ) → i + k ≤ b → list_all (λ n. nat_lt n b) (numbers i k) ≡ true
unfolding numbers
numbers_below b i zero l = refl
numbers_below b i (suc k) l = and_from _ _ (lt-ltb i b (omega arith)) (numbers_below b (i + 1) k (omega arith))
