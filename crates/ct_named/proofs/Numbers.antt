-- The numbers of nodes, and of those that run.
use Rattle.std.proofs.Common.{◌≡◌, ◌∙◌, ℕ, zero, suc, ◌+◌, Bool, true, false, cond, [], ◌∷◌, ◌++◌, refl, sym, ap, append-nil, add-one, arith}
use Rattle.std.specs.Prelude.{filter}
use Rattle.ct_rules_cluster.specs.Cluster.{numbers}

pub none_yet : (p : ℕ → Bool) → [] ≡ filter p (numbers 0 0)
unfolding numbers
none_yet p = refl

after_all : (p : ℕ → Bool) (i n : ℕ) (b : Bool) → p (i + n) ≡ b → filter p (numbers i (suc n)) ≡ filter p (numbers i n) ++ cond b ((i + n) ∷ []) []
unfolding numbers
after_all p i zero b e = ap (λ c. cond c (i ∷ []) []) (ap p (omega arith) ∙ e) ∙ ap (λ m. cond b (m ∷ []) []) (omega arith)
after_all p i (suc n) b e =
    let h : filter p (numbers (i + 1) (suc n)) ≡ filter p (numbers (i + 1) n) ++ cond b (((i + 1) + n) ∷ []) [] = after_all p (i + 1) n b (ap p (omega arith) ∙ e) in
    let m : ((i + 1) + n) ≡ i + suc n = omega arith in
    let here : filter p (numbers (i + 1) (suc n)) ≡ filter p (numbers (i + 1) n) ++ cond b ((i + suc n) ∷ []) [] = h ∙ ap (λ k. filter p (numbers (i + 1) n) ++ cond b (k ∷ []) []) m in
    elim (p i) as (λ c. cond c (i ∷ filter p (numbers (i + 1) (suc n))) (filter p (numbers (i + 1) (suc n))) ≡ cond c (i ∷ filter p (numbers (i + 1) n)) (filter p (numbers (i + 1) n)) ++ cond b ((i + suc n) ∷ []) []) [
      | true ↦ ap (λ xs. i ∷ xs) here
      | false ↦ here
    ]

-- one more that runs, and one that does not
pub one_more_runs : (p : ℕ → Bool) (n : ℕ) → true ≡ p n → filter p (numbers 0 (n + 1)) ≡ filter p (numbers 0 n) ++ n ∷ []
one_more_runs p n e = rw add-one (after_all p 0 n true (ap p (omega arith) ∙ sym e) ∙ ap (λ k. filter p (numbers 0 n) ++ k ∷ []) (omega arith))

pub one_more_rests : (p : ℕ → Bool) (n : ℕ) → false ≡ p n → filter p (numbers 0 (n + 1)) ≡ filter p (numbers 0 n)
one_more_rests p n e = rw add-one (after_all p 0 n false (ap p (omega arith) ∙ sym e) ∙ append-nil (filter p (numbers 0 n)))
