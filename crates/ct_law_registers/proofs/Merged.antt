-- The persistent database that a merge keeps: it is of a pull of the greatest base, and none of these has a greater number.
use Rattle.std.proofs.Common.{◌≡◌, ℕ, ◌≤◌, true, false, List, [], ◌∷◌, ◌++◌, Some, subst, arith}
use Rattle.std.specs.Prelude.{◌==◌}
use Rattle.std.specs.List.{AllByRecursion}
use Rattle.std.specs.Ordering.{is_lt}
use Rattle.std.proofs.lemmas.Bool.{cond_both, eqb-true}
use Rattle.ct_frame.specs.declared.round.Pull.{Pull}
use Rattle.ct_merge.specs.Placing.{better, best_from, best}
use Rattle.ct_merge.specs.Held.{ptable_rank, ptables_of}
use Rattle.ct_merge.specs.Rule.{told}
use Rattle.ct_merge.specs.declared.held.HeldPTable.{HeldPTable}

-- ---- the best has what all have, and the greatest number

better_has : (P : HeldPTable → Type 0) (x y : HeldPTable) → P x → P y → P (better ptable_rank x y)
better_has P x y p q = cond_both (is_lt (ptable_rank x y)) x y P (λ _. p) (λ _. q)

best_has : (P : HeldPTable → Type 0) (xs : List HeldPTable) (y x : HeldPTable) → P y → AllByRecursion P xs → best_from ptable_rank (Some y) xs ≡ Some x → P x
best_has P [] y x p all e = subst P (let k : y ≡ x = cc in k) p
best_has P (z ∷ zs) y x p all e = best_has P zs (better ptable_rank z y) x (better_has P z y all.0 p) all.1 e

pub kept_has : (P : HeldPTable → Type 0) (xs : List HeldPTable) (x : HeldPTable) → AllByRecursion P xs → best ptable_rank xs ≡ Some x → P x
kept_has P [] x all e = absurd (cc)
kept_has P (z ∷ zs) x all e = best_has P zs z x all.0 all.1 e

-- who comes before another by rank has no smaller number, and who does not has no greater one
before_seq : (x y : HeldPTable) → is_lt (ptable_rank x y) ≡ true → y.ptable.seq ≤ x.ptable.seq
before_seq x y e = grind (arith, e)

after_seq : (x y : HeldPTable) → is_lt (ptable_rank x y) ≡ false → x.ptable.seq ≤ y.ptable.seq
after_seq x y e = grind (arith, e)

better_first : (x y : HeldPTable) → x.ptable.seq ≤ (better ptable_rank x y).ptable.seq
better_first x y = cond_both (is_lt (ptable_rank x y)) x y (λ (z : HeldPTable). x.ptable.seq ≤ z.ptable.seq) (λ _. omega arith) (λ f. after_seq x y f)

better_second : (x y : HeldPTable) → y.ptable.seq ≤ (better ptable_rank x y).ptable.seq
better_second x y = cond_both (is_lt (ptable_rank x y)) x y (λ (z : HeldPTable). y.ptable.seq ≤ z.ptable.seq) (λ t. before_seq x y t) (λ _. omega arith)

best_above : (xs : List HeldPTable) (y x : HeldPTable) → best_from ptable_rank (Some y) xs ≡ Some x → y.ptable.seq ≤ x.ptable.seq
best_above [] y x e = (let k : y ≡ x = cc in subst (λ (z : HeldPTable). y.ptable.seq ≤ z.ptable.seq) k (omega arith))
best_above (z ∷ zs) y x e = (let a = better_second z y in let b = best_above zs (better ptable_rank z y) x e in omega arith)

best_greatest : (xs : List HeldPTable) (y x : HeldPTable) → best_from ptable_rank (Some y) xs ≡ Some x → AllByRecursion (λ z. z.ptable.seq ≤ x.ptable.seq) xs
best_greatest [] y x e = tt
best_greatest (z ∷ zs) y x e = ((let a = better_first z y in let b = best_above zs (better ptable_rank z y) x e in omega arith), best_greatest zs (better ptable_rank z y) x e)

pub kept_greatest : (xs : List HeldPTable) (x : HeldPTable) → best ptable_rank xs ≡ Some x → AllByRecursion (λ z. z.ptable.seq ≤ x.ptable.seq) xs
kept_greatest [] x e = absurd (cc)
kept_greatest (z ∷ zs) x e = (best_above zs z x e, best_greatest zs z x e)

-- ---- what is told by the pulls of a base

all_more : {X : Type 0} (P : X → Type 0) (xs ys : List X) → AllByRecursion P xs → AllByRecursion P ys → AllByRecursion P (xs ++ ys)
all_more P [] ys a b = b
all_more P (x ∷ xs) ys a b = (a.0, all_more P xs ys a.1 b)

pub all_told : (P : HeldPTable → Type 0) (q : ℕ) (pulls : List Pull) → AllByRecursion (λ pull. pull.pbase ≡ q → AllByRecursion P (ptables_of pull)) pulls → AllByRecursion P (told (λ p. p.pbase) ptables_of q pulls)
all_told P q [] h = tt
all_told P q (pull ∷ pulls) h = cond_both (pull.pbase == q) (ptables_of pull ++ told (λ p. p.pbase) ptables_of q pulls) (told (λ p. p.pbase) ptables_of q pulls) (AllByRecursion P)
    (λ t. all_more P (ptables_of pull) (told (λ p. p.pbase) ptables_of q pulls) (h.0 (eqb-true pull.pbase q t)) (all_told P q pulls h.1)) (λ _. all_told P q pulls h.1)
