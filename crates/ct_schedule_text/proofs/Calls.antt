-- Open calls, from a place on.
use Rattle.std.proofs.Common.{◌≡◌, ◌+◌, ◌<◌, ◌≤◌, ℕ, zero, suc, false, true, List, [], ◌∷◌, length, get_or, refl, sym, ap, subst, add-one, arith}
use Rattle.std.specs.List.{remove}
use Rattle.std.specs.Prelude.{slice_get}
use Rattle.ct_schedule_text.specs.declared.telling.Asked.{Asked}
use Rattle.ct_schedule_text.specs.Telling.{is_asked_call, open_call, open_without}

-- none of the first open calls, so many, is this call of this node
abbrev pub NoneBefore : ℕ → ℕ → ℕ → List Asked → Type 0
NoneBefore zero node call xs = Unit {0}
NoneBefore (suc i) node call [] = Unit {0}
NoneBefore (suc i) node call (x ∷ xs) = (is_asked_call node call x ≡ false) × NoneBefore i node call xs

none_suc : (node call i : ℕ) (xs : List Asked) (d : Asked) → NoneBefore i node call xs → is_asked_call node call (get_or xs i d) ≡ false → NoneBefore (suc i) node call xs
none_suc node call zero [] d h not = tt
none_suc node call zero (y ∷ xs) d h not = (not, tt)
none_suc node call (suc i) [] d h not = tt
none_suc node call (suc i) (y ∷ xs) d h not = (h.0, none_suc node call i xs d h.1 not)

-- one more is another
pub none_more : (node call i : ℕ) (xs : List Asked) (d : Asked) → NoneBefore i node call xs → is_asked_call node call (get_or xs i d) ≡ false → NoneBefore (i + 1) node call xs
none_more node call i xs d h not = subst (λ (k : ℕ). NoneBefore k node call xs) (sym (add-one i)) (none_suc node call i xs d h not)

-- the next one is it
pub open_there : (node call i : ℕ) (xs : List Asked) (d : Asked) → i < length xs → NoneBefore i node call xs → is_asked_call node call (get_or xs i d) ≡ true → slice_get xs i ≡ open_call node call xs
unfolding open_call
open_there node call i [] d l h it = absurd (omega (arith, l))
open_there node call zero (y ∷ xs) d l h it = rw it refl
open_there node call (suc i) (y ∷ xs) d l h it = rw h.0 (open_there node call i xs d (omega (arith, l)) h.1 it)

pub left_there : (node call i : ℕ) (xs : List Asked) (d : Asked) → i < length xs → NoneBefore i node call xs → is_asked_call node call (get_or xs i d) ≡ true → remove xs i ≡ open_without node call xs
unfolding open_without
left_there node call i [] d l h it = absurd (omega (arith, l))
left_there node call zero (y ∷ xs) d l h it = rw it refl
left_there node call (suc i) (y ∷ xs) d l h it = rw h.0 (ap (λ (zs : List Asked). y ∷ zs) (left_there node call i xs d (omega (arith, l)) h.1 it))

-- none is it
pub none_there : (node call i : ℕ) (xs : List Asked) → length xs ≤ i → NoneBefore i node call xs → slice_get xs i ≡ open_call node call xs
unfolding open_call
none_there node call i [] l h = refl
none_there node call zero (y ∷ xs) l h = absurd (omega (arith, l))
none_there node call (suc i) (y ∷ xs) l h = rw h.0 (none_there node call i xs (omega (arith, l)) h.1)

pub none_left : (node call i : ℕ) (xs : List Asked) → length xs ≤ i → NoneBefore i node call xs → remove xs i ≡ open_without node call xs
unfolding open_without
none_left node call zero [] l h = refl
none_left node call (suc i) [] l h = refl
none_left node call zero (y ∷ xs) l h = absurd (omega (arith, l))
none_left node call (suc i) (y ∷ xs) l h = rw h.0 (ap (λ (zs : List Asked). y ∷ zs) (none_left node call i xs (omega (arith, l)) h.1))
