-- What stands where in a list with one element more.
use Rattle.std.proofs.Common.{◌≡◌, ℕ, zero, suc, List, [], ◌∷◌, ◌++◌, length, inl, inr, refl, ap, ⊎_elim}
use Rattle.std.specs.Prelude.{◌⊎◌, Some, slice_get}

-- an element is an old one, or the new one at the end
pub at_snoc : {A : Type 0} (xs : List A) (x y : A) (n : ℕ) → slice_get (xs ++ x ∷ []) n ≡ Some y → (slice_get xs n ≡ Some y) ⊎ ((n ≡ length xs) × (y ≡ x))
at_snoc [] x y zero e = inr (refl, cc)
at_snoc [] x y (suc n) e = absurd (cc)
at_snoc (z ∷ zs) x y zero e = inl e
at_snoc (z ∷ zs) x y (suc n) e = ⊎_elim (λ (i : slice_get zs n ≡ Some y). inl i) (λ (i : (n ≡ length zs) × (y ≡ x)). inr (ap suc i.0, i.1)) (at_snoc zs x y n e)

-- an old element stays
pub at_front : {A : Type 0} (xs ys : List A) (y : A) (n : ℕ) → slice_get xs n ≡ Some y → slice_get (xs ++ ys) n ≡ Some y
at_front [] ys y n e = absurd (cc)
at_front (z ∷ zs) ys y zero e = e
at_front (z ∷ zs) ys y (suc n) e = at_front zs ys y n e

-- the new one is at the end
pub at_end : {A : Type 0} (xs : List A) (y : A) → slice_get (xs ++ y ∷ []) (length xs) ≡ Some y
at_end [] y = refl
at_end (z ∷ zs) y = at_end zs y

-- an element behind others and before others
pub at_seam : {A : Type 0} (xs : List A) (y : A) (ys : List A) → slice_get (xs ++ y ∷ ys) (length xs) ≡ Some y
at_seam [] y ys = refl
at_seam (z ∷ zs) y ys = at_seam zs y ys
