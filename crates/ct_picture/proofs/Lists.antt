-- Lists, one item after the other.
use Rattle.std.proofs.Common.{◌≡◌, ◌≢◌, ℕ, suc, ◌+◌, ◌-◌, ◌<◌, List, [], ◌∷◌, ◌++◌, Result, Ok, Err, IfOk, OnOk, refl, sym, ap, subst, ◌∙◌, append_assoc, arith}
use Rattle.std.specs.Prelude.{codes}
use Rattle.std.specs.List.{flat_map, range_with_len}
use Rattle.ct_picture.specs.Drawing.{behind_comma}

-- numbers from one on are that one and those after it
numbers_left : (n m : ℕ) → n < m → range_with_len n (m - n) ≡ n ∷ range_with_len (n + 1) (m - (n + 1))
numbers_left n m h = let e : m - n ≡ suc (m - (n + 1)) = omega (arith, h) in ap (range_with_len n) e

-- what one number more gives
pub one_more : {X : Type 0} (f : ℕ → List X) (n m : ℕ) (t u w : List X) → n < m → t ++ flat_map f (range_with_len n (m - n)) ≡ w → u ≡ t ++ f n → u ++ flat_map f (range_with_len (n + 1) (m - (n + 1))) ≡ w
one_more f n m t u w h i e =
    let rest = flat_map f (range_with_len (n + 1) (m - (n + 1))) in
    ap (λ v. v ++ rest) e ∙ append_assoc t (f n) rest ∙ sym (ap (λ ns. t ++ flat_map f ns) (numbers_left n m h)) ∙ i

pub of_ok : {T E : Type 0} (r : Result T E) (x : T) (P : T → Type 0) → r ≡ Ok x → IfOk r P → P x
of_ok (Ok y) x P e h = let q : y ≡ x = cc in subst P q h
of_ok (Err f) x P e h = absurd cc

pub if_ok_by : {T E : Type 0} (r : Result T E) (x : T) (P : T → Type 0) → IfOk r (λ y. y ≡ x) → P x → IfOk r P
if_ok_by (Ok y) x P e h = subst P (sym e) h
if_ok_by (Err f) x P e h = e

-- counts that are there stand behind a comma
pub comma_before : (counts : List ℕ) → counts ≢ [] → behind_comma counts ≡ codes ", " ++ counts
comma_before [] ne = absurd (ne refl)
comma_before (b ∷ bs) ne = refl

-- two pieces more
pub two_behind : (t0 t u xs l n : List ℕ) → t ≡ t0 ++ xs → u ≡ t ++ (l ++ n) → u ≡ t0 ++ ((xs ++ l) ++ n)
two_behind t0 t u xs l n e f = f ∙ ap (λ v. v ++ (l ++ n)) e ∙ append_assoc t0 xs (l ++ n) ∙ ap (λ s. t0 ++ s) (sym (append_assoc xs l n))

-- the last piece
pub last_behind : {E : Type 0} (r : Result (Unit {0}) E) (t0 t u xs l : List ℕ) → t ≡ t0 ++ xs → OnOk r (u ≡ t ++ l) → OnOk r (u ≡ t0 ++ (xs ++ l))
last_behind (Ok x) t0 t u xs l e f = f ∙ ap (λ v. v ++ l) e ∙ append_assoc t0 xs l
last_behind (Err x) t0 t u xs l e f = f
