-- Words that are no form.
use Rattle.std.proofs.Common.{◌≡◌, ℕ, ◌<◌, ◌≤◌, List, [], ◌∷◌, length, None, Result, Ok, Err, IfOk, refl, subst, arith}
use Rattle.ct_lines.specs.Grammar.{plain_form, plain_command}
use Rattle.ct_lines.specs.Words.{pair_of}

pub many_args : (w n : List ℕ) (ws : List (List ℕ)) → 5 ≤ length ws → plain_form w n ws ≡ None
many_args w n [] h = absurd (omega arith)
many_args w n (a ∷ []) h = absurd (omega arith)
many_args w n (a ∷ b ∷ []) h = absurd (omega arith)
many_args w n (a ∷ b ∷ c ∷ []) h = absurd (omega arith)
many_args w n (a ∷ b ∷ c ∷ d ∷ []) h = absurd (omega arith)
many_args w n (a ∷ b ∷ c ∷ d ∷ e ∷ ws) h = refl

pub many_words : (w : List ℕ) (ws : List (List ℕ)) → 4 ≤ length ws → plain_command w ws ≡ None
many_words w [] h = absurd (omega arith)
many_words w (a ∷ []) h = absurd (omega arith)
many_words w (a ∷ b ∷ []) h = absurd (omega arith)
many_words w (a ∷ b ∷ c ∷ []) h = absurd (omega arith)
many_words w (a ∷ b ∷ c ∷ d ∷ ws) h = refl

pub one_part : (ws : List (List ℕ)) → length ws < 2 → pair_of ws ≡ None
one_part [] h = refl
one_part (a ∷ []) h = refl
one_part (a ∷ b ∷ ws) h = absurd (omega arith)

pub many_parts : (ws : List (List ℕ)) → 3 ≤ length ws → pair_of ws ≡ None
many_parts [] h = absurd (omega arith)
many_parts (a ∷ []) h = absurd (omega arith)
many_parts (a ∷ b ∷ []) h = absurd (omega arith)
many_parts (a ∷ b ∷ c ∷ ws) h = refl

-- what holds of an Ok holds of its value
pub of_ok : {T E : Type 0} (r : Result T E) (x : T) (P : T → Type 0) → r ≡ Ok x → IfOk r P → P x
of_ok (Ok y) x P e h = let q : y ≡ x = cc in subst P q h
of_ok (Err f) x P e h = absurd cc
