-- A good input is read to its end, and its placement printed.
use Rattle.std.specs.Prelude.{◌≡◌, ◌⊎◌, ℕ, List, [], Option, None, Some}
use Rattle.ct_outside.specs.Causes.{Rose}
use Rattle.ct_lcp2_lines.specs.Claims.{HasPlacingCause, Places}
use Rattle.ct_lcp2_lines.specs.Input.{read, rest}
use Rattle.ct_lcp2_lines.specs.declared.placer.End.{End}
use Rattle.ct_lcp2_lines.specs.declared.placer.End.TheVariants as end

-- a good input: its last line is ended, and none of its lines is refused
pub record IsGood (input : List ℕ) : Type 0 where
  pub ended : rest input ≡ []
  pub unrefused : (read input).refusal ≡ None

-- where a good input was all that the source had left, and neither a read nor a write failed, it was read to its end, unless
-- memory ran out
abbrev pub PlacingCompletes : Type 0
PlacingCompletes =
    (e : End) (input : List ℕ) (left before now : Option (List ℕ)) (in_before in_now out_before out_now : ℕ) →
    IsGood input → Places e (Some input) left before now → HasPlacingCause e in_before in_now out_before out_now → ¬ (Rose in_before in_now) → ¬ (Rose out_before out_now) → (e ≡ end.Read) ⊎ (e ≡ end.NoMemory)
