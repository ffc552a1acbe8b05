-- A good input is played to its end.
use Rattle.std.specs.Prelude.{◌≡◌, ◌<◌, ◌⊎◌, ℕ, List, [], length, Option, None, Some}
use Rattle.ct_outside.specs.Causes.{Rose}
use Rattle.ct_call.specs.Rules.{Rules}
use Rattle.ct_play.specs.Play.{played, rest}
use Rattle.ct_main.specs.Claims.{HasEndCause, Plays, most_bytes}
use Rattle.ct_main.specs.declared.player.End.{End}
use Rattle.ct_main.specs.declared.player.End.TheVariants as end

-- a good input: its last line is ended, it is short enough, and none of its lines is refused
pub record IsGood (rules : Rules) (input : List ℕ) : Type 0 where
  pub ended : rest input ≡ []
  pub short : length input < most_bytes
  pub unrefused : (played rules input).refusal ≡ None

-- where a good input was all that the source had left, and neither a read nor a write failed, it was read to its end, unless
-- memory ran out
abbrev pub PlayCompletes : Type 0
PlayCompletes =
    (rules : Rules) (e : End) (input : List ℕ) (left before now : Option (List ℕ)) (in_before in_now out_before out_now : ℕ) →
    IsGood rules input → Plays rules e (Some input) left before now → HasEndCause e in_before in_now out_before out_now → ¬ (Rose in_before in_now) → ¬ (Rose out_before out_now) → (e ≡ end.Read) ⊎ (e ≡ end.NoMemory)
