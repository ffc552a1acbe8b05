-- Numbers in decimal, without sign or leading zero.
use Rattle.std.specs.Prelude.{ℕ, ◌+◌, ◌-◌, ◌*◌, ◌^◌, ◌≤◌, Bool, not, ◌&&◌, ◌||◌, ◌==◌, nat_le, nat_lt, if◌then◌else◌, List, [], ◌∷◌, length, slice_index, Option, None, Some}
use Rattle.std.specs.List.{list_all}

-- `0` to `9`
abbrev pub IsDigit : ℕ → Type 0
IsDigit d = (48 ≤ d) × (d ≤ 57)

abbrev pub is_digit : ℕ → Bool
is_digit d = nat_le 48 d && nat_le d 57

-- digits, at least one, and no zero before others
abbrev pub is_number : List ℕ → Bool
is_number word = list_all is_digit word && nat_lt 0 (length word) && (length word == 1 || not (slice_index word 0 == 48))

-- the number that digits write behind those of n
abbrev pub value_after : ℕ → List ℕ → ℕ
value_after n [] = n
value_after n (d ∷ ds) = value_after (10 * n + (d - 48)) ds

-- the number below 2 ^ 64 that this word writes, if it writes one
abbrev pub number_of : List ℕ → Option ℕ
number_of word = if is_number word && nat_lt (value_after 0 word) (2 ^ 64) then Some (value_after 0 word) else None
