-- The rule of database names.
use Rattle.std.specs.Prelude.{ℕ, ◌+◌, Bool, ◌||◌, ◌&&◌, ◌==◌, nat_le, if◌then◌else◌, List, [], ◌∷◌, Option, None, Some}

abbrev pub is_letter : ℕ → Bool
is_letter b = (nat_le 65 b && nat_le b 90) || (nat_le 97 b && nat_le b 122)

-- a letter, a digit, `_`, `.` or `-`
abbrev pub is_name_byte : ℕ → Bool
is_name_byte b = is_letter b || (nat_le 48 b && nat_le b 57) || (b == 95) || (b == 46) || (b == 45)

-- may this byte stand at place i of a name? A letter comes first
abbrev pub is_allowed : ℕ → ℕ → Bool
is_allowed i b = if i == 0 then is_letter b else is_name_byte b

-- the place of the first byte that may not stand where it does, where the first of these bytes stands at place i
abbrev pub bad_from : ℕ → List ℕ → Option ℕ
bad_from i [] = None
bad_from i (b ∷ bs) = if is_allowed i b then bad_from (i + 1) bs else Some i

-- the place of the first byte that the rule forbids
abbrev pub bad_byte : List ℕ → Option ℕ
bad_byte bytes = bad_from 0 bytes
