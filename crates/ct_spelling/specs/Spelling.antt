-- How bytes are spelled as one word.
use Rattle.std.specs.Prelude.{◌≡◌, ℕ, ◌+◌, ◌-◌, ◌*◌, ◌/◌, ◌%◌, ◌<◌, ◌≤◌, ◌≢◌, Bool, false, not, ◌&&◌, ◌==◌, nat_le, nat_lt, if◌then◌else◌, List, [], ◌∷◌, Option, None, Some, Result, Ok, Err}
use Rattle.std.specs.List.{flat_map, All}
use Rattle.ct_spelling.specs.declared.spelling.SpellFault.{SpellFault}
use Rattle.ct_spelling.specs.declared.spelling.SpellFault.TheVariants.{BadSpelling, NoMemory}

abbrev pub AreBytes : List ℕ → Type 0
AreBytes bytes = All (λ b. b < 256) bytes

-- a printed byte that is no space and no `=`
abbrev pub IsWordByte : ℕ → Type 0
IsWordByte b = (33 ≤ b) × (b ≤ 126) × (b ≢ 61)

-- does this byte stand for itself? It is printed, and no space, no `%` and no `=`
abbrev pub is_plain : ℕ → Bool
is_plain b = nat_le 33 b && nat_le b 126 && not (b == 37) && not (b == 61)

-- the digit of a number below 16, `a` to `f` from 10 on
abbrev pub hex_digit : ℕ → ℕ
hex_digit n = if nat_lt n 10 then 48 + n else 87 + n

-- itself, or `%` and two digits
abbrev pub spelled_byte : ℕ → List ℕ
spelled_byte b = if is_plain b then b ∷ [] else 37 ∷ hex_digit (b / 16) ∷ hex_digit (b % 16) ∷ []

-- `-` alone
abbrev pub is_dash : List ℕ → Bool
is_dash [] = false
is_dash (b ∷ []) = b == 45
is_dash (b ∷ c ∷ bs) = false

-- `%2d` alone
abbrev pub is_spelled_dash : List ℕ → Bool
is_spelled_dash [] = false
is_spelled_dash (b ∷ []) = false
is_spelled_dash (b ∷ c ∷ []) = false
is_spelled_dash (b ∷ c ∷ d ∷ []) = (b == 37) && (c == 50) && (d == 100)
is_spelled_dash (b ∷ c ∷ d ∷ e ∷ bs) = false

-- no bytes are `-`, `-` alone is `%2d`, all else goes byte by byte
abbrev pub spelling : List ℕ → List ℕ
spelling [] = 45 ∷ []
spelling (b ∷ bs) = if is_dash (b ∷ bs) then 37 ∷ 50 ∷ 100 ∷ [] else flat_map spelled_byte (b ∷ bs)

-- the number of a digit, lower case alone
abbrev pub hex_value : ℕ → Option ℕ
hex_value d = if nat_le 48 d && nat_le d 57 then Some (d - 48) else if nat_le 97 d && nat_le d 102 then Some (d - 87) else None

abbrev pub plain_byte : ℕ → Option ℕ
plain_byte b = if is_plain b then Some b else None

-- no byte that stands for itself is written by two digits
abbrev pub unless_plain : ℕ → Option ℕ
unless_plain b = if is_plain b then None else Some b

abbrev pub two_digits : Option ℕ → Option ℕ → Option ℕ
two_digits None low = None
two_digits (Some h) None = None
two_digits (Some h) (Some l) = unless_plain (16 * h + l)

-- the byte that `%` and these two digits spell
abbrev pub escaped_byte : ℕ → ℕ → Option ℕ
escaped_byte high low = two_digits (hex_value high) (hex_value low)

-- a byte and those after it, where both are there
abbrev pub with_byte : Option ℕ → Option (List ℕ) → Option (List ℕ)
with_byte None after = None
with_byte (Some b) None = None
with_byte (Some b) (Some bs) = Some (b ∷ bs)

-- what a word spells byte by byte
abbrev pub unspelled_bytes : List ℕ → Option (List ℕ)
unspelled_bytes [] = Some []
unspelled_bytes (a ∷ []) = with_byte (plain_byte a) (Some [])
unspelled_bytes (a ∷ b ∷ []) = with_byte (plain_byte a) (unspelled_bytes (b ∷ []))
unspelled_bytes (a ∷ b ∷ c ∷ word) = if a == 37 then with_byte (escaped_byte b c) (unspelled_bytes word) else with_byte (plain_byte a) (unspelled_bytes (b ∷ c ∷ word))

-- the bytes that a word spells, if it spells any
abbrev pub unspelled : List ℕ → Option (List ℕ)
unspelled [] = None
unspelled (a ∷ word) = if is_dash (a ∷ word) then Some [] else if is_spelled_dash (a ∷ word) then Some (45 ∷ []) else unspelled_bytes (a ∷ word)

-- Ok has these bytes, and BadSpelling comes where there are none.
abbrev pub Unspells : {V : Type 0} → (V → List ℕ) → Result V SpellFault → Option (List ℕ) → Type 0
Unspells view (Ok v) bytes = bytes ≡ Some (view v)
Unspells view (Err BadSpelling) bytes = bytes ≡ None
Unspells view (Err NoMemory) bytes = Unit {0}
