-- The hash of a key.
use Rattle.std.specs.Prelude.{ℕ, ◌+◌, ◌*◌, ◌%◌, ◌^◌, List, [], ◌∷◌, length}

-- value after each byte was added at its place, the first of them at place i
abbrev pub gathered : ℕ → ℕ → List ℕ → ℕ
gathered i value [] = value
gathered i value (b ∷ bs) = gathered (i + 1) ((value + b * 2 ^ (i * 5 % 24)) % 2 ^ 32) bs

-- what is gathered from the length on, mixed once
abbrev pub hash_of : List ℕ → ℕ
hash_of bytes = (gathered 0 (0x238F13AF * length bytes % 2 ^ 32) bytes * 1103515243 % 2 ^ 32 + 12345) % 2 ^ 32
