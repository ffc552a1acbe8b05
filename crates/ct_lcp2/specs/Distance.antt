-- How near addresses are to each other.
use Rattle.std.specs.Prelude.{◌≡◌, ℕ, zero, suc, ◌+◌, ◌-◌, ◌*◌, ◌/◌, ◌^◌, ◌≤◌, nat_eq, List, [], ◌∷◌, if◌then◌else◌}
use Rattle.ct_values.specs.declared.address.Address.{Address}
use Rattle.ct_values.specs.declared.address.Address.TheVariants.{V4, V6}

-- how many of their first bits two numbers of so many bits have in common
unfoldable pub agreed : ℕ → ℕ → ℕ → ℕ
agreed zero a b = 0
agreed (suc bits) a b = if nat_eq a b then suc bits else agreed bits (a / 2) (b / 2)

-- the length of the common prefix; none across families
abbrev pub distance : Address → Address → ℕ
distance (V4 a) (V4 b) = agreed 32 a b
distance (V6 a) (V6 b) = agreed 128 a b
distance (V4 a) (V6 b) = 0
distance (V6 a) (V4 b) = 0

-- two numbers of so many bits agree in their first n
abbrev pub AgreeIn : ℕ → ℕ → ℕ → ℕ → Type 0
AgreeIn bits n a b = a / 2 ^ (bits - n) ≡ b / 2 ^ (bits - n)

-- n is the greatest number of first bits in which two numbers of so many bits agree
abbrev pub IsAgreed : ℕ → ℕ → ℕ → ℕ → Type 0
IsAgreed bits a b n = (n ≤ bits) × AgreeIn bits n a b × ((m : ℕ) → m ≤ bits → AgreeIn bits m a b → m ≤ n)

abbrev pub squared : Address → Address → ℕ
squared a b = distance a b * distance a b

-- the sum of squared distances of an address to others
unfoldable pub sum_to : Address → List Address → ℕ
sum_to a [] = 0
sum_to a (b ∷ bs) = squared a b + sum_to a bs

-- the sum of squared distances over the unordered pairs
unfoldable pub imbalance : List Address → ℕ
imbalance [] = 0
imbalance (a ∷ rest) = sum_to a rest + imbalance rest
