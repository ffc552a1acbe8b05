-- Small words of the other files: functions changed at one place.
use Rattle.std.specs.Prelude.{ℕ, nat_eq, bytes_eq, if◌then◌else◌, List}
use Rattle.ct_values.specs.Address.{same_address}
use Rattle.ct_values.specs.declared.address.Address.{Address}

-- the function, changed at one number
unfoldable pub at : {X : Type 0} → ℕ → X → (ℕ → X) → ℕ → X
at n x f m = if nat_eq m n then x else f m

-- the function, changed at one key
unfoldable pub at_key : {X : Type 0} → List ℕ → X → (List ℕ → X) → List ℕ → X
at_key key x f k = if bytes_eq k key then x else f k

-- the function, changed at one address
unfoldable pub at_address : {X : Type 0} → Address → X → (Address → X) → Address → X
at_address a x f b = if same_address b a then x else f b
