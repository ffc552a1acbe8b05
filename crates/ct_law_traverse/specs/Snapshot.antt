-- What is promised of the answer of a traverse: of each key it shows what was read of it at some moment since the traverse began.
use Rattle.std.specs.Prelude.{◌≡◌, ◌⊎◌, ℕ, bytes_eq, if◌then◌else◌, List, [], ◌∷◌, map, Option, None, Some}
use Rattle.std.specs.List.{AllByRecursion}
use Rattle.std.specs.List.Sorted.{IsStrictlySortedBy}
use Rattle.ct_values.specs.Key.{key_cmp}
use Rattle.ct_values.specs.declared.client.Pair.{Pair}
use Rattle.ct_register.specs.Register.{reading}
use Rattle.ct_register.specs.Lines.{Lines}

-- what is read of a record of line g
abbrev pub read_of : ℕ → ℕ → List ℕ → Lines → List ℕ
read_of g db key r = reading (r.records g db key).versions

-- at one of these moments the record had this reading
unfoldable pub WasReadIn : ℕ → ℕ → List ℕ → List ℕ → List Lines → Type 0
WasReadIn g db key value [] = ⊥
WasReadIn g db key value (r ∷ rs) = (read_of g db key r ≡ value) ⊎ WasReadIn g db key value rs

-- the value that is shown for a key, where one is
unfoldable pub value_shown : List ℕ → List Pair → Option (List ℕ)
value_shown key [] = None
value_shown key (p ∷ ps) = if bytes_eq p.key key then Some p.value else value_shown key ps

-- a value that is shown is not empty, and was read at one of these moments; the empty one was read of a key that is not shown
unfoldable pub IsShownSince : List Lines → ℕ → ℕ → List ℕ → Option (List ℕ) → Type 0
IsShownSince since g db key None = WasReadIn g db key [] since
IsShownSince since g db key (Some []) = ⊥
IsShownSince since g db key (Some (b ∷ bs)) = WasReadIn g db key (b ∷ bs) since

-- the answer of a traverse of a database of line g, where these are the registers of all moments since it began
pub record IsSnapshot (since : List Lines) (g db : ℕ) (pairs : List Pair) : Type 0 where
  -- keys ascend
  pub order : IsStrictlySortedBy key_cmp (map (λ p. p.key) pairs)
  -- of each key what is shown was read
  pub shown : (key : List ℕ) → IsShownSince since g db key (value_shown key pairs)

-- ---- where nothing changes

-- no reading of the database's records changed
abbrev pub IsStill : List Lines → ℕ → ℕ → (List ℕ → List ℕ) → Type 0
IsStill since g db read = AllByRecursion (λ r. (key : List ℕ) → read_of g db key r ≡ read key) since

-- a key with an empty reading is not shown, and any other with its reading
unfoldable pub unless_nil : List ℕ → Option (List ℕ)
unless_nil [] = None
unless_nil (b ∷ bs) = Some (b ∷ bs)

-- then the answer is exactly the line: each key that has a reading, with it
abbrev pub StillIsTheLine : Type 0
StillIsTheLine = (since : List Lines) (g db : ℕ) (pairs : List Pair) (read : List ℕ → List ℕ) → IsSnapshot since g db pairs → IsStill since g db read → (key : List ℕ) → value_shown key pairs ≡ unless_nil (read key)
