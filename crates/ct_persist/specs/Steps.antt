-- The steps of an update in its place: keys that are new get the empty value, which no pair has else; then all keys get
-- their values; then those whose value is empty are taken out.
use Rattle.std.specs.Prelude.{ℕ, Bool, true, false, is_some, if◌then◌else◌, List, [], ◌∷◌, Option, None, Some}
use Rattle.std.specs.Borrow.{Bor}
use Rattle.ct_values.specs.declared.client.Pair.{Pair}
use Rattle.ct_store.specs.Map.{Pairs, look, write, erase}

-- the key is there: one that was not has the empty value
abbrev pub added : List ℕ → Pairs (List ℕ) → Pairs (List ℕ)
added key m = if is_some (look key m) then m else write key [] m

-- all keys of the writes are there
abbrev pub all_added : List Pair → Pairs (List ℕ) → Pairs (List ℕ)
all_added [] m = m
all_added (w ∷ ws) m = all_added ws (added w.key m)

-- a key that is there has this value
abbrev pub assigned : List ℕ → List ℕ → Pairs (List ℕ) → Pairs (List ℕ)
assigned key value m = if is_some (look key m) then write key value m else m

-- the keys that are there have these values, in order
abbrev pub all_assigned : List (List ℕ × List ℕ) → Pairs (List ℕ) → Pairs (List ℕ)
all_assigned [] m = m
all_assigned (e ∷ es) m = all_assigned es (assigned e.0 e.1 m)

-- is there the empty value?
abbrev pub is_empty_value : Option (List ℕ) → Bool
is_empty_value None = false
is_empty_value (Some []) = true
is_empty_value (Some (b ∷ bs)) = false

-- the key is not there with the empty value
abbrev pub dropped : List ℕ → Pairs (List ℕ) → Pairs (List ℕ)
dropped key m = if is_empty_value (look key m) then erase key m else m

-- no key of the writes is there with the empty value
abbrev pub all_dropped : List Pair → Pairs (List ℕ) → Pairs (List ℕ)
all_dropped [] m = m
all_dropped (w ∷ ws) m = all_dropped ws (dropped w.key m)

-- a key that is lent, with its value
abbrev pub at_key : Bor (List ℕ) × List ℕ → List ℕ × List ℕ
at_key e = (e.0.now, e.1)

-- one or nothing
abbrev pub one_if : Bool → ℕ
one_if true = 1
one_if false = 0
