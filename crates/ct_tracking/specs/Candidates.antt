-- Keys that may be taken out, by ascending key.
use Rattle.std.specs.Prelude.{ℕ, List}
use Rattle.std.specs.BTreeMap.{is_at}
use Rattle.std.specs.BTreeSet.{insert_key}
use Rattle.std.specs.Set.{remove_key}
use Rattle.std.specs.List.Sorted.{IsStrictlySortedBy}
use Rattle.ct_values.specs.Key.{key_cmp}

-- the key stands in its place, once
abbrev pub noted : List ℕ → List (List ℕ) → List (List ℕ)
noted key keys = insert_key key_cmp keys key

-- the key is not there
abbrev pub forgotten : List ℕ → List (List ℕ) → List (List ℕ)
forgotten key keys = remove_key (is_at (key_cmp key)) keys

-- each key is below the next, in the order of bytes
abbrev pub Ascends : List (List ℕ) → Type 0
Ascends keys = IsStrictlySortedBy key_cmp keys
