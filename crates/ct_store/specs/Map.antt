-- A map as the list of its pairs, by ascending key.
use Rattle.std.specs.Prelude.{ℕ, Bool, ◌||◌, is_some, nat_lt, List, length, Option}
use Rattle.std.specs.Map.{keys_of, lookup, remove_entry}
use Rattle.std.specs.BTreeMap.{is_at, insert_entry}
use Rattle.std.specs.List.Sorted.{IsStrictlySortedBy}
use Rattle.ct_values.specs.Key.{key_cmp}

-- each pair is the bytes of a key and its item
abbrev pub Pairs : Type 0 → Type 0
Pairs X = List (List ℕ × X)

module _ {X : Type 0} where
  -- each key is below those after it
  abbrev pub Ascends : Pairs X → Type 0
  Ascends m = IsStrictlySortedBy key_cmp (keys_of m)

  -- the item at a key
  abbrev pub look : List ℕ → Pairs X → Option X
  look key m = lookup (is_at (key_cmp key)) m

  -- the map with this item at a key: in the place of the one that stood there, or as one pair more
  abbrev pub write : List ℕ → X → Pairs X → Pairs X
  write key item m = insert_entry key_cmp m key item

  -- the map without a key
  abbrev pub erase : List ℕ → Pairs X → Pairs X
  erase key m = remove_entry (is_at (key_cmp key)) m

  -- may a client put something at this key? It is there, or fewer than 1,024 keys are
  abbrev pub has_room : List ℕ → Pairs X → Bool
  has_room key m = is_some (look key m) || nat_lt (length m) 1024
