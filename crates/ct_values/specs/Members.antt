-- The members of a map, and the one that a key's hash picks.
use Rattle.std.specs.Prelude.{ℕ, ◌≡◌, ◌≤◌, ◌%◌, ◌==◌, if◌then◌else◌, List, [], ◌∷◌, ◌++◌, length, Option, Some, None, Result, Ok, Err, slice_get}
use Rattle.std.specs.List.{list_any}
use Rattle.ct_values.specs.Hash.{hash_of}
use Rattle.ct_values.specs.declared.map.MapFault.{MapFault}
use Rattle.ct_values.specs.declared.map.MapFault.TheVariants.{Empty, Repeated, NoMemory}

-- the first of the numbers that repeats one before it, where those of `before` stand before all
abbrev pub repeat_after : List ℕ → List ℕ → Option ℕ
repeat_after before [] = None
repeat_after before (n ∷ ns) = if list_any (λ m. n == m) before then Some n else repeat_after (before ++ n ∷ []) ns

-- the first of the numbers that repeats an earlier one
abbrev pub repeat : List ℕ → Option ℕ
repeat ns = repeat_after [] ns

-- there is a member, and none stands twice
abbrev pub AreMembers : List ℕ → Type 0
AreMembers ns = (1 ≤ length ns) × (repeat ns ≡ None)

-- a map is made of these members exactly where they are members of a map, unless memory runs out
abbrev pub Maps : Result (List ℕ) MapFault → List ℕ → Type 0
Maps (Ok m) ns = (m ≡ ns) × AreMembers ns
Maps (Err Empty) ns = ns ≡ []
Maps (Err (Repeated n)) ns = repeat ns ≡ Some n
Maps (Err NoMemory) ns = AreMembers ns

-- the member that a key's hash picks, modulo how many there are
abbrev pub member_of : List ℕ → List ℕ → Option ℕ
member_of ns key = slice_get ns (hash_of key % length ns)
