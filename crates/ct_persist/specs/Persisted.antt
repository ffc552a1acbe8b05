-- A persistent database at one node: its number and its pairs, and what one update does to it.
use Rattle.std.specs.Prelude.{◌≢◌, ℕ, ◌+◌, nat_eq, nat_lt, Bool, ◌&&◌, if◌then◌else◌, List, [], ◌∷◌, length}
use Rattle.std.specs.List.{AllByRecursion}
use Rattle.std.specs.Map.{values_of}
use Rattle.ct_values.specs.declared.client.Pair.{Pair}
use Rattle.ct_frame.specs.declared.frame.PTable.{PTable}
use Rattle.ct_store.specs.Map.{Pairs, Ascends, write, erase}
use Rattle.ct_persist.specs.declared.store.Updated.{Updated}
use Rattle.ct_persist.specs.declared.store.Updated.TheVariants.{Done, Had, Gap}

-- the number of the last commit that was applied, and the pairs of keys and values, by ascending key
pub record Persisted : Type 0 where
  pub seq : ℕ
  pub pairs : Pairs (List ℕ)

-- no commit was applied yet, and there are no pairs
abbrev pub unwritten : Persisted
unwritten = record { seq = 0; pairs = [] }

-- each key is below those after it, and no value is empty
abbrev pub IsKept : Pairs (List ℕ) → Type 0
IsKept m = Ascends m × AllByRecursion (λ value. value ≢ []) (values_of m)

-- the pairs after one write: the empty value removes the pair of its key
abbrev pub stored : List ℕ → List ℕ → Pairs (List ℕ) → Pairs (List ℕ)
stored key [] m = erase key m
stored key (b ∷ bs) m = write key (b ∷ bs) m

-- the pairs after writes, in order
unfoldable pub written : List Pair → Pairs (List ℕ) → Pairs (List ℕ)
written [] m = m
written (w ∷ ws) m = written ws (stored w.key w.value m)

-- are there at most 1,024 pairs after the writes?
abbrev pub fits : List Pair → Pairs (List ℕ) → Bool
fits ws m = nat_lt (length (written ws m)) 1025

-- what is answered to an update: `Had` where it is not above the own number, `Done` where it is the next one and its
-- writes fit, `Gap` otherwise
abbrev pub answer : ℕ → List Pair → Persisted → Updated
answer seq ws p = if nat_lt p.seq seq then (if nat_eq seq (p.seq + 1) && fits ws p.pairs then Done else Gap) else Had

-- `Done` applies the writes and takes the number; nothing else changes anything
abbrev pub answered : Updated → ℕ → List Pair → Persisted → Persisted
answered Done seq ws p = record { seq = seq; pairs = written ws p.pairs }
answered Had seq ws p = p
answered Gap seq ws p = p

-- the database after an update
abbrev pub updated : ℕ → List Pair → Persisted → Persisted
updated seq ws p = answered (answer seq ws p) seq ws p

-- each pair as a key and its value
abbrev pub keyed : List Pair → Pairs (List ℕ)
keyed [] = []
keyed (p ∷ ps) = (p.key, p.value) ∷ keyed ps

-- each key and its value as a pair
abbrev pub listed : Pairs (List ℕ) → List Pair
listed [] = []
listed (e ∷ m) = record { key = e.0; value = e.1 } ∷ listed m

-- the database that a table is the whole of
abbrev pub replaced : PTable → Persisted
replaced table = record { seq = table.seq; pairs = keyed table.pairs }
