-- Of all rows that came for a key a traverse keeps the greatest.
use Rattle.std.specs.Prelude.{◌≡◌, ◌⊎◌, ℕ, ◌<◌, ◌≤◌, true, false, bytes_eq, if◌then◌else◌, List, [], ◌∷◌, ◌++◌, Option, None, Some}
use Rattle.std.specs.List.{list_any}
use Rattle.ct_frame.specs.declared.frame.TableRow.{TableRow}
use Rattle.ct_store.specs.Map.{Pairs, look}
use Rattle.ct_traverse_parts.specs.Best.{beats, row_from, gathered}
use Rattle.ct_traverse_parts.specs.declared.best.Best.{Best}
use Rattle.ct_traverse_parts.specs.declared.line.Pass.{Pass}

-- rows that came in a pass from a node
pub record Batch : Type 0 where
  pub pass : Pass
  pub node : ℕ
  pub rows : List TableRow

-- what is kept of each key once all of these came, one after the other
unfoldable pub kept_of : List Batch → Pairs Best → Pairs Best
kept_of [] kept = kept
kept_of (b ∷ bs) kept = kept_of bs (gathered b.pass b.node b.rows kept)

-- those of a key, in their order
unfoldable pub rows_for : List ℕ → Pass → ℕ → List TableRow → List Best
rows_for key pass node [] = []
rows_for key pass node (row ∷ rows) = if bytes_eq row.key key then row_from pass node row false ∷ rows_for key pass node rows else rows_for key pass node rows

unfoldable pub all_for : List ℕ → List Batch → List Best
all_for key [] = []
all_for key (b ∷ bs) = rows_for key b.pass b.node b.rows ++ all_for key bs

-- they are the same row, whatever is known of entries
abbrev pub IsSameRow : Best → Best → Type 0
IsSameRow x y = (x.rsn ≡ y.rsn) × (x.of_entry ≡ y.of_entry) × (x.node ≡ y.node) × (x.value ≡ y.value)

-- it is one of these
unfoldable pub IsAmong : Best → List Best → Type 0
IsAmong best [] = ⊥
IsAmong best (x ∷ xs) = IsSameRow best x ⊎ IsAmong best xs

-- none of these beats it
unfoldable pub IsUnbeaten : Best → List Best → Type 0
IsUnbeaten best [] = Unit {0}
IsUnbeaten best (x ∷ xs) = (beats x.rsn x.of_entry x.node best ≡ false) × IsUnbeaten best xs

-- it is the greatest of these, and it is known whether one of them is of an entry
pub record IsBestOf (best : Best) (rows : List Best) : Type 0 where
  pub among : IsAmong best rows
  pub unbeaten : IsUnbeaten best rows
  pub entry : best.has_entry ≡ list_any (λ x. x.of_entry) rows

-- of no rows nothing is kept, and of others the greatest
unfoldable pub IsKeptOf : Option Best → List Best → Type 0
IsKeptOf None rows = rows ≡ []
IsKeptOf (Some best) rows = IsBestOf best rows

-- so it is of each key, whatever came
abbrev pub KeptIsUnbeaten : Type 0
KeptIsUnbeaten = (batches : List Batch) (key : List ℕ) → IsKeptOf (look key (kept_of batches [])) (all_for key batches)

-- no row has a greater RSN; and where the greatest is of an entry, no copy has its RSN
unfoldable pub IsAboveAll : Best → List Best → Type 0
IsAboveAll best [] = Unit {0}
IsAboveAll best (x ∷ xs) = (x.rsn ≤ best.rsn) × (best.of_entry ≡ true → x.of_entry ≡ false → x.rsn < best.rsn) × IsAboveAll best xs

abbrev pub EntryIsAbove : Type 0
EntryIsAbove = (best : Best) (rows : List Best) → IsBestOf best rows → IsAboveAll best rows
