-- The row that a traverse keeps of each key.
use Rattle.std.specs.Prelude.{ℕ, nat_lt, Bool, true, false, not, ◌&&◌, ◌||◌, if◌then◌else◌, List, [], ◌∷◌, Option, None, Some}
use Rattle.ct_values.specs.Words.{is_nil}
use Rattle.ct_values.specs.declared.client.Pair.{Pair}
use Rattle.ct_frame.specs.declared.frame.TableRow.{TableRow}
use Rattle.ct_store.specs.Map.{Pairs, look, write, erase}
use Rattle.ct_traverse_parts.specs.declared.best.Best.{Best}
use Rattle.ct_traverse_parts.specs.declared.line.Pass.{Pass}
use Rattle.ct_traverse_parts.specs.declared.line.Pass.TheVariants.{Copies, Entries}

-- are the rows of this pass those of entries?
abbrev pub counts_entry : Pass → Bool
counts_entry Copies = false
counts_entry Entries = true

-- Does a row of a key beat the one that is kept? The greater RSN does; of the same RSN a copy beats an entry, and of two
-- copies or two entries that of the lower node does.
abbrev pub beats : (rsn : ℕ) (of_entry : Bool) (node : ℕ) → Best → Bool
beats rsn of_entry node best =
    if nat_lt best.rsn rsn then true
    else if nat_lt rsn best.rsn then false
    else if of_entry then best.of_entry && nat_lt node best.node
    else best.of_entry || nat_lt node best.node

-- a row that came in a pass from a node, where an entry came before or did not
abbrev pub row_from : Pass → ℕ → TableRow → Bool → Best
row_from pass node row has_entry = record { rsn = row.rsn; of_entry = counts_entry pass; node = node; value = row.value; has_entry = counts_entry pass || has_entry }

-- what is kept of a key once this row came: the better of both, and that an entry came
abbrev pub merged : Pass → ℕ → TableRow → Option Best → Best
merged pass node row None = row_from pass node row false
merged pass node row (Some best) =
    if beats row.rsn (counts_entry pass) node best then row_from pass node row best.has_entry
    else record best { has_entry = counts_entry pass || best.has_entry }

-- what is kept of each key once these rows came in a pass from a node
unfoldable pub gathered : Pass → ℕ → List TableRow → Pairs Best → Pairs Best
gathered pass node [] kept = kept
gathered pass node (row ∷ rows) kept = gathered pass node rows (write row.key (merged pass node row (look row.key kept)) kept)

-- is the key shown? An entry came for it, and the value that is kept is not empty
abbrev pub is_shown : Best → Bool
is_shown best = best.has_entry && not (is_nil best.value)

-- the keys that are shown, with their values, by key
unfoldable pub shown : Pairs Best → List Pair
shown [] = []
shown (e ∷ kept) = if is_shown e.1 then record { key = e.0; value = e.1.value } ∷ shown kept else shown kept

-- ---- what was written, taken back

-- the item in the place of what a key has now, where it has something
abbrev pub written_over : List ℕ → Best → Option Best → Pairs Best → Pairs Best
written_over key best None kept = kept
written_over key best (Some now) kept = write key best kept

-- what stood at a key stands there again
abbrev pub put_back : List ℕ → Option Best → Pairs Best → Pairs Best
put_back key None kept = erase key kept
put_back key (Some best) kept = written_over key best (look key kept) kept

-- the last change is taken back first
unfoldable pub taken_back : List (List ℕ × Option Best) → Pairs Best → Pairs Best
taken_back [] kept = kept
taken_back (c ∷ changes) kept = put_back c.0 c.1 (taken_back changes kept)
