-- What a node has of the records of one database.
use Rattle.std.specs.Prelude.{ℕ, List, [], ◌∷◌, Option, None, Some}
use Rattle.ct_frame.specs.declared.frame.TableRow.{TableRow}
use Rattle.ct_frame.specs.declared.header.RecCopy.{RecCopy}
use Rattle.ct_store.specs.Map.{Pairs}
use Rattle.ct_rules.specs.declared.state.Entry.{Entry}
use Rattle.ct_rules.specs.declared.state.RecState.{RecState}
use Rattle.ct_rules_node.specs.Rounds.{with_row}

-- a copy, where there is one, stands with its key before others
abbrev pub with_copy : List ℕ → Option RecCopy → List (List ℕ × RecCopy) → List (List ℕ × RecCopy)
with_copy key None copies = copies
with_copy key (Some c) copies = (key, c) ∷ copies

-- the copies of a database, by key
abbrev pub copies_of : Pairs RecState → List (List ℕ × RecCopy)
copies_of [] = []
copies_of (e ∷ m) = with_copy e.0 e.1.copy (copies_of m)

-- the row of an entry, where there is one: its least RSN and its value, and no data master
abbrev pub entry_row : ℕ → List ℕ → Option Entry → Option TableRow
entry_row db key None = None
entry_row db key (Some e) = Some (record { db = db; key = key; rsn = e.least; value = e.value; master = None })

-- a row for each entry of a database, by key
abbrev pub entries_of : ℕ → Pairs RecState → List TableRow
entries_of db [] = []
entries_of db (e ∷ m) = with_row (entry_row db e.0 e.1.entry) (entries_of db m)
