-- The rows that a member answers with: of a key its copy, or its entry, and nothing else.
use Rattle.std.specs.Prelude.{◌≡◌, ℕ, false, List, [], ◌∷◌, Option, None, Some}
use Rattle.ct_frame.specs.declared.frame.TableRow.{TableRow}
use Rattle.ct_store.specs.Map.{Pairs, Ascends, look}
use Rattle.ct_rules.specs.declared.state.RecState.{RecState}
use Rattle.ct_rules_node.specs.Node.{or_nothing}
use Rattle.ct_rules_node.specs.Rounds.{row_of, rows_of}
use Rattle.ct_node_view.specs.Had.{entry_row, entries_of}
use Rattle.ct_traverse_parts.specs.Best.{row_from}
use Rattle.ct_traverse_parts.specs.declared.best.Best.{Best}
use Rattle.ct_traverse_parts.specs.declared.line.Pass.{Pass}
use Rattle.ct_traverse_parts.specs.declared.line.Pass.TheVariants.{Copies, Entries}
use Rattle.ct_traverse_parts.specs.Kept.{rows_for}

-- the row alone, where there is one
unfoldable pub one_row : Pass → ℕ → Option TableRow → List Best
one_row pass node None = []
one_row pass node (Some row) = row_from pass node row false ∷ []

-- what the node has of a key
abbrev pub kept_at : List ℕ → Pairs RecState → RecState
kept_at key m = or_nothing (look key m)

-- of all copies of a database the row of a key is that of its copy, and of all entries that of its entry
abbrev pub RowsAreExact : Type 0
RowsAreExact = (node db : ℕ) (key : List ℕ) (m : Pairs RecState) → Ascends m →
    (rows_for key Copies node (rows_of node db m) ≡ one_row Copies node (row_of node db key (kept_at key m).copy)) ×
    (rows_for key Entries node (entries_of db m) ≡ one_row Entries node (entry_row db key (kept_at key m).entry))
