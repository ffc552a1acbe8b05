use Rattle.std.proofs.Common.{◌≡◌, ◌++◌}
use Rattle.std.specs.Prelude.{map}
use Rattle.std.specs.Map.Iter.{deref_pair}
use Rattle.ct_node_view.specs.Had.{entries_of}
use Rattle.ct_node_view.proofs.entries.add_entries.Given as goal

-- the rows before and those of the entries that are left
abbrev pub invariant-loop-key : goal.invariant-loop-key
invariant-loop-key l = l.rows.items ++ entries_of l.db (map deref_pair l.key-iterator.rest.items) ≡ l.initial.rows.items ++ entries_of l.db (map deref_pair l.initial.key-iterator.rest.items)
