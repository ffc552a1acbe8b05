use Rattle.std.proofs.Common.{◌≡◌, ◌++◌}
use Rattle.std.specs.Prelude.{map}
use Rattle.std.specs.Map.Iter.{deref_pair}
use Rattle.ct_rules_node.specs.Rounds.{rows_of}
use Rattle.ct_node_view.proofs.rows.add_rows.Given as goal

-- the rows before and those of the copies that are left
abbrev pub invariant-loop-key : goal.invariant-loop-key
invariant-loop-key l = l.rows.items ++ rows_of l.me l.db (map deref_pair l.key-iterator.rest.items) ≡ l.initial.rows.items ++ rows_of l.me l.db (map deref_pair l.initial.key-iterator.rest.items)
