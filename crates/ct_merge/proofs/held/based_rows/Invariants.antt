use Rattle.std.proofs.Common.{◌≡◌, ◌++◌}
use Rattle.ct_merge.specs.Held.{held_rows}
use Rattle.ct_merge.proofs.held.based_rows.Given as goal

abbrev pub invariant-loop-row : goal.invariant-loop-row
invariant-loop-row l = l.rows.items ++ held_rows l.node l.row-iterator.rest.items ≡ held_rows l.node l.initial.row-iterator.rest.items
