use Rattle.std.proofs.Common.{◌≡◌, ◌≤◌, ◌++◌, length, drop}
use Rattle.ct_traverse_parts.specs.Packed.{packed}
use Rattle.ct_traverse_parts.proofs.rows.cut.Given as goal

-- the rows before and those that are left, whose bytes are those that are left
abbrev pub invariant-loop-row : goal.invariant-loop-row
invariant-loop-row l = (l.list.items ++ drop l.row-index l.rows ≡ l.rows) × (drop l.start l.all.value.items ≡ packed (drop l.row-index l.rows)) × (l.start ≤ length l.all.value.items)
