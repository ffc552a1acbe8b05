use Rattle.std.proofs.Common.{◌≡◌, ◌++◌, drop}
use Rattle.ct_traverse_parts.specs.Packed.{packed}
use Rattle.ct_traverse_parts.proofs.rows.packed.Given as goal

-- the bytes before and those of the rows that are left
abbrev pub invariant-loop-row : goal.invariant-loop-row
invariant-loop-row l = l.bytes.items ++ packed (drop l.row-index l.rows) ≡ packed l.rows
