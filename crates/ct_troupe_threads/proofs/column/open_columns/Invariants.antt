use Rattle.std.proofs.Common.{◌≡◌, ◌≤◌, length}
use Rattle.ct_troupe_threads.proofs.column.open_columns.Given as goal

-- so many columns are there
abbrev pub invariant-loop-i : goal.invariant-loop-i
invariant-loop-i l = (l.i ≤ 8) × (length l.columns.items ≡ l.i)
