use Rattle.std.proofs.Common.{◌≡◌, ◌++◌, drop}
use Rattle.ct_bus_run.specs.Text.{rows_text}
use Rattle.ct_bus_run.proofs.text.rows_text.Given as goal

-- the lines so far, and those that are left
abbrev pub invariant-loop-row : goal.invariant-loop-row
invariant-loop-row l = (l.receiver ≡ l.row-index) × (l.text.items ++ rows_text l.receiver (drop l.row-index l.rows) ≡ rows_text 0 l.rows)
