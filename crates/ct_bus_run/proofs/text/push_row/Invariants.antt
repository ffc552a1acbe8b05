use Rattle.std.proofs.Common.{◌≡◌, ◌++◌, drop}
use Rattle.ct_bus_run.specs.Text.{row_text}
use Rattle.ct_bus_run.proofs.text.push_row.Given as goal

-- the lines so far, and those that are left
abbrev pub invariant-loop-all : goal.invariant-loop-all
invariant-loop-all l = (l.sender ≡ l.all-index) × (l.text.items ++ row_text l.receiver l.sender (drop l.all-index l.row) ≡ l.initial.text.items ++ row_text l.receiver 0 l.row)
