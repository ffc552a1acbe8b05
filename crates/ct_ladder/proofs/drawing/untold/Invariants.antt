use Rattle.std.proofs.Common.{◌≡◌, ◌≤◌, [], replicate}
use Rattle.ct_ladder.proofs.drawing.untold.Given as goal

-- nothing is told of each number below this one
abbrev pub invariant-loop-row : goal.invariant-loop-row
invariant-loop-row l = (l._row ≤ l.most) × (l.table.items ≡ replicate l._row [])
