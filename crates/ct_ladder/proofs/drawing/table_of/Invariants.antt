use Rattle.std.proofs.Common.{◌≡◌, ◌+◌, [], length, drop, replicate}
use Rattle.ct_ladder.specs.Drawing.{table_from}
use Rattle.ct_ladder.proofs.drawing.table_of.Given as goal

abbrev pub invariant-loop-rung : goal.invariant-loop-rung
invariant-loop-rung l = record {
  place : l.i ≡ l.rung-index;
  table : table_from l.i l.table.items (drop l.rung-index l.rungs) ≡ table_from 0 (replicate (length l.rungs + 1) []) l.rungs;
}
