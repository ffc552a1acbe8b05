use Rattle.std.proofs.Common.{◌≡◌, ◌≤◌, ◌++◌, drop}
use Rattle.ct_picture.specs.Drawing.{fresh, strips}
use Rattle.ct_picture.proofs.drawing.strips.Given as goal

abbrev pub invariant-loop-row : goal.invariant-loop-row
invariant-loop-row l = record {
  place : l.i ≡ l.row-index;
  begun : l.lane.begun ≤ l.i;
  shapes : l.shapes.items ++ strips l.node l.i l.lane (drop l.row-index l.rows) ≡ l.fn.shapes.items ++ strips l.node 0 (fresh 0) l.rows;
}
