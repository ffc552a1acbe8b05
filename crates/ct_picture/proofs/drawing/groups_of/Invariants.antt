use Rattle.std.proofs.Common.{◌≡◌, ◌++◌, drop}
use Rattle.ct_picture.specs.Drawing.{groups_from}
use Rattle.ct_picture.proofs.drawing.groups_of.Given as goal

abbrev pub invariant-loop-row : goal.invariant-loop-row
invariant-loop-row l = record {
  place : l.i ≡ l.row-index;
  groups : l.groups.items ++ groups_from l.i (drop l.row-index l.rows) ≡ groups_from 0 l.rows;
}
