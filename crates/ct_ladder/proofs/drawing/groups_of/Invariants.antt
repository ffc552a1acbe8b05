use Rattle.std.proofs.Common.{◌≡◌, ◌++◌, drop}
use Rattle.ct_ladder.specs.Drawing.{groups_from}
use Rattle.ct_ladder.proofs.drawing.groups_of.Given as goal

abbrev pub invariant-loop-rung : goal.invariant-loop-rung
invariant-loop-rung l = record {
  place : l.i ≡ l.rung-index;
  groups : l.groups.items ++ groups_from l.i l.table (drop l.rung-index l.rungs) ≡ groups_from 0 l.table l.rungs;
}
