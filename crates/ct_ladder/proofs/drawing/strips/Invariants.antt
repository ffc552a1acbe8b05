use Rattle.std.proofs.Common.{◌≡◌, ◌≤◌, ◌++◌, drop}
use Rattle.ct_picture.specs.Drawing.{fresh}
use Rattle.ct_ladder.specs.Drawing.{strips}
use Rattle.ct_ladder.proofs.drawing.strips.Given as goal

abbrev pub invariant-loop-rung : goal.invariant-loop-rung
invariant-loop-rung l = record {
  place : l.i ≡ l.rung-index;
  begun : l.lane.begun ≤ l.i;
  shapes : l.shapes.items ++ strips l.node l.i l.lane (drop l.rung-index l.rungs) ≡ l.fn.shapes.items ++ strips l.node 0 (fresh 0) l.rungs;
}
