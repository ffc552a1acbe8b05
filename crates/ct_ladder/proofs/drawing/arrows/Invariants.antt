use Rattle.std.proofs.Common.{◌≡◌, ◌++◌, drop, map}
use Rattle.ct_ladder.specs.Drawing.{arrow}
use Rattle.ct_ladder.proofs.drawing.arrows.Given as goal

abbrev pub invariant-loop-ending : goal.invariant-loop-ending
invariant-loop-ending l = l.shapes.items ++ map (arrow l.i l.sender l.receiver l.look) (drop l.ending-index l.endings) ≡ l.fn.shapes.items ++ map (arrow l.i l.sender l.receiver l.look) l.endings
