use Rattle.std.proofs.Common.{◌≡◌, drop}
use Rattle.ct_picture.specs.Drawing.{nodes_from}
use Rattle.ct_picture.proofs.drawing.nodes_of.Given as goal

abbrev pub invariant-loop-row : goal.invariant-loop-row
invariant-loop-row l = nodes_from l.nodes (drop l.row-index l.rows) ≡ nodes_from 0 l.rows
