use Rattle.std.proofs.Common.{◌≡◌, ◌≤◌, drop}
use Rattle.ct_ladder.specs.Drawing.{nodes_from}
use Rattle.ct_ladder.proofs.drawing.nodes_of.Given as goal

abbrev pub invariant-loop-rung : goal.invariant-loop-rung
invariant-loop-rung l = (nodes_from l.nodes (drop l.rung-index l.rungs) ≡ nodes_from l.least l.rungs) × (l.nodes ≤ 256)
