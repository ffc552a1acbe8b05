use Rattle.std.proofs.Common.{◌≡◌, ◌++◌, ◌-◌}
use Rattle.std.specs.List.{flat_map, range_with_len}
use Rattle.ct_ladder.specs.Drawing.{lifeline}
use Rattle.ct_ladder.proofs.drawing.lifelines.Given as goal

abbrev pub invariant-loop-node : goal.invariant-loop-node
invariant-loop-node l = l.shapes.items ++ flat_map (lifeline l.rungs) (range_with_len l.node (l.nodes - l.node)) ≡ l.fn.shapes.items ++ flat_map (lifeline l.rungs) (range_with_len 0 l.nodes)
