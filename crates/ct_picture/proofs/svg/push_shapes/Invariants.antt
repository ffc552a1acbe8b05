use Rattle.std.proofs.Common.{◌≡◌, ◌++◌, drop}
use Rattle.std.specs.List.{flat_map}
use Rattle.ct_picture.specs.Svg.{shape_text}
use Rattle.ct_picture.proofs.svg.push_shapes.Given as goal

abbrev pub invariant-loop-shape : goal.invariant-loop-shape
invariant-loop-shape l = l.text.items ++ flat_map shape_text (drop l.shape-index l.shapes) ≡ l.fn.text.items ++ flat_map shape_text l.shapes
