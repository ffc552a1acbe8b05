use Rattle.std.proofs.Common.{◌≡◌, ◌++◌, drop}
use Rattle.std.specs.List.{flat_map}
use Rattle.ct_picture.specs.Svg.{escaped_byte}
use Rattle.ct_picture.proofs.svg.push_escaped.Given as goal

abbrev pub invariant-loop-b : goal.invariant-loop-b
invariant-loop-b l = l.text.items ++ flat_map escaped_byte (drop l.b-index l.more) ≡ l.fn.text.items ++ flat_map escaped_byte l.more
