use Rattle.std.proofs.Common.{◌≡◌, ◌++◌, drop}
use Rattle.std.specs.List.{flat_map}
use Rattle.ct_lcp2_lines.specs.Text.{address_line}
use Rattle.ct_lcp2_lines.proofs.text.push_address_lines.Given as goal

abbrev pub invariant-loop-one : goal.invariant-loop-one
invariant-loop-one l = l.text.items ++ flat_map address_line (drop l.one-index l.at) ≡ l.fn.text.items ++ flat_map address_line l.at
