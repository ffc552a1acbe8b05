use Rattle.std.proofs.Common.{◌≡◌, ◌++◌, ◌-◌}
use Rattle.std.specs.List.{flat_map, range_with_len}
use Rattle.ct_lcp2_lines.specs.Text.{imbalance_line}
use Rattle.ct_lcp2_lines.proofs.text.push_imbalance_lines.Given as goal

abbrev pub invariant-loop-node : goal.invariant-loop-node
invariant-loop-node l = l.text.items ++ flat_map (imbalance_line l.at) (range_with_len l.node (l.nodes - l.node)) ≡ l.fn.text.items ++ flat_map (imbalance_line l.at) (range_with_len 0 l.nodes)
