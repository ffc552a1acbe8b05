use Rattle.std.proofs.Common.{◌≡◌, ◌++◌, ◌-◌}
use Rattle.std.specs.Prelude.{not}
use Rattle.std.specs.List.{filter, range_with_len}
use Rattle.ct_lcp2_lines.specs.Placing.{is_disabled}
use Rattle.ct_lcp2_lines.specs.Text.{able_of}
use Rattle.ct_lcp2_lines.proofs.text.able_of.Given as goal

abbrev pub invariant-loop-node : goal.invariant-loop-node
invariant-loop-node l = l.able.items ++ filter (λ n. not (is_disabled l.disabled n)) (range_with_len l.node (l.nodes - l.node)) ≡ able_of l.nodes l.disabled
