use Rattle.std.proofs.Common.{◌≡◌, ◌++◌, drop}
use Rattle.std.specs.List.{flat_map}
use Rattle.ct_text.specs.Dumps.{pair_line}
use Rattle.ct_text.proofs.dumps.push_pairs.Given as goal

-- the text before and the lines of the pairs that are left
abbrev pub invariant-loop-pair : goal.invariant-loop-pair
invariant-loop-pair l = l.text.items ++ flat_map pair_line (drop l.pair-index l.pairs) ≡ l.fn.text.items ++ flat_map pair_line l.pairs
