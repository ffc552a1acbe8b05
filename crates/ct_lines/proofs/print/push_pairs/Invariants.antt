use Rattle.std.proofs.Common.{◌≡◌, ◌++◌, ◌∷◌, [], drop, map}
use Rattle.std.specs.List.{join_with_byte}
use Rattle.ct_lines.specs.Spelled.{pair_text}
use Rattle.ct_lines.proofs.print.push_pairs.Given as goal

abbrev pub invariant-pair : goal.invariant-pair
invariant-pair l = l.text.items ++ join_with_byte 32 ([] ∷ map pair_text (drop l.pair-index l.pairs)) ≡ l.fn.text.items ++ join_with_byte 32 ([] ∷ map pair_text l.pairs)
