use Rattle.std.proofs.Common.{◌≡◌, ◌++◌}
use Rattle.std.specs.List.{flat_map}
use Rattle.std.specs.Prelude.{map}
use Rattle.std.specs.Map.Iter.{deref_pair}
use Rattle.ct_text.specs.Dumps.{copy_line}
use Rattle.ct_text.proofs.dumps.push_copies.Given as goal

-- the text before and the lines of the copies that are left
abbrev pub invariant-loop-key : goal.invariant-loop-key
invariant-loop-key l = l.text.items ++ flat_map copy_line (map deref_pair l.key-iterator.rest.items) ≡ l.initial.text.items ++ flat_map copy_line (map deref_pair l.initial.key-iterator.rest.items)
