use Rattle.std.proofs.Common.{◌≡◌, ◌++◌}
use Rattle.std.specs.Prelude.{map}
use Rattle.std.specs.Map.Iter.{deref_pair}
use Rattle.ct_traverse_parts.specs.Best.{shown}
use Rattle.ct_traverse_parts.proofs.best.shown.Given as goal

-- the pairs before and those of the keys that are left
abbrev pub invariant-loop-key : goal.invariant-loop-key
invariant-loop-key l = l.pairs ++ shown (map deref_pair l.key-iterator.rest.items) ≡ l.initial.pairs ++ shown (map deref_pair l.initial.key-iterator.rest.items)
