use Rattle.std.proofs.Common.{◌≡◌}
use Rattle.std.specs.Prelude.{map}
use Rattle.std.specs.Map.Iter.{deref_pair}
use Rattle.ct_store.proofs.Hashing.{filled}
use Rattle.ct_traverse_parts.proofs.kept.Kept.in_order.Given as goal

abbrev pub invariant-loop-key : goal.invariant-loop-key
invariant-loop-key g l = filled (map deref_pair l.found.entries) l.key-iterator ≡ l.self
