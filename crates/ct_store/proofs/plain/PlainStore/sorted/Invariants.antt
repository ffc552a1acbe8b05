use Rattle.std.proofs.Common.{◌≡◌, ◌++◌}
use Rattle.std.specs.Prelude.{map}
use Rattle.std.specs.Map.Iter.{deref_pair}
use Rattle.ct_store.proofs.plain.PlainStore.sorted.Given as goal

abbrev pub invariant-loop-key : goal.invariant-loop-key
invariant-loop-key g l = map deref_pair l.all.items ++ l.key-iterator ≡ l.self
