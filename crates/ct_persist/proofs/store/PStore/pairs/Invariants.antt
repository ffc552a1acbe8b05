use Rattle.std.proofs.Common.{◌≡◌, ◌++◌, map}
use Rattle.std.specs.Map.Iter.{deref_pair}
use Rattle.ct_persist.specs.Persisted.{listed}
use Rattle.ct_persist.proofs.store.PStore.pairs.Given as goal

abbrev pub invariant-loop-key : goal.invariant-loop-key
invariant-loop-key l = l.pairs.items ++ listed (map deref_pair l.key-iterator.rest.items) ≡ listed l.self.pairs
