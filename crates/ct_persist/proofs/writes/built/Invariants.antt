use Rattle.std.proofs.Common.{◌≡◌, ◌++◌}
use Rattle.ct_persist.specs.Persisted.{keyed}
use Rattle.ct_persist.proofs.writes.built.Given as goal

abbrev pub invariant-loop-pair : goal.invariant-loop-pair
invariant-loop-pair l = l.items ++ keyed l.pair-iterator.rest.items ≡ keyed l.fn.pairs.items
