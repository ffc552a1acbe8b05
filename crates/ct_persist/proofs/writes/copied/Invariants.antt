use Rattle.std.proofs.Common.{◌≡◌, ◌++◌, map, drop}
use Rattle.ct_persist.specs.Persisted.{keyed}
use Rattle.ct_persist.specs.Steps.{at_key}
use Rattle.ct_persist.proofs.writes.copied.Given as goal

abbrev pub invariant-loop-write : goal.invariant-loop-write
invariant-loop-write l = map at_key l.all.items ++ keyed (drop l.write-index l.writes) ≡ keyed l.writes
