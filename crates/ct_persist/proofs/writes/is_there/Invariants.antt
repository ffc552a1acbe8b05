use Rattle.std.proofs.Common.{◌≡◌, is_some, take}
use Rattle.ct_store.specs.Map.{look}
use Rattle.ct_persist.specs.Persisted.{written}
use Rattle.ct_persist.proofs.writes.is_there.Given as goal

abbrev pub invariant-loop-write : goal.invariant-loop-write
invariant-loop-write l = l.there ≡ is_some (look l.key (written (take l.write-index l.writes) l.items))
