use Rattle.std.proofs.Common.{◌≡◌, take}
use Rattle.ct_persist.specs.Steps.{all_added}
use Rattle.ct_persist.proofs.writes.add_all.Given as goal

abbrev pub invariant-loop-write : goal.invariant-loop-write
invariant-loop-write l = l.items ≡ all_added (take l.write-index l.writes) l.initial.items
