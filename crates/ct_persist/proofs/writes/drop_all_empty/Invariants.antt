use Rattle.std.proofs.Common.{◌≡◌, drop}
use Rattle.ct_persist.specs.Steps.{all_dropped}
use Rattle.ct_persist.proofs.writes.drop_all_empty.Given as goal

abbrev pub invariant-loop-write : goal.invariant-loop-write
invariant-loop-write l = all_dropped (drop l.write-index l.writes) l.items ≡ all_dropped l.writes l.initial.items
