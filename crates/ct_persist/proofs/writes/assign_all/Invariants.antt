use Rattle.std.proofs.Common.{◌≡◌, map}
use Rattle.ct_persist.specs.Steps.{all_assigned, at_key}
use Rattle.ct_persist.proofs.writes.assign_all.Given as goal

abbrev pub invariant-loop-key : goal.invariant-loop-key
invariant-loop-key l = all_assigned (map at_key l.key-iterator.rest.items) l.items ≡ all_assigned (map at_key l.initial.key-iterator.rest.items) l.initial.items
