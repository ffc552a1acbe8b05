use Rattle.std.proofs.Common.{◌≡◌, take}
use Rattle.std.specs.Prelude.{map}
use Rattle.ct_merge.specs.Gathered.{assigned_to}
use Rattle.ct_merge.proofs.merging.assigned_of.Given as goal

abbrev pub invariant-loop-h : goal.invariant-loop-h
invariant-loop-h l = l.assigned.items ≡ map assigned_to (take l.h-index l.held)
