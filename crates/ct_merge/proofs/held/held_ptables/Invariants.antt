use Rattle.std.proofs.Common.{◌≡◌, ◌++◌}
use Rattle.ct_merge.specs.Held.{held_ptables}
use Rattle.ct_merge.proofs.held.held_ptables.Given as goal

abbrev pub invariant-loop-ptable : goal.invariant-loop-ptable
invariant-loop-ptable l = l.held.items ++ held_ptables l.node l.ptable-iterator.rest.items ≡ held_ptables l.node l.initial.ptable-iterator.rest.items
