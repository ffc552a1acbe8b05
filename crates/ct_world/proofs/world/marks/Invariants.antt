use Rattle.std.proofs.Common.{◌≡◌, ◌≤◌, true, replicate}
use Rattle.ct_world.proofs.world.marks.Given as goal

-- a mark for each number below this one
abbrev pub invariant-loop-node : goal.invariant-loop-node
invariant-loop-node l = (l._node ≤ l.nodes) × (l.marks ≡ replicate l._node true)
