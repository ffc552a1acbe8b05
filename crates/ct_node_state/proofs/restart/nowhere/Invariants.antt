use Rattle.std.proofs.Common.{◌≡◌, ◌++◌, take, drop}
use Rattle.std.specs.Prelude.{map}
use Rattle.ct_node_state.specs.Whole.{nowhere}
use Rattle.ct_node_state.proofs.restart.nowhere.Given as goal

-- the addresses before have no node, and those that are left have theirs
abbrev pub invariant-loop-x : goal.invariant-loop-x
invariant-loop-x l = l.x-items ≡ map nowhere (take l.x-index l.initial.x-items) ++ drop l.x-index l.initial.x-items
