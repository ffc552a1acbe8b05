use Rattle.std.proofs.Common.{◌≡◌, ◌++◌, drop, map}
use Rattle.ct_traverse_parts.specs.Walk.{pending_one}
use Rattle.ct_traverse.proofs.walker.Walker.pending.Given as goal

-- those before and those that are left
abbrev pub invariant-loop-t : goal.invariant-loop-t
invariant-loop-t l = l.list.items ++ map pending_one (drop l.t-index l.self.running) ≡ map pending_one l.self.running
