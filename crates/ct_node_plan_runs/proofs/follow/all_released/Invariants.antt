use Rattle.std.proofs.Common.{◌≡◌, ◌++◌, drop, map}
use Rattle.ct_node_plan_runs.specs.Notes.{released}
use Rattle.ct_node_plan_runs.proofs.follow.all_released.Given as goal

-- what is noted so far and of those that are left
abbrev pub invariant-loop-address : goal.invariant-loop-address
invariant-loop-address l = l.outs.items ++ map released (drop l.address-index l.addresses) ≡ map released l.addresses
