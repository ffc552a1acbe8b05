use Rattle.std.proofs.Common.{◌≡◌, ◌++◌, drop, map}
use Rattle.ct_node_plan_runs.specs.Notes.{took}
use Rattle.ct_node_plan_runs.proofs.follow.all_took.Given as goal

-- what is noted so far and of those that are left
abbrev pub invariant-loop-address : goal.invariant-loop-address
invariant-loop-address l = l.outs.items ++ map took (drop l.address-index l.addresses) ≡ map took l.addresses
