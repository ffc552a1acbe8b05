use Rattle.std.proofs.Common.{◌≡◌, ◌++◌, drop}
use Rattle.ct_node_plan_runs.proofs.begin.copied.Given as goal

-- what was copied and what is left
abbrev pub invariant-loop-x : goal.invariant-loop-x
invariant-loop-x l = l.all.items ++ drop l.x-index l.placement ≡ l.placement
