use Rattle.std.proofs.Common.{◌≡◌, ◌++◌, drop}
use Rattle.ct_node_plan_calls.proofs.commits.copied.Given as goal

-- what was copied and what is left
abbrev pub invariant-loop-pair : goal.invariant-loop-pair
invariant-loop-pair l = l.all.items ++ drop l.pair-index l.writes ≡ l.writes
