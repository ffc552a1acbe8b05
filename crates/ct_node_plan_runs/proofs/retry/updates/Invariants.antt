use Rattle.std.proofs.Common.{◌≡◌, ◌++◌, drop}
use Rattle.ct_node_plan_runs.specs.Again.{all_updated}
use Rattle.ct_node_plan_runs.proofs.retry.updates.Given as goal

-- the updates so far and of the databases that are left
abbrev pub invariant-loop-i : goal.invariant-loop-i
invariant-loop-i l = l.outs ++ all_updated l.generation l.me l.i (drop l.i l.node.dbs) ≡ l.initial.outs ++ all_updated l.generation l.me 0 l.node.dbs
