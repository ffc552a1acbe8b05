use Rattle.std.proofs.Common.{◌≡◌, ◌++◌}
use Rattle.ct_node_plan_runs.specs.Again.{all_called}
use Rattle.ct_node_plan_runs.proofs.retry.calls.Given as goal

-- the Calls so far and of those that are left
abbrev pub invariant-loop-called : goal.invariant-loop-called
invariant-loop-called l = l.outs ++ all_called l.config l.me l.node l.called-iterator.rest.items ≡ all_called l.config l.me l.node l.initial.called-iterator.rest.items
