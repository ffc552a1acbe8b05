use Rattle.std.proofs.Common.{drop}
use Rattle.ct_node_plan_runs.specs.Again.{AllWorth}
use Rattle.ct_node_plan_runs.proofs.retry.none_blank.Given as goal

-- where those that are left keep no blank state, none of all does
abbrev pub invariant-loop-db : goal.invariant-loop-db
invariant-loop-db l = AllWorth (drop l.db-index l.dbs) → AllWorth l.dbs
