use Rattle.std.proofs.Common.{◌≡◌, ◌++◌, drop, map}
use Rattle.ct_rules_node.specs.Rounds.{frozen_db}
use Rattle.ct_node_plan_members.proofs.freezing.frozen_dbs.Given as goal

-- those so far and those that are left
abbrev pub invariant-loop-database : goal.invariant-loop-database
invariant-loop-database l = l.all.items ++ map frozen_db (drop l.database-index l.dbs) ≡ map frozen_db l.dbs
