use Rattle.std.proofs.Common.{◌≡◌, drop}
use Rattle.ct_node_plan_installs.specs.Filled.{own_table}
use Rattle.ct_node_plan_installs.proofs.databases.own_table.Given as goal

-- none of the tables before is its own
abbrev pub invariant-loop-table : goal.invariant-loop-table
invariant-loop-table l = own_table l.db (drop l.table-index l.ptables) ≡ own_table l.db l.ptables
