use Rattle.std.proofs.Common.{◌≡◌, ◌<◌, ◌^◌, drop}
use Rattle.std.specs.List.{AllByRecursion}
use Rattle.ct_node_plan_installs.specs.Filled.{filled}
use Rattle.ct_node_plan_installs.proofs.databases.install_rows.Given as goal

-- the databases with the rows that are left, each of a number below 2^62
abbrev pub invariant-loop-row : goal.invariant-loop-row
invariant-loop-row l = record {
  left : filled l.me l.members (drop l.row-index l.table) 0 l.dbs ≡ filled l.me l.members l.table 0 l.initial.dbs;
  limits : AllByRecursion (λ row. row.rsn < 2 ^ 62) (drop l.row-index l.table);
}
