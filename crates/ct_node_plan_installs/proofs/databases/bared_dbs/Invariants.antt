use Rattle.std.proofs.Common.{◌≡◌, ◌++◌, drop}
use Rattle.ct_node_plan_installs.specs.Filled.{bared_dbs}
use Rattle.ct_node_plan_installs.proofs.databases.bared_dbs.Given as goal

-- those so far and those that are left
abbrev pub invariant-loop-i : goal.invariant-loop-i
invariant-loop-i l = l.all.items ++ bared_dbs l.i l.ptables (drop l.i l.dbs) ≡ bared_dbs 0 l.ptables l.dbs
