use Rattle.std.proofs.Common.{◌≡◌, ◌++◌, take, drop}
use Rattle.std.specs.Prelude.{map}
use Rattle.ct_rules_node.specs.Node.{restarted_db}
use Rattle.ct_node_state.proofs.restart.restarted_all.Given as goal

-- what a stop leaves of the databases before, and those that are left
abbrev pub invariant-loop-database : goal.invariant-loop-database
invariant-loop-database l = l.database-items ≡ map restarted_db (take l.database-index l.initial.database-items) ++ drop l.database-index l.initial.database-items
