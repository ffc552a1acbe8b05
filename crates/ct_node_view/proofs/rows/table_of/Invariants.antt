use Rattle.std.proofs.Common.{◌≡◌, ◌++◌, drop}
use Rattle.ct_rules_node.specs.Rounds.{table_of}
use Rattle.ct_node_view.proofs.rows.table_of.Given as goal

-- the rows of the databases before and of those that are left
abbrev pub invariant-loop-i : goal.invariant-loop-i
invariant-loop-i l = l.rows.items ++ table_of l.me l.i (drop l.i l.dbs) ≡ table_of l.me 0 l.dbs
