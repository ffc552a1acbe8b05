use Rattle.std.proofs.Common.{◌≡◌, ◌++◌, drop}
use Rattle.ct_rules_node.specs.Rounds.{ptables_of}
use Rattle.ct_node_view.proofs.rows.ptables_of.Given as goal

-- the tables of the databases before and of those that are left
abbrev pub invariant-loop-i : goal.invariant-loop-i
invariant-loop-i l = l.ptables.items ++ ptables_of l.config l.i (drop l.i l.dbs) ≡ ptables_of l.config 0 l.dbs
