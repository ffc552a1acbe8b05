use Rattle.std.proofs.Common.{◌≡◌, ◌++◌, drop}
use Rattle.ct_rules_cluster.specs.Cluster.{pending_in}
use Rattle.ct_node_view.proofs.pending.add_in.Given as goal

-- the calls of the databases before and of those that are left
abbrev pub invariant-loop-i : goal.invariant-loop-i
invariant-loop-i l = l.calls.items ++ pending_in l.node l.i (drop l.i l.dbs) ≡ l.initial.calls.items ++ pending_in l.node 0 l.dbs
