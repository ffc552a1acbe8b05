use Rattle.std.proofs.Common.{◌≡◌, ◌++◌, drop}
use Rattle.ct_rules_node.specs.Rounds.{calls_in}
use Rattle.ct_node_view.proofs.waiting.calls_in.Given as goal

-- the calls of the databases before and of those that are left
abbrev pub invariant-loop-i : goal.invariant-loop-i
invariant-loop-i l = l.calls.items ++ calls_in l.i (drop l.i l.dbs) ≡ calls_in 0 l.dbs
