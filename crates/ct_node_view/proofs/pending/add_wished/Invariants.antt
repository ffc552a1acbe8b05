use Rattle.std.proofs.Common.{◌≡◌, ◌++◌}
use Rattle.std.specs.Prelude.{map}
use Rattle.std.specs.Map.Iter.{deref_pair}
use Rattle.ct_rules_cluster.specs.Cluster.{wished_in}
use Rattle.ct_node_view.proofs.pending.add_wished.Given as goal

-- the calls before and those that are left
abbrev pub invariant-loop-key : goal.invariant-loop-key
invariant-loop-key l = l.calls.items ++ wished_in l.node (map deref_pair l._key-iterator.rest.items) ≡ l.initial.calls.items ++ wished_in l.node (map deref_pair l.initial._key-iterator.rest.items)
