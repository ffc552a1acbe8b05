use Rattle.std.proofs.Common.{◌≡◌, ◌++◌}
use Rattle.std.specs.Prelude.{map}
use Rattle.std.specs.Map.Iter.{deref_pair}
use Rattle.ct_rules_node.specs.Rounds.{calls_of}
use Rattle.ct_node_view.proofs.waiting.add_calls.Given as goal

-- the calls before and those that are left
abbrev pub invariant-loop-key : goal.invariant-loop-key
invariant-loop-key l = l.calls.items ++ calls_of l.db (map deref_pair l.key-iterator.rest.items) ≡ l.initial.calls.items ++ calls_of l.db (map deref_pair l.initial.key-iterator.rest.items)
