use Rattle.std.proofs.Common.{◌≡◌}
use Rattle.std.specs.Prelude.{map}
use Rattle.std.specs.Map.Iter.{deref_pair}
use Rattle.ct_rules_node.specs.Clients.{any_locked_in}
use Rattle.ct_node_state.proofs.locks.any_locked_in.Given as goal

-- no record before is locked
abbrev pub invariant-loop-entry : goal.invariant-loop-entry
invariant-loop-entry l = any_locked_in (map deref_pair l.entry-iterator.rest.items) ≡ any_locked_in (map deref_pair l.initial.entry-iterator.rest.items)
