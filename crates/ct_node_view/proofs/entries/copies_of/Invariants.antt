use Rattle.std.proofs.Common.{◌≡◌, ◌++◌}
use Rattle.std.specs.Prelude.{map}
use Rattle.std.specs.Map.Iter.{deref_pair}
use Rattle.ct_node_view.specs.Had.{copies_of}
use Rattle.ct_node_view.proofs.entries.copies_of.Given as goal

-- the copies before and those that are left
abbrev pub invariant-loop-key : goal.invariant-loop-key
invariant-loop-key l = map deref_pair l.copies.items ++ copies_of (map deref_pair l.key-iterator.rest.items) ≡ copies_of (map deref_pair l.initial.key-iterator.rest.items)
