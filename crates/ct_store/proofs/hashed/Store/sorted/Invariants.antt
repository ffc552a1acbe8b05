use Rattle.std.proofs.Common.{◌≡◌, ◌++◌}
use Rattle.std.specs.Prelude.{map}
use Rattle.std.specs.Map.Iter.{deref_pair}
use Rattle.ct_store.proofs.hashed.Store.sorted.Given as goal

-- the pairs that stand here and those that are left
abbrev pub invariant-loop-key : goal.invariant-loop-key
invariant-loop-key g l = map deref_pair l.all.items ++ l.key-iterator ≡ l.initial.key-iterator
