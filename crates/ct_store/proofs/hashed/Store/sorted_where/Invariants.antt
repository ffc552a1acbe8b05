use Rattle.std.proofs.Common.{◌≡◌, ◌++◌, Bool}
use Rattle.std.specs.Prelude.{map}
use Rattle.std.specs.Map.Iter.{deref_pair}
use Rattle.ct_store.specs.Those.{Tells, those}
use Rattle.ct_store.proofs.hashed.Store.sorted_where.Given as goal

-- the pairs that passed and those of the rest that will
abbrev pub invariant-loop-key : goal.invariant-loop-key
invariant-loop-key g l = (p : g.row.T.Denot → Bool) → Tells g.F.Fn p l.test → map deref_pair l.some.items ++ those p l.key-iterator ≡ those p l.initial.key-iterator
