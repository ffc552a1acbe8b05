use Rattle.std.proofs.Common.{ℕ, ◌<◌, ◌≤◌}
use Rattle.ct_journal_join_any.specs.Going.{IsSentAs}
use Rattle.ct_journal_join_any.proofs.going.find_from.Given as goal

abbrev pub invariant-loop-number : goal.invariant-loop-number
invariant-loop-number l = (k : ℕ) → l.from ≤ k → k < l.number → IsSentAs l.world.cluster l.frame k → ⊥
