use Rattle.std.proofs.Common.{◌≡◌, ◌++◌}
use Rattle.ct_tracking.proofs.candidates.Candidates.sorted.Given as goal

-- what is copied and what is left are all of the keys
abbrev pub invariant-loop-key : goal.invariant-loop-key
invariant-loop-key l = l.keys.items ++ l.key-iterator ≡ l.initial.key-iterator
