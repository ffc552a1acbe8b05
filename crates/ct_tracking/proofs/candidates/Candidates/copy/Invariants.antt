use Rattle.std.proofs.Common.{◌≡◌, ◌++◌}
use Rattle.ct_tracking.proofs.candidates.Candidates.copy.Given as goal

-- what is copied and what is left are all of the keys
abbrev pub invariant-loop-key : goal.invariant-loop-key
invariant-loop-key l = l.copied.keys ++ l.key-iterator ≡ l.initial.key-iterator
