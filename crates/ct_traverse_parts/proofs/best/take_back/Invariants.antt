use Rattle.std.proofs.Common.{◌≡◌}
use Rattle.ct_traverse_parts.specs.Best.{taken_back}
use Rattle.ct_traverse_parts.proofs.best.take_back.Given as goal

-- what the changes that are left give back
abbrev pub invariant-loop-key : goal.invariant-loop-key
invariant-loop-key l = taken_back l.left.items l.kept ≡ taken_back l.initial.left.items l.initial.kept

abbrev pub decreases-loop-key : goal.decreases-loop-key
decreases-loop-key l = goal.left-loop-key l
