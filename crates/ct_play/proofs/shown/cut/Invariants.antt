use Rattle.std.proofs.Common.{◌≡◌, ◌++◌, [], drop}
use Rattle.ct_play.specs.Effect.{cut_after}
use Rattle.ct_play.proofs.shown.cut.Given as goal

-- what was cut, and the rest from the line that was begun
abbrev pub invariant-loop-x : goal.invariant-loop-x
invariant-loop-x l = l.lines.items ++ cut_after l.line (drop l.x-index l.text) ≡ cut_after [] l.text
