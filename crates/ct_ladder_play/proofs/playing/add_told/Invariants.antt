use Rattle.std.proofs.Common.{◌≡◌, ◌++◌, drop}
use Rattle.ct_ladder_play.specs.Playing.{told_rungs}
use Rattle.ct_ladder_play.proofs.playing.add_told.Given as goal

abbrev pub invariant-loop-text : goal.invariant-loop-text
invariant-loop-text l = l.rungs.items ++ told_rungs l.fate (drop l.text-index l.texts) ≡ l.fn.rungs.items ++ told_rungs l.fn.first l.fn.texts
