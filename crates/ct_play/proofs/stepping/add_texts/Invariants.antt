use Rattle.std.proofs.Common.{◌≡◌, ◌++◌, map, drop}
use Rattle.ct_text.specs.Line.{line_text}
use Rattle.ct_play.proofs.stepping.add_texts.Given as goal

-- the texts so far, and those of the lines that are left
abbrev pub invariant-loop-line : goal.invariant-loop-line
invariant-loop-line l = l.texts.items ++ map (line_text l.config) (drop l.line-index l.lines) ≡ l.fn.texts.items ++ map (line_text l.config) l.lines
