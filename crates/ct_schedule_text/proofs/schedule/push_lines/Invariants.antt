use Rattle.std.proofs.Common.{◌≡◌, ◌++◌, drop}
use Rattle.std.specs.List.{flat_map}
use Rattle.ct_text.specs.Line.{line_text}
use Rattle.ct_schedule_text.proofs.schedule.push_lines.Given as goal

-- the text before, and the lines that are left
abbrev pub invariant-loop-line : goal.invariant-loop-line
invariant-loop-line l = l.text.items ++ flat_map (line_text l.config) (drop l.line-index l.lines) ≡ l.fn.text.items ++ flat_map (line_text l.config) l.lines
