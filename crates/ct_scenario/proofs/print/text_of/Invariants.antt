use Rattle.std.proofs.Common.{◌≡◌, ◌++◌, drop}
use Rattle.ct_scenario.specs.Scenarios.{text_of}
use Rattle.ct_scenario.proofs.print.text_of.Given as goal

-- what is written, and what is left to be
abbrev pub invariant-loop-line : goal.invariant-loop-line
invariant-loop-line l = l.text.items ++ text_of (drop l.line-index l.lines) ≡ text_of l.lines
