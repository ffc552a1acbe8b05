use Rattle.std.proofs.Common.{◌≡◌, drop}
use Rattle.ct_schedule_text.specs.Counted.{last_frame}
use Rattle.ct_schedule_text.proofs.schedule.last_frame.Given as goal

abbrev pub invariant-loop-line : goal.invariant-loop-line
invariant-loop-line l = last_frame l.last (drop l.line-index l.lines) ≡ last_frame l.before l.lines
