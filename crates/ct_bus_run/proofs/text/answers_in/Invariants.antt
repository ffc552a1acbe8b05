use Rattle.std.proofs.Common.{◌≡◌, ◌+◌, drop}
use Rattle.ct_bus_run.specs.Text.{answers_in}
use Rattle.ct_bus_run.proofs.text.answers_in.Given as goal

abbrev pub invariant-loop-handled : goal.invariant-loop-handled
invariant-loop-handled l = l.answers + answers_in (drop l.handled-index l.all) ≡ answers_in l.all
