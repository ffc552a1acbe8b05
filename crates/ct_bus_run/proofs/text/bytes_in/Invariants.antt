use Rattle.std.proofs.Common.{◌≡◌, ◌+◌, drop}
use Rattle.ct_bus_run.specs.Text.{bytes_in}
use Rattle.ct_bus_run.proofs.text.bytes_in.Given as goal

abbrev pub invariant-loop-handled : goal.invariant-loop-handled
invariant-loop-handled l = l.bytes + bytes_in (drop l.handled-index l.all) ≡ bytes_in l.all
