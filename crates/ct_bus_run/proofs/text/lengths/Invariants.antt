use Rattle.std.proofs.Common.{◌≡◌, ◌+◌, drop}
use Rattle.ct_bus_run.specs.Text.{lengths}
use Rattle.ct_bus_run.proofs.text.lengths.Given as goal

abbrev pub invariant-loop-answer : goal.invariant-loop-answer
invariant-loop-answer l = l.bytes + lengths (drop l.answer-index l.answers) ≡ lengths l.answers
