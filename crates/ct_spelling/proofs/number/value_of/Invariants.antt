use Rattle.std.proofs.Common.{◌≡◌, ◌<◌, ◌^◌, drop}
use Rattle.ct_spelling.specs.Number.{value_after}
use Rattle.ct_spelling.proofs.number.value_of.Given as goal

abbrev pub invariant-loop-d : goal.invariant-loop-d
invariant-loop-d l = (value_after l.n (drop l.d-index l.digits) ≡ value_after 0 l.digits) × (l.n < 2 ^ 64)
