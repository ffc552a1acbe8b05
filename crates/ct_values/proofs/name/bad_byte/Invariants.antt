use Rattle.std.proofs.Common.{◌≡◌, drop}
use Rattle.ct_values.specs.Name.{bad_byte, bad_from}
use Rattle.ct_values.proofs.name.bad_byte.Given as goal

abbrev pub invariant-loop-i : goal.invariant-loop-i
invariant-loop-i l = bad_from l.i (drop l.i l.bytes) ≡ bad_byte l.bytes
