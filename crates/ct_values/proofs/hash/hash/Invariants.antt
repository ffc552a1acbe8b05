use Rattle.std.proofs.Common.{◌≡◌, ◌*◌, ◌%◌, ◌^◌, drop, length}
use Rattle.ct_values.specs.Hash.{gathered}
use Rattle.ct_values.proofs.hash.hash.Given as goal

abbrev pub invariant-loop-i : goal.invariant-loop-i
invariant-loop-i l = gathered l.i l.value (drop l.i l.bytes) ≡ gathered 0 (0x238F13AF * length l.bytes % 2 ^ 32) l.bytes
