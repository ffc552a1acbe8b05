use Rattle.ct_wire_link.specs.Reading.{NoneBefore}
use Rattle.ct_wire_link.proofs.readers.place_of.Given as goal

-- no reader before this one is the sender's
abbrev pub invariant-loop-i : goal.invariant-loop-i
invariant-loop-i l = NoneBefore l.i l.sender l.readers
