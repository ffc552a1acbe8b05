use Rattle.std.proofs.Common.{◌≡◌, drop}
use Rattle.ct_traverse_parts.specs.Walk.{place_from}
use Rattle.ct_traverse.proofs.walker.place_of.Given as goal

-- it stands where it stands among those that are left
abbrev pub invariant-loop-i : goal.invariant-loop-i
invariant-loop-i l = place_from l.i l.number (drop l.i l.running) ≡ place_from 0 l.number l.running
