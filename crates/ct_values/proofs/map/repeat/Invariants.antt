use Rattle.std.proofs.Common.{◌≡◌, take, drop}
use Rattle.ct_values.specs.Members.{repeat, repeat_after}
use Rattle.ct_values.proofs.map.repeat.Given as goal

abbrev pub invariant-loop-i : goal.invariant-loop-i
invariant-loop-i l = repeat_after (take l.i l.members) (drop l.i l.members) ≡ repeat l.members
