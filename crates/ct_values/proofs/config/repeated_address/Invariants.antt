use Rattle.std.proofs.Common.{◌≡◌, take, drop}
use Rattle.ct_values.specs.Address.{same_address}
use Rattle.ct_values.specs.Config.{repeat_from, repeated_address}
use Rattle.ct_values.proofs.config.repeated_address.Given as goal

abbrev pub invariant-loop-i : goal.invariant-loop-i
invariant-loop-i l =
    repeat_from same_address (take l.i l.addresses) l.i (drop l.i l.addresses) ≡ repeated_address l.addresses
