use Rattle.std.proofs.Common.{◌≡◌, ◌∷◌, take, drop}
use Rattle.ct_values.specs.Config.{repeat_from, repeated_name, same_name, lock_db}
use Rattle.ct_values.proofs.config.repeated_name.Given as goal

abbrev pub invariant-loop-i : goal.invariant-loop-i
invariant-loop-i l = repeat_from same_name (lock_db ∷ take l.i l.dbs) l.i (drop l.i l.dbs) ≡ repeated_name l.dbs
