use Rattle.std.proofs.Common.{◌≡◌, drop}
use Rattle.ct_named.specs.Named.{number_from}
use Rattle.ct_named.proofs.named.number_among.Given as goal

abbrev pub invariant-loop-i : goal.invariant-loop-i
invariant-loop-i l = number_from l.i l.name (drop l.i l.dbs) ≡ number_from 0 l.name l.dbs
