use Rattle.std.proofs.Common.{◌≡◌, drop}
use Rattle.ct_text_commands.specs.Lists.{named_from}
use Rattle.ct_text_commands.proofs.databases.db_named.Given as goal

-- what is left tells what the whole does
abbrev pub invariant-loop-i : goal.invariant-loop-i
invariant-loop-i l = named_from l.i l.name (drop l.i l.config.dbs) ≡ named_from 0 l.name l.config.dbs
