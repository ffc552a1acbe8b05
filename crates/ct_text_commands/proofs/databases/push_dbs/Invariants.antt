use Rattle.std.proofs.Common.{◌≡◌, ◌++◌, drop}
use Rattle.ct_text_commands.specs.Lists.{db_lines}
use Rattle.ct_text_commands.proofs.databases.push_dbs.Given as goal

-- the text before and the lines of the databases that are left
abbrev pub invariant-loop-number : goal.invariant-loop-number
invariant-loop-number l = l.text.items ++ db_lines l.number (drop l.number l.config.dbs) ≡ l.fn.text.items ++ db_lines 0 l.config.dbs
