use Rattle.std.proofs.Common.{◌≡◌, ◌+◌, drop}
use Rattle.ct_text.specs.Message.{pairs_in}
use Rattle.ct_text.proofs.message.pairs_in.Given as goal

abbrev pub invariant-loop-table : goal.invariant-loop-table
invariant-loop-table l = l.pairs + pairs_in (drop l.table-index l.tables) ≡ pairs_in l.tables
