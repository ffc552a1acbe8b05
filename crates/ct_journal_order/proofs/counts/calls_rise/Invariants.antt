use Rattle.std.proofs.Common.{◌≡◌, drop, nat_lt}
use Rattle.ct_frame.specs.Fields.{ascends}
use Rattle.ct_journal.specs.Order.{numbers_of_calls}
use Rattle.ct_journal_order.proofs.Counting.{ascends_from}
use Rattle.ct_journal_order.proofs.counts.calls_rise.Given as goal

abbrev pub invariant-loop-entry : goal.invariant-loop-entry
invariant-loop-entry l = ascends_from l.last (numbers_of_calls (drop l.entry-index l.entries)) ≡ ascends nat_lt (numbers_of_calls l.entries)
