use Rattle.std.proofs.Common.{◌≡◌, drop}
use Rattle.ct_journal_order.specs.Order.{all_counted}
use Rattle.ct_journal_order.proofs.counts.Tally.with_entries.Given as goal

abbrev pub invariant-loop-entry : goal.invariant-loop-entry
invariant-loop-entry l = all_counted (drop l.entry-index l.entries) l.tally ≡ all_counted l.entries l.initial.tally
