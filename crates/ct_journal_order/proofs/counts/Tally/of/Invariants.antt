use Rattle.std.proofs.Common.{◌≡◌, drop}
use Rattle.ct_journal.specs.Order.{all_entries}
use Rattle.ct_journal_order.specs.Order.{all_counted}
use Rattle.ct_journal_order.proofs.counts.Tally.of.Given as goal

abbrev pub invariant-loop-journal : goal.invariant-loop-journal
invariant-loop-journal l = all_counted (all_entries (drop l.journal-index l.journals)) l.tally ≡ all_counted (all_entries l.journals) l.initial.tally
