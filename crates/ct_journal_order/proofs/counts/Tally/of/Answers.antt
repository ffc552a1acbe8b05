use Rattle.std.proofs.Common.{List, arith, ap, ◌∙◌}
use Rattle.ct_journal.specs.declared.journal.JournalEntry.{JournalEntry}
use Rattle.ct_journal_order.proofs.Counting.{of_end, of_next}
use Rattle.ct_journal_order.proofs.counts.Tally.of.Goals as goal
use Rattle.ct_journal_order.specs.Order.{all_counted}

pub loop-journal-preserved : goal.loop-journal-preserved
loop-journal-preserved c = of_next c.args.journals.now c.loop-journal.journal-index c.journal-item.result c.loop-journal.tally c.with_entries-tally.result _ (omega arith) c.journal-item.is
    (c.with_entries-tally.ensures ∙ ap (λ (xs : List JournalEntry). all_counted xs c.loop-journal.tally) c.as_slice.ensures) c.loop-journal.invariant

pub returns : goal.returns
returns c = of_end c.args.journals.now c.loop-journal.journal-index c.loop-journal.tally (omega arith) c.loop-journal.invariant
