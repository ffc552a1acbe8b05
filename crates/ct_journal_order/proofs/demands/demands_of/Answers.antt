use Rattle.std.proofs.Common.{arith}
use Rattle.ct_journal_order.proofs.Waiting.{demands_end}
use Rattle.ct_journal_order.proofs.demands.demands_of.Goals as goal

pub returns : goal.returns
returns c = demands_end c.args.node c.loop-entry.entry-index c.args.journals.now c.entries_at-entries.result.now c.args.letters.items c.loop-entry.letters.items c.loop-entry.demands.items c.new.result
    c.entries_at-entries.ensures c.requires c.new.ensures (omega arith) c.loop-entry.invariant
