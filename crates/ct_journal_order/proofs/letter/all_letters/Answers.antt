use Rattle.std.proofs.Common.{arith}
use Rattle.ct_journal_order.proofs.Posting.{far_end}
use Rattle.ct_journal_order.proofs.letter.all_letters.Goals as goal

pub returns : goal.returns
returns c = far_end c.args.journals.now c.loop-sender.sender c.loop-sender.receivers.items (omega arith) c.loop-sender.invariant
