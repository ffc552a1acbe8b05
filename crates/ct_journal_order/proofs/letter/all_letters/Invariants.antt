use Rattle.ct_journal_order.proofs.Posting.{SoFar}
use Rattle.ct_journal_order.proofs.letter.all_letters.Given as goal

abbrev pub invariant-loop-sender : goal.invariant-loop-sender
invariant-loop-sender l = SoFar l.journals l.sender l.receivers.items
