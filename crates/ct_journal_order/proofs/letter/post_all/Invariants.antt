use Rattle.std.proofs.Common.{◌≡◌, drop}
use Rattle.ct_journal.specs.Order.{frames_in}
use Rattle.ct_journal_order.proofs.letter.post_all.Given as goal
use Rattle.ct_journal_order.specs.Letters.{put_letters}

abbrev pub invariant-loop-out : goal.invariant-loop-out
invariant-loop-out l = put_letters l.sender l.count (frames_in (drop l.out-index l.outs)) l.receivers.items ≡ put_letters l.sender l.count (frames_in l.outs) l.initial.receivers.items
