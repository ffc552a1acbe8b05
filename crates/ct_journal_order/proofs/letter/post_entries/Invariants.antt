use Rattle.std.proofs.Common.{◌≡◌, drop}
use Rattle.ct_journal_order.proofs.letter.post_entries.Given as goal
use Rattle.ct_journal_order.specs.Letters.{put_all_letters}

abbrev pub invariant-loop-place : goal.invariant-loop-place
invariant-loop-place l = put_all_letters l.sender l.place (drop l.place l.entries) l.receivers.items ≡ put_all_letters l.sender 0 l.entries l.initial.receivers.items
