use Rattle.std.proofs.Common.{◌≡◌, ◌+◌, drop, length}
use Rattle.ct_journal.specs.Order.{frames_in}
use Rattle.ct_journal_join.proofs.queues.Outgoing.post.Given as goal
use Rattle.ct_journal_join.specs.Queues.{queued}

abbrev pub invariant-loop-out : goal.invariant-loop-out
invariant-loop-out l = record {
  count : l.count + length (frames_in (drop l.out-index l.outs)) ≡ l.fn.sent + length (frames_in l.outs);
  queues : queued (l.count + 1) (frames_in (drop l.out-index l.outs)) l.self ≡ queued (l.fn.sent + 1) (frames_in l.outs) l.fn.self;
}
