use Rattle.std.proofs.Common.{◌≡◌, ◌≤◌, ◌+◌, drop, length}
use Rattle.ct_journal.specs.Order.{frames_in}
use Rattle.ct_journal_order.proofs.counts.count_sends.Given as goal

abbrev pub invariant-loop-out : goal.invariant-loop-out
invariant-loop-out l = record {
  within : l.count ≤ l.out-index;
  rest : l.count + length (frames_in (drop l.out-index l.outs)) ≡ length (frames_in l.outs);
}
