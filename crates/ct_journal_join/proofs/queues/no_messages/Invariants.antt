use Rattle.std.proofs.Common.{◌≡◌, []}
use Rattle.std.specs.Prelude.{replicate}
use Rattle.ct_journal_join.proofs.queues.no_messages.Given as goal

abbrev pub invariant-loop : goal.invariant-loop
invariant-loop l = l.senders.items ≡ replicate l.counter (replicate l.nodes [])
