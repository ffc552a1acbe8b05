use Rattle.std.proofs.Common.{◌≡◌, []}
use Rattle.std.specs.Prelude.{replicate}
use Rattle.ct_journal_order.proofs.letter.no_letters.Given as goal

abbrev pub invariant-loop : goal.invariant-loop
invariant-loop l = l.receivers.items ≡ replicate l.counter (replicate l.nodes [])
