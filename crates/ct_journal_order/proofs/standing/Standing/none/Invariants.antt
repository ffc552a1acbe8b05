use Rattle.std.proofs.Common.{◌≡◌}
use Rattle.std.specs.Prelude.{replicate}
use Rattle.ct_journal_order.proofs.standing.Standing.none.Given as goal

abbrev pub invariant-loop : goal.invariant-loop
invariant-loop l = l.taken.items ≡ replicate l.counter 0
