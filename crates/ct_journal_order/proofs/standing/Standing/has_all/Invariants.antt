use Rattle.std.proofs.Common.{◌≡◌, ◌<◌, ℕ, length}
use Rattle.ct_journal.specs.Order.{taken_of}
use Rattle.ct_journal_order.specs.Demands.{demands_at}
use Rattle.ct_journal_order.proofs.standing.Standing.has_all.Given as goal

abbrev pub invariant-loop-node : goal.invariant-loop-node
invariant-loop-node l = (n : ℕ) → n < l.node → taken_of l.self n ≡ length (demands_at l.demands n)
