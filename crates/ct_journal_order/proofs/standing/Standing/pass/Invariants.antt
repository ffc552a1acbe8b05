use Rattle.ct_journal_order.proofs.Meeting.{Passing}
use Rattle.ct_journal_order.proofs.standing.Standing.pass.Given as goal

abbrev pub invariant-loop-node : goal.invariant-loop-node
invariant-loop-node l = Passing l.demands l.node l.some l.initial.self l.initial.order.items l.self l.order.items
