use Rattle.std.proofs.Common.{◌+◌, if◌then◌else◌}
use Rattle.ct_journal_order.specs.Demands.{left}
use Rattle.ct_journal_order.proofs.Meeting.{Sweeping}
use Rattle.ct_journal_order.proofs.standing.Standing.all.Given as goal

abbrev pub invariant-loop-some : goal.invariant-loop-some
invariant-loop-some l = Sweeping l.demands l.some l.standing l.order.items

abbrev pub decreases-loop-some : goal.decreases-loop-some
decreases-loop-some l = left l.demands l.standing.taken + (if l.some then 1 else 0)
