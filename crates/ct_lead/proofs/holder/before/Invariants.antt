use Rattle.std.proofs.Common.{◌≡◌, ◌+◌, drop}
use Rattle.ct_lead.specs.Held.{before}
use Rattle.ct_lead.proofs.holder.before.Given as goal

abbrev pub invariant-loop-i : goal.invariant-loop-i
invariant-loop-i l = before l.address l.held ≡ l.i + before l.address (drop l.i l.held)
