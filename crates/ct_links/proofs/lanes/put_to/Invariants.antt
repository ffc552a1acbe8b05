use Rattle.std.proofs.Common.{◌≡◌}
use Rattle.ct_links.proofs.Passing.{PassedTo}
use Rattle.ct_links.proofs.lanes.put_to.Given as goal

-- no stream before this one has the node
abbrev pub invariant-loop-i : goal.invariant-loop-i
invariant-loop-i g l = PassedTo l.node l.i l.lanes × (l.lanes ≡ l.initial.lanes)
