use Rattle.ct_links.proofs.Passing.{LookedTo}
use Rattle.ct_links.proofs.lanes.look_over.Given as goal

-- the streams before this one gave nothing, and the others are as they were
abbrev pub invariant-loop-i : goal.invariant-loop-i
invariant-loop-i g l = LookedTo g.S.Read.remaining l.i l.initial.lanes l.lanes
