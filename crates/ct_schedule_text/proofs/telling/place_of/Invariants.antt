use Rattle.ct_schedule_text.proofs.Calls.{NoneBefore}
use Rattle.ct_schedule_text.proofs.telling.place_of.Given as goal

-- no open call before this one is it
abbrev pub invariant-loop-i : goal.invariant-loop-i
invariant-loop-i l = NoneBefore l.i l.node l.call l.calls
