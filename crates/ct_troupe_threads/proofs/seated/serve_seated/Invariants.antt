use Rattle.ct_call.specs.Shown.{rules_of}
use Rattle.ct_troupe_threads.proofs.Seating.{IsServing}
use Rattle.ct_troupe_threads.proofs.seated.serve_seated.Given as goal

-- so many turns were made, each behind the gate
abbrev pub invariant-loop-number : goal.invariant-loop-number
invariant-loop-number g l = IsServing (rules_of l.table) l.plan l.node l.number l.seat (g.G.Gate.passes l.initial.gate) (g.G.Gate.passes l.gate)
