use Rattle.std.proofs.Common.{◌-◌, ◌≤◌}
use Rattle.ct_call.specs.Shown.{rules_of}
use Rattle.ct_actor_serving.specs.Outside.{outside}
use Rattle.ct_actor_serving.specs.Serving.{GoesOn, NoneFell, RoseBy, both, of_link, of_lock}
use Rattle.ct_actor_serving.proofs.Turning.{IsServing}
use Rattle.ct_actor_serving.proofs.Turns.{IsTurning}
use Rattle.ct_actor_serving.proofs.serve.serve_until.Given as goal

-- the node goes on, and so many turns were made, and looks answered
abbrev pub invariant-loop-number : goal.invariant-loop-number
invariant-loop-number g l =
    let link = of_link g.L.Link.faults g.L.Link.endings g.L.Link.looks in
    let lock = of_lock g.R.RecLock.faults g.R.RecLock.refusals in
    record {
      goes_on : GoesOn (rules_of l.initial.table) l.initial.script l.initial.node l.initial.cue l.node l.cue;
      counts : NoneFell (both (link l.initial.link) (lock l.initial.lock)) (both (link l.link) (lock l.lock));
      looked : RoseBy l.number (g.L.Link.looks l.initial.link) (g.L.Link.looks l.link);
      within : l.number ≤ l.most;
      turning : IsTurning l.initial.until l.initial.script l.number l.initial.node l.node l.cue (g.L.Link.permissions l.initial.link) (g.L.Link.permissions l.link) (g.G.Gate.passes l.initial.gate) (g.G.Gate.passes l.gate);
      serving : IsServing (rules_of l.initial.table) l.initial.node l.node (outside (g.L.Link.pieces l.initial.link) (g.R.RecLock.state l.initial.lock)) (outside (g.L.Link.pieces l.link) (g.R.RecLock.state l.lock)) l.readers;
    }

abbrev pub decreases-loop-number : goal.decreases-loop-number
decreases-loop-number g l = l.most - l.number
