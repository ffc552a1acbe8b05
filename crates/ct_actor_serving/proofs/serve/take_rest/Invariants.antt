use Rattle.std.proofs.Common.{◌≡◌, ◌-◌, [], None, length}
use Rattle.ct_call.specs.Shown.{rules_of}
use Rattle.ct_actor_serving.specs.Outside.{ServesOn, heard, outside}
use Rattle.ct_actor_serving.specs.Serving.{GoesOn, NoneFell, both, of_link, of_lock}
use Rattle.ct_actor_serving.proofs.serve.take_rest.Given as goal

-- the node goes on
abbrev pub invariant-items : goal.invariant-items
invariant-items g l =
    let link = of_link g.L.Link.faults g.L.Link.endings g.L.Link.looks in
    let lock = of_lock g.R.RecLock.faults g.R.RecLock.refusals in
    record {
      goes_on : GoesOn (rules_of l.initial.part.table.now) l.initial.part.script.now l.initial.node l.initial.cue l.node l.cue;
      counts : NoneFell (both (link l.initial.link) (lock l.initial.lock)) (both (link l.link) (lock l.lock));
      permissions : g.L.Link.permissions l.link ≡ g.L.Link.permissions l.initial.link;
      served : ServesOn (rules_of l.initial.part.table.now) None (heard [] []) l.initial.node l.node (outside (g.L.Link.pieces l.initial.link) (g.R.RecLock.state l.initial.lock)) (outside (g.L.Link.pieces l.link) (g.R.RecLock.state l.lock));
    }

abbrev pub decreases-items : goal.decreases-items
decreases-items g l = length l.initial.part.script.now - l.cue.taken
