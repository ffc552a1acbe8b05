use Rattle.std.proofs.Common.{◌≡◌, true, List}
use Rattle.std.specs.List.{list_all}
use Rattle.ct_call.specs.Shown.{rules_of}
use Rattle.ct_script.specs.declared.plan.PlanItem.{PlanItem as Item}
use Rattle.ct_wire_link.specs.Reading.{is_sound}
use Rattle.ct_actor_serving.specs.Serving.{GoesOn, NoneFell, of_link}
use Rattle.ct_actor_serving.proofs.Telling.{FramesServed}
use Rattle.ct_actor_serving.proofs.pieces.take_frames.Given as goal

-- the node goes on, and what is left is for it
abbrev pub invariant-loop-frame : goal.invariant-loop-frame
invariant-loop-frame g l =
    let link = of_link g.L.Link.faults g.L.Link.endings g.L.Link.looks in
    record {
      can_next : (goal.iterator-loop-frame g).can_next l.frame-iterator;
      is_finite : (goal.iterator-loop-frame g).is_finite l.frame-iterator;
      goes_on : (script : List Item) → GoesOn (rules_of l.initial.table) script l.initial.node l.initial.cue l.node l.cue;
      pnn : l.node.core.pnn ≡ l.initial.node.core.pnn;
      sound : list_all (is_sound l.initial.node.core.pnn l.initial.sender) l.frame-iterator.rest.items ≡ true;
      counts : NoneFell (link l.initial.link) (link l.link);
      permissions : g.L.Link.permissions l.link ≡ g.L.Link.permissions l.initial.link;
      served : FramesServed (rules_of l.initial.table) l.initial.frame-iterator.rest.items l.frame-iterator.rest.items l.initial.node l.node (g.L.Link.pieces l.initial.link) (g.L.Link.pieces l.link);
    }
