use Rattle.std.proofs.Common.{◌≡◌, ◌≤◌, length}
use Rattle.ct_outside.specs.Told.{Told}
use Rattle.ct_wire_link.specs.Parcels.{cut}
use Rattle.ct_wire_link.specs.Sending.{SendsUpTo}
use Rattle.ct_wire_link.proofs.send.send_frame.Given as goal

-- the pieces so far are sent, and those of the bytes that are still to come are left
abbrev pub invariant-pieces : goal.invariant-pieces
invariant-pieces g l =
    let link = g.L.Link in
    record {
      sent : Told (link.pieces l.initial.link) (link.pieces l.link) (SendsUpTo (cut l.frame.receiver l.initial.encoder) (cut l.frame.receiver l.encoder));
      faults : link.faults l.initial.link ≤ link.faults l.link;
      endings : link.endings l.initial.link ≤ link.endings l.link;
      looks : link.looks l.link ≡ link.looks l.initial.link;
      permissions : link.permissions l.link ≡ link.permissions l.initial.link;
    }

abbrev pub decreases-pieces : goal.decreases-pieces
decreases-pieces g l = length l.encoder
