use Rattle.std.proofs.Common.{◌≡◌, ◌≤◌, drop}
use Rattle.ct_wire_link.specs.Parcels.{frames_sent}
use Rattle.ct_wire_link.proofs.Frames.{Stands}
use Rattle.ct_wire_link.proofs.send.send_all.Given as goal

-- the frames so far are sent
abbrev pub invariant-outs : goal.invariant-outs
invariant-outs g l =
    let link = g.L.Link in
    record {
      sent : Stands (frames_sent l.outs) (frames_sent (drop l.out-index l.outs)) (link.pieces l.initial.link) (link.pieces l.link);
      faults : link.faults l.initial.link ≤ link.faults l.link;
      endings : link.endings l.initial.link ≤ link.endings l.link;
      looks : link.looks l.link ≡ link.looks l.initial.link;
      permissions : link.permissions l.link ≡ link.permissions l.initial.link;
    }
