use Rattle.std.proofs.Common.{◌≡◌}
use Rattle.ct_wire_link.proofs.Ours.{Kept}
use Rattle.ct_wire_link.proofs.readers.keep_ours.Given as goal

-- the frames before this one are ours, and all are as they were
abbrev pub invariant-loop-i : goal.invariant-loop-i
invariant-loop-i l =
    record {
      same : l.frames ≡ l.initial.frames;
      kept : Kept l.me l.sender l.i l.initial.frames.items;
    }
