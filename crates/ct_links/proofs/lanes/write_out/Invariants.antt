use Rattle.std.proofs.Common.{length, take, ◌+◌, ◌-◌, ◌≤◌}
use Rattle.std.specs.Io.KnownBytes.{Appends}
use Rattle.ct_links.proofs.lanes.write_out.Given as goal

-- so many bytes are written, and no more tries than may be
abbrev pub invariant-loop-done : goal.invariant-loop-done
invariant-loop-done g l =
    let writer = g.W.Write in
    record {
      within : l.done ≤ length l.bytes;
      tried : l.tries ≤ 1000000;
      appended : Appends (writer.contents l.initial.out) (writer.contents l.out) (take l.done l.bytes);
    }

abbrev pub decreases-loop-done : goal.decreases-loop-done
decreases-loop-done g l = (length l.bytes - l.done) + (1000000 - l.tries)
