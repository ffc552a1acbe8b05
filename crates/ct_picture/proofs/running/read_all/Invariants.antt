use Rattle.std.proofs.Common.{◌≡◌, ◌≤◌, ◌-◌, length}
use Rattle.std.specs.Io.KnownBytes.{Consumes}
use Rattle.ct_picture.specs.Running.{most_bytes}
use Rattle.ct_picture.proofs.running.read_all.Given as goal

abbrev pub invariant-loop-taken : goal.invariant-loop-taken
invariant-loop-taken g l =
    let source = g.S.Source in
    record {
      most : l.taken ≤ most_bytes;
      length : length l.bytes.items ≡ l.taken;
      taken : Consumes (source.left l.initial.input) (source.left l.input) l.bytes.items;
      later : source.faults l.initial.input ≤ source.faults l.input;
    }

abbrev pub decreases-loop-taken : goal.decreases-loop-taken
decreases-loop-taken g l = most_bytes - l.taken
