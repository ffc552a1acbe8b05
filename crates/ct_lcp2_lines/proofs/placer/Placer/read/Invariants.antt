use Rattle.std.proofs.Common.{◌≤◌, List, ℕ}
use Rattle.std.specs.Io.KnownBytes.{Consumes}
use Rattle.ct_lcp2_lines.specs.Feeding.{Fed}
use Rattle.ct_lcp2_lines.specs.Room.{Fits, room}
use Rattle.ct_lcp2_lines.proofs.placer.Placer.read.Given as goal

abbrev pub invariant-reading : goal.invariant-reading
invariant-reading g l =
    let source = g.S.Source in
    record {
      fed : (b : List ℕ) × Consumes (source.left l.initial.input) (source.left l.input) b × Fed l.initial.self l.self b;
      fits : Fits l.self;
      later : source.faults l.initial.input ≤ source.faults l.input;
    }

abbrev pub decreases-reading : goal.decreases-reading
decreases-reading g l = room l.self
