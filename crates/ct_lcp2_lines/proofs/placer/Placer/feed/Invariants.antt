use Rattle.std.proofs.Common.{◌≤◌, ◌+◌, take}
use Rattle.ct_lcp2_lines.specs.Feeding.{Fed}
use Rattle.ct_lcp2_lines.specs.Room.{Fits, room}
use Rattle.ct_lcp2_lines.proofs.placer.Placer.feed.Given as goal

abbrev pub invariant-loop-x : goal.invariant-loop-x
invariant-loop-x l =
    record {
      fed : Fed l.initial.self l.self (take l.x-index l.bytes);
      fits : Fits l.self;
      fewer : room l.self + l.x-index ≤ room l.initial.self;
    }
