use Rattle.std.proofs.Common.{◌≤◌, ◌+◌, ◌-◌, length, take}
use Rattle.ct_call.specs.Shown.{rules_of}
use Rattle.ct_main.specs.Feeding.{Fed}
use Rattle.ct_main.proofs.player.Player.feed.Given as goal

abbrev pub invariant-loop-done : goal.invariant-loop-done
invariant-loop-done g l =
    let sink = g.K.Sink in
    record {
      within : l.done ≤ length l.bytes;
      fed : Fed (rules_of l.initial.table) l.initial.self l.self (take l.done l.bytes) (sink.held l.initial.out) (sink.held l.out);
      later : sink.faults l.initial.out ≤ sink.faults l.out;
      count : l.self.count ≤ l.initial.self.count + l.done;
      line : length l.self.line ≤ 65535;
    }

abbrev pub decreases-loop-done : goal.decreases-loop-done
decreases-loop-done g l = length l.bytes - l.done
