use Rattle.std.proofs.Common.{◌-◌, ◌≤◌}
use Rattle.ct_call.specs.Shown.{rules_of}
use Rattle.ct_ladder_play.proofs.Climbing.{Settling}
use Rattle.ct_ladder_play.proofs.playing.settle.Given as goal

abbrev pub invariant-loop-i : goal.invariant-loop-i
invariant-loop-i g l =
    record {
      within : l._i ≤ l.count;
      left : Settling (rules_of l.table) l.count l.initial.session l.session (l.count - l._i) l.initial.rungs.items l.rungs.items;
    }
