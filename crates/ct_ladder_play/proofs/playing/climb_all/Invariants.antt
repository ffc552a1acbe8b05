use Rattle.std.proofs.Common.{◌≡◌, ◌+◌, drop, map}
use Rattle.ct_call.specs.Shown.{rules_of}
use Rattle.ct_ladder_play.proofs.Climbing.{Climbing}
use Rattle.ct_ladder_play.proofs.playing.climb_all.Given as goal

abbrev pub invariant-loop-line : goal.invariant-loop-line
invariant-loop-line g l =
    record {
      place : l.number ≡ l.line-index + 1;
      left : Climbing (rules_of l.table) l.shown l.initial.session l.session (map (λ w. w.now) l.lines) (map (λ w. w.now) (drop l.line-index l.lines)) l.number l.initial.rungs.items l.rungs.items;
    }
