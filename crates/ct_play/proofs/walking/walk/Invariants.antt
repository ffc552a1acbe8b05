use Rattle.std.proofs.Common.{◌-◌, ◌≤◌}
use Rattle.ct_traverse_parts.specs.Posts.{next_waiting}
use Rattle.ct_play.specs.Effect.{carriage}
use Rattle.ct_play.proofs.Coming.{Coming}
use Rattle.ct_play.proofs.walking.walk.Given as goal

abbrev pub invariant-loop-i : goal.invariant-loop-i
invariant-loop-i l =
    record {
      within : l.i ≤ l.count;
      left : Coming (λ v k. carriage v k (next_waiting k.posts)) l.count l.world l.initial.walker l.world l.walker (l.count - l.i) l.initial.texts.items l.texts.items;
    }
