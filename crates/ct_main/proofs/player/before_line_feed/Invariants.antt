use Rattle.std.proofs.Common.{◌≤◌, ◌≢◌, ◌-◌, length, take}
use Rattle.std.specs.List.{All}
use Rattle.ct_main.proofs.player.before_line_feed.Given as goal

abbrev pub invariant-loop-size : goal.invariant-loop-size
invariant-loop-size l = record { within : l.size ≤ length l.bytes; none : All (λ x. x ≢ 10) (take l.size l.bytes) }

abbrev pub decreases-loop-size : goal.decreases-loop-size
decreases-loop-size l = length l.bytes - l.size
