use Rattle.std.proofs.Common.{length, ◌-◌, ◌≤◌}
use Rattle.ct_traverse_parts.specs.Posts.{before_waiting}
use Rattle.ct_traverse_parts.proofs.post.first_from.Given as goal

abbrev pub invariant-loop-one : goal.invariant-loop-one
invariant-loop-one l = l.first ≤ before_waiting l.posts

abbrev pub decreases-loop-one : goal.decreases-loop-one
decreases-loop-one l = length l.posts - l.first
