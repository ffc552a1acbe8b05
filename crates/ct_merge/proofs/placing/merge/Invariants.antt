use Rattle.std.proofs.Common.{◌≡◌, ◌≤◌, ◌+◌, ◌++◌}
use Rattle.std.specs.Vec.{vec_len, vec_capacity}
use Rattle.std.specs.VecDeque.{deque_len}
use Rattle.std.specs.List.Sorted.{IsStrictlySortedBy}
use Rattle.ct_merge.specs.Placing.{all_inserted}
use Rattle.ct_merge.proofs.placing.merge.Given as goal

abbrev pub invariant-loop-item : goal.invariant-loop-item
invariant-loop-item g l = (l.merged.items ++ all_inserted g.T.Candidate.order g.T.Candidate.rank l.more.items l.kept.items ≡ all_inserted g.T.Candidate.order g.T.Candidate.rank l.initial.more.items l.initial.kept.items)
    × IsStrictlySortedBy g.T.Candidate.order l.more.items
    × (vec_len l.merged + (deque_len l.more + deque_len l.kept) ≤ vec_capacity l.merged)

abbrev pub decreases-loop-item : goal.decreases-loop-item
decreases-loop-item g l = deque_len l.more + deque_len l.kept
