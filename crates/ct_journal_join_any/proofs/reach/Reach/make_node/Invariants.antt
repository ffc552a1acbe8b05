use Rattle.std.proofs.Common.{◌+◌, if◌then◌else◌}
use Rattle.ct_call.specs.Shown.{rules_of}
use Rattle.ct_journal_join_any.specs.Reaching.{IsHeldAt, unmade}
use Rattle.ct_journal_join_any.proofs.Rounds.{NodeSoFar}
use Rattle.ct_journal_join_any.proofs.reach.Reach.make_node.Given as goal

abbrev pub invariant-loop-more : goal.invariant-loop-more
invariant-loop-more g l = NodeSoFar (rules_of l.table) l.journals (IsHeldAt l.journals l.fn.self l.node) l.some l.more l.fn.self l.self

abbrev pub decreases-loop-more : goal.decreases-loop-more
decreases-loop-more g l = unmade l.journals l.self.taken.items + (if l.more then 1 else 0)
