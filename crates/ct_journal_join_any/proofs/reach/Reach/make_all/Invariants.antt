use Rattle.std.proofs.Common.{◌+◌, if◌then◌else◌}
use Rattle.ct_call.specs.Shown.{rules_of}
use Rattle.ct_journal_join_any.specs.Reaching.{unmade}
use Rattle.ct_journal_join_any.proofs.Rounds.{AllSoFar}
use Rattle.ct_journal_join_any.proofs.reach.Reach.make_all.Given as goal

abbrev pub invariant-loop-some : goal.invariant-loop-some
invariant-loop-some g l = AllSoFar (rules_of l.table) l.journals l.some l.fn.self.world.config l.self

abbrev pub decreases-loop-some : goal.decreases-loop-some
decreases-loop-some g l = unmade l.journals l.self.taken.items + (if l.some then 1 else 0)
