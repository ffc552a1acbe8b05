use Rattle.std.proofs.Common.{◌≡◌, ◌++◌, drop}
use Rattle.ct_law_journal_reach.specs.Making.{mark_steps}
use Rattle.ct_journal_join_any.proofs.making.add_marks.Given as goal

abbrev pub invariant-loop-node : goal.invariant-loop-node
invariant-loop-node l = l.steps.items ++ mark_steps l.able l.node (drop l.node l.marks) ≡ l.initial.steps.items ++ mark_steps l.able 0 l.marks
