use Rattle.std.proofs.Common.{ℕ, ◌<◌, ◌≤◌, length}
use Rattle.ct_journal.specs.Order.{entries_of}
use Rattle.ct_law_journal_reach.specs.Counts.{count_at}
use Rattle.ct_journal_join_any.proofs.reach.Reach.has_all.Given as goal

abbrev pub invariant-loop-node : goal.invariant-loop-node
invariant-loop-node l = (m : ℕ) → m < l.node → length (entries_of l.journals m) ≤ count_at l.self.taken.items m
