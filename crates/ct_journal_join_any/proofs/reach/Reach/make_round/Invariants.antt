use Rattle.ct_call.specs.Shown.{rules_of}
use Rattle.ct_journal_join_any.proofs.Rounds.{RoundSoFar}
use Rattle.ct_journal_join_any.proofs.reach.Reach.make_round.Given as goal

abbrev pub invariant-loop-node : goal.invariant-loop-node
invariant-loop-node g l = RoundSoFar (rules_of l.table) l.journals l.node l.some l.fn.self l.self
