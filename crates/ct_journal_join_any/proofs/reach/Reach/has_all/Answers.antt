use Rattle.std.proofs.Common.{arith}
use Rattle.ct_journal_join_any.proofs.Rounds.{all_are}
use Rattle.ct_journal_join_any.proofs.reach.Reach.has_all.Goals as goal

pub returns-clause-all : goal.returns-clause-all
returns-clause-all c = λ t. all_are c.args.journals.now c.args.self.now.taken.items c.loop-node.node (omega arith) c.requires.size c.loop-node.invariant c.requires.within
