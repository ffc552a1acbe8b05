use Rattle.std.proofs.Common.{rules, arith}
use Rattle.ct_journal_order.proofs.Meeting.{all_taken}
use Rattle.ct_journal_order.proofs.standing.Standing.has_all.Goals as goal

pub returns : goal.returns
returns c = (λ t. all_taken c.args.demands.now c.args.self.now c.loop-node.node c.requires (omega arith) c.loop-node.invariant, λ h. search rules)
