use Rattle.std.proofs.Common.{arith}
use Rattle.ct_tracking.proofs.Nodes.{asked_without}
use Rattle.ct_tracking.proofs.awaited.Awaited.ack.Goals as goal

pub invariant_of-self : goal.invariant_of-self
invariant_of-self c = (asked_without c.args.node c.self.inside.asked.items c.self.inside.missing.items c.leave_out.new.nodes.items c.leave_out.ensures.kept c.self.invariant.0, (let r = c.leave_out.ensures.room in let i = c.self.invariant.1 in omega arith))
