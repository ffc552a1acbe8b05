use Rattle.ct_call.specs.Shown.{rules_of}
use Rattle.ct_actor.proofs.Seating.{is_received}
use Rattle.ct_actor.proofs.seat.Seat.take_message.Goals as goal

pub arrive-requires-clause-receiver : goal.arrive-requires-clause-receiver
arrive-requires-clause-receiver g c = is_received (rules_of c.args.table.now) c.args.plan.now c.args.node c.args.frame c.args.self.now c.requires.seat c.requires.to
