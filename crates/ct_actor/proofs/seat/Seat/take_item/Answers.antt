use Rattle.ct_call.specs.Shown.{rules_of}
use Rattle.ct_actor.proofs.Seating.{item_call}
use Rattle.ct_actor.proofs.seat.Seat.take_item.Goals as goal

pub returns-in_ok-ask-in-Some-Call : goal.returns-in_ok-ask-in-Some-Call
returns-in_ok-ask-in-Some-Call g c = item_call (rules_of c.args.table.now) c.args.plan.now c.args.node c.args.last _ c.args.self.now c.ask.new.self c.in_ok-ask-in-Some-Call.ensures
