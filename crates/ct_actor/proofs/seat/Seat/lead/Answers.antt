use Rattle.ct_call.specs.Shown.{rules_of}
use Rattle.ct_script.specs.declared.plan.PlanItem.TheVariants.{Round}
use Rattle.ct_actor.proofs.Seating.{is_told}
use Rattle.ct_actor.proofs.seat.Seat.lead.Goals as goal

pub take_round-requires-clause-told : goal.take_round-requires-clause-told
take_round-requires-clause-told g c = is_told (rules_of c.args.table.now) c.args.plan.now c.args.node c.args.self.now (Round c.args.members) c.requires.seat c.requires.sound c.requires.next
