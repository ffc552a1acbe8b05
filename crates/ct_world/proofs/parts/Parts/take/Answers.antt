use Rattle.std.proofs.Common.{subst, sym}
use Rattle.std.specs.Prelude.{Vec}
use Rattle.std.specs.declared.alloc.Global.{Global}
use Rattle.ct_call.specs.Shown.{rules_of}
use Rattle.ct_rules_cluster.specs.declared.step.Line.{Line}
use Rattle.ct_rules_cluster.specs.declared.step.Step.{Step}
use Rattle.ct_world.specs.Feeding.{MayTake}
use Rattle.ct_world.proofs.Given.{taken_as}
use Rattle.ct_world.proofs.parts.Parts.take.Goals as goal

pub client-requires : goal.client-requires
client-requires g c = subst (λ (s : Step). MayTake s c.args.self.now) c.in-Client.is c.requires

pub returns-in-Client-clause-step : goal.returns-in-Client-clause-step
returns-in-Client-clause-step g c = taken_as (λ (v : Vec Line Global). v.items) c.client.result (rules_of c.args.table.now) _ c.args.step.now c.args.self.now c.client.new.self (sym c.in-Client.is) c.client.ensures.step

pub deliver-requires : goal.deliver-requires
deliver-requires g c = subst (λ (s : Step). MayTake s c.args.self.now) c.in-Deliver.is c.requires

pub returns-in-Deliver-clause-step : goal.returns-in-Deliver-clause-step
returns-in-Deliver-clause-step g c = taken_as (λ (v : Vec Line Global). v.items) c.deliver.result (rules_of c.args.table.now) _ c.args.step.now c.args.self.now c.deliver.new.self (sym c.in-Deliver.is) c.deliver.ensures.step

pub drop-requires : goal.drop-requires
drop-requires g c = subst (λ (s : Step). MayTake s c.args.self.now) c.in-Drop.is c.requires

pub returns-in-Drop-clause-step : goal.returns-in-Drop-clause-step
returns-in-Drop-clause-step g c = taken_as (λ (v : Vec Line Global). v.items) c.drop.result (rules_of c.args.table.now) _ c.args.step.now c.args.self.now c.drop.new.self (sym c.in-Drop.is) (c.drop.ensures.step (rules_of c.args.table.now))

pub repeat-requires : goal.repeat-requires
repeat-requires g c = subst (λ (s : Step). MayTake s c.args.self.now) c.in-Repeat.is c.requires

pub returns-in-Repeat-clause-step : goal.returns-in-Repeat-clause-step
returns-in-Repeat-clause-step g c = taken_as (λ (v : Vec Line Global). v.items) c.repeat.result (rules_of c.args.table.now) _ c.args.step.now c.args.self.now c.repeat.new.self (sym c.in-Repeat.is) c.repeat.ensures.step

pub retry-requires : goal.retry-requires
retry-requires g c = subst (λ (s : Step). MayTake s c.args.self.now) c.in-Retry.is c.requires

pub returns-in-Retry-clause-step : goal.returns-in-Retry-clause-step
returns-in-Retry-clause-step g c = taken_as (λ (v : Vec Line Global). v.items) c.retry.result (rules_of c.args.table.now) _ c.args.step.now c.args.self.now c.retry.new.self (sym c.in-Retry.is) c.retry.ensures.step

pub vacuum-requires : goal.vacuum-requires
vacuum-requires g c = subst (λ (s : Step). MayTake s c.args.self.now) c.in-Vacuum.is c.requires

pub returns-in-Vacuum-clause-step : goal.returns-in-Vacuum-clause-step
returns-in-Vacuum-clause-step g c = taken_as (λ (v : Vec Line Global). v.items) c.vacuum.result (rules_of c.args.table.now) _ c.args.step.now c.args.self.now c.vacuum.new.self (sym c.in-Vacuum.is) c.vacuum.ensures.step

pub recover-requires : goal.recover-requires
recover-requires g c = subst (λ (s : Step). MayTake s c.args.self.now) c.in-Recover.is c.requires

pub returns-in-Recover-clause-step : goal.returns-in-Recover-clause-step
returns-in-Recover-clause-step g c = taken_as (λ (v : Vec Line Global). v.items) c.recover.result (rules_of c.args.table.now) _ c.args.step.now c.args.self.now c.recover.new.self (sym c.in-Recover.is) c.recover.ensures.step

pub give_back-requires : goal.give_back-requires
give_back-requires g c = subst (λ (s : Step). MayTake s c.args.self.now) c.in-Yield.is c.requires

pub returns-in-Yield-clause-step : goal.returns-in-Yield-clause-step
returns-in-Yield-clause-step g c = taken_as (λ (v : Vec Line Global). v.items) c.give_back.result (rules_of c.args.table.now) _ c.args.step.now c.args.self.now c.give_back.new.self (sym c.in-Yield.is) (c.give_back.ensures.step (rules_of c.args.table.now))

pub stop-requires : goal.stop-requires
stop-requires g c = subst (λ (s : Step). MayTake s c.args.self.now) c.in-Stop.is c.requires

pub returns-in-Stop-clause-step : goal.returns-in-Stop-clause-step
returns-in-Stop-clause-step g c = taken_as (λ (v : Vec Line Global). v.items) c.stop.result (rules_of c.args.table.now) _ c.args.step.now c.args.self.now c.stop.new.self (sym c.in-Stop.is) (c.stop.ensures.step (rules_of c.args.table.now))

pub start-requires : goal.start-requires
start-requires g c = subst (λ (s : Step). MayTake s c.args.self.now) c.in-Start.is c.requires

pub returns-in-Start-clause-step : goal.returns-in-Start-clause-step
returns-in-Start-clause-step g c = taken_as (λ (v : Vec Line Global). v.items) c.start.result (rules_of c.args.table.now) _ c.args.step.now c.args.self.now c.start.new.self (sym c.in-Start.is) (c.start.ensures.step (rules_of c.args.table.now))

pub takeover-requires : goal.takeover-requires
takeover-requires g c = subst (λ (s : Step). MayTake s c.args.self.now) c.in-Takeover.is c.requires

pub returns-in-Takeover-clause-step : goal.returns-in-Takeover-clause-step
returns-in-Takeover-clause-step g c = taken_as (λ (v : Vec Line Global). v.items) c.takeover.result (rules_of c.args.table.now) _ c.args.step.now c.args.self.now c.takeover.new.self (sym c.in-Takeover.is) c.takeover.ensures.step

pub set_able-requires : goal.set_able-requires
set_able-requires g c = subst (λ (s : Step). MayTake s c.args.self.now) c.in-Able.is c.requires

pub returns-in-Able-clause-step : goal.returns-in-Able-clause-step
returns-in-Able-clause-step g c = taken_as (λ (v : Vec Line Global). v.items) c.set_able.result (rules_of c.args.table.now) _ c.args.step.now c.args.self.now c.set_able.new.self (sym c.in-Able.is) (c.set_able.ensures.step (rules_of c.args.table.now))
