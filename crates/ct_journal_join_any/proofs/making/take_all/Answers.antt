use Rattle.std.proofs.Common.{arith}
use Rattle.ct_call.specs.Shown.{rules_of}
use Rattle.ct_journal_join_any.proofs.Stepping.{next_taken, taking_first, taking_last, taking_more}
use Rattle.ct_journal_join_any.proofs.making.take_all.Goals as goal

pub loop-step-init : goal.loop-step-init
loop-step-init g c = taking_first c.args.world.now.config (rules_of c.args.table.now) c.args.steps.now c.args.world.now.cluster

pub take-requires : goal.take-requires
take-requires g c = next_taken c.args.world.now.config (rules_of c.args.table.now) c.args.steps.now c.args.world.now.cluster c.loop-step.step-index c.loop-step.world.config c.loop-step.world.cluster c.step-item.result c.step-item.result c.requires c.loop-step.invariant (omega arith) c.step-item.is

pub loop-step-preserved : goal.loop-step-preserved
loop-step-preserved g c = taking_more c.args.world.now.config (rules_of c.args.table.now) c.args.steps.now c.args.world.now.cluster c.loop-step.step-index c.loop-step.world.config c.take.new.world.config c.loop-step.world.cluster c.take.new.world.cluster c.step-item.result c.step-item.result c.loop-step.invariant (omega arith) c.step-item.is c.in_ok-take.ensures.taken c.in_ok-take.ensures.same

pub returns-clause-taken : goal.returns-clause-taken
returns-clause-taken g c = taking_last c.args.world.now.config (rules_of c.args.table.now) c.args.steps.now c.args.world.now.cluster c.loop-step.step-index c.loop-step.world.config c.loop-step.world.cluster c.loop-step.invariant (omega arith)

pub returns-clause-same : goal.returns-clause-same
returns-clause-same g c = c.loop-step.invariant.same
