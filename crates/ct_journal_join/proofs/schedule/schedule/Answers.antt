use Rattle.std.proofs.Common.{drop, arith, ◌∙◌}
use Rattle.std.specs.Prelude.{slice_index_or}
use Rattle.ct_journal_join.proofs.Passing.{ends, goes_on, may_advance, so_scheduled, starts}
use Rattle.ct_journal_join.proofs.schedule.schedule.Goals as goal
use Rattle.ct_law_journal_schedule.specs.Scheduling.{schedule_of}

pub loop-node-init : goal.loop-node-init
loop-node-init c = starts c.args.journals.now c.in_ok-scheduler.scheduler c.args.order.now c.new-steps.result.items c.in_ok-scheduler.ensures c.new-steps.ensures.items c.requires

pub advance-requires : goal.advance-requires
advance-requires c =
    let js = c.args.journals.now in
    let order = c.args.order.now in
    may_advance js c.loop-node.scheduler (slice_index_or order c.loop-node.node-index 0) (drop c.loop-node.node-index order) c.loop-node.steps.items (schedule_of js order) c.loop-node.invariant c.requires

pub loop-node-preserved : goal.loop-node-preserved
loop-node-preserved c = goes_on c.args.journals.now c.loop-node.scheduler c.advance.new.self c.args.order.now c.loop-node.node-index 0 c.loop-node.steps.items c.advance.new.steps.items
    (omega (arith, c.loop-node-test.true)) c.loop-node.invariant c.in_ok-advance.ensures.steps c.in_ok-advance.ensures.passed

pub returns-clause-steps : goal.returns-clause-steps
returns-clause-steps c = c.new-2.ensures ∙ ends c.args.journals.now c.loop-node.scheduler c.args.order.now c.loop-node.node-index c.loop-node.steps.items (omega (arith, c.loop-node-test.false)) c.loop-node.invariant

pub returns-clause-scheduled : goal.returns-clause-scheduled
returns-clause-scheduled c = so_scheduled c.args.journals.now c.args.order.now c.new-2.result (returns-clause-steps c)
