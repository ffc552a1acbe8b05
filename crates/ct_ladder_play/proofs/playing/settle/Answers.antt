use Rattle.std.proofs.Common.{◌∙◌, sym, arith}
use Rattle.ct_call.specs.Shown.{rules_of}
use Rattle.ct_ladder_play.proofs.Climbing.{all_came, came_refused, none_left}
use Rattle.ct_ladder_play.proofs.playing.settle.Goals as goal

pub returns-in-Err : goal.returns-in-Err
returns-in-Err g c =
    came_refused (rules_of c.args.table.now) c.args.count c.args.session.now c.loop-i.session c.step.new.session c.loop-i._i c.in-Some.number c.args.rungs.now.items c.loop-i.rungs.items c.step.new.rungs.items c.in-Err.fault
    c.loop-i-test.true (sym c.least_waiting.ensures ∙ c.in-Some.is) c.in-Err.ensures c.loop-i.invariant.left

pub returns-in-None : goal.returns-in-None
returns-in-None g c =
    none_left (rules_of c.args.table.now) c.args.count c.args.session.now c.loop-i.session c.step-in-None.new.session c.loop-i._i c.args.rungs.now.items c.loop-i.rungs.items c.step-in-None.new.rungs.items c.step-in-None.result
    c.loop-i-test.true (sym c.least_waiting.ensures ∙ c.in-None.is) c.step-in-None.ensures c.loop-i.invariant.left

pub returns : goal.returns
returns g c =
    all_came (rules_of c.args.table.now) c.args.count c.args.session.now c.loop-i.session c.loop-i._i c.args.rungs.now.items c.loop-i.rungs.items
    (omega (arith, c.loop-i-test.false)) c.loop-i.invariant.left
