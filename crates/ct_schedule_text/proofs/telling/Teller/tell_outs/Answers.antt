use Rattle.std.proofs.Common.{arith}
use Rattle.ct_schedule_text.proofs.Adding.{outs_end, outs_more, text_after}
use Rattle.ct_schedule_text.proofs.Growing.{outs_fail}
use Rattle.ct_schedule_text.proofs.telling.Teller.tell_outs.Goals as goal
use Rattle.ct_schedule_text.specs.Telling.{AddsLines, told_out, told_outs}
use Rattle.std.proofs.Common.{Bool, subst}

pub loop-out-preserved : goal.loop-out-preserved
loop-out-preserved c =
    let config = c.args.config.now in
    let node = c.args.node in
    outs_more config node c.args.outs.now c.loop-out.out-index c.out-item.result c.loop-out.self c.tell_out.new.self c.loop-out.text.items c.tell_out.new.text.items
    (text_after config c.args.text.now.items (told_outs node c.args.outs.now c.args.self.now)) (omega (arith, c.loop-out-test.true)) c.out-item.is
    (subst (λ (b : Bool). AddsLines config b (told_out node c.out-item.result c.loop-out.self) c.tell_out.new.self c.loop-out.text.items c.tell_out.new.text.items) c.if-not-branch.false c.in_ok-tell_out.ensures)
    c.loop-out.invariant

pub returns : goal.returns
returns c = outs_end c.args.config.now c.args.node c.args.outs.now c.loop-out.out-index c.args.self.now c.loop-out.self c.args.text.now.items c.loop-out.text.items (omega (arith, c.loop-out-test.false)) c.loop-out.invariant

pub returns-then-not-branch : goal.returns-then-not-branch
returns-then-not-branch c =
    let config = c.args.config.now in
    let node = c.args.node in
    outs_fail config node c.args.outs.now c.loop-out.out-index c.out-item.result c.loop-out.self c.tell_out.new.self c.args.self.now c.loop-out.text.items c.tell_out.new.text.items c.args.text.now.items (omega (arith, c.loop-out-test.true)) c.out-item.is
    (subst (λ (b : Bool). AddsLines config b (told_out node c.out-item.result c.loop-out.self) c.tell_out.new.self c.loop-out.text.items c.tell_out.new.text.items) c.if-not-branch.true c.in_ok-tell_out.ensures)
    c.loop-out.invariant
