use Rattle.std.proofs.Common.{Bool, subst}
use Rattle.ct_journal_order.proofs.Meeting.{Sweeping, sweeping_end, sweeping_first, sweeping_more}
use Rattle.ct_journal_order.proofs.standing.Standing.all.Goals as goal

pub loop-some-init : goal.loop-some-init
loop-some-init c = sweeping_first c.args.demands.now c.in_ok-standing.standing c.args.order.now.items c.in_ok-standing.ensures c.requires.none

pub loop-some-preserved : goal.loop-some-preserved
loop-some-preserved c = sweeping_more c.args.demands.now c.loop-some.some c.in_ok-some.some c.loop-some.standing c.loop-some.order.items c.pass.new.self c.pass.new.order.items c.loop-some.invariant c.in_ok-some.ensures

pub returns : goal.returns
returns c = sweeping_end c.args.demands.now c.loop-some.standing c.loop-some.order.items (subst (λ (b : Bool). Sweeping c.args.demands.now b c.loop-some.standing c.loop-some.order.items) c.loop-some-test.false c.loop-some.invariant)
