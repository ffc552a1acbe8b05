use Rattle.std.proofs.Common.{◌∙◌, ℕ, length, arith, subst, sym}
use Rattle.ct_schedule_text.proofs.Calls.{NoneBefore, left_there, none_left, none_more, none_there, open_there}
use Rattle.ct_schedule_text.proofs.telling.place_of.Goals as goal

pub returns-then-is_asked_call-clause-there : goal.returns-then-is_asked_call-clause-there
returns-then-is_asked_call-clause-there c = open_there c.args.node c.args.call c.loop-i.i c.args.calls.now _ (omega (arith, c.loop-i-test.true)) c.loop-i.invariant (sym c.is_asked_call.ensures ∙ c.if-is_asked_call.true)

pub returns-then-is_asked_call-clause-left : goal.returns-then-is_asked_call-clause-left
returns-then-is_asked_call-clause-left c = left_there c.args.node c.args.call c.loop-i.i c.args.calls.now _ (omega (arith, c.loop-i-test.true)) c.loop-i.invariant (sym c.is_asked_call.ensures ∙ c.if-is_asked_call.true)

pub loop-i-preserved : goal.loop-i-preserved
loop-i-preserved c = none_more c.args.node c.args.call c.loop-i.i c.args.calls.now _ c.loop-i.invariant (sym c.is_asked_call.ensures ∙ c.if-is_asked_call.false)

pub returns-clause-there : goal.returns-clause-there
returns-clause-there c = none_there c.args.node c.args.call (length c.args.calls.now) c.args.calls.now (omega arith)
    (subst (λ (k : ℕ). NoneBefore k c.args.node c.args.call c.args.calls.now) (omega (arith, c.loop-i-test.false, c.loop-i.auto.i-end)) c.loop-i.invariant)

pub returns-clause-left : goal.returns-clause-left
returns-clause-left c = none_left c.args.node c.args.call (length c.args.calls.now) c.args.calls.now (omega arith)
    (subst (λ (k : ℕ). NoneBefore k c.args.node c.args.call c.args.calls.now) (omega (arith, c.loop-i-test.false, c.loop-i.auto.i-end)) c.loop-i.invariant)
