use Rattle.std.proofs.Common.{◌+◌}
use Rattle.ct_store.proofs.Playing.{after_more, replies_more, after_some}
use Rattle.ct_store.proofs.calls.run_calls.Goals as goal

pub returns-in_err-push-clause-err : goal.returns-in_err-push-clause-err
returns-in_err-push-clause-err g c = after_some c.from_residual-in_err-push.result c.args.calls.now (c.loop-call.call-index + 1) _ _ (after_more c.args.calls.now c.loop-call.call-index c.call-item.result _ _ _ c.loop-call-test.true c.call-item.is c.loop-call.invariant.1 c.in_ok-reply.ensures.ok)

pub loop-call-preserved : goal.loop-call-preserved
loop-call-preserved g c = (
  replies_more c.args.calls.now c.loop-call.call-index c.call-item.result _ _ _ c.in_ok-reply.reply _ _ c.loop-call-test.true c.call-item.is c.loop-call.invariant.0 c.in_ok-push.ensures.items c.in_ok-reply.ensures.reply c.in_ok-reply.ensures.ok,
  after_more c.args.calls.now c.loop-call.call-index c.call-item.result _ _ _ c.loop-call-test.true c.call-item.is c.loop-call.invariant.1 c.in_ok-reply.ensures.ok,
)
