use Rattle.ct_core.proofs.Waiting.{before_all}
use Rattle.ct_core.proofs.coming.is_after_pending.Goals as goal

pub returns : goal.returns
returns c = before_all c.args.call c.args.core.now.pnn c.args.core.now.node c.in_ok-calls.calls.items c.as_slice.result.now c.are_before.result c.in_ok-calls.ensures c.as_slice.ensures.value c.are_before.ensures
