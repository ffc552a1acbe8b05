use Rattle.ct_chain.proofs.Cutting.{order_is_kept}
use Rattle.ct_chain.proofs.laws.order_is_kept.Goals as goal

pub returns : goal.returns
returns c = order_is_kept
