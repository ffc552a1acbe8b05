use Rattle.ct_law_merge.proofs.AnyOrder.{any_order}
use Rattle.ct_law_merge.proofs.laws.order_does_not_matter.Goals as goal

pub returns : goal.returns
returns c = any_order
