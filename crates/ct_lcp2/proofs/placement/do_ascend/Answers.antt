use Rattle.ct_lcp2.proofs.Standing.{ascend_iff}
use Rattle.ct_lcp2.proofs.placement.do_ascend.Goals as goal

pub returns : goal.returns
returns c = ascend_iff c.ascends.result c.args.at.now c.ascends.ensures
