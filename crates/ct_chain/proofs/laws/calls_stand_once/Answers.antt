use Rattle.ct_chain.proofs.Cutting.{calls_stand_once}
use Rattle.ct_chain.proofs.laws.calls_stand_once.Goals as goal

pub returns : goal.returns
returns c = calls_stand_once
