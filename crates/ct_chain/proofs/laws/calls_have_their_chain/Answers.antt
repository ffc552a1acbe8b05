use Rattle.ct_chain.proofs.Cutting.{calls_have_their_chain}
use Rattle.ct_chain.proofs.laws.calls_have_their_chain.Goals as goal

pub returns : goal.returns
returns c = calls_have_their_chain
