use Rattle.ct_troupe.proofs.Chained.{columns_keep_their_chain}
use Rattle.ct_troupe.proofs.laws.columns_keep_their_chain.Goals as goal

pub returns : goal.returns
returns c = columns_keep_their_chain
